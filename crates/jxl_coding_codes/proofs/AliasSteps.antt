-- One more step of the definitions of buckets that go by number.
use Rattle.std.proofs.Common.{◌≡◌, ℕ, suc, ◌+◌, ◌*◌, ◌++◌, List, [], ◌∷◌, refl, subst, arith}
use Rattle.jxl_coding_codes.specs.Distributions.{whole}
use Rattle.jxl_coding_codes.specs.Alias.{Filling, only_buckets, with_bucket, unfilled_buckets, filled_one, filled_by}

next : (n : ℕ) → suc n ≡ n + 1
next n = omega arith

pub only_more : (symbol bucket_size n : ℕ) → only_buckets symbol bucket_size (n + 1) ≡ only_buckets symbol bucket_size n ++ record { cutoff = 0; alias_symbol = symbol; alias_offset = bucket_size * n; count = 0; alias_count = whole } ∷ []
unfolding only_buckets
only_more symbol bucket_size n = subst (λ (m : ℕ). only_buckets symbol bucket_size m ≡ only_buckets symbol bucket_size n ++ record { cutoff = 0; alias_symbol = symbol; alias_offset = bucket_size * n; count = 0; alias_count = whole } ∷ []) (next n) refl

pub unfilled_more : (counts : List ℕ) (bucket_size n : ℕ) → unfilled_buckets counts bucket_size (n + 1) ≡ with_bucket counts bucket_size n (unfilled_buckets counts bucket_size n)
unfolding unfilled_buckets
unfilled_more counts bucket_size n = subst (λ (m : ℕ). unfilled_buckets counts bucket_size m ≡ with_bucket counts bucket_size n (unfilled_buckets counts bucket_size n)) (next n) refl

pub filled_more : (bucket_size n : ℕ) (s : Filling) → filled_by bucket_size (n + 1) s ≡ filled_one bucket_size (filled_by bucket_size n s)
unfolding filled_by
filled_more bucket_size n s = subst (λ (m : ℕ). filled_by bucket_size m s ≡ filled_one bucket_size (filled_by bucket_size n s)) (next n) refl
