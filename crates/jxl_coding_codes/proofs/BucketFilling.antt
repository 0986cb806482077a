-- The buckets of a distribution are filled to the brim, and then have a slot for each symbol and number.
use Rattle.std.specs.Prelude.{◌≡◌, ◌≢◌, ℕ, zero, suc, ◌+◌, ◌-◌, ◌*◌, ◌<◌, ◌≤◌, ◌⊎◌, List, [], ◌∷◌, ◌++◌, length, take, sum, Bool, true, false, cond, nat_lt, ◌==◌, slice_index}
use Rattle.std.proofs.Common.{refl, sym, ap, subst, ◌∙◌, inl, inr, arith}
use Rattle.std.proofs.lemmas.Bool.{cases_order, cases_lt, cases_eq}
use Rattle.std.proofs.lemmas.Bool.Decides.{nat_tests}
use Rattle.std.proofs.lemmas.List.{length-append, length-set, length-take, length_push, get_or_push, get_or_append_left, get_or_past, get_or-set_same, get_or-set_other, take_more, take_all, nil_from_length}
use Rattle.std.proofs.lemmas.List.Sums.{sum_by_more}
use Rattle.std.proofs.Math.Nat.{suc-mul}
use Rattle.jxl_coding_codes.specs.Distributions.{whole}
use Rattle.jxl_coding_codes.specs.Ans.{bucket_of}
use Rattle.jxl_coding_codes.specs.Alias.{Filling, own_bucket, with_bucket, unfilled_buckets, last_of, without_last, kept_by, lowered_bucket, filled_bucket, with_lowered, filled_up, filled_one, filled_by}
use Rattle.jxl_coding_codes.specs.declared.ans.Bucket.{Bucket}
use Rattle.jxl_coding_codes.proofs.BucketMoves.{Place, Buckets, Laid, put, put_same, put_other, moved, laid_after}

-- Sums of a function.

abbrev pub total : ℕ → (ℕ → ℕ) → ℕ
total zero f = 0
total (suc n) f = total n f + f n

total_past : (n : ℕ) (f : ℕ → ℕ) (i v : ℕ) → n ≤ i → total n (put f i v) ≡ total n f
total_past zero f i v le = refl
total_past (suc n) f i v le = rw (total_past n f i v (omega arith), put_other f i v n (λ e. omega (arith, e, le))) refl

total_put : (n : ℕ) (f : ℕ → ℕ) (i v : ℕ) → i < n → total n (put f i v) + f i ≡ total n f + v
total_put zero f i v lt = absurd (omega (arith, lt))
total_put (suc n) f i v lt =
    elim (cases_eq n i) [
      | inl e ↦ rw (e, put_same f i v, total_past i f i v (omega arith)) (omega arith)
      | inr other ↦ let before = total_put n f i v (omega arith) in rw (put_other f i v n other) (omega (arith, before))
    ]

total_most : (n e : ℕ) (f : ℕ → ℕ) → ((i : ℕ) → i < n → f i ≤ e) → total n f ≤ n * e
total_most zero e f each = omega arith
total_most (suc n) e f each =
    let before : total n f ≤ n * e = total_most n e f (λ i lt. each i (omega (arith, lt))) in
    let one = each n (omega arith) in
    rw (suc-mul n e) (omega (arith, before, one))

total_least : (n e : ℕ) (f : ℕ → ℕ) → ((i : ℕ) → i < n → e ≤ f i) → n * e ≤ total n f
total_least zero e f each = omega arith
total_least (suc n) e f each =
    let before : n * e ≤ total n f = total_least n e f (λ i lt. each i (omega (arith, lt))) in
    let one = each n (omega arith) in
    rw (suc-mul n e) (omega (arith, before, one))

-- where none is above, or none below, and the sum is that of all at the mark, all are at it
all_at_most : (n e : ℕ) (f : ℕ → ℕ) → ((i : ℕ) → i < n → f i ≤ e) → total n f ≡ n * e → (i : ℕ) → i < n → f i ≡ e
all_at_most zero e f each whole i lt = absurd (omega (arith, lt))
all_at_most (suc n) e f each whole i lt =
    let m : suc n * e ≡ n * e + e = suc-mul n e in
    let before : total n f ≤ n * e = total_most n e f (λ j less. each j (omega (arith, less))) in
    let one = each n (omega arith) in
    elim (cases_eq i n) [
      | inl same ↦ rw same (omega (arith, m, before, one, whole))
      | inr other ↦ all_at_most n e f (λ j less. each j (omega (arith, less))) (omega (arith, m, before, one, whole)) i (omega arith)
    ]

all_at_least : (n e : ℕ) (f : ℕ → ℕ) → ((i : ℕ) → i < n → e ≤ f i) → total n f ≡ n * e → (i : ℕ) → i < n → f i ≡ e
all_at_least zero e f each whole i lt = absurd (omega (arith, lt))
all_at_least (suc n) e f each whole i lt =
    let m : suc n * e ≡ n * e + e = suc-mul n e in
    let before : n * e ≤ total n f = total_least n e f (λ j less. each j (omega (arith, less))) in
    let one = each n (omega arith) in
    elim (cases_eq i n) [
      | inl same ↦ rw same (omega (arith, m, before, one, whole))
      | inr other ↦ all_at_least n e f (λ j less. each j (omega (arith, less))) (omega (arith, m, before, one, whole)) i (omega arith)
    ]

total_sum : (xs : List ℕ) (n : ℕ) → total n (λ i. slice_index xs i) ≡ sum (take n xs)
total_sum xs zero = refl
total_sum xs (suc n) =
    let before : total n (λ i. slice_index xs i) ≡ sum (take n xs) = total_sum xs n in
    let e : n + 1 ≡ suc n = omega arith in
    elim (cases_lt n (length xs)) [
      | inl lt ↦ rw (before, ← e) (sym (sum_by_more (λ (x : ℕ). x) xs n 0 lt))
      | inr ge ↦ rw (before, get_or_past xs n 0 ge, take_all n xs ge, take_all (suc n) xs (omega (arith, ge))) (omega arith)
    ]

-- How often a number is in a list.

abbrev pub times : ℕ → List ℕ → ℕ
times i [] = 0
times i (x ∷ xs) = cond (x == i) 1 0 + times i xs

times_both : (i : ℕ) (xs ys : List ℕ) → times i (xs ++ ys) ≡ times i xs + times i ys
times_both i [] ys = omega arith
times_both i (x ∷ xs) ys = rw (times_both i xs ys) (omega arith)

times_if : (i x : ℕ) (b : Bool) → times i (cond b (x ∷ []) []) ≡ cond b (cond (x == i) 1 0) 0
times_if i x true = omega arith
times_if i x false = refl

-- the last of a list
split_last : (xs : List ℕ) → length xs ≢ 0 → xs ≡ without_last xs ++ last_of xs ∷ []
split_last xs some =
    let lt : length xs - 1 < length xs = omega arith in
    let e : length xs - 1 + 1 ≡ length xs = omega arith in
    sym (take_all (length xs) xs (omega arith)) ∙ sym (ap (λ (n : ℕ). take n xs) e) ∙ take_more xs (length xs - 1) 0 lt

times_last : (i : ℕ) (xs : List ℕ) → length xs ≢ 0 → times i xs ≡ times i (without_last xs) + cond (last_of xs == i) 1 0
times_last i xs some = ap (times i) (split_last xs some) ∙ times_both i (without_last xs) (last_of xs ∷ []) ∙ omega arith

last_there : (xs : List ℕ) → length xs ≢ 0 → 0 < times (last_of xs) xs
last_there xs some = let e = times_last (last_of xs) xs some in grind (arith, nat_tests, e)

less_one : (xs : List ℕ) → length (without_last xs) ≡ length xs - 1
less_one xs = length-take (length xs - 1) xs ∙ omega arith

-- What buckets hold.

abbrev pub seen : List Bucket → Buckets
seen buckets = record {
  own = λ i. (bucket_of buckets i).cutoff;
  other = λ i. (bucket_of buckets i).alias_symbol;
  first = λ i. (bucket_of buckets i).alias_offset;
}

abbrev pub if_in : ℕ → ℕ → Bool → ℕ
if_in n i b = cond (nat_lt i n) (cond b 1 0) 0

-- Buckets on the way: the lists hold just those that have too many slots, or too few, and their slots are their own.
pub record Filled (n each : ℕ) (counts : List ℕ) (s : Filling) : Type 0 where
  pub size : ℕ → ℕ
  pub where_is : ℕ → ℕ → Place
  pub many : length s.buckets ≡ n
  pub laid : Laid n (λ i. slice_index counts i) (seen s.buckets) size where_is
  pub sums : total n size ≡ n * each
  pub over : (i : ℕ) → times i s.overfull ≡ if_in n i (nat_lt each (size i))
  pub under : (i : ℕ) → times i s.underfull ≡ if_in n i (nat_lt (size i) each)
  pub own : (i : ℕ) → i < n → size i ≢ each → (bucket_of s.buckets i).cutoff ≡ size i
  pub own_counts : (i : ℕ) → i < n → (bucket_of s.buckets i).count ≡ slice_index counts i
  pub other_counts : (i : ℕ) → i < n → (bucket_of s.buckets i).cutoff < size i → (bucket_of s.buckets i).alias_count ≡ slice_index counts (bucket_of s.buckets i).alias_symbol

-- Before any is filled.

pub record Begun (each : ℕ) (counts : List ℕ) (n : ℕ) (s : Filling) : Type 0 where
  many : length s.buckets ≡ n
  each_own : (i : ℕ) → i < n → bucket_of s.buckets i ≡ own_bucket i (slice_index counts i)
  over : (i : ℕ) → times i s.overfull ≡ if_in n i (nat_lt each (slice_index counts i))
  under : (i : ℕ) → times i s.underfull ≡ if_in n i (nat_lt (slice_index counts i) each)
  few : length s.overfull + length s.underfull ≤ n

length_if : (b : Bool) (x : ℕ) → length (cond b (x ∷ []) []) ≡ cond b 1 0
length_if true x = refl
length_if false x = refl

one_of : (each count : ℕ) → cond (nat_lt each count) 1 0 + cond (nat_lt count each) 1 0 ≤ 1
one_of each count = grind (arith, nat_tests)

zero_first : (m : ℕ) → 0 + m ≡ m
zero_first m = omega arith

one_more : (n i x : ℕ) (f : ℕ → Bool) → x ≡ n → if_in n i (f i) + cond (f n) (cond (x == i) 1 0) 0 ≡ if_in (suc n) i (f i)
one_more n i x f e =
    elim (cases_order i n) [
      | inl same ↦
          let a : nat_lt i n ≡ false = grind (arith, nat_tests) in
          let b : nat_lt i (suc n) ≡ true = grind (arith, nat_tests) in
          let c : (x == i) ≡ true = grind (arith, nat_tests) in
          rw (a, b, c, same) (zero_first (cond (f n) 1 0))
      | inr k ↦ elim k [
        | inl less ↦
            let a : nat_lt i n ≡ true = grind (arith, nat_tests) in
            let b : nat_lt i (suc n) ≡ true = grind (arith, nat_tests) in
            let c : (x == i) ≡ false = grind (arith, nat_tests) in
            rw (a, b, c) (none (f n) (cond (f i) 1 0))
        | inr more ↦
            let a : nat_lt i n ≡ false = grind (arith, nat_tests) in
            let b : nat_lt i (suc n) ≡ false = grind (arith, nat_tests) in
            let c : (x == i) ≡ false = grind (arith, nat_tests) in
            rw (a, b, c) (none (f n) 0)
      ]
    ]
  where
    none : (b : Bool) (m : ℕ) → m + cond b 0 0 ≡ m
    none true m = omega arith
    none false m = omega arith

pub begun : (each : ℕ) (counts : List ℕ) (n : ℕ) → Begun each counts n (unfilled_buckets counts each n)
unfolding unfilled_buckets
begun each counts zero = record {
  many = refl;
  each_own = λ i lt. absurd (omega (arith, lt));
  over = λ i. let a : nat_lt i 0 ≡ false = grind (arith, nat_tests) in rw a refl;
  under = λ i. let a : nat_lt i 0 ≡ false = grind (arith, nat_tests) in rw a refl;
  few = omega arith;
}
begun each counts (suc n) =
    let h = begun each counts n in
    more (unfilled_buckets counts each n) h
  where
    more : (s : Filling) → Begun each counts n s → Begun each counts (suc n) (with_bucket counts each n s)
    more s h = record {
      many = length_push s.buckets (own_bucket n (slice_index counts n)) ∙ ap (λ (m : ℕ). m + 1) h.many ∙ omega arith;
      each_own = λ i lt. elim (cases_eq i n) [
        | inl e ↦ rw e (get_or_push s.buckets (own_bucket n (slice_index counts n)) _ n h.many)
        | inr other ↦ get_or_append_left s.buckets _ _ i (rw h.many (omega arith)) ∙ h.each_own i (omega arith)
      ];
      over = λ i. times_both i s.overfull _ ∙ rw (h.over i, times_if i n (nat_lt each (slice_index counts n))) (one_more n i n (λ j. nat_lt each (slice_index counts j)) refl);
      under = λ i. times_both i s.underfull _ ∙ rw (h.under i, times_if i n (nat_lt (slice_index counts n) each)) (one_more n i n (λ j. nat_lt (slice_index counts j) each) refl);
      few =
          let a = length-append s.overfull (cond (nat_lt each (slice_index counts n)) (n ∷ []) []) in
          let b = length-append s.underfull (cond (nat_lt (slice_index counts n) each) (n ∷ []) []) in
          let c = one_of each (slice_index counts n) in
          let f : length s.overfull + length s.underfull ≤ n = h.few in
          rw (a, b, length_if (nat_lt each (slice_index counts n)) n, length_if (nat_lt (slice_index counts n) each) n) (omega (arith, c, f));
    }

module _ (n each : ℕ) (counts : List ℕ) (short_list : length counts ≤ n) (sums : sum counts ≡ n * each) (s : Filling) (h : Begun each counts n s) where
  cutoff_is : (i : ℕ) → i < n → (bucket_of s.buckets i).cutoff ≡ slice_index counts i
  cutoff_is i lt = ap (λ (b : Bucket). b.cutoff) (h.each_own i lt)

  abbrev first_size : ℕ → ℕ
  first_size i = slice_index counts i

  abbrev first_place : ℕ → ℕ → Place
  first_place symbol k = record { bucket = symbol; place = k }

  none_other : (i place : ℕ) → i < n → (bucket_of s.buckets i).cutoff ≤ place → place < first_size i → ⊥
  none_other i place lt le less = let e = cutoff_is i lt in omega (arith, e, le, less)

  first_laid : Laid n (λ i. slice_index counts i) (seen s.buckets) first_size first_place
  first_laid = record {
    own_count = λ i lt. let e = cutoff_is i lt in omega (arith, e);
    own_size = λ i lt. let e = cutoff_is i lt in omega (arith, e);
    other_within = λ i place lt le less. absurd (none_other i place lt le less);
    there = λ symbol k lt less. (
      lt,
      less,
      record {
        its = λ _. (refl, refl);
        others = λ le. absurd (none_other symbol k lt le less);
      },
    );
    own_place = λ i place lt less. refl;
    other_place = λ i place lt le less. absurd (none_other i place lt le less);
  }

  first_filled : Filled n each counts s
  first_filled = record {
    size = first_size;
    where_is = first_place;
    many = h.many;
    laid = first_laid;
    sums = total_sum counts n ∙ ap sum (take_all n counts short_list) ∙ sums;
    over = h.over;
    under = h.under;
    own = λ i lt _. cutoff_is i lt;
    own_counts = λ i lt. ap (λ (b : Bucket). b.count) (h.each_own i lt);
    other_counts = λ i lt less. let e = cutoff_is i lt in absurd (omega (arith, e, less));
  }

-- One bucket more.

in_true : (n i : ℕ) (b : Bool) → 0 < if_in n i b → (i < n) × (b ≡ true)
in_true n i true lt = (grind (arith, nat_tests), refl)
in_true n i false lt = absurd (grind (arith, nat_tests))

test_true : (a b : ℕ) → nat_lt a b ≡ true → a < b
test_true a b h = grind (arith, nat_tests)

module _ (n each : ℕ) (counts : List ℕ) (s : Filling) (h : Filled n each counts s) (some_over : length s.overfull ≢ 0) (some_under : length s.underfull ≢ 0) where
  abbrev full : ℕ
  full = last_of s.overfull

  abbrev short : ℕ
  short = last_of s.underfull

  abbrev kept : ℕ
  kept = kept_by s.buckets each full short

  abbrev next : Filling
  next = filled_up s each full short

  full_is : (full < n) × (nat_lt each (h.size full) ≡ true)
  full_is = in_true n full (nat_lt each (h.size full)) (subst (λ (m : ℕ). 0 < m) (h.over full) (last_there s.overfull some_over))

  short_is : (short < n) × (nat_lt (h.size short) each ≡ true)
  short_is = in_true n short (nat_lt (h.size short) each) (subst (λ (m : ℕ). 0 < m) (h.under short) (last_there s.underfull some_under))

  above : each < h.size full
  above = test_true each (h.size full) full_is.1

  below : h.size short < each
  below = test_true (h.size short) each short_is.1

  apart : full ≢ short
  apart e = let f : h.size full ≡ h.size short = ap h.size e in omega (arith, above, below, f)

  full_own : (bucket_of s.buckets full).cutoff ≡ h.size full
  full_own = h.own full full_is.0 (λ e. omega (arith, above, e))

  short_own : (bucket_of s.buckets short).cutoff ≡ h.size short
  short_own = h.own short short_is.0 (λ e. omega (arith, below, e))

  keeps : kept + each ≡ (bucket_of s.buckets full).cutoff + (bucket_of s.buckets short).cutoff
  keeps = let a = above in let b = below in let c = full_own in let d = short_own in omega (arith, a, b, c, d)

  within : (i : ℕ) → i < n → i < length s.buckets
  within i lt = rw h.many lt

  lowered_at : (i : ℕ) → i ≢ full → bucket_of (with_lowered s.buckets each full short) i ≡ bucket_of s.buckets i
  lowered_at i other = get_or-set_other s.buckets full i _ _ other

  at_full : bucket_of next.buckets full ≡ lowered_bucket (bucket_of s.buckets full) kept
  at_full = get_or-set_other (with_lowered s.buckets each full short) short full _ _ apart ∙ get_or-set_same s.buckets full _ _ (within full full_is.0)

  at_short : bucket_of next.buckets short ≡ filled_bucket (bucket_of s.buckets short) full kept (bucket_of s.buckets full).count
  at_short =
      get_or-set_same (with_lowered s.buckets each full short) short _ _ (rw (length-set s.buckets full (lowered_bucket (bucket_of s.buckets full) kept)) (within short short_is.0))
      ∙ ap (λ (b : Bucket). filled_bucket b full kept (bucket_of s.buckets full).count) (lowered_at short (λ e. apart (sym e)))

  at_other : (i : ℕ) → i ≢ full → i ≢ short → bucket_of next.buckets i ≡ bucket_of s.buckets i
  at_other i a c = get_or-set_other (with_lowered s.buckets each full short) short i _ _ c ∙ lowered_at i a

  next_own : (i : ℕ) → i ≢ full → (bucket_of next.buckets i).cutoff ≡ (bucket_of s.buckets i).cutoff
  next_own i a = elim (cases_eq i short) [
    | inl e ↦ rw e (ap (λ (b : Bucket). b.cutoff) at_short)
    | inr c ↦ ap (λ (b : Bucket). b.cutoff) (at_other i a c)
  ]

  next_other : (i : ℕ) → i ≢ short → (bucket_of next.buckets i).alias_symbol ≡ (bucket_of s.buckets i).alias_symbol
  next_other i c = elim (cases_eq i full) [
    | inl e ↦ rw e (ap (λ (b : Bucket). b.alias_symbol) at_full)
    | inr a ↦ ap (λ (b : Bucket). b.alias_symbol) (at_other i a c)
  ]

  next_first : (i : ℕ) → i ≢ short → (bucket_of next.buckets i).alias_offset ≡ (bucket_of s.buckets i).alias_offset
  next_first i c = elim (cases_eq i full) [
    | inl e ↦ rw e (ap (λ (b : Bucket). b.alias_offset) at_full)
    | inr a ↦ ap (λ (b : Bucket). b.alias_offset) (at_other i a c)
  ]

  next_count : (i : ℕ) → (bucket_of next.buckets i).count ≡ (bucket_of s.buckets i).count
  next_count i = elim (cases_eq i full) [
    | inl e ↦ rw e (ap (λ (b : Bucket). b.count) at_full)
    | inr a ↦ elim (cases_eq i short) [
      | inl e ↦ rw e (ap (λ (b : Bucket). b.count) at_short)
      | inr c ↦ ap (λ (b : Bucket). b.count) (at_other i a c)
    ]
  ]

  abbrev next_size : ℕ → ℕ
  next_size i = put (put h.size full kept) short each i

  abbrev next_where : ℕ → ℕ → Place
  next_where symbol k = moved full short kept (bucket_of s.buckets short).cutoff (h.where_is symbol k)

  size_at_short : next_size short ≡ each
  size_at_short = put_same (put h.size full kept) short each

  size_at_full : next_size full ≡ kept
  size_at_full = put_other (put h.size full kept) short each full apart ∙ put_same h.size full kept

  size_at_other : (i : ℕ) → i ≢ full → i ≢ short → next_size i ≡ h.size i
  size_at_other i a c = put_other (put h.size full kept) short each i c ∙ put_other h.size full kept i a

  next_laid : Laid n (λ i. slice_index counts i) (seen next.buckets) next_size next_where
  next_laid = laid_after n each (λ i. slice_index counts i) (seen s.buckets) (seen next.buckets) h.size h.where_is h.laid full short kept full_is.0 short_is.0 apart full_own short_own above below keeps
      (ap (λ (b : Bucket). b.cutoff) at_full) next_own (ap (λ (b : Bucket). b.alias_symbol) at_short) next_other (ap (λ (b : Bucket). b.alias_offset) at_short) next_first

  next_sums : total n next_size ≡ n * each
  next_sums =
      let a = total_put n h.size full kept full_is.0 in
      let b = total_put n (put h.size full kept) short each short_is.0 in
      let c : put h.size full kept short ≡ h.size short = put_other h.size full kept short (λ e. apart (sym e)) in
      let d = keeps in
      let e = full_own in
      let f = short_own in
      let g = h.sums in
      omega (arith, a, b, c, d, e, f, g)

  by_place : (P : ℕ → Type 0) → P full → P short → ((i : ℕ) → i ≢ full → i ≢ short → P i) → (i : ℕ) → P i
  by_place P f g o i =
      elim (cases_eq i full) [
        | inl e ↦ subst P (sym e) f
        | inr a ↦ elim (cases_eq i short) [ inl e ↦ subst P (sym e) g | inr c ↦ o i a c ]
      ]

  abbrev one_if : Bool → ℕ
  one_if b = cond b 1 0

  abbrev none_if : Bool → ℕ
  none_if b = cond b 0 0

  same_there : (x : ℕ) → one_if (x == x) ≡ 1
  same_there x = grind (arith, nat_tests)

  not_there : (x i : ℕ) → x ≢ i → one_if (x == i) ≡ 0
  not_there x i other = grind (arith, nat_tests)

  in_it : (i : ℕ) (b : Bool) → i < n → if_in n i b ≡ cond b 1 0
  in_it i b lt = let a : nat_lt i n ≡ true = grind (arith, nat_tests) in rw a refl

  not_above : (a b : ℕ) → a ≤ b → one_if (nat_lt b a) ≡ 0
  not_above a b le = grind (arith, nat_tests)

  is_above : (a b : ℕ) → b < a → one_if (nat_lt b a) ≡ 1
  is_above a b lt = grind (arith, nat_tests)

  zero_if : (b : Bool) → none_if b ≡ 0
  zero_if true = refl
  zero_if false = refl

  -- the lists afterwards, of which one has the full bucket again
  over_times : (i : ℕ) → times i next.overfull ≡ times i (without_last s.overfull) + cond (nat_lt each kept) (cond (full == i) 1 0) 0
  over_times i = times_both i (without_last s.overfull) _ ∙ ap (λ (m : ℕ). times i (without_last s.overfull) + m) (times_if i full (nat_lt each kept))

  under_times : (i : ℕ) → times i next.underfull ≡ times i (without_last s.underfull) + cond (nat_lt kept each) (cond (full == i) 1 0) 0
  under_times i = times_both i (without_last s.underfull) _ ∙ ap (λ (m : ℕ). times i (without_last s.underfull) + m) (times_if i full (nat_lt kept each))

  next_over : (i : ℕ) → times i next.overfull ≡ if_in n i (nat_lt each (next_size i))
  next_over = by_place (λ i. times i next.overfull ≡ if_in n i (nat_lt each (next_size i)))
      (let a = times_last full s.overfull some_over in
      let b = h.over full ∙ in_it full (nat_lt each (h.size full)) full_is.0 ∙ is_above (h.size full) each above in
      let c : cond (full == full) 1 0 ≡ 1 = same_there full in
      over_times full ∙ rw (c, size_at_full, in_it full (nat_lt each kept) full_is.0) (omega (arith, a, b, c)))
      (let a = times_last short s.overfull some_over in
      let b = h.over short ∙ in_it short (nat_lt each (h.size short)) short_is.0 ∙ not_above (h.size short) each (omega (arith, below)) in
      let c : cond (full == short) 1 0 ≡ 0 = not_there full short apart in
      let d : cond (nat_lt each each) 1 0 ≡ 0 = not_above each each (omega arith) in
      over_times short ∙ rw (c, size_at_short, in_it short (nat_lt each each) short_is.0, d, zero_if (nat_lt each kept)) (omega (arith, a, b)))
      (λ i p q.
      let a = times_last i s.overfull some_over in
      let b = h.over i in
      let c : cond (full == i) 1 0 ≡ 0 = not_there full i (λ e. p (sym e)) in
      over_times i ∙ rw (c, size_at_other i p q, zero_if (nat_lt each kept)) (omega (arith, a, b, c)))

  next_under : (i : ℕ) → times i next.underfull ≡ if_in n i (nat_lt (next_size i) each)
  next_under = by_place (λ i. times i next.underfull ≡ if_in n i (nat_lt (next_size i) each))
      (let a = times_last full s.underfull some_under in
      let b = h.under full ∙ in_it full (nat_lt (h.size full) each) full_is.0 ∙ not_above each (h.size full) (omega (arith, above)) in
      let c : cond (full == full) 1 0 ≡ 1 = same_there full in
      under_times full ∙ rw (c, size_at_full, in_it full (nat_lt kept each) full_is.0) (omega (arith, a, b)))
      (let a = times_last short s.underfull some_under in
      let b = h.under short ∙ in_it short (nat_lt (h.size short) each) short_is.0 ∙ is_above each (h.size short) below in
      let c : cond (full == short) 1 0 ≡ 0 = not_there full short apart in
      let d : cond (nat_lt each each) 1 0 ≡ 0 = not_above each each (omega arith) in
      let f : cond (short == short) 1 0 ≡ 1 = same_there short in
      under_times short ∙ rw (c, size_at_short, in_it short (nat_lt each each) short_is.0, d, zero_if (nat_lt kept each)) (omega (arith, a, b, f)))
      (λ i p q.
      let a = times_last i s.underfull some_under in
      let b = h.under i in
      let c : cond (full == i) 1 0 ≡ 0 = not_there full i (λ e. p (sym e)) in
      let d : cond (short == i) 1 0 ≡ 0 = not_there short i (λ e. q (sym e)) in
      under_times i ∙ rw (c, size_at_other i p q, zero_if (nat_lt kept each)) (omega (arith, a, b, d)))

  pub next_filled : Filled n each counts next
  next_filled = record {
    size = next_size;
    where_is = next_where;
    many = length-set (with_lowered s.buckets each full short) short _ ∙ length-set s.buckets full _ ∙ h.many;
    laid = next_laid;
    sums = next_sums;
    over = next_over;
    under = next_under;
    own = by_place (λ i. i < n → next_size i ≢ each → (bucket_of next.buckets i).cutoff ≡ next_size i)
        (λ lt _. rw size_at_full (ap (λ (b : Bucket). b.cutoff) at_full))
        (λ lt other. absurd (other size_at_short))
        (λ i a c lt other. next_own i a ∙ rw (size_at_other i a c) (h.own i lt (rw (size_at_other i a c) at other)));
    own_counts = λ i lt. next_count i ∙ h.own_counts i lt;
    other_counts = by_place (λ i. i < n → (bucket_of next.buckets i).cutoff < next_size i → (bucket_of next.buckets i).alias_count ≡ slice_index counts (bucket_of next.buckets i).alias_symbol)
        (λ lt less. let e : (bucket_of next.buckets full).cutoff ≡ kept = ap (λ (b : Bucket). b.cutoff) at_full in let f = size_at_full in absurd (omega (arith, e, f, less)))
        (λ lt less. rw at_short (h.own_counts full full_is.0))
        (λ i a c lt less. rw (at_other i a c) (h.other_counts i lt (rw (at_other i a c, size_at_other i a c) at less)));
  }

  -- one bucket fewer is to be filled
  pub next_fewer : length next.overfull + length next.underfull + 1 ≤ length s.overfull + length s.underfull
  next_fewer =
      let a = length-append (without_last s.overfull) (cond (nat_lt each kept) (full ∷ []) []) in
      let b = length-append (without_last s.underfull) (cond (nat_lt kept each) (full ∷ []) []) in
      let c = one_of each kept in
      let d = less_one s.overfull in
      let e = less_one s.underfull in
      let f = length_if (nat_lt each kept) full in
      let g = length_if (nat_lt kept each) full in
      rw (a, b, d, e, f, g) (omega (arith, c))

-- As many times as there are buckets.

pub record Going (n each : ℕ) (counts : List ℕ) (k : ℕ) (s : Filling) : Type 0 where
  pub filled : Filled n each counts s
  pub left : ((length s.overfull ≡ 0) ⊎ (length s.underfull ≡ 0)) ⊎ (length s.overfull + length s.underfull + k ≤ n)

ended : (n each : ℕ) (counts : List ℕ) (k : ℕ) (s : Filling) → Filled n each counts s → (length s.overfull ≡ 0) ⊎ (length s.underfull ≡ 0) → Going n each counts k (filled_one each s)
ended n each counts k s h (inl e) =
    let t : (length s.overfull == 0) ≡ true = grind (arith, nat_tests) in
    rw t (record { filled = h; left = inl (inl e) })
ended n each counts k s h (inr e) = by (length s.overfull == 0)
  where
    u : (length s.underfull == 0) ≡ true
    u = grind (arith, nat_tests)

    by : (b : Bool) → Going n each counts k (cond b s (cond (length s.underfull == 0) s (filled_up s each (last_of s.overfull) (last_of s.underfull))))
    by true = record { filled = h; left = inl (inr e) }
    by false = rw u (record { filled = h; left = inl (inr e) })

one_further : (n each : ℕ) (counts : List ℕ) (k : ℕ) (s : Filling) → Filled n each counts s → length s.overfull + length s.underfull + k ≤ n → Going n each counts (suc k) (filled_one each s)
one_further n each counts k s h le =
    elim (cases_eq (length s.overfull) 0) [
      | inl e ↦ ended n each counts (suc k) s h (inl e)
      | inr a ↦ elim (cases_eq (length s.underfull) 0) [
        | inl e ↦ ended n each counts (suc k) s h (inr e)
        | inr b ↦
            let t : (length s.overfull == 0) ≡ false = grind (arith, nat_tests) in
            let u : (length s.underfull == 0) ≡ false = grind (arith, nat_tests) in
            let f = next_fewer n each counts s h a b in
            rw (t, u) (record { filled = next_filled n each counts s h a b; left = inr (omega (arith, f, le)) })
      ]
    ]

further : (n each : ℕ) (counts : List ℕ) (k : ℕ) (s : Filling) → Going n each counts k s → Going n each counts (suc k) (filled_one each s)
further n each counts k s g =
    elim g.left [
      | inl e ↦ ended n each counts (suc k) s g.filled e
      | inr le ↦ one_further n each counts k s g.filled le
    ]

goes : (n each : ℕ) (counts : List ℕ) (k : ℕ) (s : Filling) → Going n each counts 0 s → Going n each counts k (filled_by each k s)
unfolding filled_by
goes n each counts zero s g = g
goes n each counts (suc k) s g = further n each counts k (filled_by each k s) (goes n each counts k s g)

-- where one of the lists is empty, no bucket has another size
none_in : (n i : ℕ) (b : Bool) → i < n → 0 ≡ if_in n i b → b ≡ false
none_in n i true lt e =
    let a : nat_lt i n ≡ true = grind (arith, nat_tests) in
    let one : if_in n i true ≡ 1 = rw a refl in
    absurd (omega (arith, e, one))
none_in n i false lt e = refl

at_most : (a b : ℕ) → nat_lt a b ≡ false → b ≤ a
at_most a b h = grind (arith, nat_tests)

settled : (n each : ℕ) (counts : List ℕ) (s : Filling) (h : Filled n each counts s) → (length s.overfull ≡ 0) ⊎ (length s.underfull ≡ 0) → (i : ℕ) → i < n → h.size i ≡ each
settled n each counts s h (inl e) =
    all_at_most n each h.size (λ i lt. at_most each (h.size i) (none_in n i (nat_lt each (h.size i)) lt (sym (ap (times i) (nil_from_length s.overfull e)) ∙ h.over i))) h.sums
settled n each counts s h (inr e) =
    all_at_least n each h.size (λ i lt. at_most (h.size i) each (none_in n i (nat_lt (h.size i) each) lt (sym (ap (times i) (nil_from_length s.underfull e)) ∙ h.under i))) h.sums

pub record Done (n each : ℕ) (counts : List ℕ) (s : Filling) : Type 0 where
  pub filled : Filled n each counts s
  pub even : (i : ℕ) → i < n → filled.size i ≡ each

pub all_filled : (n each : ℕ) (counts : List ℕ) → length counts ≤ n → sum counts ≡ n * each → Done n each counts (filled_by each n (unfilled_buckets counts each n))
all_filled n each counts few sums =
    let start = begun each counts n in
    let first : Filled n each counts (unfilled_buckets counts each n) = first_filled n each counts few sums (unfilled_buckets counts each n) start in
    let f : length (unfilled_buckets counts each n).overfull + length (unfilled_buckets counts each n).underfull ≤ n = start.few in
    let g = goes n each counts n (unfilled_buckets counts each n) (record { filled = first; left = inr (omega (arith, f)) }) in
    record { filled = g.filled; even = settled n each counts _ g.filled (empty _ _ g.left) }
  where
    empty : (a b : ℕ) → ((a ≡ 0) ⊎ (b ≡ 0)) ⊎ (a + b + n ≤ n) → (a ≡ 0) ⊎ (b ≡ 0)
    empty a b (inl e) = e
    empty a b (inr le) = inl (omega (arith, le))
