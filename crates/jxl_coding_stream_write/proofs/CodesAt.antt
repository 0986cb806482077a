-- The code of each cluster, among all.
use Rattle.std.proofs.Common.{◌≡◌, ℕ, zero, suc, ◌+◌, ◌-◌, ◌*◌, ◌/◌, ◌%◌, ◌^◌, ◌<◌, ◌≤◌, List, [], ◌∷◌, ◌++◌, length, get_or, replicate, refl, sym, ap, ◌∙◌, arith, append_assoc}
use Rattle.std.specs.List.{All}
use Rattle.std.proofs.lemmas.List.{append-nil, length-append, length_push, get_or_append_left, get_or-append-add, get_or_at}
use Rattle.std.proofs.lemmas.Nat.{div_below, pow-add, pow_pos, shl-shr}
use Rattle.std.proofs.Math.Nat.{mul_comm, pow-le-pow_right, mod-eq_of_lt}
use Rattle.jxl_coding_codes.specs.Alias.{buckets_of, only_from}
use Rattle.jxl_coding_codes.specs.Ans.{bucket_of, slot_in, slot_of}
use Rattle.jxl_coding_codes.specs.Distributions.{whole}
use Rattle.jxl_coding_codes.specs.Slots.{slot_at}
use Rattle.jxl_coding_codes.specs.declared.ans.Bucket.{Bucket}
use Rattle.jxl_coding_codes.proofs.BucketSlots.{buckets_many}
use Rattle.jxl_coding.specs.Parse.{Coded, nothing_coded}
use Rattle.jxl_coding.specs.Symbols.{cluster_code}
use Rattle.jxl_coding.specs.declared.codes.ClusterCode.{ClusterCode}
use Rattle.jxl_coding_stream_write.specs.Codes.{with_code, coded_after}
use Rattle.jxl_coding_stream_write.specs.declared.cluster.ClusterWriter.{ClusterWriter}

-- one list begins with another
abbrev pub Begins : {X : Type 0} → List X → List X → Type 0
Begins {X} before all = (more : List X) × (all ≡ before ++ more)

begins_longer : {X : Type 0} (xs ys all : List X) → Begins (xs ++ ys) all → Begins xs all
begins_longer xs ys all h = (ys ++ h.0, h.1 ∙ append_assoc xs ys h.0)

begins_itself : {X : Type 0} (xs : List X) → Begins xs xs
begins_itself xs = ([], sym (append-nil xs))

module _ (log : ℕ) where
  -- what is coded stays
  buckets_stay : (s : Coded) (codes : List ClusterWriter) → Begins s.buckets (coded_after log s codes).buckets
  buckets_stay s [] = begins_itself s.buckets
  buckets_stay s (c ∷ codes) = begins_longer s.buckets (buckets_of c.slots.counts.items log) _ (buckets_stay (with_code log s c) codes)

  -- as it stands
  abbrev pub code_at : Coded → ClusterWriter → ClusterCode
  code_at s c = record { config = c.config; only = only_from 0 c.slots.counts.items; start = length s.buckets; counts = replicate 15 0 }

  codes_stay : (s : Coded) (codes : List ClusterWriter) → Begins s.cluster_codes (coded_after log s codes).cluster_codes
  codes_stay s [] = begins_itself s.cluster_codes
  codes_stay s (c ∷ codes) = begins_longer s.cluster_codes (code_at s c ∷ []) _ (codes_stay (with_code log s c) codes)

  -- where the code of a cluster stands among all
  pub record IsAt (all : Coded) (place : ℕ) (c : ClusterWriter) : Type 0 where
    pub before : Coded
    pub many : length before.cluster_codes ≡ place
    pub near : length before.buckets ≤ 256 * place
    pub coded : Begins (before.cluster_codes ++ code_at before c ∷ []) all.cluster_codes
    pub filled : Begins (before.buckets ++ buckets_of c.slots.counts.items log) all.buckets

  abbrev pub FitsConfig : ClusterWriter → Type 0
  FitsConfig c = c.slots.log ≡ log

  at_most : (c : ClusterWriter) → FitsConfig c → length (buckets_of c.slots.counts.items log) ≤ 256
  at_most c e =
      let few : c.slots.log ≤ 8 = c.slots.log_few in
      let h : log ≤ 8 = omega (arith, few, e) in
      let short : length c.slots.counts.items ≤ 2 ^ c.slots.log = c.slots.short in
      let m = buckets_many c.slots.counts.items log h (rw e at short) c.slots.whole in
      let l : 2 ^ log ≤ 256 = pow-le-pow_right {n = 2} (omega arith) h in
      omega (arith, m, l)

  one_further : (place k n m : ℕ) → n ≤ 256 * k → m ≤ 256 → n + m ≤ 256 * (k + 1)
  one_further place k n m h le = omega (arith, h, le)

  at_after : (s : Coded) (k : ℕ) (codes : List ClusterWriter) (place : ℕ) (c : ClusterWriter) → All FitsConfig codes → length s.cluster_codes ≡ k → length s.buckets ≤ 256 * k →
      place < length codes → c ≡ get_or codes place c → IsAt (coded_after log s codes) (k + place) c
  at_after s k [] place c fits many near lt e = absurd (omega (arith, lt))
  at_after s k (d ∷ codes) zero c fits many near lt e =
      rw e (record {
        before = s;
        many = omega (arith, many);
        near = omega (arith, near);
        coded = codes_stay (with_code log s d) codes;
        filled = buckets_stay (with_code log s d) codes;
      })
  at_after s k (d ∷ codes) (suc place) c fits many near lt e =
      let l : length (with_code log s d).cluster_codes ≡ k + 1 = length_push s.cluster_codes (code_at s d) ∙ ap (λ (n : ℕ). n + 1) many in
      let b : length (with_code log s d).buckets ≤ 256 * (k + 1) =
      rw (length-append s.buckets (buckets_of d.slots.counts.items log)) (one_further place k (length s.buckets) (length (buckets_of d.slots.counts.items log)) near (at_most d (fits 0 d (omega arith)))) in
      let i : IsAt (coded_after log (with_code log s d) codes) (k + 1 + place) c = at_after (with_code log s d) (k + 1) codes place c (λ k' e' less. fits (suc k') e' (omega (arith, less))) l b (omega (arith, lt)) e in
      let n : k + 1 + place ≡ k + suc place = omega arith in
      rw n at i

  pub at_all : (codes : List ClusterWriter) (place : ℕ) (c : ClusterWriter) → All FitsConfig codes → place < length codes → c ≡ get_or codes place c → IsAt (coded_after log nothing_coded codes) place c
  at_all codes place c fits lt e =
      let i : IsAt (coded_after log nothing_coded codes) (0 + place) c = at_after nothing_coded 0 codes place c fits refl (omega arith) lt e in
      let n : 0 + place ≡ place = omega arith in
      rw n at i

  module _ (all : Coded) (place : ℕ) (c : ClusterWriter) (h : IsAt all place c) where
    -- the code of the cluster
    pub code_is : cluster_code all.cluster_codes place ≡ code_at h.before c
    code_is =
        ap (λ (xs : List ClusterCode). cluster_code xs place) (h.coded.1 ∙ append_assoc h.before.cluster_codes (code_at h.before c ∷ []) h.coded.0)
        ∙ get_or_at h.before.cluster_codes (code_at h.before c) h.coded.0 _ place h.many

    module _ (few : place < 256) (e : FitsConfig c) where
      abbrev own : List Bucket
      own = buckets_of c.slots.counts.items log

      abbrev size : ℕ
      size = whole / 2 ^ log

      log_few : log ≤ 8
      log_few = let f : c.slots.log ≤ 8 = c.slots.log_few in omega (arith, f, e)

      own_many : length own ≡ 2 ^ log
      own_many =
          let short : length c.slots.counts.items ≤ 2 ^ c.slots.log = c.slots.short in
          buckets_many c.slots.counts.items log log_few (rw e at short) c.slots.whole

      back : 12 ≡ 12 - log + log
      back = let f = log_few in omega (arith, f)

      whole_is : 4096 ≡ 2 ^ (12 - log) * 2 ^ log
      whole_is = ap (λ (m : ℕ). 2 ^ m) back ∙ pow-add 2 (12 - log) log

      size_is : size ≡ 2 ^ (12 - log)
      size_is = ap (λ (m : ℕ). m / 2 ^ log) whole_is ∙ shl-shr (2 ^ (12 - log)) log

      product : 2 ^ log * size ≡ 4096
      product = ap (λ (m : ℕ). 2 ^ log * m) size_is ∙ mul_comm (2 ^ log) (2 ^ (12 - log)) ∙ sym whole_is

      some : 0 < size
      some = let p = pow_pos (12 - log) in omega (arith, size_is, p)

      bucket_in : (slot : ℕ) → slot < 4096 → slot / size < 2 ^ log
      bucket_in slot lt = div_below slot size (2 ^ log) some (rw product lt)

      no_wrap : (slot : ℕ) → slot < 4096 → (length h.before.buckets + slot / size) % 2 ^ 32 ≡ length h.before.buckets + slot / size
      no_wrap slot lt =
          let b = bucket_in slot lt in
          let l : 2 ^ log ≤ 256 = pow-le-pow_right {n = 2} (omega arith) log_few in
          let n = h.near in
          mod-eq_of_lt (omega (arith, b, l, n, few))

      no_wrap_own : (slot : ℕ) → slot < 4096 → (0 + slot / size) % 2 ^ 32 ≡ slot / size
      no_wrap_own slot lt =
          let b = bucket_in slot lt in
          let l : 2 ^ log ≤ 256 = pow-le-pow_right {n = 2} (omega arith) log_few in
          mod-eq_of_lt (omega (arith, b, l)) ∙ omega arith

      bucket_is : (i : ℕ) → i < 2 ^ log → bucket_of all.buckets (length h.before.buckets + i) ≡ bucket_of own i
      bucket_is i lt =
          let many = own_many in
          ap (λ (xs : List Bucket). bucket_of xs (length h.before.buckets + i)) (h.filled.1 ∙ append_assoc h.before.buckets own h.filled.0)
          ∙ get_or-append-add h.before.buckets (own ++ h.filled.0) i _
          ∙ get_or_append_left own h.filled.0 _ i (omega (arith, many, lt))

      -- its slots are those of its own buckets
      pub slot_is : (slot : ℕ) → slot < 4096 → slot_of all.buckets (length h.before.buckets) size slot ≡ slot_at own size slot
      slot_is slot lt =
          let a : bucket_of all.buckets ((length h.before.buckets + slot / size) % 2 ^ 32) ≡ bucket_of own (slot / size) =
          ap (λ (i : ℕ). bucket_of all.buckets i) (no_wrap slot lt) ∙ bucket_is (slot / size) (bucket_in slot lt) in
          let b : bucket_of own ((0 + slot / size) % 2 ^ 32) ≡ bucket_of own (slot / size) = ap (λ (i : ℕ). bucket_of own i) (no_wrap_own slot lt) in
          ap (λ (x : Bucket). slot_in x (slot / size) (slot % size)) (a ∙ sym b)
