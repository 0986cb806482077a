-- What follows from the laws of a decoder.
use Rattle.std.proofs.Common.{◌≡◌, ℕ, zero, suc, ◌+◌, ◌<◌, ◌≤◌, List, [], ◌∷◌, length, replicate, All, Contains, true, Ok, refl, sym, arith, subst, ◌∙◌, slice_index, slice_set}
use Rattle.std.proofs.lemmas.List.{get_or-set_other, get_or-set_same}
use Rattle.jxlm_bits.specs.declared.decoder.RleToken.{RleToken}
use Rattle.jxlm_bits.specs.declared.decoder.RleToken.TheVariants.{Value, Repeat}
use Rattle.jxlm_bits.specs.Decoding.{Meaning, IsLawful, Keeps, RunGives, Asked, RunIsReads, Reading, TakesTokens, iterate, reads}

-- the reads of all tokens that a run still owes
pub owed_reads : {S : Type 0} (d : Meaning S) → IsLawful d → (others : List Asked) (s : S) (bytes : List ℕ) (p n : ℕ) → n ≡ d.owed s → length others ≡ n →
    d.as_rle s ≡ true → All (λ asked. Contains (d.cluster_map s) asked.cluster) others →
    (reads d s bytes p others ≡ Ok (record { value = replicate n (d.last s); state = iterate d.next n s; position = p })) × (d.owed (iterate d.next n s) ≡ 0)
owed_reads d law [] s bytes p zero h l r within = (refl, sym h)
owed_reads d law [] s bytes p (suc n) h l r within = absurd (omega arith)
owed_reads d law (asked ∷ others) s bytes p zero h l r within = absurd (omega arith)
owed_reads {S} d law (asked ∷ others) s bytes p (suc n) h l r within =
    let here : Contains (d.cluster_map s) asked.cluster = within 0 asked (omega arith) in
    let owes : 0 < d.owed s = omega arith in
    let read : d.read s bytes p asked.cluster asked.multiplier ≡ Ok (record { value = d.last s; state = d.next s; position = p }) =
    law.owed_read s bytes p asked.cluster asked.multiplier here r owes in
    let keeps = law.next_keeps s r owes in
    let last : d.last (d.next s) ≡ d.last s = law.read_last s bytes p asked.cluster asked.multiplier (record { value = d.last s; state = d.next s; position = p }) here r read in
    let left : n ≡ d.owed (d.next s) = (let e = law.owed_next s r owes in omega (arith, e)) in
    let rest = owed_reads d law others (d.next s) bytes p n left (omega arith) (keeps.rle ∙ r)
    (λ k x lt. rw keeps.clusters (within (suc k) x (omega arith))) in
    (rw (read, rest.0, last) refl, rest.1)

pub run_is_reads : {S : Type 0} (d : Meaning S) → IsLawful d → RunIsReads d
run_is_reads d law s t bytes p q c m n others r within all many begins =
    let keeps = law.read_keeps s bytes p c m (record { value = d.last s; state = begins.first; position = q }) within begins.read in
    let last : d.last begins.first ≡ d.last s =
    law.read_last s bytes p c m (record { value = d.last s; state = begins.first; position = q }) within r begins.read in
    let rest = owed_reads d law others begins.first bytes q (d.owed begins.first) refl (let o = begins.owes in omega (arith, o)) (keeps.rle ∙ r)
    (λ k x lt. rw keeps.clusters (all k x lt)) in
    let n_is : n ≡ suc (d.owed begins.first) = (let o = begins.owes in omega (arith, o)) in
    (rw (begins.read, rest.0, last, begins.ends, n_is) refl, rw begins.ends rest.1)

-- what stays in two steps
pub keeps_on : {S : Type 0} (d : Meaning S) (s t u : S) → Keeps d s t → Keeps d t u → Keeps d s u
keeps_on d s t u h k = record {
  clusters = k.clusters ∙ h.clusters;
  single = λ c within. k.single c (rw h.clusters within) ∙ h.single c within;
  rle = k.rle ∙ h.rle;
}

pub keeps_itself : {S : Type 0} (d : Meaning S) (s : S) → Keeps d s s
keeps_itself d s = record { clusters = refl; single = λ c within. refl; rle = refl }

-- the end of an open run
pub run_over : {S : Type 0} (d : Meaning S) → IsLawful d → (s : S) (n : ℕ) → n ≡ d.owed s → d.as_rle s ≡ true → Keeps d s (iterate d.next n s) × (d.owed (iterate d.next n s) ≡ 0)
run_over d law s zero h r = (keeps_itself d s, sym h)
run_over d law s (suc n) h r =
    let owes : 0 < d.owed s = omega arith in
    let keeps = law.next_keeps s r owes in
    let left : n ≡ d.owed (d.next s) = (let e = law.owed_next s r owes in omega (arith, e)) in
    let rest = run_over d law (d.next s) n left (keeps.rle ∙ r) in
    (keeps_on d s (d.next s) (iterate d.next n (d.next s)) keeps rest.0, rest.1)

-- a read of runs keeps what parse settled, and leaves no run open
pub run_keeps : {S : Type 0} (d : Meaning S) → IsLawful d → (run : RleToken) (s t : S) (bytes : List ℕ) (p q c m : ℕ) → Contains (d.cluster_map s) c → d.as_rle s ≡ true →
    RunGives d (Ok run) s t p q (d.read s bytes p c m) → Keeps d s t × (d.owed t ≡ 0)
run_keeps d law (Value v) s t bytes p q c m within r h = (law.read_keeps s bytes p c m (record { value = v; state = t; position = q }) within h.0, h.1)
run_keeps d law (Repeat n) s t bytes p q c m within r h =
    let keeps = law.read_keeps s bytes p c m (record { value = d.last s; state = h.first; position = q }) within h.read in
    let over = run_over d law h.first (d.owed h.first) refl (keeps.rle ∙ r) in
    rw h.ends (keeps_on d s h.first (iterate d.next (d.owed h.first) h.first) keeps over.0, over.1)

-- ---- tokens that are read one after another into a list

module _ {S : Type 0} (reading : Reading S) where
  -- they are what the list holds in their places
  takes_same : (xs ys : List ℕ) (s0 : S) (p0 k : ℕ) (s : S) (p : ℕ) → ((j : ℕ) → j < k → slice_index ys j ≡ slice_index xs j) → TakesTokens reading xs s0 p0 k s p → TakesTokens reading ys s0 p0 k s p
  takes_same xs ys s0 p0 zero s p same h = h
  takes_same xs ys s0 p0 (suc k) s p same h = (h.0, h.1, takes_same xs ys s0 p0 k h.0 h.1 (λ j l. same j (omega arith)) h.2, rw (same k (omega arith)) h.3)

  -- one more is read and written
  pub takes_more : (xs : List ℕ) (s0 : S) (p0 k : ℕ) (s : S) (p v : ℕ) (t : S) (q : ℕ) → k < length xs → TakesTokens reading xs s0 p0 k s p → reading s p ≡ Ok (record { value = v; state = t; position = q }) →
      TakesTokens reading (slice_set xs k v) s0 p0 (k + 1) t q
  takes_more xs s0 p0 k s p v t q inside h read =
      let next : suc k ≡ k + 1 = omega arith in
      let other : (j : ℕ) → j < k → slice_index (slice_set xs k v) j ≡ slice_index xs j = λ j l. get_or-set_other xs k j v 0 (λ e. absurd (omega arith)) in
      subst (λ n. TakesTokens reading (slice_set xs k v) s0 p0 n t q) next (s, p, takes_same xs (slice_set xs k v) s0 p0 k s p other h, rw (get_or-set_same xs k v 0 inside) read)

-- what is not yet written is as it was
pub rest_more : (xs ys : List ℕ) (k v : ℕ) → ((j : ℕ) → k ≤ j → slice_index xs j ≡ slice_index ys j) → (j : ℕ) → k + 1 ≤ j → slice_index (slice_set xs k v) j ≡ slice_index ys j
rest_more xs ys k v same j l = get_or-set_other xs k j v 0 (λ e. absurd (omega arith)) ∙ same j (omega arith)
