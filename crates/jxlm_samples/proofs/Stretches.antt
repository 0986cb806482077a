-- Cells whose tokens are read together.
use Rattle.std.proofs.Common.{◌≡◌, ℕ, zero, suc, ◌+◌, ◌<◌, ◌≤◌, inl, inr, List, Contains, length, take, map, Some, Ok, Err, sym, ap, ◌∙◌, subst, arith, ℤ}
use Rattle.std.specs.Prelude.{slice_index, slice_set}
use Rattle.std.proofs.lemmas.Bool.{cases_lt}
use Rattle.std.proofs.lemmas.List.{length-map, map-set, take-set-le}
use Rattle.jxlm_bits.specs.Bits.{bytes_of, position_of}
use Rattle.jxlm_bits.specs.Decoding.{FailsTokens, IsLawful, Meaning, Reading, TakesTokens}
use Rattle.jxlm_bits.specs.declared.decoder.DecoderError.{DecoderError}
use Rattle.jxlm_bits.specs.declared.decoder.TokensError.{TokensError}
use Rattle.jxlm_lanes.proofs.NumberAt.{slice_get-set_other, slice_get-set_same}
use Rattle.jxlm_samples.specs.Inner.Rows.{FailsRow, MakesCells, ReadsCells, StretchGives}
use Rattle.jxlm_samples.specs.declared.source.Source.{Source}
use Rattle.jxlm_samples.specs.Rule.{Rule, CodedPrefix}
use Rattle.jxlm_samples.proofs.Prefixes.{prefix_same}

-- ---- cells that are made of tokens

-- one more is written
pub cells_more : {X : Type 0} (to_int : X → ℤ) (value : List ℤ → ℕ → ℤ) (old row : List X) (x : ℕ) (tokens : List ℕ) (k : ℕ) (v : X) → x + k < length row →
    MakesCells value (map to_int old) (map to_int row) x tokens k → to_int v ≡ value (take (x + k) (map to_int row)) (slice_index tokens k) →
    MakesCells value (map to_int old) (map to_int (slice_set row (x + k) v)) x tokens (k + 1)
cells_more to_int value old row x tokens k v inside h is =
    let R : List ℤ = map to_int row in
    let in_row : x + k < length R = let m = length-map row to_int in omega (arith, m, inside) in
    let now : List ℤ = slice_set R (x + k) (to_int v) in
    let same : (j : ℕ) → j ≤ x + k → take j now ≡ take j R = λ j l. take-set-le j R (x + k) (to_int v) l in
    rw (map-set to_int row (x + k) v) (record {
      before = same x (omega arith) ∙ h.before;
      cells = λ j l. elim (cases_lt j k) [
        | inl lower ↦ slice_get-set_other R (x + k) (x + j) (to_int v) (λ e. absurd (omega arith)) ∙ h.cells j lower ∙ ap (λ r. Some (value r (slice_index tokens j))) (sym (same (x + j) (omega arith)))
        | inr upper ↦
            let e : j ≡ k = omega arith in
            rw e (slice_get-set_same R (x + k) (to_int v) in_row ∙ ap Some is ∙ ap (λ r. Some (value r (slice_index tokens k))) (sym (same (x + k) (omega arith))))
      ];
    })

-- ---- cells that are read

-- reads of a cluster leave the clusters
takes_keep : {S : Type 0} (d : Meaning S) → IsLawful d → (bytes : List ℕ) (c m : ℕ) (tokens : List ℕ) (s : S) (p : ℕ) → Contains (d.cluster_map s) c → (k : ℕ) (t : S) (q : ℕ) →
    TakesTokens (λ u r. d.read u bytes r c m) tokens s p k t q → d.cluster_map t ≡ d.cluster_map s
takes_keep d law bytes c m tokens s p known zero t q h = ap d.cluster_map h.0
takes_keep d law bytes c m tokens s p known (suc k) t q h =
    let before = takes_keep d law bytes c m tokens s p known k h.0 h.1 h.2 in
    (law.read_keeps h.0 bytes h.1 c m _ (subst (λ clusters. Contains clusters c) (sym before) known) h.3).clusters ∙ before

-- The tokens of some cells were read together, and cells are made of those that were read.
module _ {S : Type 0} (d : Meaning S) (law : IsLawful d) (rule : List ℕ → Rule S) (c m : ℕ) (alike : (bytes : List ℕ) (r : List ℤ) (s : S) (p : ℕ) → (rule bytes).read r s p ≡ d.read s bytes p c m)
    (row now : List ℤ) (x : ℕ) (tokens : List ℕ) (old new : Source S) (known : Contains (d.cluster_map old.decoder) c) (same : bytes_of new.bits ≡ bytes_of old.bits) (step : new.steps ≡ old.steps) where
  abbrev reading : Reading S
  reading s p = d.read s (bytes_of old.bits) p c m

  module _ (n : ℕ) (made : (bytes : List ℕ) → MakesCells (rule bytes).value row now x tokens n) (start : Source S) (before : ReadsCells d 0 (rule (bytes_of start.bits)) row x start old) where
    abbrev rule_here : Rule S
    rule_here = rule (bytes_of start.bits)

    read_is : (r : List ℤ) (s : S) (p : ℕ) → rule_here.read r s p ≡ reading s p
    read_is r s p = alike (bytes_of start.bits) r s p ∙ ap (λ b. d.read s b p c m) (sym before.bytes)

    prefix_on : (k : ℕ) → k ≤ n → (t : S) (q : ℕ) → TakesTokens reading tokens old.decoder (position_of old.bits) k t q → CodedPrefix rule_here now start.decoder (position_of start.bits) (x + k) t q
    prefix_on zero le t q h =
        let here : x ≡ x + zero = omega arith in
        rw (h.0, h.1) (subst (λ j. CodedPrefix rule_here now start.decoder (position_of start.bits) j old.decoder (position_of old.bits)) here
        (prefix_same rule_here start.decoder (position_of start.bits) row now x old.decoder (position_of old.bits) (sym (made (bytes_of start.bits)).before) before.reads))
    prefix_on (suc k) le t q h =
        let next : suc (x + k) ≡ x + suc k = omega arith in
        subst (λ j. CodedPrefix rule_here now start.decoder (position_of start.bits) j t q) next
        (h.0, h.1, slice_index tokens k, prefix_on k (omega arith) h.0 h.1 h.2, read_is (take (x + k) now) h.0 h.1 ∙ h.3, (made (bytes_of start.bits)).cells k (omega arith))

    module _ (h : TakesTokens reading tokens old.decoder (position_of old.bits) n new.decoder (position_of new.bits)) where
      clusters : d.cluster_map new.decoder ≡ d.cluster_map old.decoder
      clusters = takes_keep d law (bytes_of old.bits) c m tokens old.decoder (position_of old.bits) known n new.decoder (position_of new.bits) h

      cells_read : ReadsCells d 0 rule_here now (x + n) start new
      cells_read =
          let work = before.work in
          let more = before.more in
          record {
            reads = prefix_on n (omega arith) new.decoder (position_of new.bits) h;
            clusters = clusters ∙ before.clusters;
            bytes = same ∙ before.bytes;
            work = omega (arith, work, step);
            more = omega (arith, more, step);
          }

      cells_fail : (e : DecoderError) → x + n < length now → reading new.decoder (position_of new.bits) ≡ Err e → FailsRow d 0 rule_here now start new (record { column = x + n; error = e })
      cells_fail e inside error =
          let r = cells_read in
          let work = r.work in
          record {
            state = new.decoder;
            inside = inside;
            reads = r.reads;
            error = read_is (take (x + n) now) new.decoder (position_of new.bits) ∙ error;
            memory = λ out. law.read_memory new.decoder (bytes_of old.bits) (position_of new.bits) c m (subst (λ cs. Contains cs c) (sym clusters) known) (error ∙ ap Err out);
            bytes = r.bytes;
            work = omega (arith, work);
            more = r.more;
          }

  -- all were read
  pub stretch_read : (n : ℕ) → length tokens ≡ n → ((bytes : List ℕ) → MakesCells (rule bytes).value row now x tokens (length tokens)) → TakesTokens reading tokens old.decoder (position_of old.bits) (length tokens) new.decoder (position_of new.bits) →
      StretchGives d rule x n row now old new (Ok tt)
  stretch_read n all made h start before = subst (λ k. ReadsCells d 0 (rule (bytes_of start.bits)) now (x + k) start new) all (cells_read (length tokens) made start before h)

  -- the read of one of them returned an error
  pub stretch_fails : (n : ℕ) (others : List ℕ) (e : TokensError) → ((bytes : List ℕ) → MakesCells (rule bytes).value row now x tokens e.read) → x + length tokens ≤ length now →
      FailsTokens reading others tokens old.decoder new.decoder (position_of old.bits) (position_of new.bits) e → StretchGives d rule x n row now old new (Err (record { column = x + e.read; error = e.error }))
  stretch_fails n others e made inside h start before = let some = h.inside in cells_fail e.read made start before h.tokens e.error (omega (arith, some, inside)) h.error
