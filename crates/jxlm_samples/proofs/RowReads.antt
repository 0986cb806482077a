-- Cells of a row, one after another.
use Rattle.std.proofs.Common.{◌≡◌, ℕ, zero, suc, ◌+◌, ◌*◌, ◌<◌, ◌≤◌, List, length, take, Some, Ok, Err, Result, refl, sym, ap, ◌∙◌, subst, arith, ℤ}
use Rattle.std.specs.Prelude.{slice_get}
use Rattle.std.proofs.Math.Nat.{mul-le-mul_left}
use Rattle.std.proofs.lemmas.List.{length-take, take-set}
use Rattle.jxlm_bits.specs.Bits.{position_of}
use Rattle.jxlm_bits.specs.Decoding.{Meaning}
use Rattle.jxlm_bits.specs.declared.decoder.DecoderError.{DecoderError}
use Rattle.jxlm_lanes.proofs.NumberAt.{slice_get-set_same}
use Rattle.jxlm_samples.specs.Inner.Rows.{AreAlike, FailsCell, FailsRow, ReadsCell, ReadsCells, ReadsRow}
use Rattle.jxlm_samples.specs.declared.source.Source.{Source}
use Rattle.jxlm_samples.specs.Rule.{Rule, CodedPrefix}
use Rattle.jxlm_samples.specs.declared.rows.RowError.{RowError}
use Rattle.jxlm_samples.proofs.Prefixes.{prefix_more}

-- before the first cell none was read
pub none_read : {S : Type 0} (d : Meaning S) (cost : ℕ) (r : Rule S) (row : List ℤ) (start : Source S) → ReadsCells d cost r row 0 start start
none_read d cost r row start = record { reads = (refl, refl); clusters = refl; bytes = refl; work = omega arith; more = omega arith }

one_more : (x cost a b c : ℕ) → b ≤ a + x * cost → c ≤ b + cost → c ≤ a + (x + 1) * cost
one_more x cost a b c h k = omega (arith, h, k)

module _ {S : Type 0} (d : Meaning S) (cost : ℕ) (rule : Rule S) (start : Source S) (row : List ℤ) (x : ℕ) (old : Source S) (inside : x < length row) (before : ReadsCells d cost rule row x start old) where
  -- one more cell was read
  pub cell_more : (new : Source S) (now : List ℤ) → ReadsCell d cost rule row x old new now → ReadsCells d cost rule now (x + 1) start new
  cell_more new now h =
      let v : ℤ = rule.value (take x row) h.token in
      let next : suc x ≡ x + 1 = omega arith in
      let same : take x row ≡ take x now = sym (take-set row x v) ∙ ap (take x) (sym h.written) in
      let m = before.more in
      let n = h.more in
      record {
        reads = subst (λ n. CodedPrefix rule now start.decoder (position_of start.bits) n new.decoder (position_of new.bits)) next
            (prefix_more rule start.decoder (position_of start.bits) row now x old.decoder (position_of old.bits) h.token new.decoder (position_of new.bits) same before.reads
            (ap (λ r. rule.read r old.decoder (position_of old.bits)) (sym same) ∙ h.read)
            (ap (λ r. slice_get r x) h.written ∙ slice_get-set_same row x v inside ∙ ap (λ r. Some (rule.value r h.token)) same));
        clusters = h.clusters ∙ before.clusters;
        bytes = h.bytes ∙ before.bytes;
        work = one_more x cost start.steps old.steps new.steps before.work h.work;
        more = omega (arith, m, n);
      }

  -- the read of the next one returned an error
  pub cell_fails : (new : Source S) (now : List ℤ) (e : DecoderError) → FailsCell d cost rule row x old new now e → FailsRow d cost rule now start new (record { column = x; error = e })
  cell_fails new now e h =
      let m = before.more in
      let n = h.more in
      subst (λ r. FailsRow d cost rule r start new (record { column = x; error = e })) (sym h.row_is) (record {
        state = old.decoder;
        inside = inside;
        reads = subst (λ q. CodedPrefix rule row start.decoder (position_of start.bits) x old.decoder q) (sym h.place_is) before.reads;
        error = subst (λ q. rule.read (take x row) old.decoder q ≡ Err e) (sym h.place_is) h.error;
        memory = h.memory;
        bytes = h.bytes ∙ before.bytes;
        work = one_more x cost start.steps old.steps new.steps before.work h.work;
        more = omega (arith, m, n);
      })

-- ---- what one of two rules that are alike reads, the other reads, at no lower cost

alike_prefix : {S : Type 0} (a b : Rule S) (n : ℕ) (row : List ℤ) (s : S) (p : ℕ) → AreAlike a b n → (x : ℕ) (t : S) (q : ℕ) → x ≤ n → CodedPrefix a row s p x t q → CodedPrefix b row s p x t q
alike_prefix a b n row s p same zero t q l h = h
alike_prefix a b n row s p same (suc x) t q l h =
    let short : length (take x row) < n = let m = length-take x row in omega (arith, m) in
    let one = same (take x row) short in
    (h.0, h.1, h.2, alike_prefix a b n row s p same x h.0 h.1 (omega arith) h.3, sym (one.0 h.0 h.1) ∙ h.4, h.5 ∙ ap Some (one.1 h.2))

dearer : (n a b s t : ℕ) → a ≤ b → t ≤ s + n * a → t ≤ s + n * b
dearer n a b s t le h = let m = mul-le-mul_left n le in omega (arith, m, h)

pub alike_row : {S : Type 0} (d : Meaning S) (low high : ℕ) (a b : Rule S) (row : List ℤ) → AreAlike a b (length row) → low ≤ high → (result : Result (Unit {0}) RowError) (old new : Source S) →
    ReadsRow d low a row result old new → ReadsRow d high b row result old new
alike_row d low high a b row alike le (Ok u) old new h = record {
  reads = alike_prefix a b (length row) row old.decoder (position_of old.bits) alike (length row) new.decoder (position_of new.bits) (omega arith) h.reads;
  clusters = h.clusters;
  bytes = h.bytes;
  work = dearer (length row) low high old.steps new.steps le h.work;
  more = h.more;
}
alike_row d low high a b row alike le (Err r) old new h =
    let l = h.inside in
    let short : length (take r.column row) < length row = let m = length-take r.column row in omega (arith, m, l) in
    record {
      state = h.state;
      inside = h.inside;
      reads = alike_prefix a b (length row) row old.decoder (position_of old.bits) alike r.column h.state (position_of new.bits) (omega (arith, l)) h.reads;
      error = sym ((alike (take r.column row) short).0 h.state (position_of new.bits)) ∙ h.error;
      memory = h.memory;
      bytes = h.bytes;
      work = dearer (r.column + 1) low high old.steps new.steps le h.work;
      more = h.more;
    }
