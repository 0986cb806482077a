-- A row whose cells are read one by one: before its first cell, and after its last one.
use Rattle.std.proofs.Common.{◌≡◌, ℕ, ℤ, List, map, length, subst, sym, ◌∙◌, Result, Ok, Err}
use Rattle.std.specs.Prelude.{OnOk}
use Rattle.std.specs.Int.{Width}
use Rattle.std.proofs.lemmas.List.{length-map}
use Rattle.jxlm_bits.specs.Bits.{bytes_of}
use Rattle.jxlm_bits.specs.Decoding.{Meaning}
use Rattle.jxlm_samples.specs.Inner.Rows.{CellsGive, IsAtCell, ReadsCells, RowGives, rule_on}
use Rattle.jxlm_samples.specs.Reading.{cost_of}
use Rattle.jxlm_samples.specs.declared.rows.Line.{Line}
use Rattle.jxlm_samples.specs.declared.rows.RowError.{RowError}
use Rattle.jxlm_samples.specs.declared.source.Source.{Source}
use Rattle.jxlm_samples.specs.declared.source.Walk.{Walk}
use Rattle.jxlm_samples.proofs.RowReads.{none_read}

-- before the first cell none was read
pub before_first : {D X : Type 0} {l : Line X D} {d : Meaning D} {to_int : X → ℤ} {w : Width} {row : List X} {walk : Walk X D} → IsAtCell l d to_int w 0 row walk →
    ReadsCells d (cost_of l.coding.now) (rule_on l d to_int w (bytes_of walk.source.bits)) (map to_int row) 0 walk.source walk.source
before_first {l = l} {d = d} {to_int = to_int} {w = w} {row = row} {walk = walk} at = none_read d (cost_of l.coding.now) (rule_on l d to_int w (bytes_of walk.source.bits)) (map to_int row) walk.source

-- what the last cells of a row were read to, the row was
pub row_ends : {D X : Type 0} (l : Line X D) (d : Meaning D) (to_int : X → ℤ) (w : Width) (from to : ℕ) (row new : List X) (old walk : Walk X D) (start : Source D) (read : Result (Unit {0}) RowError) →
    CellsGive l d to_int w from to row new old walk read → ReadsCells d (cost_of l.coding.now) (rule_on l d to_int w (bytes_of start.bits)) (map to_int row) from start old.source → to ≡ length new →
    RowGives l d to_int w new start walk.source read × OnOk read (IsAtCell l d to_int w (length new) new walk)
row_ends l d to_int w from to row new old walk start (Ok u) gives before whole = (
  subst (λ n. ReadsCells d (cost_of l.coding.now) (rule_on l d to_int w (bytes_of start.bits)) (map to_int new) n start walk.source) (whole ∙ sym (length-map new to_int)) (gives.0 start before),
  subst (λ n. IsAtCell l d to_int w n new walk) whole gives.1,
)
row_ends l d to_int w from to row new old walk start (Err e) gives before whole = (gives start before, tt)
