use Rattle.std.proofs.Common.{◌≡◌, ◌+◌}
use Rattle.jxl_text.specs.Inner.Rows.{AreRows}
use Rattle.jxl_text.proofs.rows.read_rows.Given as goal

abbrev pub invariant-loop-y : goal.invariant-loop-y
invariant-loop-y g l = record {
  rows : AreRows g.S.Sealed.to_int g.S.Sealed.width l.width l._y l.initial.lines.rest.now l.lines.rest.now l.cells.items;
  taken : l.lines.taken ≡ l.initial.lines.taken + l._y;
}
