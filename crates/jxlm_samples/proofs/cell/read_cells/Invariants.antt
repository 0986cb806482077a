use Rattle.std.proofs.Common.{◌≡◌, ◌≤◌, Ok, length}
use Rattle.jxlm_samples.specs.Inner.Rows.{CellsGive, walk_of}
use Rattle.jxlm_samples.proofs.cell.read_cells.Given as goal

abbrev pub invariant-loop-x : goal.invariant-loop-x
invariant-loop-x g l = record {
  len : length l.row ≡ length l.fn.row;
  from : l.from ≤ l.x;
  reads : CellsGive l.fn.line g.D.Decoder.meaning g.S.Sealed.to_int g.S.Sealed.width l.from l.x l.fn.row l.row l.fn.walk (walk_of l.walk.source l.bits l.state) (Ok tt);
}
