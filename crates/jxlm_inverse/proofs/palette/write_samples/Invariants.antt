use Rattle.std.proofs.Common.{◌≡◌, length}
use Rattle.std.specs.Int.{int_wrap}
use Rattle.jxlm_inverse.proofs.PaletteRows.{written_until}
use Rattle.jxlm_inverse.proofs.palette.write_samples.Given as goal

abbrev pub invariant-loop-j : goal.invariant-loop-j
invariant-loop-j g l = record {
  len : length l.row ≡ length l.fn.row;
  row : l.row ≡ written_until (λ n. g.S.Sealed.from_int (int_wrap g.S.Sealed.width n)) l.fn.row l.start l.numbers l.j;
}
