use Rattle.std.proofs.Common.{◌≤◌, subst, sym}
use Rattle.std.specs.Prelude.{unsigned_abs}
use Rattle.jxlm_inverse.specs.Palette.{deltas}
use Rattle.jxlm_inverse.proofs.PaletteColours.{entry_read, small}
use Rattle.jxlm_inverse.proofs.palette.entry.Goals as goal

pub returns-clause-value : goal.returns-clause-value
unfolding deltas
returns-clause-value c = entry_read c.args.row c.args.c

pub returns-clause-bound : goal.returns-clause-bound
returns-clause-bound c = subst (λ z. unsigned_abs z ≤ 144) (sym (returns-clause-value c)) (small c.args.row c.args.c)
