use Rattle.std.proofs.Common.{◌∙◌, arith, map, rules, w32, FitsSigned}
use Rattle.std.proofs.lemmas.Int.{to_z-of_z}
use Rattle.jxlm_samples.proofs.LeafCells.{west_is}
use Rattle.jxlm_samples.proofs.one_leaf.west.Goals as goal

pub returns-then-from-eq0 : goal.returns-then-from-eq0
returns-then-from-eq0 g c =
    let f : FitsSigned w32 c.number_or.result = search rules in
    rw c.if-from-eq0.true (to_z-of_z w32 c.number_or.result f ∙ c.number_or.ensures)

pub returns-else-from-eq0 : goal.returns-else-from-eq0
returns-else-from-eq0 g c =
    let f : FitsSigned w32 c.to_i32.result = search rules in
    to_z-of_z w32 c.to_i32.result f ∙ c.to_i32.ensures.value
    ∙ west_is g.S.Sealed.to_int (map g.S.Sealed.to_int c.args.above.now) c.args.row.now c.args.from c.index-row-from.result (omega (arith, c.if-from-eq0.false)) c.requires c.index-row-from.is
