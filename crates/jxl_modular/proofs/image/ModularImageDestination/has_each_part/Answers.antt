use Rattle.std.proofs.Common.{◌↔◌, IsTrue, subst}
use Rattle.jxlm_groups.specs.PartSets.{HoldsEach}
use Rattle.jxl_modular.specs.Image.{coded_list}
use Rattle.jxl_modular.proofs.image.ModularImageDestination.has_each_part.Goals as goal

pub has_each_part-requires : goal.has_each_part-requires
has_each_part-requires g c = c.self.invariant.laid.groups

pub returns-clause-each : goal.returns-clause-each
returns-clause-each g c =
    let passes = c.args.passes.now in
    let parts = c.args.parts.now in
    let answer = c.has_each_part.result in
    subst (λ y. IsTrue answer ↔ HoldsEach y.group_dim passes (coded_list y) parts) c.self.view_is c.has_each_part.ensures
