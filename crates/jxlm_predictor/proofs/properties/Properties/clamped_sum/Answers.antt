use Rattle.std.proofs.Common.{ap, ◌+ℤ◌, ◌-ℤ◌, FitsSigned, ◌∙◌, rules, w32}
use Rattle.std.proofs.lemmas.Int.{to_z-of_z}
use Rattle.jxlm_weighted.specs.Neighbours.{Neighbours}
use Rattle.jxlm_predictor.specs.Sums.{clamp_sum}
use Rattle.jxlm_predictor.proofs.properties.Properties.clamped_sum.Goals as goal

pub returns : goal.returns
returns g c = λ s samples stands.
    let fits : FitsSigned w32 c.clamped_sum.result = search rules in
    let fw : FitsSigned w32 c.args.self.now.around.w = search rules in
    let fnw : FitsSigned w32 c.args.self.now.around.nw = search rules in
    let fn : FitsSigned w32 c.args.self.now.around.n = search rules in
    let sum = rw (to_z-of_z w32 c.args.self.now.around.w fw, to_z-of_z w32 c.args.self.now.around.nw fnw, to_z-of_z w32 c.args.self.now.around.n fn) at c.clamped_sum.ensures in
    to_z-of_z w32 c.clamped_sum.result fits ∙ sum
    ∙ ap (λ (a : Neighbours). clamp_sum (a.w -ℤ a.nw +ℤ a.n)) (c.requires.around_is s samples stands)
