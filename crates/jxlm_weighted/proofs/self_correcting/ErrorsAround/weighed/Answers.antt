use Rattle.std.proofs.Common.{FitsSigned, ◌∙◌, refl, arith, rules}
use Rattle.std.specs.Int.{w32}
use Rattle.jxlm_weighted.proofs.Sums.{sum_fits, sum_near, widened_is, widened_near}
use Rattle.jxlm_weighted.proofs.self_correcting.ErrorsAround.weighed.Goals as goal

pub overflow_add-result : goal.overflow_add-result
overflow_add-result c =
    let a = widened_near c.args.self.now.nw c.scaled.result (search rules) c.scaled.ensures.bound in
    let b = widened_near c.args.self.now.n c.scaled-2.result (search rules) c.scaled-2.ensures.bound in
    sum_fits _ _ _ _ _ _ a b (omega arith)

pub overflow_add-result-2 : goal.overflow_add-result-2
overflow_add-result-2 c =
    let a = widened_near c.args.self.now.nw c.scaled.result (search rules) c.scaled.ensures.bound in
    let b = widened_near c.args.self.now.n c.scaled-2.result (search rules) c.scaled-2.ensures.bound in
    let d = widened_near c.args.self.now.ne c.scaled-3.result (search rules) c.scaled-3.ensures.bound in
    sum_fits _ _ _ _ _ _ (sum_near _ _ _ _ _ _ a b (omega arith)) d (omega arith)

pub returns : goal.returns
returns c =
    let fa : FitsSigned w32 c.args.self.now.nw = search rules in
    let fb : FitsSigned w32 c.args.self.now.n = search rules in
    let fd : FitsSigned w32 c.args.self.now.ne = search rules in
    let a = widened_near c.args.self.now.nw c.scaled.result fa c.scaled.ensures.bound in
    let b = widened_near c.args.self.now.n c.scaled-2.result fb c.scaled-2.ensures.bound in
    let d = widened_near c.args.self.now.ne c.scaled-3.result fd c.scaled-3.ensures.bound in
    let s = sum_near _ _ _ _ _ _ (sum_near _ _ _ _ _ _ a b (omega arith)) d (omega arith) in
    record {
      value = s.is ∙ rw (widened_is c.args.self.now.nw c.scaled.result fa c.args.header.now.wp_p3a c.scaled.ensures.value, widened_is c.args.self.now.n c.scaled-2.result fb c.args.header.now.wp_p3b c.scaled-2.ensures.value, widened_is c.args.self.now.ne c.scaled-3.result fd c.args.header.now.wp_p3c c.scaled-3.ensures.value) refl;
      bound = rw s.is s.near;
    }
