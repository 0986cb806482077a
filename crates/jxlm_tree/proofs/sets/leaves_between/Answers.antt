use Rattle.std.proofs.Common.{◌-◌, ℕ, ap, ap₂, ◌∙◌, arith, pow_mono}
use Rattle.jxlm_tree.specs.SetTables.{has}
use Rattle.jxlm_tree.proofs.LeafBits.{has-between, one-at}
use Rattle.jxlm_tree.proofs.sets.leaves_between.Goals as goal

pub overflow_sub-result : goal.overflow_sub-result
overflow_sub-result c =
    let first = one-at c.args.first (omega arith) in
    let end = one-at c.args.end (omega arith) in
    let grows = pow_mono {i = c.args.first} {j = c.args.end} c.requires.order in
    omega arith

pub returns : goal.returns
returns c = λ i. ap (λ n. has n i) (ap₂ (λ (a b : ℕ). a - b) (one-at c.args.end c.requires.few) (one-at c.args.first (omega arith))) ∙ has-between c.args.first c.args.end i
