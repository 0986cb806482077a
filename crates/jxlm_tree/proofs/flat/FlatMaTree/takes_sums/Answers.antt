use Rattle.std.proofs.Common.{◌≡◌, ◌∙◌, sym, rules}
use Rattle.jxlm_tree.specs.SumTrees.{takes_sums_at}
use Rattle.jxlm_tree.proofs.SumTrees.{goes_by_sum, keeps_sums}
use Rattle.jxlm_tree.proofs.flat.FlatMaTree.takes_sums.Goals as goal

pub returns-clause-goes : goal.returns-clause-goes
returns-clause-goes c = λ yes.
    let value : c.takes_some_sums.result ≡ takes_sums_at c.args.self.now.channel c.args.self.now.stream_idx c.args.self.now.tree = search rules in
    goes_by_sum c.args.self.now (sym value ∙ yes)

pub returns-clause-keeps : goal.returns-clause-keeps
returns-clause-keeps c = λ yes.
    let value : c.takes_some_sums.result ≡ takes_sums_at c.args.self.now.channel c.args.self.now.stream_idx c.args.self.now.tree = search rules in
    keeps_sums c.args.self.now (sym value ∙ yes)
