use Rattle.std.proofs.Common.{◌≡◌, ◌∙◌, ◌++◌, take, drop, Ok, refl}
use Rattle.std.proofs.lemmas.Iterator.Adapters.{YieldsList-from_vec, items_from_extend}
use Rattle.jxlm_chain.proofs.front.replace_first.Goals as goal

pub returns-clause-gives : goal.returns-clause-gives
returns-clause-gives g c =
    let xs = c.args.list.now.items in
    let n = c.args.count in
    let it = c.in_ok-splice.ensures.items in
    let gives = it.2 in
    items_from_extend {E = Unit {0}} {P = λ ys. c.splice.new.self.items ≡ take 0 xs ++ (ys ++ drop n xs)} (Ok tt) (it.0, it.1, refl, it.4, it.3)
    (YieldsList-from_vec c.args.others.items gives.0 (gives.1 ∙ c.args.others.ok.0))
