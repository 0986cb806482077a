use Rattle.std.proofs.Common.{◌≡◌, ◌∙◌, ◌+◌, ◌++◌, take, drop, Ok, refl, append_assoc}
use Rattle.std.proofs.lemmas.Iterator.Adapters.{YieldsList-from_vec, items_from_extend}
use Rattle.jxlm_transform.proofs.transform.SqueezeParams.put_residuals.Goals as goal

pub returns-in_ok-splice-clause-inside : goal.returns-in_ok-splice-clause-inside
returns-in_ok-splice-clause-inside g c inside =
    let end = c.args.self.now.begin_c + c.args.self.now.num_c in
    let xs = c.args.list.now.items in
    let it = c.in_ok-splice.ensures.items in
    let gives = it.2 in
    simp append_assoc (items_from_extend {E = Unit {0}} {P = λ ys. c.splice.new.self.items ≡ take end xs ++ (ys ++ drop end xs)} (Ok tt) (it.0, it.1, refl, it.4, it.3)
    (YieldsList-from_vec c.args.residuals.items gives.0 (gives.1 ∙ c.args.residuals.ok.0)))
