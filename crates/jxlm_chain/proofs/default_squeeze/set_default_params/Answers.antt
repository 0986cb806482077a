use Rattle.std.proofs.Common.{◌≡◌, [], ◌∷◌, ◌-◌, length, take, drop, rules}
use Rattle.std.proofs.lemmas.List.{nil_from_length}
use Rattle.jxlm_chain.proofs.DefaultSteps.{default_listed}
use Rattle.jxlm_chain.proofs.default_squeeze.set_default_params.Goals as goal

pub returns : goal.returns
returns c =
    let l = c.args.channels.now in
    let none : c.args.squeeze.now.sp.items ≡ [] = nil_from_length c.args.squeeze.now.sp.items (search rules) in
    let there : take (length l.placed.items - l.nb_meta_channels) (drop l.nb_meta_channels l.placed.items) ≡ c.in-Some.leader.now ∷ c.in-Some.others.now = rw c.deref.ensures.value at c.in-Some.ensures.cases.0 in
    default_listed l c.in-Some.leader.now c.in-Some.others.now c.args.squeeze.now.sp.items c.add_chroma.new.steps.items c.add_all.new.steps.items none there c.in_ok-add_chroma.ensures c.in_ok-add_all.ensures
