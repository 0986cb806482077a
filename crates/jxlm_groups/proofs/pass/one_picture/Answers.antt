use Rattle.std.proofs.Common.{rules, tests}
use Rattle.std.proofs.lemmas.Iterator.{YieldsList-from_slice}
use Rattle.std.proofs.lemmas.Iterator.Search.{all_from_yields_List}
use Rattle.jxlm_groups.specs.Passes.{is_of_picture_of}
use Rattle.jxlm_groups.proofs.pass.one_picture.Goals as goal

pub returns-in-Some : goal.returns-in-Some
returns-in-Some c =
    let all = all_from_yields_List (is_of_picture_of c.in-Some.first.now) _ _ c.all.result c.all.ensures.ran (YieldsList-from_slice c.in-Some.others.now cc) (λ x b q k. search (rules, tests)) in
    search (rules, all)
