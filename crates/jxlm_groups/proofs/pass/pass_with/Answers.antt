use Rattle.std.proofs.Common.{◌∙◌, ap, option_map, rules, sym, tests}
use Rattle.std.specs.Option.{option_map_or}
use Rattle.std.proofs.lemmas.Iterator.{YieldsList-from_slice}
use Rattle.std.proofs.lemmas.Iterator.Search.{find_from_yields_List}
use Rattle.jxlm_groups.specs.Passes.{holds}
use Rattle.jxlm_groups.proofs.pass.pass_with.Goals as goal

pub returns-in-Some : goal.returns-in-Some
returns-in-Some c =
    let found = find_from_yields_List (holds c.args.shift) _ _ c.find.result c.find.ensures.ran (YieldsList-from_slice c.args.passes.now cc) (λ x b q k. search (rules, tests)) in
    ap (λ p. option_map_or (λ p. p.number) p 256) (sym (ap (option_map (λ x. x.now)) c.in-Some.is) ∙ found)

pub returns-in-None : goal.returns-in-None
returns-in-None c =
    let found = find_from_yields_List (holds c.args.shift) _ _ c.find.result c.find.ensures.ran (YieldsList-from_slice c.args.passes.now cc) (λ x b q k. search (rules, tests)) in
    ap (λ p. option_map_or (λ p. p.number) p 256) (sym (ap (option_map (λ x. x.now)) c.in-None.is) ∙ found)
