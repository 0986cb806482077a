use Rattle.std.proofs.Common.{◌<◌, ◌≤◌, ◌++◌, ◌∙◌, length, ap, subst, arith}
use Rattle.std.specs.List.{flat_map}
use Rattle.std.proofs.lemmas.List.{take_all}
use Rattle.jxlm_transform.specs.Lists.{list_of}
use Rattle.jxlm_groups.proofs.AreaLemmas.{all_areas, before_passes, groups_in, groups_inside}
use Rattle.jxlm_groups.specs.declared.part.Kind.TheVariants as kinds
use Rattle.jxlm_groups.proofs.area.parts.Goals as goal

pub add_groups-requires-clause-inside : goal.add_groups-requires-clause-inside
add_groups-requires-clause-inside c = λ k lt.
    groups_inside c.args.width c.args.height c.args.group_dim c.args.passes.now (list_of c.args.channels.now) c.requires.pictured kinds.Lf k
    (subst (λ n. k < n) c.group_count-count.ensures lt)

pub add_groups-requires-in-loop-pass-clause-inside : goal.add_groups-requires-in-loop-pass-clause-inside
add_groups-requires-in-loop-pass-clause-inside c = λ k lt.
    groups_inside c.args.width c.args.height c.args.group_dim c.args.passes.now (list_of c.args.channels.now) c.requires.pictured (kinds.Pass _) k
    (subst (λ n. k < n) c.group_count-count-in-loop-pass.ensures lt)

pub returns : goal.returns
returns c =
    let passes = c.args.passes.now in
    let l = list_of c.args.channels.now in
    let groups = groups_in c.args.width c.args.height c.args.group_dim passes l in
    let past : length passes ≤ c.loop-pass.pass-index = omega (arith, c.loop-pass-test.false) in
    let whole = take_all c.loop-pass.pass-index passes past in
    c.loop-pass.invariant ∙ ap (λ ps. before_passes c.args.width c.args.height c.args.group_dim passes l ++ flat_map groups ps) whole
    ∙ all_areas c.args.width c.args.height c.args.group_dim passes l
