use Rattle.std.proofs.Common.{◌∙◌, ◌%◌, ap, sym, subst, map, to_z, w16}
use Rattle.jxlm_lanes.specs.Colour.{plus}
use Rattle.jxlm_lanes.specs.Inner.Lanes.{lane, AreEight}
use Rattle.jxlm_lanes.proofs.Each.{eight_back, lane_back, two, chosen, not_chosen}
use Rattle.jxlm_lanes.proofs.colour_lanes.third_samples.Goals as goal
use Rattle.jxlm_lanes.proofs.colour_lanes.third_samples.Goals.{then-ty-eq1, else-ty-eq1}

pub sums-requires-clause-a : goal.sums-requires-clause-a
sums-requires-clause-a c = eight_back c.args.c c.requires.c

pub sums-requires-clause-b : goal.sums-requires-clause-b
sums-requires-clause-b c = eight_back c.args.a c.requires.a

pub returns-clause-value : goal.returns-clause-value
returns-clause-value c j lt =
    let x = lane c.args.a j in
    let z = lane c.args.c j in
    let at_x = lane_back c.args.a j c.requires.a in
    let at_z = lane_back c.args.c j c.requires.c in
    elim c.if-ty-eq1.branch [
      | then-ty-eq1 w ↦
          ap (λ l. lane (map (to_z w16) l) j) w.result-is ∙ lane_back w.sums.result j w.sums.ensures.eight ∙ w.sums.ensures.value j lt ∙ two (plus w16) _ _ _ _ at_z at_x
          ∙ sym (chosen (c.args.ty % 2) 1 (plus w16 z x) z w.if-ty-eq1.true)
      | else-ty-eq1 w ↦ ap (λ l. lane (map (to_z w16) l) j) w.result-is ∙ at_z ∙ sym (not_chosen (c.args.ty % 2) 1 (plus w16 z x) z w.if-ty-eq1.false)
    ]

pub returns-clause-eight : goal.returns-clause-eight
returns-clause-eight c =
    elim c.if-ty-eq1.branch [
      | then-ty-eq1 w ↦ subst (λ l. AreEight (map (to_z w16) l)) (sym w.result-is) (eight_back w.sums.result w.sums.ensures.eight)
      | else-ty-eq1 w ↦ subst (λ l. AreEight (map (to_z w16) l)) (sym w.result-is) (eight_back c.args.c c.requires.c)
    ]
