use Rattle.std.proofs.Common.{◌∙◌, ◌/◌, ap, sym, subst, map, to_z, cond, eqb, ℕ, ℤ, w16}
use Rattle.jxlm_lanes.specs.Colour.{plus, floor_half}
use Rattle.jxlm_lanes.specs.Inner.Lanes.{lane, AreEight}
use Rattle.jxlm_lanes.proofs.Each.{eight_back, lane_back, two, chosen, not_chosen}
use Rattle.jxlm_lanes.proofs.colour_lanes.second_samples.Goals as goal
use Rattle.jxlm_lanes.proofs.colour_lanes.second_samples.Goals.{then-kind-eq1, else-kind-eq1, then-kind-eq2, else-kind-eq2}

pub sums-requires-clause-a : goal.sums-requires-clause-a
sums-requires-clause-a c = eight_back c.args.b c.requires.b

pub sums-requires-clause-b : goal.sums-requires-clause-b
sums-requires-clause-b c = eight_back c.args.a c.requires.a

pub sums-requires-then-kind-eq2-clause-a : goal.sums-requires-then-kind-eq2-clause-a
sums-requires-then-kind-eq2-clause-a c = eight_back c.args.a c.requires.a

pub sums-requires-then-kind-eq2-clause-b : goal.sums-requires-then-kind-eq2-clause-b
sums-requires-then-kind-eq2-clause-b c = eight_back c.args.f c.requires.f

pub halves-requires : goal.halves-requires
halves-requires c = eight_back c.sums-then-kind-eq2.result c.sums-then-kind-eq2.ensures.eight

pub sums-requires-then-kind-eq2-2-clause-a : goal.sums-requires-then-kind-eq2-2-clause-a
sums-requires-then-kind-eq2-2-clause-a c = eight_back c.args.b c.requires.b

pub sums-requires-then-kind-eq2-2-clause-b : goal.sums-requires-then-kind-eq2-2-clause-b
sums-requires-then-kind-eq2-2-clause-b c = eight_back c.halves.result c.halves.ensures.eight

pub returns-clause-value : goal.returns-clause-value
returns-clause-value c j lt =
    let x = lane c.args.a j in
    let y = lane c.args.b j in
    let f = lane c.args.f j in
    let at_x = lane_back c.args.a j c.requires.a in
    let at_y = lane_back c.args.b j c.requires.b in
    let at_f = lane_back c.args.f j c.requires.f in
    let k : ℕ = c.args.ty / 2 in
    let mean : ℤ = plus w16 y (floor_half (plus w16 x f)) in
    elim c.if-kind-eq1.branch [
      | then-kind-eq1 w ↦
          ap (λ l. lane (map (to_z w16) l) j) w.result-is ∙ lane_back w.sums.result j w.sums.ensures.eight ∙ w.sums.ensures.value j lt ∙ two (plus w16) _ _ _ _ at_y at_x
          ∙ sym (chosen k 1 (plus w16 y x) (cond (eqb k 2) mean y) w.if-kind-eq1.true)
      | else-kind-eq1 w ↦
          ap (λ l. lane (map (to_z w16) l) j) w.result-is
          ∙ (elim w.if-kind-eq2.branch [
            | then-kind-eq2 v ↦
                ap (λ l. lane (map (to_z w16) l) j) v.result-is ∙ lane_back v.sums-then-kind-eq2-2.result j v.sums-then-kind-eq2-2.ensures.eight ∙ v.sums-then-kind-eq2-2.ensures.value j lt
                ∙ two (plus w16) _ _ _ _ at_y (lane_back v.halves.result j v.halves.ensures.eight ∙ v.halves.ensures.value j lt
                ∙ ap floor_half (lane_back v.sums-then-kind-eq2.result j v.sums-then-kind-eq2.ensures.eight ∙ v.sums-then-kind-eq2.ensures.value j lt ∙ two (plus w16) _ _ _ _ at_x at_f))
                ∙ sym (chosen k 2 mean y v.if-kind-eq2.true)
            | else-kind-eq2 v ↦ ap (λ l. lane (map (to_z w16) l) j) v.result-is ∙ at_y ∙ sym (not_chosen k 2 mean y v.if-kind-eq2.false)
          ])
          ∙ sym (not_chosen k 1 (plus w16 y x) (cond (eqb k 2) mean y) w.if-kind-eq1.false)
    ]

pub returns-clause-eight : goal.returns-clause-eight
returns-clause-eight c =
    elim c.if-kind-eq1.branch [
      | then-kind-eq1 w ↦ subst (λ l. AreEight (map (to_z w16) l)) (sym w.result-is) (eight_back w.sums.result w.sums.ensures.eight)
      | else-kind-eq1 w ↦
          subst (λ l. AreEight (map (to_z w16) l)) (sym w.result-is)
          (elim w.if-kind-eq2.branch [
            | then-kind-eq2 v ↦ subst (λ l. AreEight (map (to_z w16) l)) (sym v.result-is) (eight_back v.sums-then-kind-eq2-2.result v.sums-then-kind-eq2-2.ensures.eight)
            | else-kind-eq2 v ↦ subst (λ l. AreEight (map (to_z w16) l)) (sym v.result-is) (eight_back c.args.b c.requires.b)
          ])
    ]
