use Rattle.std.proofs.Common.{◌≡◌, ◌∙◌, ◌%◌, ◌/◌, ap, sym, cond, eqb, ℕ, ℤ, List, map, to_z, of_z, w16}
use Rattle.std.proofs.lemmas.Bool.{eq-eqb, ne_eqb}
use Rattle.jxlm_lanes.specs.Colour.{triple, plus, floor_half, from_luma, from_differences}
use Rattle.jxlm_lanes.specs.Inner.Lanes.{lane}
use Rattle.jxlm_lanes.proofs.ColourLaws.{triple_same}
use Rattle.jxlm_lanes.proofs.Each.{eight_back, lane_back}
use Rattle.jxlm_lanes.proofs.colour_lanes.finished.Goals as goal

abbrev back : List ℤ → List ℤ
back xs = map (to_z w16) (map (of_z w16) xs)

pub from_luma-requires-clause-a : goal.from_luma-requires-clause-a
from_luma-requires-clause-a c = eight_back c.args.a c.requires.a

pub from_luma-requires-clause-b : goal.from_luma-requires-clause-b
from_luma-requires-clause-b c = eight_back c.args.b c.requires.b

pub from_luma-requires-clause-c : goal.from_luma-requires-clause-c
from_luma-requires-clause-c c = eight_back c.args.c c.requires.c

pub third_samples-f-requires-clause-a : goal.third_samples-f-requires-clause-a
third_samples-f-requires-clause-a c = eight_back c.args.a c.requires.a

pub third_samples-f-requires-clause-c : goal.third_samples-f-requires-clause-c
third_samples-f-requires-clause-c c = eight_back c.args.c c.requires.c

pub second_samples-requires-clause-a : goal.second_samples-requires-clause-a
second_samples-requires-clause-a c = eight_back c.args.a c.requires.a

pub second_samples-requires-clause-b : goal.second_samples-requires-clause-b
second_samples-requires-clause-b c = eight_back c.args.b c.requires.b

pub second_samples-requires-clause-f : goal.second_samples-requires-clause-f
second_samples-requires-clause-f c = eight_back c.third_samples-f.result c.third_samples-f.ensures.eight

pub returns-clause-first : goal.returns-clause-first
returns-clause-first c = eight_back c.args.a c.requires.a

pub returns-clause-second : goal.returns-clause-second
returns-clause-second c = eight_back c.second_samples.result c.second_samples.ensures.eight

pub returns-clause-third : goal.returns-clause-third
returns-clause-third c = eight_back c.third_samples-f.result c.third_samples-f.ensures.eight

pub returns-then-ty-eq6-clause-value : goal.returns-then-ty-eq6-clause-value
returns-then-ty-eq6-clause-value c j lt =
    let x = lane c.args.a j in
    let y = lane c.args.b j in
    let z = lane c.args.c j in
    c.from_luma.ensures.value j lt
    ∙ ap (from_luma w16) (triple_same _ _ _ x y z (lane_back c.args.a j c.requires.a) (lane_back c.args.b j c.requires.b) (lane_back c.args.c j c.requires.c))
    ∙ sym (ap (λ t. cond t (from_luma w16 (triple x y z)) (from_differences w16 c.args.ty (triple x y z))) (eq-eqb c.args.ty 6 c.if-ty-eq6.true))

pub returns-clause-value : goal.returns-clause-value
returns-clause-value c j lt =
    let ty : ℕ = c.args.ty in
    let x = lane c.args.a j in
    let y = lane c.args.b j in
    let z = lane c.args.c j in
    let at_x = lane_back c.args.a j c.requires.a in
    let at_y = lane_back c.args.b j c.requires.b in
    let at_z = lane_back c.args.c j c.requires.c in
    let f : ℤ = cond (eqb (ty % 2) 1) (plus w16 z x) z in
    let third : lane c.third_samples-f.result j ≡ f =
    c.third_samples-f.ensures.value j lt ∙ ap (λ u. cond (eqb (ty % 2) 1) (plus w16 u (lane (back c.args.a) j)) u) at_z ∙ ap (λ u. cond (eqb (ty % 2) 1) (plus w16 z u) z) at_x in
    let at_f = lane_back c.third_samples-f.result j c.third_samples-f.ensures.eight ∙ third in
    let e : ℤ → ℤ → ℤ → ℤ = λ u v h. cond (eqb (ty / 2) 1) (plus w16 v u) (cond (eqb (ty / 2) 2) (plus w16 v (floor_half (plus w16 u h))) v) in
    let second : lane c.second_samples.result j ≡ e x y f =
    c.second_samples.ensures.value j lt ∙ ap (λ u. e u (lane (back c.args.b) j) (lane (back c.third_samples-f.result) j)) at_x
    ∙ ap (λ u. e x u (lane (back c.third_samples-f.result) j)) at_y ∙ ap (e x y) at_f in
    triple_same _ _ _ x (e x y f) f at_x (lane_back c.second_samples.result j c.second_samples.ensures.eight ∙ second) at_f
    ∙ sym (ap (λ t. cond t (from_luma w16 (triple x y z)) (from_differences w16 ty (triple x y z))) (ne_eqb ty 6 c.if-ty-eq6.false))
