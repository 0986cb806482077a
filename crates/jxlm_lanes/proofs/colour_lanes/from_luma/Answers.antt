use Rattle.std.proofs.Common.{◌≡◌, ◌∙◌, ap, ℤ, w16}
use Rattle.jxlm_lanes.specs.Colour.{plus, minus, floor_half}
use Rattle.jxlm_lanes.specs.Inner.Lanes.{lane}
use Rattle.jxlm_lanes.proofs.ColourLaws.{triple_same}
use Rattle.jxlm_lanes.proofs.Each.{eight_back, lane_back, two}
use Rattle.jxlm_lanes.proofs.colour_lanes.from_luma.Goals as goal

pub returns-clause-value : goal.returns-clause-value
returns-clause-value c j lt =
    let x = lane c.args.a j in
    let y = lane c.args.b j in
    let z = lane c.args.c j in
    let at_x = lane_back c.args.a j c.requires.a in
    let at_y = lane_back c.args.b j c.requires.b in
    let at_z = lane_back c.args.c j c.requires.c in
    let m : ℤ = minus w16 x (floor_half z) in
    let e : ℤ = plus w16 z m in
    let f : ℤ = minus w16 m (floor_half y) in
    let half_z : lane c.halves.result j ≡ floor_half z = c.halves.ensures.value j lt ∙ ap floor_half at_z in
    let middle : lane c.differences-middle.result j ≡ m =
    c.differences-middle.ensures.value j lt ∙ two (minus w16) _ _ _ _ at_x (lane_back c.halves.result j c.halves.ensures.eight ∙ half_z) in
    let at_m = lane_back c.differences-middle.result j c.differences-middle.ensures.eight ∙ middle in
    let second : lane c.sums-e.result j ≡ e = c.sums-e.ensures.value j lt ∙ two (plus w16) _ _ _ _ at_z at_m in
    let half_y : lane c.halves-2.result j ≡ floor_half y = c.halves-2.ensures.value j lt ∙ ap floor_half at_y in
    let third : lane c.differences-f.result j ≡ f =
    c.differences-f.ensures.value j lt ∙ two (minus w16) _ _ _ _ at_m (lane_back c.halves-2.result j c.halves-2.ensures.eight ∙ half_y) in
    let at_f = lane_back c.differences-f.result j c.differences-f.ensures.eight ∙ third in
    let first : lane c.sums.result j ≡ plus w16 f y = c.sums.ensures.value j lt ∙ two (plus w16) _ _ _ _ at_f at_y in
    triple_same _ _ _ (plus w16 f y) e f
    (lane_back c.sums.result j c.sums.ensures.eight ∙ first) (lane_back c.sums-e.result j c.sums-e.ensures.eight ∙ second) at_f

pub halves-requires : goal.halves-requires
halves-requires c = eight_back c.args.c c.requires.c

pub differences-middle-requires-clause-a : goal.differences-middle-requires-clause-a
differences-middle-requires-clause-a c = eight_back c.args.a c.requires.a

pub differences-middle-requires-clause-b : goal.differences-middle-requires-clause-b
differences-middle-requires-clause-b c = eight_back c.halves.result c.halves.ensures.eight

pub sums-e-requires-clause-a : goal.sums-e-requires-clause-a
sums-e-requires-clause-a c = eight_back c.args.c c.requires.c

pub sums-e-requires-clause-b : goal.sums-e-requires-clause-b
sums-e-requires-clause-b c = eight_back c.differences-middle.result c.differences-middle.ensures.eight

pub halves-requires-2 : goal.halves-requires-2
halves-requires-2 c = eight_back c.args.b c.requires.b

pub differences-f-requires-clause-a : goal.differences-f-requires-clause-a
differences-f-requires-clause-a c = eight_back c.differences-middle.result c.differences-middle.ensures.eight

pub differences-f-requires-clause-b : goal.differences-f-requires-clause-b
differences-f-requires-clause-b c = eight_back c.halves-2.result c.halves-2.ensures.eight

pub sums-requires-clause-a : goal.sums-requires-clause-a
sums-requires-clause-a c = eight_back c.differences-f.result c.differences-f.ensures.eight

pub sums-requires-clause-b : goal.sums-requires-clause-b
sums-requires-clause-b c = eight_back c.args.b c.requires.b

pub returns-clause-first : goal.returns-clause-first
returns-clause-first c = eight_back c.sums.result c.sums.ensures.eight

pub returns-clause-second : goal.returns-clause-second
returns-clause-second c = eight_back c.sums-e.result c.sums-e.ensures.eight

pub returns-clause-third : goal.returns-clause-third
returns-clause-third c = eight_back c.differences-f.result c.differences-f.ensures.eight
