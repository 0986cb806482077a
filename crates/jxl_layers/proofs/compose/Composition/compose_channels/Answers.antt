use Rattle.std.proofs.Common.{◌≡◌, ◌∙◌, ℕ, ℤ, ◌+◌, ◌∷◌, ◌++◌, List, [], length, arith, ap, subst, sym, rules, map}
use Rattle.std.specs.Float.{Float}
use Rattle.std.proofs.lemmas.List.{map-append}
use Rattle.jxlm_base.specs.Grid.{Grid}
use Rattle.jxl_blending.specs.SingleGrids.{singles_of}
use Rattle.jxl_blending.specs.declared.singles.Singles.{Singles}
use Rattle.jxl_layers.specs.Inner.Compositions.{AreLayered, frame_in, image_in, slots_in}
use Rattle.jxl_layers.proofs.Layers.{more_layered}
use Rattle.jxl_layers.proofs.compose.Composition.compose_channels.Goals as goal

pub loop-channel-preserved : goal.loop-channel-preserved
loop-channel-preserved c =
    let x = c.args.self in
    let i = c.loop-channel.channel in
    let m = c.in_ok-made.made in
    let values : List (Grid Float) = map singles_of c.loop-channel.singles.items in
    let value : Grid Float = singles_of c.in_ok-made.made.values in
    let pictures : List (Grid ℤ) = c.loop-channel.channels.items in
    let shown : c.push.new.self.items ≡ c.loop-channel.channels.items ++ c.in_ok-made.made.samples ∷ [] = search rules in
    let items : c.push-in-loop-channel.new.self.items ≡ c.loop-channel.singles.items ++ c.in_ok-made.made.values ∷ [] = search rules in
    let pushed : map singles_of c.push-in-loop-channel.new.self.items ≡ values ++ value ∷ [] =
    ap (λ (l : List Singles). map singles_of l) items ∙ map-append singles_of c.loop-channel.singles.items (c.in_ok-made.made.values ∷ []) in
    let all = more_layered (image_in x) (frame_in x) (slots_in x) x.channels.now i values pictures c.loop-channel.invariant value m.samples c.in_ok-made.ensures.is c.in_ok-made.ensures.shown c.in_ok-made.ensures.sides
    c.in_ok-made.ensures.width c.in_ok-made.ensures.height in
    subst (λ (gs : List (Grid ℤ)). AreLayered (image_in x) (frame_in x) (slots_in x) x.channels.now (i + 1) (map singles_of c.push-in-loop-channel.new.self.items) gs) (sym shown)
    (subst (λ (vs : List (Grid Float)). AreLayered (image_in x) (frame_in x) (slots_in x) x.channels.now (i + 1) vs (pictures ++ m.samples ∷ [])) (sym pushed) all)

pub returns : goal.returns
returns c =
    let x = c.args.self in
    let end : c.loop-channel.channel ≡ length x.channels.now = omega arith in
    subst (λ (n : ℕ). AreLayered (image_in x) (frame_in x) (slots_in x) x.channels.now n (map singles_of c.loop-channel.singles.items) c.loop-channel.channels.items) end c.loop-channel.invariant
