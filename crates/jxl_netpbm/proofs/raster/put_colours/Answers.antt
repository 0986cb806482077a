use Rattle.std.proofs.Common.{◌≡◌, ◌+◌, ◌*◌, ◌<◌, ◌≤◌, ◌++◌, ◌∷◌, [], ℤ, List, pos, get_or, length, ap, sym, subst, ◌∙◌, take, w32, to_z, of_z, arith, rules}
use Rattle.std.proofs.lemmas.Int.{to_z-of_z}
use Rattle.std.proofs.lemmas.List.Elements.{All-get_or}
use Rattle.jxl_netpbm.specs.Layers.{Covers, layers_of}
use Rattle.jxl_netpbm.specs.Inner.Rows.{number_len}
use Rattle.jxl_netpbm.specs.Rasters.{pixels_text}
use Rattle.jxl_netpbm.specs.declared.layers.Layer.{Layer}
use Rattle.jxl_netpbm.proofs.Growing.{joined}
use Rattle.jxl_netpbm.proofs.Pieces.{at_row, colours_piece, number_of, three_joined, three_layers}
use Rattle.jxl_netpbm.proofs.Writing.{place_next}
use Rattle.jxl_netpbm.proofs.raster.put_colours.Goals as goal

pub loop-x-preserved : goal.loop-x-preserved
loop-x-preserved c =
    let most = c.args.most in
    let y = c.args.y in
    let x = c.loop-x.x in
    let layers = c.args.layers.now in
    let red = c.index-layers-0.result in
    let green = c.index-layers-1.result in
    let blue = c.index-layers-2.result in
    let three : length layers ≡ 3 = c.requires.three in
    let same : layers ≡ red ∷ green ∷ blue ∷ [] = three_layers layers red green blue three c.index-layers-0.is c.index-layers-1.is c.index-layers-2.is in
    let u : ℤ = get_or c.get_row-reds.result.now x (pos 0) in
    let v : ℤ = get_or c.get_row-greens.result.now x (pos 0) in
    let w : ℤ = get_or c.get_row-blues.result.now x (pos 0) in
    let covered : Layer → Type 0 = λ (l : Layer). c.args.width ≤ l.grid.now.width in
    let wide_reds : c.args.width ≤ red.grid.now.width = subst covered (sym c.index-layers-0.is) (All-get_or (Covers c.args.width (y + 1)) layers 0 red (omega (arith, three)) c.requires.within).wide in
    let wide_greens : c.args.width ≤ green.grid.now.width = subst covered (sym c.index-layers-1.is) (All-get_or (Covers c.args.width (y + 1)) layers 1 green (omega (arith, three)) c.requires.within).wide in
    let wide_blues : c.args.width ≤ blue.grid.now.width = subst covered (sym c.index-layers-2.is) (All-get_or (Covers c.args.width (y + 1)) layers 2 blue (omega (arith, three)) c.requires.within).wide in
    let less = c.loop-x-test.true in
    let in_reds : x < red.grid.now.width = omega (arith, less, wide_reds) in
    let in_greens : x < green.grid.now.width = omega (arith, less, wide_greens) in
    let in_blues : x < blue.grid.now.width = omega (arith, less, wide_blues) in
    let back_u : to_z w32 (of_z w32 u) ≡ u = to_z-of_z w32 u (search rules) in
    let back_v : to_z w32 (of_z w32 v) ≡ v = to_z-of_z w32 v (search rules) in
    let back_w : to_z w32 (of_z w32 w) ≡ w = to_z-of_z w32 w (search rules) in
    let next : c.put_sample-end-in-loop-x-2.result ≡ c.loop-x.end + 3 * number_len most =
    omega (arith, c.put_sample-end.ensures.end, c.put_sample-end-in-loop-x.ensures.end, c.put_sample-end-in-loop-x-2.ensures.end) in
    let pixel = three_joined _ _ _ _ _ _ _
    (c.put_sample-end.ensures.text ∙ ap (λ (n : ℤ). take c.loop-x.end c.loop-x.bytes ++ number_of most red n) back_u)
    (c.put_sample-end-in-loop-x.ensures.text ∙ ap (λ (n : ℤ). take c.put_sample-end.result c.put_sample-end.new.bytes ++ number_of most green n) back_v)
    (c.put_sample-end-in-loop-x-2.ensures.text ∙ ap (λ (n : ℤ). take c.put_sample-end-in-loop-x.result c.put_sample-end-in-loop-x.new.bytes ++ number_of most blue n) back_w) in
    let piece = number_of most red u ++ (number_of most green v ++ number_of most blue w) in
    let more : pixels_text most (layers_of layers) y (x + 1) ≡ pixels_text most (layers_of layers) y x ++ piece =
    ap (λ (ls : List Layer). pixels_text most (layers_of ls) y (x + 1)) same
    ∙ colours_piece most x y red green blue u v w
    (at_row red.grid.now x y c.get_row-reds.result.now c.get_row-reds.ensures.value in_reds)
    (at_row green.grid.now x y c.get_row-greens.result.now c.get_row-greens.ensures.value in_greens)
    (at_row blue.grid.now x y c.get_row-blues.result.now c.get_row-blues.ensures.value in_blues)
    ∙ sym (ap (λ (ls : List Layer). pixels_text most (layers_of ls) y x ++ piece) same) in
    record {
      place = place_next c.args.at x (3 * number_len most) c.loop-x.end c.put_sample-end-in-loop-x-2.result c.loop-x.invariant.place next;
      text = joined _ _ _ _ _ _ c.loop-x.invariant.text pixel more;
    }
