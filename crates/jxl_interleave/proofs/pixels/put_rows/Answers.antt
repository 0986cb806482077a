use Rattle.std.proofs.Common.{◌≡◌, ℕ, ◌*◌, ◌++◌, List, length, ap, ◌∙◌, sym, arith}
use Rattle.std.proofs.lemmas.List.{take_all}
use Rattle.jxl_netpbm.proofs.Growing.{below_more}
use Rattle.jxl_netpbm.proofs.Writing.{place_next, room_here}
use Rattle.jxl_interleave.specs.Pixels.{number_len, row_bytes, rows_bytes}
use Rattle.jxl_interleave.specs.Inner.Layers.{layers_of}
use Rattle.jxl_interleave.proofs.PixelLaws.{less_covered}
use Rattle.jxl_interleave.proofs.pixels.put_rows.Goals as goal

pub put_row-end-requires-clause-within : goal.put_row-end-requires-clause-within
put_row-end-requires-clause-within c = less_covered _ _ _ _ c.args.layers.now (omega arith) (omega (arith, c.loop-y-test.true)) c.requires.within

pub put_row-end-requires-clause-room : goal.put_row-end-requires-clause-room
put_row-end-requires-clause-room c =
    let row = c.args.width * (length (layers_of c.args.layers.now) * number_len c.args.depth) in
    room_here 0 c.loop-y.y c.args.height row c.loop-y.end (length c.args.bytes.now) _ c.loop-y-test.true c.loop-y.invariant.place (omega (arith, c.requires.long)) c.loop-y.auto.bytes

pub loop-y-preserved : goal.loop-y-preserved
loop-y-preserved c =
    let depth = c.args.depth in
    let layers = layers_of c.args.layers.now in
    let row = c.args.width * (length layers * number_len depth) in
    record {
      place = place_next 0 c.loop-y.y row c.loop-y.end c.put_row-end.result c.loop-y.invariant.place c.put_row-end.ensures.end;
      bytes = c.put_row-end.ensures.bytes ∙ ap (λ (t : List ℕ). t ++ row_bytes depth layers c.loop-y.y c.args.width) c.loop-y.invariant.bytes
          ∙ sym (below_more (λ (y : ℕ). row_bytes depth layers y c.args.width) c.loop-y.y);
    }

pub returns : goal.returns
returns c =
    let height : c.loop-y.y ≡ c.args.height = omega (arith, c.loop-y-test.false, c.loop-y.auto.y-end) in
    let row = c.args.width * (length (layers_of c.args.layers.now) * number_len c.args.depth) in
    let same : c.loop-y.y * row ≡ c.args.height * row = ap (λ (k : ℕ). k * row) height in
    let end : c.loop-y.end ≡ c.args.height * row = omega (arith, c.loop-y.invariant.place, same) in
    sym (take_all c.loop-y.end c.loop-y.bytes (omega (arith, end, c.requires.long, c.loop-y.auto.bytes))) ∙ c.loop-y.invariant.bytes
    ∙ ap (λ (k : ℕ). rows_bytes c.args.depth (layers_of c.args.layers.now) c.args.width k) height
