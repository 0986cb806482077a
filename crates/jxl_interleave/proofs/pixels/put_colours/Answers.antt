use Rattle.std.proofs.Common.{◌≡◌, ◌++◌, ℤ, length, ap, ◌∙◌, take, w32, to_z, of_z, rules}
use Rattle.std.proofs.lemmas.Int.{to_z-of_z}
use Rattle.jxl_netpbm.specs.Rasters.{level, rescaled_sample}
use Rattle.jxl_netpbm.proofs.Growing.{joined}
use Rattle.jxl_netpbm.proofs.Writing.{place_next, room_here}
use Rattle.jxl_interleave.specs.Pixels.{maximum, number_bytes, number_len}
use Rattle.jxl_interleave.proofs.Samples.{all_samples, sample_piece}
use Rattle.jxl_interleave.proofs.pixels.put_colours.Goals as goal

pub put_sample-end-requires-clause-room : goal.put_sample-end-requires-clause-room
put_sample-end-requires-clause-room c =
    room_here c.args.at c.loop-channel.channel-index (length c.args.layers.now.colours.now) (number_len c.args.depth) c.loop-channel.end _ _ c.loop-channel-test.true c.loop-channel.invariant.place c.requires.room c.loop-channel.auto.bytes

pub loop-channel-preserved : goal.loop-channel-preserved
loop-channel-preserved c =
    let own = c.args.layers.now.own in
    let depth = c.args.depth in
    let piece = sample_piece depth c.args.x c.args.y own c.args.layers.now.colours.now c.loop-channel.channel-index c.channel-item.result c.get.result c.loop-channel-test.true c.channel-item.is c.get.ensures in
    let back : to_z w32 (of_z w32 c.get.result) ≡ c.get.result = to_z-of_z w32 c.get.result (search rules) in
    record {
      place = place_next c.args.at c.loop-channel.channel-index (number_len depth) c.loop-channel.end c.put_sample-end.result c.loop-channel.invariant.place c.put_sample-end.ensures.end;
      bytes = joined _ _ _ _ _ _ c.loop-channel.invariant.bytes (c.put_sample-end.ensures.bytes ∙ ap (λ (v : ℤ). take c.loop-channel.end c.loop-channel.bytes ++ number_bytes depth (rescaled_sample own (maximum depth) (level own v))) back) piece;
    }

pub returns-clause-bytes : goal.returns-clause-bytes
returns-clause-bytes c =
    all_samples c.args.depth c.args.x c.args.y c.args.layers.now.own c.args.layers.now.colours.now c.loop-channel.channel-index _ _ c.loop-channel-test.false c.loop-channel.invariant.bytes
