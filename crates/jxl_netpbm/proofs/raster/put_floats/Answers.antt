use Rattle.std.proofs.Common.{◌≡◌, ◌++◌, ℕ, ℤ, ap, ◌∙◌, take, w32, to_z, of_z, rules}
use Rattle.std.specs.Int.{cast_unsigned, to_le_bytes}
use Rattle.std.proofs.lemmas.Int.{to_z-of_z}
use Rattle.jxl_picture.specs.Floats.{single_bits}
use Rattle.jxl_netpbm.proofs.Growing.{joined}
use Rattle.jxl_netpbm.proofs.Pieces.{float_piece}
use Rattle.jxl_netpbm.proofs.Writing.{place_next}
use Rattle.jxl_netpbm.proofs.raster.put_floats.Goals as goal

pub loop-channel-preserved : goal.loop-channel-preserved
loop-channel-preserved c =
    let piece = float_piece c.args.depth c.args.channels.now c.loop-channel.channel-index c.args.x c.args.y c.channel-item.result c.get.result c.loop-channel-test.true c.channel-item.is c.get.ensures in
    let back : to_z w32 (of_z w32 c.get.result) ≡ c.get.result = to_z-of_z w32 c.get.result (search rules) in
    record {
      place = place_next c.args.at c.loop-channel.channel-index 4 c.loop-channel.end c.put_float-end.result c.loop-channel.invariant.place c.put_float-end.ensures.end;
      text = joined _ _ _ _ _ _ c.loop-channel.invariant.text (c.put_float-end.ensures.text ∙ ap (λ (n : ℕ). take c.loop-channel.end c.loop-channel.bytes ++ to_le_bytes w32 n)
          (c.single_bits.ensures ∙ ap (λ (v : ℤ). single_bits c.args.depth (cast_unsigned w32 v)) back)) piece;
    }
