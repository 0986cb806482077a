use Rattle.std.proofs.Common.{subst, sym, ◌≡◌, Bool, true}
use Rattle.jxlm_bit_writer.specs.Writes.{Spells}
use Rattle.jxl_image_header.specs.Sizes.{side}
use Rattle.jxl_image_header_write.specs.Inner.Sides.{fits}
use Rattle.jxl_image_header_write.proofs.SizeSpellings.{preview_short, preview_long}
use Rattle.jxl_image_header_write.proofs.size.write_preview_side.Goals as goal

pub returns-then-short : goal.returns-then-short
returns-then-short c =
    let fit : fits true true c.args.side ≡ true = rw c.if-short.true at c.requires in
    subst (λ (r : Bool). Spells c.args.bits.now c.write_u32.new.bits (side true r) c.args.side) (sym c.if-short.true) (preview_short c.args.side c.args.bits.now c.write_u32.new.bits fit c.in_ok-write_u32.ensures)

pub returns : goal.returns
returns c =
    subst (λ (r : Bool). Spells c.args.bits.now c.write_u32-2.new.bits (side true r) c.args.side) (sym c.if-short.false) (preview_long c.args.side c.args.bits.now c.write_u32-2.new.bits c.in_ok-write_u32-2.ensures)
