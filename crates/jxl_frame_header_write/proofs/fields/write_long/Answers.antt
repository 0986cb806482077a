use Rattle.std.proofs.Common.{◌≡◌, ◌≤◌, ℕ, subst, sym, arith}
use Rattle.jxlm_bit_writer.specs.Writes.{Spells}
use Rattle.jxl_image_header.specs.Fields.{long}
use Rattle.jxl_frame_header_write.proofs.CodingSpellings.{long_none, long_short, long_longer}
use Rattle.jxl_frame_header_write.proofs.fields.write_long.Goals as goal

pub returns-then-value-eq0 : goal.returns-then-value-eq0
returns-then-value-eq0 c =
    let zero : c.args.value ≡ 0 = search arith in
    subst (λ (v : ℕ). Spells c.args.bits.now c.write_number.new.bits long v) (sym zero) (long_none c.args.bits.now c.write_number.new.bits c.in_ok-write_number.ensures)

pub returns-then-value-le16 : goal.returns-then-value-le16
returns-then-value-le16 c =
    let least : 1 ≤ c.args.value = search arith in
    long_short c.args.value c.args.bits.now c.write_number-then-value-le16.new.bits c.write_number-then-value-le16-2.new.bits least c.in_ok-write_number-2.ensures c.in_ok-write_number-3.ensures

pub returns : goal.returns
returns c =
    let least : 17 ≤ c.args.value = search arith in
    long_longer c.args.value c.args.bits.now c.write_number-2.new.bits c.write_number-3.new.bits least c.in_ok-write_number-4.ensures c.in_ok-write_number-5.ensures
