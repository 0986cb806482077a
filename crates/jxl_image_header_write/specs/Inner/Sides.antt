-- Sides of pictures and of previews, in short form and in long form.
use Rattle.std.specs.Prelude.{ℕ, ◌/◌, ◌%◌, ◌==◌, ◌&&◌, nat_le, Bool, if◌then◌else◌}
use Rattle.jxlm_bits.specs.declared.bits.U32Spec.TheVariants.{Const, Offset}
use Rattle.jxlm_bit_writer.specs.Fields.{is_spelled}
use Rattle.jxl_image_header_write.specs.Writable.{is_side}

-- a side in short form is a multiple of 8: of a picture from 8 to 256, of a preview from 8 to 4352
abbrev pub is_short_side : Bool → ℕ → Bool
is_short_side preview v = (v % 8 == 0) && (if preview then is_spelled (Const 16) (Const 32) (Offset 1 5) (Offset 33 9) (v / 8) else nat_le 8 v && nat_le v 256)

-- a side in this form
abbrev pub fits : Bool → Bool → ℕ → Bool
fits preview short v = if short then is_short_side preview v else is_side preview v
