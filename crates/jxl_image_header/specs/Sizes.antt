-- Sizes of pictures (ISO/IEC 18181-1, image header: SizeHeader, PreviewHeader).
use Rattle.std.specs.Prelude.{ℕ, ◌+◌, ◌*◌, ◌/◌, ◌==◌, Bool, if◌then◌else◌}
use Rattle.jxlm_bits.specs.Grammar.{Grammar, number, flag, u32, give, either, ◌>>=◌}
use Rattle.jxlm_bits.specs.declared.bits.U32Spec.TheVariants.{Const, Offset}
use Rattle.jxl_image_header.specs.declared.size.Size.{Size}

-- a side of a preview, where it is short in eighths; or of the picture, where it is short one of 8 to 256 in steps of 8
unfoldable pub side : Bool → Bool → Grammar ℕ
side preview short = either preview
    (either short (u32 (Const 16) (Const 32) (Offset 1 5) (Offset 33 9) >>= λ v. give (8 * v)) (u32 (Offset 1 6) (Offset 65 8) (Offset 321 10) (Offset 1345 12)))
    (either short (number 5 >>= λ v. give (8 * (v + 1))) (u32 (Offset 1 9) (Offset 1 13) (Offset 1 18) (Offset 1 30)))

-- the width of this height at a ratio: 1:1, 12:10, 4:3, 3:2, 16:9, 5:4, 2:1
abbrev pub width_at : ℕ → ℕ → ℕ
width_at ratio height =
    if ratio == 1 then height else if ratio == 2 then height * 12 / 10 else if ratio == 3 then height * 4 / 3 else
    if ratio == 4 then height * 3 / 2 else if ratio == 5 then height * 16 / 9 else if ratio == 6 then height * 5 / 4 else height * 2

-- the height, and by a ratio or, where there is none, by itself the width, of a picture or of a preview
unfoldable pub size : Bool → Grammar Size
size preview = do
  short ← flag
  height ← side preview short
  ratio ← number 3
  width ← either (ratio == 0) (side preview short) (give (width_at ratio height))
  give (record { width = width; height = height })
