-- Sides of pictures, as their functions read them.
use Rattle.std.specs.Prelude.{ℕ, ◌+◌, ◌*◌, Bool}
use Rattle.jxlm_bits.specs.Grammar.{Grammar, number, u32, give, either, ◌>>=◌}
use Rattle.jxlm_bits.specs.declared.bits.U32Spec.TheVariants.{Const, Offset}

-- a side of a picture: where it is small, one of 8 to 256 in steps of 8
abbrev pub image_side : Bool → Grammar ℕ
image_side small = either small (number 5 >>= λ v. give (8 * (v + 1))) (u32 (Offset 1 9) (Offset 1 13) (Offset 1 18) (Offset 1 30))

-- a side of a preview, or an eighth of it
abbrev pub preview_side : Bool → Grammar ℕ
preview_side eighths =
    either eighths (u32 (Const 16) (Const 32) (Offset 1 5) (Offset 33 9) >>= λ v. give (8 * v)) (u32 (Offset 1 6) (Offset 65 8) (Offset 321 10) (Offset 1345 12))
