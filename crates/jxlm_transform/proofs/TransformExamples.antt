-- Transforms in small inputs.
use Rattle.std.specs.Prelude.{◌≡◌, refl, true, [], ◌∷◌, Some, Ok, Err, codes}
use Rattle.jxlm_bits.specs.ErrorKind.{Eof, BadEnum}
use Rattle.jxlm_weighted.specs.WeightsHeader.{default_weights}
use Rattle.jxlm_transform.specs.Transforms.{OfRct, OfSqueeze, transform}

-- after four bits of a header: a colour transform of the first three channels
colour_row : (transform default_weights).read (0x06 ∷ 0x00 ∷ []) 4 ≡ Ok (record { value = OfRct (record { begin_c = 0; rct_type = 6 }); position = 13 })
colour_row = refl

-- one step across, in place
squeeze_row : (transform default_weights).read (0x66 ∷ 0x30 ∷ 0x00 ∷ []) 4 ≡ Ok (record { value = OfSqueeze (record { horizontal = true; in_place = true; begin_c = 0; num_c = 1 } ∷ []); position = 21 })
squeeze_row = refl

default_row : (transform default_weights).read (0x26 ∷ []) 4 ≡ Ok (record { value = OfSqueeze []; position = 8 })
default_row = refl

-- a kind that there is not, and a predictor that there is not
kind_row : (transform default_weights).read (0x36 ∷ []) 4 ≡ Err (record { error = BadEnum (codes "TransformId") 3; position = Some 6 })
kind_row = refl

predictor_row : (transform default_weights).read (0x16 ∷ 0x00 ∷ 0x00 ∷ 0x1C ∷ []) 4 ≡ Err (record { error = BadEnum (codes "MaProperty") 14; position = Some 29 })
predictor_row = refl

-- truncated in a U32: the reader is before it
cut_row : (transform default_weights).read (0x16 ∷ 0x00 ∷ 0x00 ∷ []) 4 ≡ Err (record { error = Eof; position = Some 23 })
cut_row = refl
