-- Headers as bits: each field in the first of its spellings (ISO/IEC 18181-1, Modular: Modular header, TransformInfo).
use Rattle.std.specs.Prelude.{ℕ, List, [], ◌++◌, length, map, Bool, if◌then◌else◌}
use Rattle.std.specs.List.{flat_map}
use Rattle.jxlm_bits.specs.declared.bits.U32Spec.TheVariants.{Const, Offset}
use Rattle.jxlm_transform.specs.Transforms.{Transform, OfRct, OfPalette, OfSqueeze}
use Rattle.jxlm_transform.specs.declared.transform.Rct.{Rct}
use Rattle.jxlm_transform.specs.declared.transform.SqueezeParams.{SqueezeParams}
use Rattle.jxlm_bit_writer.specs.Written.{digits}
use Rattle.jxlm_bit_writer.specs.Fields.{u32_bits}
use Rattle.jxlm_encode_write.specs.declared.header.SqueezeStep.{SqueezeStep}
use Rattle.jxlm_encode_write.specs.declared.header.EncodeTransform.{EncodeTransform}
use Rattle.jxlm_encode_write.specs.declared.header.EncodeTransform.TheVariants as given

-- a squeeze step, as a header lists it
abbrev pub params_of : SqueezeStep → SqueezeParams
params_of s = record { horizontal = s.horizontal; in_place = s.in_place; begin_c = s.begin_c; num_c = s.num_c }

-- a transform, as a header lists it
abbrev pub transform_of : EncodeTransform → Transform
transform_of (given.Rct begin kind) = OfRct (record { begin_c = begin; rct_type = kind })
transform_of (given.Squeeze steps) = OfSqueeze (map params_of steps.items)

-- a Bool
abbrev pub flag_bits : Bool → List ℕ
flag_bits b = digits 1 (if b then 1 else 0)

abbrev pub begin_bits : ℕ → List ℕ
begin_bits v = u32_bits (Offset 0 3) (Offset 8 6) (Offset 72 10) (Offset 1096 13) v

abbrev pub kind_bits : ℕ → List ℕ
kind_bits v = u32_bits (Const 6) (Offset 0 2) (Offset 2 4) (Offset 10 6) v

abbrev pub count_bits : ℕ → List ℕ
count_bits v = u32_bits (Const 1) (Const 2) (Const 3) (Offset 4 4) v

abbrev pub steps_count_bits : ℕ → List ℕ
steps_count_bits v = u32_bits (Const 0) (Offset 1 4) (Offset 9 6) (Offset 41 8) v

abbrev pub transforms_count_bits : ℕ → List ℕ
transforms_count_bits v = u32_bits (Const 0) (Const 1) (Offset 2 4) (Offset 18 8) v

abbrev pub rct_bits : Rct → List ℕ
rct_bits t = begin_bits t.begin_c ++ kind_bits t.rct_type

abbrev pub params_bits : SqueezeParams → List ℕ
params_bits t = flag_bits t.horizontal ++ (flag_bits t.in_place ++ (begin_bits t.begin_c ++ count_bits t.num_c))

abbrev pub squeeze_bits : List SqueezeParams → List ℕ
squeeze_bits steps = steps_count_bits (length steps) ++ flat_map params_bits steps

-- a transform after its two bits of kind; palettes are not written
abbrev pub transform_bits : Transform → List ℕ
transform_bits (OfRct t) = digits 2 0 ++ rct_bits t
transform_bits (OfPalette t) = []
transform_bits (OfSqueeze steps) = digits 2 2 ++ squeeze_bits steps

-- a header without a global tree, with the default weights, and with these transforms
abbrev pub header_bits : List Transform → List ℕ
header_bits ts = digits 1 0 ++ (digits 1 1 ++ (transforms_count_bits (length ts) ++ flat_map transform_bits ts))
