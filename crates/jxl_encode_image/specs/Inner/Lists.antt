-- The list of transforms of a header (ISO/IEC 18181-1, Modular: Modular header).
use Rattle.std.specs.Prelude.{List}
use Rattle.jxlm_bits.specs.Grammar.{Grammar, repeated, u32, ◌>>=◌}
use Rattle.jxlm_bits.specs.declared.bits.U32Spec.TheVariants.{Const, Offset}
use Rattle.jxlm_transform.specs.Transforms.{Transform, transform_by}
use Rattle.jxlm_transform.specs.declared.param.PaletteTables.TheVariants.{OfDeltasToo}
use Rattle.jxlm_weighted.specs.WeightsHeader.{default_weights}

-- a transform of a file, beside the default weights
abbrev pub file_transform : Grammar Transform
file_transform = transform_by OfDeltasToo default_weights

-- how many transforms there are, and they, beside the default weights
abbrev pub transform_list : Grammar (List Transform)
transform_list = u32 (Const 0) (Const 1) (Offset 2 4) (Offset 18 8) >>= λ count. repeated count file_transform
