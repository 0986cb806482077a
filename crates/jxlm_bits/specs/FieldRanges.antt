-- The values that a U32 field can have.
use Rattle.std.specs.Prelude.{ℕ, ◌+◌, ◌-◌, ◌^◌, min, max}
use Rattle.jxlm_bits.specs.declared.bits.U32Spec.{U32Spec}
use Rattle.jxlm_bits.specs.declared.bits.U32Spec.TheVariants.{Const, Offset}

-- the minimum and the maximum of a part
abbrev pub min_value : U32Spec → ℕ
min_value (Const n) = n
min_value (Offset base n) = base

abbrev pub max_value : U32Spec → ℕ
max_value (Const n) = n
max_value (Offset base n) = base + 2 ^ n - 1

-- the minimum of a U32, and its maximum
abbrev pub min_of : U32Spec → U32Spec → U32Spec → U32Spec → ℕ
min_of d0 d1 d2 d3 = min (min (min_value d0) (min_value d1)) (min (min_value d2) (min_value d3))

abbrev pub max_of : U32Spec → U32Spec → U32Spec → U32Spec → ℕ
max_of d0 d1 d2 d3 = max (max (max_value d0) (max_value d1)) (max (max_value d2) (max_value d3))
