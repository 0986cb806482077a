-- Fields of headers as bits: each in one of its spellings (ISO/IEC 18181-1, field types).
use Rattle.std.specs.Prelude.{ℕ, ◌-◌, ◌^◌, List, ◌++◌, Bool, nat_lt, nat_le, ◌==◌, ◌&&◌, ◌||◌, if◌then◌else◌}
use Rattle.jxlm_bits.specs.declared.bits.U32Spec.{U32Spec}
use Rattle.jxlm_bits.specs.declared.bits.U32Spec.TheVariants.{Const, Offset}
use Rattle.jxlm_bit_writer.specs.Written.{digits}

-- a part of a U32 has this value
abbrev pub holds : U32Spec → ℕ → Bool
holds (Const c) v = c == v
holds (Offset least n) v = nat_le least v && nat_lt (v - least) (2 ^ n)

-- the bits of a value in a part, after the selector
abbrev pub part_bits : ℕ → U32Spec → ℕ → List ℕ
part_bits selector (Const c) v = digits 2 selector
part_bits selector (Offset least n) v = digits 2 selector ++ digits n (v - least)

-- some part has the value
abbrev pub is_spelled : U32Spec → U32Spec → U32Spec → U32Spec → ℕ → Bool
is_spelled d0 d1 d2 d3 v = holds d0 v || holds d1 v || holds d2 v || holds d3 v

-- the bits of a value by the first part that has it
abbrev pub u32_bits : U32Spec → U32Spec → U32Spec → U32Spec → ℕ → List ℕ
u32_bits d0 d1 d2 d3 v =
    if holds d0 v then part_bits 0 d0 v else if holds d1 v then part_bits 1 d1 v else if holds d2 v then part_bits 2 d2 v else part_bits 3 d3 v
