-- Flags, and numbers that are checked: where they come in an order, and where they stand alone.
use Rattle.std.specs.Prelude.{ℕ, ◌&&◌, nat_lt, nat_le, Bool, true, Option, codes}
use Rattle.std.specs.Option.{option_map_or}
use Rattle.jxlm_bits.specs.Grammar.{Grammar, u32, give, ◌>>=◌}
use Rattle.jxlm_bits.specs.declared.bits.U32Spec.TheVariants.{Const, Offset}
use Rattle.jxl_image_header.specs.Fields.{number_where, long, when}
use Rattle.jxl_frame_header.specs.Codings.{factor, flags_of}
use Rattle.jxl_frame_header.specs.declared.coding.FrameFlags.{FrameFlags}
use Rattle.jxl_frame_header.specs.declared.passes.Order.{Order}
use Rattle.jxl_frame_header.specs.declared.passes.Order.TheVariants.{Finer, Later}

-- the flags, if the header signals them
abbrev pub flags : Bool → Grammar FrameFlags
flags follows = when follows long 0 >>= λ v. give (flags_of v)

-- the factor of a resolution, finer than the one before; and its last pass, which is one of this number, and a later one
abbrev pub finer : Option ℕ → Grammar ℕ
finer before = number_where (codes "downsample") (λ v. option_map_or (λ b. nat_lt v b) before true) factor

abbrev pub later : ℕ → Option ℕ → Grammar ℕ
later count before =
    number_where (codes "last_pass") (λ v. option_map_or (λ b. nat_lt b v) before true && nat_lt v count) (u32 (Const 0) (Const 1) (Const 2) (Offset 0 3))

-- the next of such numbers, by their order
abbrev pub next : Order → Option ℕ → Grammar ℕ
next Finer = finer
next (Later count) = later count

-- how many resolutions the header lists: no more than there are passes
abbrev pub resolutions : ℕ → Grammar ℕ
resolutions count = number_where (codes "num_downsample") (λ n. nat_le n count) (u32 (Const 0) (Const 1) (Const 2) (Offset 3 1))

-- the number of a mode, and which extra channel is alpha
abbrev pub mode_number : Grammar ℕ
mode_number = number_where (codes "BlendMode") (λ v. nat_lt v 5) (u32 (Const 0) (Const 1) (Const 2) (Offset 3 2))

abbrev pub alpha : ℕ → Grammar ℕ
alpha extra = number_where (codes "alpha_channel") (λ v. nat_lt v extra) (u32 (Const 0) (Const 1) (Const 2) (Offset 3 3))
