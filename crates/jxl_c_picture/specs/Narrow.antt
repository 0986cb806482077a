-- The pictures of which each number has at most 16 bits while they are decoded (ISO/IEC 18181-1, image header: modular_16bit_buffers).
use Rattle.std.specs.Prelude.{ℕ, ℤ, pos, ◌==◌, ◌&&◌, nat_le, int_le, int_lt, List, Bool}
use Rattle.std.specs.List.{list_all}
use Rattle.jxl_c_picture.specs.declared.channels.CChannel.{CChannel}
use Rattle.jxl_c_picture.specs.declared.info.CInfo.{CInfo}

-- whole numbers of at most 12 bits
abbrev pub is_shallow : ℕ → ℕ → Bool
is_shallow bits exponent_bits = (exponent_bits == 0) && nat_le bits 12

-- a sample of at most 12 bits
abbrev pub is_small : ℤ → Bool
is_small v = int_le (pos 0) v && int_lt v (pos 4096)

-- all depths and samples are of at most 12 bits
abbrev pub is_narrow : CInfo → List CChannel → List ℤ → Bool
is_narrow info extra samples = is_shallow info.bits info.exponent_bits && list_all (λ c. is_shallow c.bits c.exponent_bits) extra && list_all is_small samples
