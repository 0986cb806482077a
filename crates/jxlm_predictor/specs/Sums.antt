-- Property 9 where it is clamped in place of being reduced to 32 bits.
use Rattle.std.specs.Prelude.{ℤ, pos, neg_ℤ, ◌+ℤ◌, ◌-ℤ◌}
use Rattle.jxlm_bits.specs.Numbers.{clamp}
use Rattle.jxlm_weighted.specs.Neighbours.{neighbours}
use Rattle.jxlm_predictor.specs.Properties.{Surroundings}

-- the whole number in -8193..=8191 that is nearest to this one
abbrev pub clamp_sum : ℤ → ℤ
clamp_sum z = clamp (neg_ℤ (pos 8193)) (pos 8191) z

-- the sum of property 9, west less north west plus north, clamped to -8193..=8191
abbrev pub gradient_sum : Surroundings → ℤ
gradient_sum s = let a = neighbours s.samples s.width in clamp_sum (a.w -ℤ a.nw +ℤ a.n)
