-- What a sample of a frame makes of one of the picture below it (ISO/IEC 18181-1, frame header: BlendingInfo, BlendMode). Each
-- formula of the standard stands here in IEEE floats of 32 bits, by the operations and in the order of libjxl, so that results
-- are the same to the last bit.
use Rattle.std.specs.Prelude.{ℕ, if◌then◌else◌, ℤ, ◌+ℤ◌}
use Rattle.std.specs.Int.{saturate_signed, w32}
use Rattle.std.specs.Float.Ieee
use Rattle.std.specs.Float.{Float, binary32}
use Rattle.jxl_blending.specs.Scales.{loaded, shown, single_one, single_zero}
use Rattle.jxl_blending.specs.declared.blending.BlendKind.{BlendKind}
use Rattle.jxl_blending.specs.declared.blending.BlendKind.TheVariants.{Keep, Replace, Add, Alpha, Over, OverPremultiplied, AddByAlpha, Multiply}
use Rattle.jxl_blending.specs.declared.blending.ChannelBlending.{ChannelBlending}
use Rattle.jxl_blending.specs.declared.blending.Parts.{Parts}
use Rattle.jxl_blending.specs.declared.blending.Point.{Point}

-- sums, differences, products and quotients, each rounded to the nearest float of 32 bits
infix 60 ◌+ₛ◌ ◌-ₛ◌
infix 70 ◌*ₛ◌ ◌/ₛ◌
abbrev pub ◌+ₛ◌ : Float → Float → Float
x +ₛ y = Ieee.add binary32 x y

abbrev pub ◌-ₛ◌ : Float → Float → Float
x -ₛ y = Ieee.sub binary32 x y

abbrev pub ◌*ₛ◌ : Float → Float → Float
x *ₛ y = Ieee.mul binary32 x y

abbrev pub ◌/ₛ◌ : Float → Float → Float
x /ₛ y = Ieee.div binary32 x y

-- the number between 0 and 1 that is nearest to x; 1 for no number
abbrev pub clamped : Float → Float
clamped x = if Ieee.lt x single_one then (if Ieee.lt x single_zero then single_zero else x) else single_one

-- what weighs the picture below: the frame's own sample for alpha and products, else its alpha
abbrev pub factor : BlendKind → Parts → Float
factor Alpha front = front.sample
factor Multiply front = front.sample
factor other front = front.alpha

-- this factor, clamped between 0 and 1 if the header says so
abbrev pub weight : ChannelBlending → Parts → Float
weight b front = if b.clamp then clamped (factor b.kind front) else factor b.kind front

-- 1 - (1 - front)(1 - back)
abbrev pub union : Float → Float → Float
union front back = single_one -ₛ ((single_one -ₛ front) *ₛ (single_one -ₛ back))

-- 1 / x where x is above 0, else 0
abbrev pub reciprocal : Float → Float
reciprocal x = if Ieee.lt single_zero x then single_one /ₛ x else single_zero

-- (front alpha + back below (1 - alpha)) / union, where alpha is the frame's and below the picture's; 0 where the union is 0 or less
abbrev pub over : Float → Float → Float → Float → Float
over alpha front back below = ((front *ₛ alpha) +ₛ ((back *ₛ below) *ₛ (single_one -ₛ alpha))) *ₛ reciprocal (union alpha below)

-- front + back (1 - alpha)
abbrev pub premultiplied_over : Float → Float → Float → Float
premultiplied_over alpha front back = front +ₛ (back *ₛ (single_one -ₛ alpha))

-- back + front alpha
abbrev pub sum_by_alpha : Float → Float → Float → Float
sum_by_alpha alpha front back = back +ₛ (front *ₛ alpha)

-- what a kind makes of a frame's sample, weighed by w, and one of the picture below
abbrev pub value_by : BlendKind → Float → Parts → Parts → Float
value_by Keep w front back = back.sample
value_by Replace w front back = front.sample
value_by Add w front back = back.sample +ₛ front.sample
value_by Alpha w front back = union w back.sample
value_by Over w front back = over w front.sample back.sample back.alpha
value_by OverPremultiplied w front back = premultiplied_over w front.sample back.sample
value_by AddByAlpha w front back = sum_by_alpha w front.sample back.sample
value_by Multiply w front back = back.sample *ₛ w

abbrev pub blended_value : ChannelBlending → Parts → Parts → Float
blended_value b front back = value_by b.kind (weight b front) front back

-- what a sample and its alpha stand for
abbrev pub parts_of : ChannelBlending → Point → Parts
parts_of b p = record { sample = loaded b.samples p.sample; alpha = loaded b.alpha p.alpha }

-- The same of whole samples: those that are kept, replaced or added are exact, others are the nearest to what was made.
abbrev pub sample_by : BlendKind → ChannelBlending → Point → Point → ℤ
sample_by Keep b front back = back.sample
sample_by Replace b front back = front.sample
sample_by Add b front back = saturate_signed w32 (front.sample +ℤ back.sample)
sample_by other b front back = shown b.samples (blended_value b (parts_of b front) (parts_of b back))

abbrev pub blended_sample : ChannelBlending → Point → Point → ℤ
blended_sample b front back = sample_by b.kind b front back
