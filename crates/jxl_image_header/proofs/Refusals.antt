-- What is known of an image in which nothing is refused.
use Rattle.std.proofs.Common.{◌≡◌, ◌≤◌, Bool, true, false, List, [], ◌∷◌, Option, Some, None, refl}
use Rattle.std.specs.Prelude.{nat_lt, is_some, if◌then◌else◌}
use Rattle.std.specs.List.{All}
use Rattle.std.specs.Option.{option_or}
use Rattle.std.proofs.lemmas.Bool.{ltb-false}
use Rattle.std.proofs.lemmas.List.Elements.{All-cons, All-nil}
use Rattle.jxl_image_header.specs.Images.{Image, channels_refusal, image_refusal}
use Rattle.jxl_image_header.specs.declared.channel.ExtraChannel.{ExtraChannel}
use Rattle.jxl_image_header.specs.declared.refusal.Refusal.{Refusal}
use Rattle.jxl_image_header.specs.declared.refusal.Refusal.TheVariants.{Preview, Animation, ExtraSize}

some_none : (r : Refusal) → ◌≡◌ {A = Option Refusal} (Some r) None → ⊥
some_none r e = cc

-- a reason does not hold, and neither does a later one
unless : (b : Bool) (r : Refusal) (rest : Option Refusal) → (if b then Some r else rest) ≡ None → (b ≡ false) × (rest ≡ None)
unless true r rest e = absurd (some_none r e)
unless false r rest e = (refl, e)

first_none : (a b : Option Refusal) → option_or a b ≡ None → a ≡ None
first_none (Some r) b e = cc
first_none None b e = cc

shifts_low : (cs : List ExtraChannel) → channels_refusal cs ≡ None → All (λ c. c.dim_shift ≤ 3) cs
shifts_low [] e = All-nil (λ c. c.dim_shift ≤ 3)
shifts_low (c ∷ cs) e =
    let small = unless (nat_lt 3 c.dim_shift) ExtraSize _ e in
    All-cons (λ c. c.dim_shift ≤ 3) c cs (ltb-false 3 c.dim_shift small.0) (shifts_low cs small.1)

-- in an image that is supported the shifts of extra channels are at most 3
pub low_shifts : (image : Image) → image_refusal image ≡ None → All (λ c. c.dim_shift ≤ 3) image.ec_info
low_shifts image supported =
    let still = unless (is_some image.preview) Preview _ supported in
    let rest = unless (is_some image.animation) Animation _ still.1 in
    shifts_low image.ec_info (first_none (channels_refusal image.ec_info) _ rest.1)
