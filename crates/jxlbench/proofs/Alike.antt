-- Channels of one size are of one picture.
use Rattle.std.proofs.Common.{◌≡◌, refl, ℕ, zero, suc, List, map, true}
use Rattle.std.specs.List.{list_all}
use Rattle.std.proofs.lemmas.Bool.{eq-eqb}
use Rattle.jxlm_transform.specs.Channels.{Channel, image_channel, image_list}
use Rattle.jxlm_transform.specs.Params.{of_one_size, channel_params}
use Rattle.jxlm_transform.specs.declared.param.ChannelShift.TheVariants.{Shifts}
use Rattle.jxlm_transform.specs.declared.param.ModularChannelParams.{ModularChannelParams}
use Rattle.jxlm_groups.specs.Passes.{is_of_picture_of, one_picture}

-- a channel of this size
abbrev one_of : ℕ → ℕ → Channel
one_of w h = image_channel (channel_params w h (Shifts 0))

of_one_picture : (w h : ℕ) → is_of_picture_of (one_of w h) (one_of w h) ≡ true
of_one_picture w h = rw (eq-eqb w w refl, eq-eqb h h refl) refl

all_of_one_picture : (n w h : ℕ) → list_all (is_of_picture_of (one_of w h)) (map image_channel (of_one_size n w h)) ≡ true
all_of_one_picture zero w h = refl
all_of_one_picture (suc n) w h = rw (of_one_picture w h, all_of_one_picture n w h) refl

pub one_size_alike : (n w h : ℕ) (channels : List ModularChannelParams) → channels ≡ of_one_size n w h → one_picture (image_list channels).channels ≡ true
one_size_alike zero w h channels are = rw are refl
one_size_alike (suc n) w h channels are = rw are (all_of_one_picture n w h)
