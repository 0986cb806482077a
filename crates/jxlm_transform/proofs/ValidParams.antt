-- Parameters of channels of one size.
use Rattle.std.proofs.Common.{◌^◌, ◌≤◌, length, refl, subst, sym, arith, List}
use Rattle.std.proofs.Math.Nat.{pow-le-pow_right}
use Rattle.std.proofs.lemmas.List.{length-replicate}
use Rattle.std.proofs.lemmas.List.Elements.{All-replicate}
use Rattle.std.specs.List.{All}
use Rattle.jxlm_transform.specs.Params.{IsValidChannel, OneSizeIsValid, OneSizeOfImageIsValid, PowersAreGroupDims, channel_params}
use Rattle.jxlm_transform.specs.declared.param.ChannelShift.TheVariants.{Shifts}
use Rattle.jxlm_transform.specs.declared.param.ModularChannelParams.{ModularChannelParams}

pub one_size_is_valid : OneSizeIsValid
one_size_is_valid n width height wide high = All-replicate IsValidChannel n (channel_params width height (Shifts 0)) (wide, high, omega arith)

pub one_size_of_image_is_valid : (D : Type 0) → OneSizeOfImageIsValid D
one_size_of_image_is_valid D p n width height channels few wide high group_dim deep =
    record {
      group_dim = group_dim;
      bit_depth = deep;
      count = subst (λ (cs : List ModularChannelParams). length cs ≤ 2 ^ 20) (sym channels) (rw (length-replicate n (channel_params width height (Shifts 0))) few);
      channels = subst (λ (cs : List ModularChannelParams). All IsValidChannel cs) (sym channels) (one_size_is_valid n width height wide high);
    }

pub powers_are_group_dims : PowersAreGroupDims
powers_are_group_dims k low high =
    (pow-le-pow_right {n = 2} (omega arith) {i = 1} {j = k} low, pow-le-pow_right {n = 2} (omega arith) {i = k} {j = 20} high, (k, refl))
