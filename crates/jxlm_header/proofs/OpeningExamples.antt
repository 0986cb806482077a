-- Computed examples: errors before a tree, from bits.
use Rattle.std.specs.Prelude.{◌≡◌, ℕ, List, [], ◌∷◌, replicate, Some, Err, Ok, refl, false, true, codes}
use Rattle.jxlm_bits.specs.ErrorKind.{BadEnum, BadRct, BadSqueeze, NoGlobalTree, Eof}
use Rattle.jxlm_transform.specs.Channels.{image_list}
use Rattle.jxlm_transform.specs.Params.{channel_params}
use Rattle.jxlm_transform.specs.declared.param.ChannelShift.TheVariants.{Shifts}
use Rattle.jxlm_transform.specs.declared.param.ModularChannelParams.{ModularChannelParams}
use Rattle.jxlm_weighted.specs.WeightsHeader.{default_weights}
use Rattle.jxlm_header.specs.Opening.{opening}

-- channels of 2 by 2
abbrev squares : ℕ → List ModularChannelParams
squares n = replicate n (channel_params 2 2 (Shifts 0))

abbrev square : List ModularChannelParams
square = squares 1

-- Errors before the tree: no bit, a truncated header, a global tree that is not there.
nothing_there : (opening false (image_list square)).read [] 0 ≡ Err (record { error = Eof; position = Some 0 })
nothing_there = refl

truncated_header : (opening false (image_list square)).read (0x0E ∷ []) 0 ≡ Err (record { error = Eof; position = Some 2 })
truncated_header = refl

no_global_tree : (opening false (image_list square)).read (0x03 ∷ []) 0 ≡ Err (record { error = NoGlobalTree; position = Some 4 })
no_global_tree = refl

-- A kind of transform, and a predictor, that there is not; and a palette that is truncated at its predictor.
a_kind : (opening false (image_list square)).read (0x36 ∷ []) 0 ≡ Err (record { error = BadEnum (codes "TransformId") 3; position = Some 6 })
a_kind = refl

a_predictor : (opening false (image_list square)).read (0x16 ∷ 0x00 ∷ 0x00 ∷ 0x1C ∷ []) 0 ≡ Err (record { error = BadEnum (codes "MaProperty") 14; position = Some 29 })
a_predictor = refl

truncated_palette : (opening false (image_list square)).read (0x16 ∷ 0x00 ∷ 0x00 ∷ []) 0 ≡ Err (record { error = Eof; position = Some 23 })
truncated_palette = refl

-- A colour transform of two channels, and one of three, after which the global tree is missing.
two_channels : (opening false (image_list (squares 2))).read (0x06 ∷ 0x00 ∷ []) 0 ≡ Err (record { error = BadRct; position = Some 13 })
two_channels = refl

and_a_global_tree : (opening false (image_list (squares 3))).read (0x07 ∷ 0x00 ∷ []) 0 ≡ Err (record { error = NoGlobalTree; position = Some 13 })
and_a_global_tree = refl

-- A default squeeze of a channel that is small enough has no step.
small_squeeze : (opening false (image_list square)).read (0x26 ∷ []) 0 ≡ Ok (record { value = record { uses_global = false; has_palette = false; has_squeeze = true; weights = default_weights; coded = record { steps = []; list = image_list square } }; position = 8 })
small_squeeze = refl

-- the default squeeze of no channels
no_channels : (opening false (image_list [])).read (0x26 ∷ []) 0 ≡ Err (record { error = BadSqueeze; position = Some 8 })
no_channels = refl
