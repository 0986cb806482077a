-- The parts of small images.
use Rattle.std.proofs.Common.{◌≡◌, ℕ, List, [], ◌∷◌, map, true, false, ℤ, pos, Ok, Result, refl}
use Rattle.jxlm_bits.specs.ErrorKind.{ErrorKind, ◌>>=◌}
use Rattle.jxlm_transform.specs.Channels.{Channel, ChannelList, image_list}
use Rattle.jxlm_transform.specs.ChannelSteps.{CodedList, coded_list}
use Rattle.jxlm_transform.specs.Params.{channel_params}
use Rattle.jxlm_transform.specs.Transforms.{OfSqueeze}
use Rattle.jxlm_transform.specs.declared.param.ChannelShift.TheVariants.{Shifts}
use Rattle.jxlm_transform.specs.declared.param.ModularChannelParams.{ModularChannelParams}
use Rattle.jxlm_groups.specs.Passes.{Pass, can_group, passes_of}
use Rattle.jxlm_groups.specs.Cutting.{can_cut}
use Rattle.jxlm_groups.specs.Pieces.{part_channels, SectionPart, pieces}
use Rattle.jxlm_groups.specs.Counts.{exists, group_count}
use Rattle.jxlm_groups.specs.declared.part.Kind.TheVariants as kinds
use Rattle.jxlm_groups.specs.declared.part.SectionPart.TheVariants as parts

abbrev given : ℕ → ℕ → ℕ → ModularChannelParams
given w h s = channel_params w h (Shifts s)

abbrev all : List Pass
all = record { number = 0; first_shift = pos 0; end_shift = pos 3 } ∷ []

abbrev sizes : ℕ → ChannelList → SectionPart → List (ℕ × ℕ)
sizes dim l part = map (λ r. (r.width, r.height)) (pieces dim all l part)

-- 5 by 3 in groups of 2
abbrev narrow : ChannelList
narrow = image_list (given 5 3 0 ∷ [])

narrow_groups : map (λ g. sizes 2 narrow (parts.Pass 0 g)) (0 ∷ 1 ∷ 2 ∷ 3 ∷ 4 ∷ 5 ∷ 6 ∷ []) ≡
    ((2, 2) ∷ []) ∷ ((2, 2) ∷ []) ∷ ((1, 2) ∷ []) ∷ ((2, 1) ∷ []) ∷ ((2, 1) ∷ []) ∷ ((1, 1) ∷ []) ∷ [] ∷ []
narrow_groups = refl

narrow_global : sizes 2 narrow parts.Global ≡ []
narrow_global = refl

-- 16 by 16, squeezed by the default steps, in groups of 8
abbrev squeezed : (SectionPart → List (ℕ × ℕ)) × Result CodedList ErrorKind
squeezed = ((λ p. []), coded_list (OfSqueeze [] ∷ []) (image_list (given 16 16 0 ∷ [])))

squeezed_parts : (squeezed.1 >>= λ c. Ok (map (sizes 8 c.list) (parts.Global ∷ parts.Pass 0 0 ∷ parts.Pass 0 1 ∷ parts.Pass 0 2 ∷ parts.Pass 0 3 ∷ parts.Pass 0 4 ∷ parts.Lf 0 ∷ []))) ≡
    Ok (((8, 8) ∷ (8, 8) ∷ []) ∷ ((8, 4) ∷ []) ∷ ((8, 4) ∷ []) ∷ ((8, 4) ∷ []) ∷ ((8, 4) ∷ []) ∷ [] ∷ [] ∷ [])
squeezed_parts = refl

-- 40 by 40 of shift 3 in groups of 4
abbrev shifted : ChannelList
shifted = image_list (given 40 40 3 ∷ [])

shifted_groups : map (λ g. sizes 4 shifted (parts.Lf g)) (0 ∷ 1 ∷ 2 ∷ 3 ∷ 4 ∷ []) ≡ ((4, 4) ∷ []) ∷ ((1, 4) ∷ []) ∷ ((4, 1) ∷ []) ∷ ((1, 1) ∷ []) ∷ [] ∷ []
shifted_groups = refl

-- a cell side of 0
too_small : can_cut 4 (image_list (given 320 320 6 ∷ [])) ≡ false
too_small = refl

-- how many groups there are: 6 of 5 by 3 in groups of 2, 4 LF groups of the shifted one, and none where no channel is cut so
counts : map (λ k. group_count 2 all narrow k) (kinds.Pass 0 ∷ kinds.Lf ∷ kinds.Pass 1 ∷ []) ≡ 6 ∷ 0 ∷ 0 ∷ []
counts = refl

low_counts : map (λ k. group_count 4 all shifted k) (kinds.Lf ∷ kinds.Pass 0 ∷ []) ≡ 4 ∷ 0 ∷ []
low_counts = refl

existing : map (exists 2 all narrow) (parts.Global ∷ parts.Pass 0 5 ∷ parts.Pass 0 6 ∷ parts.Pass 1 0 ∷ parts.Lf 0 ∷ []) ≡ true ∷ true ∷ false ∷ false ∷ false ∷ []
existing = refl

-- a group's channel: its original size is shifted back
abbrev sides_of : Channel → List ℕ
sides_of c = c.width ∷ c.height ∷ c.original_width ∷ c.original_height ∷ []

shifted_channels : map sides_of (part_channels 4 all shifted (parts.Lf 1)) ≡ (1 ∷ 4 ∷ 8 ∷ 32 ∷ []) ∷ []
shifted_channels = refl

-- which images can be cut into groups: by one pass for all shifts, by two; not without shift 2, without a pass, or with a
-- pass's number above 255
abbrev maps : List (List (ℕ × (ℤ × ℤ)))
maps =
    ((0, (pos 0, pos 3)) ∷ []) ∷ ((0, (pos 0, pos 1)) ∷ (1, (pos 1, pos 3)) ∷ []) ∷ ((0, (pos 0, pos 2)) ∷ []) ∷ [] ∷
    ((256, (pos 0, pos 3)) ∷ []) ∷ []

grouped : map (λ e. can_group (passes_of e) narrow.channels) maps ≡ true ∷ true ∷ false ∷ false ∷ false ∷ []
grouped = refl

-- pictures of unlike sides are not cut
unlike : can_group all (image_list (given 5 3 0 ∷ given 5 4 0 ∷ [])).channels ≡ false
unlike = refl
