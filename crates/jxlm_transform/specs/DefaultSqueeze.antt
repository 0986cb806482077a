-- What the default squeeze comes to: how many steps it has, and the sides that it leaves (ISO/IEC 18181-1, Modular: squeeze).
use Rattle.std.specs.Prelude.{◌≡◌, ℕ, ◌^◌, ◌<◌, ◌≤◌, List, [], ◌∷◌, ◌++◌, length, slice_get, count_by, not, All, Ok, Some}
use Rattle.std.specs.Int.{div_ceil}
use Rattle.jxlm_transform.specs.Channels.{Channel, ChannelList}
use Rattle.jxlm_transform.specs.ChannelSteps.{Step, default_of_chroma, default_squeeze, list_after_all, step_of_all, steps_of}
use Rattle.jxlm_transform.specs.Transforms.{OfSqueeze}
use Rattle.jxlm_transform.specs.declared.transform.SqueezeParams.{SqueezeParams}

-- a side that is halved k times, rounded up
abbrev pub halved_side : ℕ → ℕ → ℕ
halved_side k side = div_ceil side (2 ^ k)

-- k is the least number of halvings after which a side is at most 8
abbrev pub IsLeastToEight : ℕ → ℕ → Type 0
IsLeastToEight k side = (halved_side k side ≤ 8) × ((j : ℕ) → j < k → 8 < halved_side j side)

-- squeezes of all n channels from f on, in place: as many across and as many down as it takes to halve the sides of c to at most 8
pub record HalveAll (f n : ℕ) (c : Channel) (steps : List SqueezeParams) : Type 0 where
  pub each : All (λ s. s ≡ step_of_all f n s.horizontal) steps
  pub across : IsLeastToEight (count_by (λ s. s.horizontal) steps) c.width
  pub down : IsLeastToEight (count_by (λ s. not s.horizontal) steps) c.height

-- the default squeeze of the channels from f on, which are c and cs: the steps of chroma, and after them such squeezes of all of them
abbrev pub TakesFewestSteps : Type 0
TakesFewestSteps = (f : ℕ) (c : Channel) (cs : List Channel) →
    (steps : List SqueezeParams) ×
    (default_squeeze f (c ∷ cs) ≡ Ok (default_of_chroma f (c ∷ cs) ++ steps)) ×
    HalveAll f (length (c ∷ cs)) c steps

-- where the default squeeze of a list applies, the first channel that is not meta has no side above 8 afterwards
abbrev pub LeavesSmallSides : Type 0
LeavesSmallSides = (l m : ChannelList) (steps : List Step) →
    steps_of (OfSqueeze []) l ≡ Ok steps → list_after_all steps l ≡ Ok m →
    (c : Channel) × (slice_get m.channels l.nb_meta ≡ Some c) × (c.width ≤ 8) × (c.height ≤ 8)
