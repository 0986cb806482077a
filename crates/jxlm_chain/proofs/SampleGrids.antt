-- Grids of samples that have the sides of channels.
use Rattle.std.proofs.Common.{◌≡◌, List, [], ◌∷◌, ℤ}
use Rattle.std.specs.List.{All, AllZip}
use Rattle.std.specs.Int.{Width}
use Rattle.std.proofs.lemmas.List.Elements.{All-head, All-tail}
use Rattle.jxlm_base.specs.Grid.{Grid, IsFull}
use Rattle.jxlm_base.specs.SqueezedGrids.{AreGridSamples}
use Rattle.jxlm_transform.specs.Channels.{AreGridsOf, Channel}

-- each number is a w-bit sample
abbrev pub AreSampleGrids : Width → List (Grid ℤ) → Type 0
AreSampleGrids w gs = All (AreGridSamples w) gs

-- the grid has the channel's sides, and a w-bit sample in each cell
pub record IsGridOf (w : Width) (c : Channel) (g : Grid ℤ) : Type 0 where
  pub same_width : g.width ≡ c.width
  pub same_height : g.height ≡ c.height
  pub full : IsFull g
  pub samples : AreGridSamples w g

-- so has each of some grids
pub sampled : (w : Width) (cs : List Channel) (gs : List (Grid ℤ)) → AreGridsOf cs gs → AreSampleGrids w gs → AllZip (IsGridOf w) cs gs
sampled w [] [] a s = tt
sampled w [] (g ∷ gs) a s = absurd a
sampled w (c ∷ cs) [] a s = absurd a
sampled w (c ∷ cs) (g ∷ gs) a s = (
  record { same_width = a.0.same_width; same_height = a.0.same_height; full = a.0.full; samples = All-head (AreGridSamples w) g gs s },
  sampled w cs gs a.1 (All-tail (AreGridSamples w) g gs s),
)
