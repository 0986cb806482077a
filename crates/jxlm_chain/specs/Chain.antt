-- What transforms make of an image's samples, up to the coded channels (ISO/IEC 18181-1, Modular: inverse transforms).
use Rattle.std.specs.Prelude.{◌≡◌, ℕ, List, [], ◌∷◌, ℤ, Ok}
use Rattle.std.specs.List.{All}
use Rattle.std.specs.Int.{Width}
use Rattle.jxlm_base.specs.Grid.{Grid}
use Rattle.jxlm_base.specs.SqueezedGrids.{AreGridSamples}
use Rattle.jxlm_transform.specs.Channels.{AreGridsOf, ChannelList}
use Rattle.jxlm_transform.specs.ChannelSteps.{Step, RctStep, PaletteStep, SqueezeStep, range, with_range, with_each_halved, list_after}
use Rattle.jxlm_inverse.specs.Palette.{IsPaletteOf}
use Rattle.jxlm_inverse.specs.Recoloured.{recolour}
use Rattle.jxlm_inverse.specs.UndoneSqueeze.{average_grid, residual_grid}

-- w bits a sample in memory, depth bits in the picture
module _ (w : Width) (depth : ℕ) where
  -- one step codes grids, by colour or squeeze of w-bit samples, as those after it; grids out of its range stay
  abbrev pub Codes : Step → List (Grid ℤ) → List (Grid ℤ) → Type 0
  Codes (RctStep t) before after =
      All (AreGridSamples w) (range t.begin_c 3 before) × (after ≡ with_range t.begin_c 3 (recolour w t.rct_type (range t.begin_c 3 before)) before)
  Codes (PaletteStep t) before after =
      (table : Grid ℤ) × (index : Grid ℤ) × IsPaletteOf w depth t table index (range t.begin_c t.num_c before) × (after ≡ table ∷ with_range t.begin_c t.num_c (index ∷ []) before)
  Codes (SqueezeStep t) before after =
      All (AreGridSamples w) (range t.begin_c t.num_c before) × (after ≡ with_each_halved t (average_grid w t.horizontal) (residual_grid w t.horizontal) before)

  -- The image, of the channels of a list, becomes the coded grids, by way of grids for the channels after each step.
  abbrev pub Chain : List Step → ChannelList → List (Grid ℤ) → List (Grid ℤ) → Type 0
  Chain [] l image coded = AreGridsOf l.channels image × (coded ≡ image)
  Chain (s ∷ ss) l image coded =
      AreGridsOf l.channels image × (m : ChannelList) × (next : List (Grid ℤ)) × (list_after s l ≡ Ok m) × Codes s image next × Chain ss m next coded

  -- The image is the only one that becomes these coded grids.
  pub record IsOnlyImage (steps : List Step) (l : ChannelList) (image coded : List (Grid ℤ)) : Type 0 where
    pub chain : Chain steps l image coded
    pub only : (other : List (Grid ℤ)) → Chain steps l other coded → other ≡ image

  -- No two images become the same coded grids.
  abbrev pub NoTwoImages : Type 0
  NoTwoImages = (steps : List Step) (l : ChannelList) (image other coded : List (Grid ℤ)) → Chain steps l image coded → Chain steps l other coded → image ≡ other
