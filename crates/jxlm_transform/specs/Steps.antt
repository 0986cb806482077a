-- The steps that transforms come to: palettes' channels, weights and tables.
use Rattle.std.specs.Prelude.{◌≡◌, ◌≤◌, ◌⊎◌, ℕ, List, [], ◌∷◌, ◌++◌, Some, None}
use Rattle.std.specs.List.{All}
use Rattle.jxlm_weighted.specs.declared.weights.WpHeader.{WpHeader}
use Rattle.jxlm_transform.specs.ChannelSteps.{Step, RctStep, PaletteStep, SqueezeStep, listed_steps}
use Rattle.jxlm_transform.specs.Params.{IsSide}
use Rattle.jxlm_transform.specs.Transforms.{Transform}

-- the steps that transforms list
abbrev pub steps_in : List Transform → List Step
steps_in [] = []
steps_in (t ∷ ts) = listed_steps t ++ steps_in ts

-- a palette stands for a channel or more
abbrev pub HasChannels : Step → Type 0
HasChannels (RctStep t) = Unit {0}
HasChannels (PaletteStep t) = 1 ≤ t.num_c
HasChannels (SqueezeStep t) = Unit {0}

-- a palette has no weights, or these
abbrev pub HasWeights : WpHeader → Step → Type 0
HasWeights weights (RctStep t) = Unit {0}
HasWeights weights (PaletteStep t) = (t.wp_header ≡ None) ⊎ (t.wp_header ≡ Some weights)
HasWeights weights (SqueezeStep t) = Unit {0}

-- the sides of a buffer
pub record Sides : Type 0 where
  pub width : ℕ
  pub height : ℕ

-- the buffers of the tables of steps, in order
abbrev pub tables_of : List Step → List Sides
tables_of [] = []
tables_of (RctStep t ∷ ss) = tables_of ss
tables_of (PaletteStep t ∷ ss) = record { width = t.nb_colours; height = t.num_c } ∷ tables_of ss
tables_of (SqueezeStep t ∷ ss) = tables_of ss

-- no side of a table is above 2 ^ 30
abbrev pub HasNarrowTables : List Step → Type 0
HasNarrowTables ss = All (λ s. IsSide s.width × IsSide s.height) (tables_of ss)
