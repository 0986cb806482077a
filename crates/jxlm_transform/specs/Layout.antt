-- Where samples lie in a store: the regions of an image's channels, before each step and after it.
use Rattle.std.specs.Prelude.{ℕ, suc, List, [], ◌∷◌, ◌++◌, length, map, get_or}
use Rattle.std.specs.List.{AllZip}
use Rattle.jxlm_base.specs.Grid.{Grid}
use Rattle.jxlm_base.specs.Regions.{region}
use Rattle.jxlm_base.specs.declared.subgrid.Region.{Region}
use Rattle.jxlm_transform.specs.Channels.{Channel, HasSides}
use Rattle.jxlm_transform.specs.ChannelSteps.{Step, RctStep, PaletteStep, SqueezeStep, with_range, with_each_halved}
use Rattle.jxlm_transform.specs.SqueezedRegions.{average_region, residual_region}
use Rattle.jxlm_transform.specs.Steps.{Sides, tables_of}

-- a region for each channel, and how many buffers are taken so far
pub record Layout : Type 0 where
  pub regions : List Region
  pub buffers : ℕ

-- each channel in a buffer of its own, the first in buffer b
abbrev pub whole_regions : ℕ → List Channel → List Region
whole_regions b [] = []
whole_regions b (c ∷ cs) = region b 0 0 c.width c.height ∷ whole_regions (suc b) cs

-- before all steps
abbrev pub first_layout : List Channel → Layout
first_layout cs = record { regions = whole_regions 0 cs; buffers = length cs }

-- the region that is given where there is none
abbrev pub no_region : Region
no_region = region 0 0 0 0 0

-- after a step: a table has the next buffer, its indices lie where its first channel lay, a squeezed region is divided
abbrev pub layout_after : Step → Layout → Layout
layout_after (RctStep t) l = l
layout_after (PaletteStep t) l = record {
  regions = region l.buffers 0 0 t.nb_colours t.num_c ∷ with_range t.begin_c t.num_c (get_or l.regions t.begin_c no_region ∷ []) l.regions;
  buffers = suc l.buffers;
}
layout_after (SqueezeStep t) l = record {
  regions = with_each_halved t (average_region t.horizontal) (residual_region t.horizontal) l.regions;
  buffers = l.buffers;
}

-- after all steps
abbrev pub layout_after_all : List Step → Layout → Layout
layout_after_all [] l = l
layout_after_all (s ∷ ss) l = layout_after_all ss (layout_after s l)

-- the buffers of channels that have one each
abbrev pub sides_of : List Channel → List Sides
sides_of cs = map (λ c. record { width = c.width; height = c.height }) cs

-- the buffers of an image of these channels and steps: those of the channels, and then those of the tables
abbrev pub buffers_of : List Channel → List Step → List Sides
buffers_of cs ss = sides_of cs ++ tables_of ss

-- the store's buffers are of these sides
abbrev pub HasBuffers : {S : Type 0} → List Sides → List (Grid S) → Type 0
HasBuffers sides store = AllZip (λ s g. HasSides s.width s.height g) sides store
