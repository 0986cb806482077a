-- What a header of its own makes of a part: its coded channels, where these lie, and the tables of its palettes
-- (ISO/IEC 18181-1, Modular: group sub-bitstreams).
use Rattle.std.specs.Prelude.{◌≡◌, ℕ, ◌+◌, ◌-◌, List, ◌++◌, length, take, ℤ}
use Rattle.std.specs.Int.{Width}
use Rattle.jxlm_base.specs.Grid.{Grid}
use Rattle.jxlm_base.specs.Regions.{AllLie, grids_in, store_meanings}
use Rattle.jxlm_base.specs.declared.subgrid.Region.{Region}
use Rattle.jxlm_chain.specs.Chain.{IsOnlyImage}
use Rattle.jxlm_chain.specs.Shape.{SameShape}
use Rattle.jxlm_header.specs.Opening.{Opening}
use Rattle.jxlm_samples.specs.Part.{Part}
use Rattle.jxlm_transform.specs.Channels.{Channel, ChannelList}
use Rattle.jxlm_transform.specs.ChannelSteps.{Step}
use Rattle.jxlm_transform.specs.Steps.{tables_of}
use Rattle.jxlm_tree.specs.Tree.{Config}
use Rattle.jxl_modular.specs.Image.{Image}
use Rattle.jxlm_nested.specs.Starts.{coded_part}

-- its header, with what it comes to; its tree; the part's channels, and their regions; the regions of the coded channels;
-- how many buffers there are, its tables among them; and the tables, those of headers around it first
pub record Layer (S D : Type 0) : Type 0 where
  pub head : Opening
  pub config : Config D
  pub given : List Channel
  pub held : List Region
  pub coded : List Region
  pub buffers : ℕ
  pub tables : List (Grid S)

-- channels of a part as a header of its own finds them: none is a meta channel
abbrev pub list_within : List Channel → ChannelList
list_within channels = record { channels = channels; nb_meta = 0 }

module _ {S D : Type 0} where
  -- the part's channels as the header finds them
  abbrev pub list_of : Layer S D → ChannelList
  list_of l = list_within l.given

  -- the steps of its transforms
  abbrev pub transforms_of : Layer S D → List Step
  transforms_of l = l.head.coded.steps

  -- its coded channels
  abbrev pub coded_channels : Layer S D → List Channel
  coded_channels l = l.head.coded.list.channels

  -- what is coded, read with this stream index
  abbrev pub part_of : Layer S D → ℕ → Part
  part_of l stream = coded_part stream l.head l.config

  -- the tables of headers around it
  abbrev pub outer_tables : Layer S D → List (Grid S)
  outer_tables l = take (length l.tables - length (tables_of (transforms_of l))) l.tables

  -- the image's buffers, and after them its tables
  abbrev pub store_of : Layer S D → Image S D → List (Grid S)
  store_of l x = x.store ++ l.tables

  -- the grids of its coded channels, of the numbers that the samples stand for
  abbrev pub coded_grids : (S → ℤ) → Layer S D → Image S D → List (Grid ℤ)
  coded_grids to_int l x = grids_in l.coded (store_meanings to_int (store_of l x))

  -- these grids of the part are the only ones that its transforms turn into those coded ones
  abbrev pub IsOnlyPart : Width → ℕ → Layer S D → List (Grid ℤ) → List (Grid ℤ) → Type 0
  IsOnlyPart w bit_depth l part coded = IsOnlyImage w bit_depth (transforms_of l) (list_of l) part coded

  -- Its part lies in the image's buffers and in tables of headers around it, and there are this number of buffers.
  pub record StandsIn (l : Layer S D) (x : Image S D) : Type 0 where
    pub lie : AllLie l.held (store_of l x)
    pub count : l.buffers ≡ length x.store + length l.tables

  -- all but cells of tables is as before
  pub record SameButTables (old new : Layer S D) : Type 0 where
    pub head : new.head ≡ old.head
    pub config : new.config ≡ old.config
    pub given : new.given ≡ old.given
    pub held : new.held ≡ old.held
    pub coded : new.coded ≡ old.coded
    pub buffers : new.buffers ≡ old.buffers
    pub shape : SameShape old.tables new.tables
