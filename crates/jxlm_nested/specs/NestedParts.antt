-- A part with a header of its own, as a program keeps it.
use Rattle.std.specs.Prelude.{◌≡◌, ◌≤◌, ◌⊎◌, ℕ, ◌*◌, ℤ, List, ◌++◌, length, take, Bool, not, Option, Some, Result, Ok, Err}
use Rattle.std.specs.List.{All}
use Rattle.std.specs.Int.{Width}
use Rattle.jxlm_bits.specs.Decoding.{Meaning}
use Rattle.jxlm_bits.specs.ErrorKind.{NoMemory, kind_of}
use Rattle.jxlm_base.specs.Grid.{Grid}
use Rattle.jxlm_base.specs.Regions.{AllLie, LieApart}
use Rattle.jxlm_bits.specs.declared.error.Error.{Error}
use Rattle.jxlm_base.specs.declared.subgrid.Region.{Region}
use Rattle.jxlm_transform.specs.Layout.{Layout}
use Rattle.jxlm_chain.specs.Placed.{IsPlacedBy, sides_in}
use Rattle.jxlm_chain.specs.Steps.{CanUndoAll, IsNarrowStore}
use Rattle.jxlm_chain.specs.Undo.{UndoesAll}
use Rattle.jxlm_chain.specs.Undoings.{SuitsWeights, undos_of}
use Rattle.jxlm_header.specs.Opening.{Opening}
use Rattle.jxlm_samples.specs.Decode.{MovesWithin}
use Rattle.jxlm_transform.specs.Channels.{AreRegionsOf, Channel, ChannelList, IsNarrow}
use Rattle.jxlm_transform.specs.Lists.{layout_of, list_of}
use Rattle.jxlm_weighted.specs.SelfCorrecting.{IsHeader}
use Rattle.jxlm_tree.specs.Steps.{most_steps}
use Rattle.jxlm_tree.specs.Tree.{Config}
use Rattle.jxlm_nested.specs.Zeros.{zeros}
use Rattle.jxlm_nested.specs.Opened.{IsOpened, opened_of, steps_of_header}
use Rattle.jxlm_nested.specs.Nested.{PartTurn, Turn}
use Rattle.jxlm_nested.specs.Starts.{IsStartAt, coded_part}
use Rattle.jxlm_nested.specs.declared.nested.NestedPart.{NestedPart}

-- the channels of a part as a header finds them: none is a meta channel
abbrev pub nested_list : List Channel → ChannelList
nested_list cs = record { channels = cs; nb_meta = 0 }

-- where they lie in a store of n buffers
abbrev pub nested_places : List Region → ℕ → Layout
nested_places regions n = record { regions = regions; buffers = n }

module _ {D : Type 0} where
  -- its header, with what it comes to
  abbrev pub head_of : NestedPart D → Opening
  head_of n = opened_of (n.header, n.placed)

  -- its coded channels, and their regions
  abbrev pub nested_channels : NestedPart D → List Channel
  nested_channels n = (list_of n.placed.channels).channels

  abbrev pub regions_in : NestedPart D → List Region
  regions_in n = (layout_of n.placed.channels).regions

  -- header and tree of a part of these channels, in these places, stand at position p, up to q
  pub record IsNested (d : Meaning D) (global : Option (Config D)) (bytes : List ℕ) (list : ChannelList) (places : Layout) (p : ℕ) (n : NestedPart D) (q : ℕ) : Type 0 where
    pub start : IsStartAt d global bytes list p (head_of n) n.config q
    pub opened : IsOpened list (n.header, n.placed)
    pub placed : IsPlacedBy (steps_of_header n.header) places n.placed

  -- Its coded channels lie in the store, and what undoes its transforms can be run there.
  pub record CanFill {X : Type 0} (n : NestedPart D) (store : List (Grid X)) : Type 0 where
    pub sizes : AreRegionsOf (nested_channels n) (regions_in n)
    pub narrow : All IsNarrow (nested_channels n)
    pub few : length (nested_channels n) ≤ 65536
    pub weights : IsHeader n.header.wp_params
    pub lie : AllLie (regions_in n) store
    pub apart : LieApart (regions_in n)
    pub undo : CanUndoAll store (undos_of n.placed.undoings.items)
    pub suits : All (SuitsWeights (Some n.header.wp_params)) (undos_of n.placed.undoings.items)
    pub narrow_store : IsNarrowStore store

  -- the store with its tables, whose cells are 0
  abbrev pub with_own_tables : {X : Type 0} → X → NestedPart D → List (Grid X) → List (Grid X)
  with_own_tables zero n store = store ++ zeros zero (sides_in n.placed.tables.items)

module _ {S D : Type 0} (d : Meaning D) (w : Width) (to_int : S → ℤ) (bytes : List ℕ) (stream : ℕ) (p : ℕ) (n : NestedPart D) (partly : Bool) where
  -- what decoding its samples from position p returns
  abbrev pub Decodes : Result (Unit {0}) Error → Turn → List (Grid S) → List (Grid S) → Type 0
  Decodes = PartTurn d w to_int (coded_part stream (head_of n) n.config) bytes n.config.decoder p (regions_in n) partly

  -- the same, and whether all samples were decoded
  abbrev pub DecodesTo : Result Bool Error → Turn → List (Grid S) → List (Grid S) → Type 0
  DecodesTo (Ok whole) t old now = Decodes (Ok tt) t old now × (whole ≡ not t.partial)
  DecodesTo (Err e) t old now = Decodes (Err e) t old now

  -- what decoding and undoing returns
  abbrev pub Fills : ℕ → Result Bool Error → Turn → List (Grid S) → List (Grid S) → Type 0
  Fills bit_depth (Ok whole) t old new = (now : List (Grid S)) × Decodes (Ok tt) t old now
      × UndoesAll to_int w bit_depth (undos_of n.placed.undoings.items) now new × (whole ≡ not t.partial)
  Fills bit_depth (Err e) t old new = (answer : Result (Unit {0}) Error) × Decodes answer t old new
      × ((answer ≡ Err e) ⊎ ((answer ≡ Ok tt) × (kind_of e ≡ NoMemory)))

  -- the same in a store that the tables are added to, and cut off again; it may be out of memory for them
  abbrev pub FillsIn : S → ℕ → Result Bool Error → Turn → List (Grid S) → List (Grid S) → Type 0
  FillsIn zero bit_depth (Ok whole) t old new = (last : List (Grid S)) × Fills bit_depth (Ok whole) t (with_own_tables zero n old) last × (new ≡ take (length old) last)
  FillsIn zero bit_depth (Err e) t old new =
      ((kind_of e ≡ NoMemory) × (new ≡ old) × (t.tried ≡ 0))
      ⊎ ((last : List (Grid S)) × Fills bit_depth (Err e) t (with_own_tables zero n old) last × (new ≡ take (length old) last))

-- a turn that left the reader at position q, and what it took of steps
abbrev pub WithSteps : (Turn → Type 0) → ℕ → ℕ → ℕ → Type 0
WithSteps P q before after = (t : Turn) × P t × (t.position ≡ q) × MovesWithin before after (t.tried * most_steps t.tree)
