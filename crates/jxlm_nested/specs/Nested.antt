-- What decoding a part with a header of its own leaves (ISO/IEC 18181-1, Modular: group sub-bitstreams).
use Rattle.std.specs.Prelude.{◌≡◌, ◌⊎◌, ℕ, ◌+◌, ◌*◌, ℤ, List, ◌++◌, length, take, Bool, nat_lt, Option, Result, Ok, Err}
use Rattle.std.specs.Int.{Width}
use Rattle.jxlm_bits.specs.Decoding.{Meaning}
use Rattle.jxlm_bits.specs.ErrorKind.{NoMemory, UnlessMemory, kind_of}
use Rattle.jxlm_bits.specs.Grammar.{IsErrorAt}
use Rattle.jxlm_base.specs.Grid.{Grid}
use Rattle.jxlm_base.specs.Outside.{KeepsOutside}
use Rattle.jxlm_base.specs.Regions.{grids_in, store_meanings}
use Rattle.jxlm_bits.specs.declared.error.Error.{Error}
use Rattle.jxlm_base.specs.declared.subgrid.Region.{Region}
use Rattle.jxlm_chain.specs.Chain.{IsOnlyImage}
use Rattle.jxlm_transform.specs.Layout.{layout_after_all}
use Rattle.jxlm_samples.specs.Decode.{DecodeGives}
use Rattle.jxlm_samples.specs.Part.{Part, cell_count}
use Rattle.jxlm_samples.specs.Placed.{standing_in}
use Rattle.jxlm_transform.specs.Channels.{ChannelList}
use Rattle.jxlm_transform.specs.ChannelSteps.{Step}
use Rattle.jxlm_transform.specs.Steps.{tables_of}
use Rattle.jxlm_tree.specs.Tree.{Config, Shape, depth}
use Rattle.jxlm_ma_tree.specs.declared.leaf.Leaf.{Leaf}
use Rattle.jxlm_nested.specs.Zeros.{zeros}
use Rattle.jxlm_nested.specs.Starts.{IsTreeErrorAt, Start, coded_part, opening_at}

-- what decoding a part shows beside samples: the reader's position, if some are missing, how many were tried, the tree
pub record Turn : Type 0 where
  pub position : ℕ
  pub partial : Bool
  pub tried : ℕ
  pub tree : Shape Leaf

-- the nodes of a turn: for each sample tried as many as the tree is deep, and one more
abbrev pub most : Turn → ℕ
most t = t.tried * (depth t.tree + 1)

-- where the channels of a header within a part lie: in the part's regions of a store, and in tables after its buffers
abbrev pub nested_regions : {S : Type 0} → List Region → List Step → List (Grid S) → List Region
nested_regions regions steps store = (layout_after_all steps (record { regions = regions; buffers = length store })).regions

-- a store, and after it the tables, whose cells are 0
abbrev pub with_tables : {S : Type 0} → S → List Step → List (Grid S) → List (Grid S)
with_tables zero steps store = store ++ zeros zero (tables_of steps)

-- an error before the first sample, for this reason: nothing changed
pub record NotBegun {S : Type 0} (reason : Type 0) (t : Turn) (old new : List (Grid S)) : Type 0 where
  pub because : reason
  pub unchanged : new ≡ old
  pub tries : t.tried ≡ 0

-- what decoding a part's samples from bit p returns and leaves in its regions of a store; cells of other parts stay
pub record PartTurn {S D : Type 0} (d : Meaning D) (w : Width) (to_int : S → ℤ) (part : Part) (bytes : List ℕ) (decoder : D)
    (p : ℕ) (regions : List Region) (partly : Bool) (result : Result (Unit {0}) Error) (t : Turn) (old new : List (Grid S)) : Type 0 where
  pub answers : DecodeGives d w part bytes decoder
      (standing_in to_int regions old p (nat_lt 0 (cell_count part.channels)))
      (standing_in to_int regions new t.position t.partial) partly result t.tried
  pub outside : KeepsOutside regions old new
  pub tree : t.tree ≡ part.tree

-- a part that begins at bit position p: its channels, its regions in the store, and the index of its stream
module _ {S D : Type 0} (d : Meaning D) (w : Width) (to_int : S → ℤ) (zero : S) (bit_depth : ℕ) (global : Option (Config D)) (bytes : List ℕ) (p : ℕ) (list : ChannelList) (regions : List Region) (stream : ℕ) where
  -- the turn of its samples, where header and tree end, in a store with the tables
  abbrev pub NestedDecodes : Bool → Start d global bytes list p → Result (Unit {0}) Error → Turn → List (Grid S) → List (Grid S) → Type 0
  NestedDecodes partly s result t store now =
      PartTurn d w to_int (coded_part stream s.head s.config) bytes s.config.decoder s.samples_at
      (nested_regions regions s.head.coded.steps store) partly result t (with_tables zero s.head.coded.steps store) now

  -- Ok: its samples were decoded, and what the part has then is the only image that the transforms turn into them.
  pub record NestedDone (partly : Bool) (t : Turn) (old new : List (Grid S)) : Type 0 where
    pub start : Start d global bytes list p
    pub now : List (Grid S)
    pub decoded : NestedDecodes partly start (Ok tt) t old now
    pub only : IsOnlyImage w bit_depth start.head.coded.steps list (grids_in regions (store_meanings to_int new)) (grids_in (nested_regions regions start.head.coded.steps old) (store_meanings to_int now))
    pub outside : KeepsOutside regions old new

  -- decoding returns this error, or it is out of memory after it: the samples stay as decoding left them, without tables
  pub record NestedStops (partly : Bool) (e : Error) (t : Turn) (old new : List (Grid S)) : Type 0 where
    pub start : Start d global bytes list p
    pub now : List (Grid S)
    pub answer : Result (Unit {0}) Error
    pub decoded : NestedDecodes partly start answer t old now
    pub cause : (answer ≡ Err e) ⊎ ((answer ≡ Ok tt) × (kind_of e ≡ NoMemory))
    pub cut : new ≡ take (length old) now

  -- what decoding the part returns and leaves: before its first sample an error of header or tree, or of memory
  abbrev pub NestedTurn : Bool → Result (Unit {0}) Error → Turn → List (Grid S) → List (Grid S) → Type 0
  NestedTurn partly (Ok u) t old new = NestedDone partly t old new
  NestedTurn partly (Err e) t old new =
      NotBegun (UnlessMemory (kind_of e) (IsErrorAt (opening_at global bytes list p) (kind_of e) t.position ⊎ IsTreeErrorAt d global bytes list p (kind_of e) t.position)) t old new
      ⊎ NestedStops partly e t old new
