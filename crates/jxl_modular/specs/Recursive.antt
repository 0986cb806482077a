-- Parts by headers of their own, held for decoding and finishing: what reading one gives, and what calls on it leave
-- (ISO/IEC 18181-1, Modular: group sub-bitstreams).
use Rattle.std.specs.Prelude.{◌≡◌, ◌↔◌, ◌<◌, ◌*◌, ◌⊎◌, ℕ, ℤ, List, ◌++◌, length, Bool, IsTrue, Option, Result}
use Rattle.std.specs.Borrow.{GName}
use Rattle.std.specs.Int.{Width}
use Rattle.jxlm_bits.specs.Decoding.{Meaning}
use Rattle.jxlm_bits.specs.ErrorKind.{UnlessMemory, kind_of}
use Rattle.jxlm_bits.specs.Grammar.{IsErrorAt}
use Rattle.jxlm_base.specs.Grid.{Grid}
use Rattle.jxlm_base.specs.Outside.{KeepsOutside}
use Rattle.jxlm_base.specs.Regions.{grids_in, store_meanings}
use Rattle.jxlm_bits.specs.declared.decoder.Decoder as decoders
use Rattle.jxlm_bits.specs.declared.error.Error.{Error}
use Rattle.jxlm_base.specs.declared.subgrid.Region.{Region}
use Rattle.jxlm_samples.specs.Decode.{DecodeGives, MovesWithin}
use Rattle.jxlm_samples.specs.Part.{cell_count}
use Rattle.jxlm_samples.specs.Placed.{standing_in}
use Rattle.jxlm_transform.specs.Channels.{Channel}
use Rattle.jxlm_tree.specs.Steps.{most_steps}
use Rattle.jxlm_tree.specs.Tree.{Config}
use Rattle.jxl_modular.specs.Image.{Image}
use Rattle.jxl_modular.specs.Layers.{IsOnlyPart, Layer, SameButTables, coded_channels, coded_grids, list_within, outer_tables, part_of, store_of, transforms_of}
use Rattle.jxlm_nested.specs.Nested.{nested_regions, with_tables}
use Rattle.jxlm_nested.specs.Starts.{IsStartAt, IsTreeErrorAt, opening_at}
use Rattle.jxl_modular.specs.SameButCells.{SameButIn}
use Rattle.jxl_modular.specs.declared.recursive.HoldsHeader as holders
use Rattle.jxl_modular.specs.declared.recursive.NestedSubimage.{NestedSubimage}
use Rattle.jxl_modular.specs.declared.recursive.RecursiveModularImage.{RecursiveModularImage}

-- what reading a part's own header and tree at position p gives, whose channels and regions these are
module _ {S D : Type 0} (d : Meaning D) (zero : S) (global : Option (Config D)) (bytes : List ℕ) (channels : List Channel) (p : ℕ) where
  -- Ok: the bits up to q code them. The store is that of the image and of headers around it; the header's own tables
  -- come after it, and their cells are 0.
  pub record IsReadIn (held : List Region) (x : Image S D) (outer : List (Grid S)) (l : Layer S D) (q : ℕ) : Type 0 where
    pub start : IsStartAt d global bytes (list_within channels) p l.head l.config q
    pub given : l.given ≡ channels
    pub held_is : l.held ≡ held
    pub coded : l.coded ≡ nested_regions held (transforms_of l) (x.store ++ outer)
    pub tables : l.tables ≡ with_tables zero (transforms_of l) outer

  -- Err: that of the header, of the first transform that does not suit the channels, of the first condition that does not
  -- hold, or of the tree; it may be out of memory at any time
  abbrev pub ReadFails : Error → ℕ → Type 0
  ReadFails e q =
      UnlessMemory (kind_of e) (IsErrorAt (opening_at global bytes (list_within channels) p) (kind_of e) q ⊎ IsTreeErrorAt d global bytes (list_within channels) p (kind_of e) q)

module _ {S D : Type 0} (d : Meaning D) (w : Width) (to_int : S → ℤ) where
  -- what decoding the samples of a part by its own header returns, with what is before and after
  abbrev pub LayerGives : List ℕ → ℕ → Layer S D → Image S D → ℕ → Bool → ℕ → Layer S D → Image S D → ℕ → Bool → ℕ → Bool → Result (Unit {0}) Error → Type 0
  LayerGives bytes stream l old p partial before m new q still after allow result =
      (tried : ℕ) × DecodeGives d w (part_of l stream) bytes l.config.decoder
      (standing_in to_int l.coded (store_of l old) p partial) (standing_in to_int l.coded (store_of m new) q still) allow result tried
      × MovesWithin before after (tried * most_steps l.config.tree)

-- only samples of the part, and cells of its own tables, may differ
pub record SameButPart {S D : Type 0} (l m : Layer S D) (old new : Image S D) : Type 0 where
  pub layer : SameButTables l m
  pub image : SameButIn l.held old new
  pub outside : KeepsOutside l.coded (store_of l old) (store_of m new)

-- The part has the only image of its samples. What of it lay in tables of headers around it is given up with these.
pub record IsUndone {S D : Type 0} (w : Width) (to_int : S → ℤ) (l : Layer S D) (old new : Image S D) : Type 0 where
  pub outer : List (Grid S)
  pub count : length outer ≡ length (outer_tables l)
  pub only : IsOnlyPart w old.bit_depth l (grids_in l.held (store_meanings to_int (new.store ++ outer))) (coded_grids to_int l old)

module _ {S D : Type 0} {d : decoders.Ghosts D} where
  -- the image that a part's own header is read for, as it is now, and the name of its borrow
  abbrev pub image_in : RecursiveModularImage S D d → Image S D
  image_in r = r.image.now

  abbrev pub loan_in : RecursiveModularImage S D d → GName
  loan_in r = r.image.ghost_name

  -- the header
  abbrev pub layer_in : RecursiveModularImage S D d → Layer S D
  layer_in r = r.header

module _ {S D H : Type 0} {d : decoders.Ghosts D} {g : holders.Ghosts H S D} where
  -- the same of what is decoded by it
  abbrev pub image_of : NestedSubimage S D H d g → Image S D
  image_of p = p.image.now

  abbrev pub loan : NestedSubimage S D H d g → GName
  loan p = p.image.ghost_name

  abbrev pub layer_of : NestedSubimage S D H d g → Layer S D
  layer_of p = g.layer p.header

  -- its coded channels
  abbrev pub channels_of : NestedSubimage S D H d g → List Channel
  channels_of p = coded_channels (layer_of p)

  -- whether samples are still to be decoded
  abbrev pub is_partial : NestedSubimage S D H d g → Bool
  is_partial p = p.partial

  -- how many nodes of trees were looked at
  abbrev pub steps_of : NestedSubimage S D H d g → ℕ
  steps_of p = p.steps

  -- partial where there are samples, and without a step
  pub record IsNew (p : NestedSubimage S D H d g) : Type 0 where
    pub partial : IsTrue (is_partial p) ↔ (0 < cell_count (channels_of p))
    pub steps : steps_of p ≡ 0

  -- what decoding returns, with the reader's positions before and after
  abbrev pub PartGives : Meaning D → Width → (S → ℤ) → List ℕ → ℕ → NestedSubimage S D H d g → ℕ → NestedSubimage S D H d g → ℕ → Bool → Result (Unit {0}) Error → Type 0
  PartGives m w to_int bytes stream old p new q allow result =
      LayerGives m w to_int bytes stream (layer_of old) (image_of old) p (is_partial old) (steps_of old) (layer_of new) (image_of new) q (is_partial new) (steps_of new) allow result
