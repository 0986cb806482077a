-- An image that is cut into groups, and decoded part by part: how many groups there are, how far each part is decoded,
-- and what decoding one leaves (ISO/IEC 18181-1, frame: groups, LF groups and passes).
use Rattle.std.specs.Prelude.{◌≡◌, ◌≢◌, ℕ, ◌+◌, ℤ, List, map, Bool, true, ◌&&◌, nat_lt, Option, Some, None, Result}
use Rattle.std.specs.BTreeMap.{get}
use Rattle.std.specs.Borrow.{GName}
use Rattle.std.specs.Int.{Width}
use Rattle.jxlm_bits.specs.Decoding.{Meaning}
use Rattle.jxlm_bits.specs.declared.error.Error.{Error}
use Rattle.jxlm_base.specs.declared.subgrid.Region.{Region}
use Rattle.jxlm_transform.specs.Channels.{Channel}
use Rattle.jxlm_groups.specs.Counts.{group_count, maximum}
use Rattle.jxlm_groups.specs.declared.part.Kind.{Kind}
use Rattle.jxlm_groups.specs.declared.part.SectionPart.{SectionPart}
use Rattle.jxlm_groups.specs.declared.pass.Pass.{Pass}
use Rattle.jxlm_groups.specs.declared.part.SectionPart.TheVariants as sections
use Rattle.jxlm_samples.specs.Part.{cell_count}
use Rattle.jxlm_tree.specs.Tree.{Config}
use Rattle.jxl_modular.specs.NestedTurns.{NestedGives}
use Rattle.jxl_modular.specs.Groups.{HasEachCellOnce, KeepsOtherGrids, PartOfGives, channels_in, held_in}
use Rattle.jxl_modular.specs.Image.{Image, coded_list}
use Rattle.jxl_modular.specs.contracts.groups.PartOrd.TheImpl as order
use Rattle.jxl_modular.specs.declared.groups.Part.TheVariants as parts
pub use Rattle.jxl_modular.specs.declared.groups.Part.{Part}
use Rattle.jxl_modular.specs.declared.groups.PartState.{PartState}
use Rattle.jxl_modular.specs.declared.groups.PartStates.{PartStates}
use Rattle.jxl_modular.specs.declared.groups.TransformedGlobalModular.{TransformedGlobalModular}

-- the part among all parts of an image
abbrev pub section_part : Part → SectionPart
section_part (parts.Lf k) = sections.Lf k
section_part (parts.Pass p k) = sections.Pass p k

-- one more than the maximum number of a pass; 0 where there is no pass
abbrev pub pass_count : List Pass → ℕ
pass_count passes = maximum (map (λ p. p.number + 1) passes)

-- the state of a part whose decode has not begun
abbrev pub new_state : PartState
new_state = record { partial = true; steps = 0 }

-- the state that is kept of a part, or that of a new one
abbrev pub or_new : Option PartState → PartState
or_new None = new_state
or_new (Some s) = s

-- what is kept of a part, which is something once its decode has begun, and its state
abbrev pub state_kept : PartStates → Part → Option PartState
state_kept x part = get (order.ghosts).cmp x.states part

abbrev pub state_in : PartStates → Part → PartState
state_in x part = or_new (state_kept x part)

module _ {S D : Type 0} where
  -- the image that is cut, as it is now, and the name of its borrow
  abbrev pub image_of : TransformedGlobalModular S D → Image S D
  image_of x = x.image.now

  abbrev pub loan : TransformedGlobalModular S D → GName
  loan x = x.image.ghost_name

  -- the passes that it is cut by
  abbrev pub passes_in : TransformedGlobalModular S D → List Pass
  passes_in x = x.progress.passes.items

  -- how many groups of a kind it has
  abbrev pub groups_of : TransformedGlobalModular S D → Kind → ℕ
  groups_of x kind = group_count (image_of x).group_dim (passes_in x) (coded_list (image_of x)) kind

  -- the channels of a part, and their regions in the store
  abbrev pub channels_of : TransformedGlobalModular S D → Part → List Channel
  channels_of x part = channels_in (image_of x) (passes_in x) (section_part part)

  abbrev pub regions_of : TransformedGlobalModular S D → Part → List Region
  regions_of x part = held_in (image_of x) (passes_in x) (section_part part)

  -- how far a part is decoded
  abbrev pub state_of : TransformedGlobalModular S D → Part → PartState
  state_of x part = state_in x.progress part

  -- whether samples of a part are still to be decoded: it has some, and no decode ended whole
  abbrev pub is_partial : TransformedGlobalModular S D → Part → Bool
  is_partial x part = nat_lt 0 (cell_count (channels_of x part)) && (state_of x part).partial

  -- how many nodes of trees were looked at by the decodes of a part
  abbrev pub steps_of : TransformedGlobalModular S D → Part → ℕ
  steps_of x part = (state_of x part).steps

  -- no part's decode has begun: each is partial where it has samples, and without a step
  pub record AreNew (x : TransformedGlobalModular S D) : Type 0 where
    pub partial : (part : Part) → is_partial x part ≡ nat_lt 0 (cell_count (channels_of x part))
    pub steps : (part : Part) → steps_of x part ≡ 0

  -- each coded cell is in exactly one part
  abbrev pub EachCellIsInOnePart : TransformedGlobalModular S D → Type 0
  EachCellIsInOnePart x = HasEachCellOnce (image_of x) (passes_in x)

  -- the other parts are decoded as far as before, and their grids, those of the global part too, are as before
  pub record KeepsOtherParts (to_int : S → ℤ) (part : Part) (old new : TransformedGlobalModular S D) : Type 0 where
    pub partial : (other : Part) → other ≢ part → is_partial new other ≡ is_partial old other
    pub steps : (other : Part) → other ≢ part → steps_of new other ≡ steps_of old other
    pub grids : KeepsOtherGrids to_int (passes_in old) (section_part part) (image_of old) (image_of new)

  -- what decoding a part returns, with the reader's positions before and after
  abbrev pub PartGives : Meaning D → Width → (S → ℤ) → List ℕ → ℕ → Part → TransformedGlobalModular S D → ℕ → TransformedGlobalModular S D → ℕ → Bool → Result (Unit {0}) Error → Type 0
  PartGives d w to_int bytes stream part old p new q allow result =
      PartOfGives d w to_int bytes stream (passes_in old) (section_part part) (image_of old) p (is_partial old part) (steps_of old part) (image_of new) q (is_partial new part) (steps_of new part) allow result

  -- what decoding a part by a header of its own returns, with the reader's positions before and after, and what it took of
  -- steps; the transforms of the header are undone
  abbrev pub NestedPartGives : Meaning D → Width → (S → ℤ) → S → Option (Config D) → List ℕ → ℕ → Part → TransformedGlobalModular S D → ℕ → TransformedGlobalModular S D → ℕ → Bool → Result Bool Error → Type 0
  NestedPartGives d w to_int zero global bytes stream part old p new q allow result =
      NestedGives d w to_int zero (image_of old) (passes_in old) global bytes p (section_part part) stream allow result (image_of old).store (image_of new).store q (steps_of old part) (steps_of new part)
