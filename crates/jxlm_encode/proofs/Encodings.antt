-- What the steps of an encoder come to: an image that is encoded.
use Rattle.std.proofs.Common.{◌≡◌, ℕ, ℤ, List, ◌++◌, length, map, Ok, sym, ap, ◌∙◌, subst, append-nil}
use Rattle.std.specs.List.{All}
use Rattle.std.specs.Int.{Width}
use Rattle.std.proofs.lemmas.List.Elements.{All-weaker}
use Rattle.jxlm_base.specs.Grid.{Grid, IsFull}
use Rattle.jxlm_base.specs.Regions.{grids_in, store_meanings}
use Rattle.jxlm_chain.specs.Chain.{Chain}
use Rattle.jxlm_transform.specs.Layout.{HasBuffers, Layout, buffers_of, first_layout, layout_after_all, sides_of}
use Rattle.jxlm_chain.specs.Lying.{HasTables, LieIn}
use Rattle.jxlm_chain.specs.Placed.{IsPlacedBy}
use Rattle.jxlm_transform.specs.Lists.{layout_of, list_of}
use Rattle.jxlm_chain.specs.Shape.{SameShape}
use Rattle.jxlm_chain.specs.Steps.{CanUndoAll}
use Rattle.jxlm_chain.specs.Undo.{Undo, UndoesAll}
use Rattle.jxlm_chain.specs.Undoings.{undos_of}
use Rattle.jxlm_chain.specs.declared.placed.PlacedChannels.{PlacedChannels}
use Rattle.jxlm_chain.proofs.CanUndo.{can_undo_all}
use Rattle.jxlm_chain.proofs.KeptGrids.{grids_of_lying}
use Rattle.jxlm_chain.proofs.LayoutLaws.{lie_after_all, lie_first}
use Rattle.jxlm_chain.proofs.PlacedSteps.{placed_by}
use Rattle.jxlm_chain.proofs.ShapeLaws.{lie_in_kept, tables_kept}
use Rattle.jxlm_chain.proofs.Undone.{chain_of}
use Rattle.jxlm_tree.specs.Tree.{AllLeaves, Shape}
use Rattle.jxlm_ma_tree.specs.declared.leaf.Leaf.{Leaf}
use Rattle.jxlm_tree.proofs.FlatTrees.{each_leaf}
use Rattle.jxlm_samples.specs.Part.{cells_of}
use Rattle.jxlm_samples.proofs.Loops.{all_cells}
use Rattle.jxlm_transform.specs.Channels.{AreGridsOf, Channel}
use Rattle.jxlm_transform.specs.ChannelSteps.{CodedList, Step, list_after_all}
use Rattle.jxlm_transform.specs.Steps.{HasChannels, Sides}
use Rattle.jxlm_transform.specs.Transforms.{IsTransform, Transform}
use Rattle.jxlm_transform.proofs.SideBounds.{narrow_coded}
use Rattle.jxlm_transform.proofs.StepLaws.{steps_list}
use Rattle.jxlm_encode_write.specs.Laws.{IsWritten}
use Rattle.jxlm_encode_write.specs.declared.tree.EncodeNode.{EncodeNode}
use Rattle.jxlm_encode.specs.declared.error.EncodeError.{EncodeError}
use Rattle.jxlm_encode.specs.declared.error.EncodeError.TheVariants.{InvalidTransform, InvalidTree, OutOfMemory}
use Rattle.jxlm_encode_write.specs.Headers.{transform_of}
use Rattle.jxlm_encode_write.specs.declared.header.EncodeTransform.{EncodeTransform}
use Rattle.jxlm_encode_write.proofs.Spelled.{each_of}
use Rattle.jxlm_encode.specs.Encoded.{AreAccepted, EncodeFails, IsTransformRefused, IsSmall, IsTreeGiven, given_list}
use Rattle.jxlm_encode.specs.Inner.Listing.{IsNotGiven}
use Rattle.jxlm_encode.specs.Inner.Placing.{ArePlaced, AreRefused, listed}
use Rattle.jxlm_encode.specs.Inner.Writing.{ChannelsLie, part_at}
use Rattle.jxlm_encode.specs.Prepared.{ArePrepared}
use Rattle.jxlm_encode_transform.specs.Redo.{IsNoPalette, UndoesNoPalette}
use Rattle.jxlm_encode_tokens.specs.Tokens.{AreTokensOf}
use Rattle.jxlm_encode.proofs.Accepted.{is_transform}
use Rattle.jxlm_encode.proofs.Listings.{IsGivenLeaf, leaves_given}
use Rattle.jxlm_encode_transform.proofs.NoPalettes.{no_palettes}
use Rattle.jxlm_encode.proofs.NoPalettes.{no_tables, steps_have, written_steps}
use Rattle.jxlm_encode.proofs.OwnGrids.{own_buffers, own_grids, own_narrow}

-- ---- where the channels lie

module _ {S : Type 0} (to_int : S → ℤ) (ts : List Transform) (grids : List (Grid S)) (p : PlacedChannels) (full : All IsFull grids) (small : All IsSmall grids)
    (placed : ArePlaced ts (given_list (store_meanings to_int grids)).channels p) where
  abbrev channels : List Channel
  channels = (given_list (store_meanings to_int grids)).channels

  abbrev steps : List Step
  steps = placed.come.steps

  -- what the transforms come to
  abbrev pub coded : CodedList
  coded = record { steps = steps; list = list_of p.channels }

  pub accepted : AreAccepted ts (given_list (store_meanings to_int grids)) coded
  accepted = record { few = placed.few; written = placed.come.written; come = placed.come.come }

  by : IsPlacedBy steps (first_layout channels) p
  by = placed_by steps (first_layout channels) placed.come.start p placed.come.begun placed.come.goes

  plain_steps : All IsNoPalette steps
  plain_steps = written_steps ts (given_list (store_meanings to_int grids)) coded placed.come.written placed.come.come

  have : All HasChannels steps
  have = steps_have steps plain_steps

  leaves : list_after_all steps (given_list (store_meanings to_int grids)) ≡ Ok (list_of p.channels)
  leaves = steps_list ts (given_list (store_meanings to_int grids)) coded placed.come.come

  buffers : HasBuffers (buffers_of channels steps) grids
  buffers =
      subst (λ (sides : List Sides). HasBuffers sides grids)
      (sym (ap (λ (tables : List Sides). sides_of channels ++ tables) (no_tables steps plain_steps) ∙ append-nil (sides_of channels)))
      (own_buffers to_int grids full)

  first : LieIn channels (first_layout channels) grids × HasTables steps (length channels) grids
  first = lie_first channels steps grids buffers

  -- the transforms can be run in the grids
  pub can_run : CanUndoAll grids (undos_of p.undoings.items)
  can_run =
      subst (CanUndoAll grids) (sym by.undos)
      (can_undo_all steps (given_list (store_meanings to_int grids)) (list_of p.channels) (first_layout channels) grids leaves have first.0 first.1)

  pub runs_no_palette : All UndoesNoPalette (undos_of p.undoings.items)
  runs_no_palette = subst (All UndoesNoPalette) (sym by.undos) (no_palettes steps (first_layout channels) plain_steps)

  -- ---- and once they were run

  module _ (store : List (Grid S)) (shape : SameShape grids store) where
    lie_first_there : LieIn channels (first_layout channels) store
    lie_first_there = lie_in_kept grids store shape channels (first_layout channels) first.0

    tables_there : HasTables steps (length channels) store
    tables_there = tables_kept grids store shape steps (length channels) first.1

    lie_last : LieIn (list_of p.channels).channels (layout_after_all steps (first_layout channels)) store
    lie_last =
        (lie_after_all steps (given_list (store_meanings to_int grids)) (list_of p.channels) (first_layout channels) store leaves have lie_first_there tables_there).0

    lie_there : LieIn (list_of p.channels).channels (layout_of p.channels) store
    lie_there = subst (λ (l : Layout). LieIn (list_of p.channels).channels l store) (sym by.layout) lie_last

    -- the coded channels lie in the store
    pub channels_lie : ChannelsLie p store
    channels_lie = record {
      sizes = lie_there.sizes;
      narrow = narrow_coded ts (given_list (store_meanings to_int grids)) coded (All-weaker IsWritten IsTransform is_transform ts placed.come.written) (own_narrow to_int grids small) placed.come.come;
      few = placed.count;
      lie = lie_there.lie;
      apart = lie_there.apart;
    }

    abbrev samples : List (Grid ℤ)
    samples = grids_in (layout_of p.channels).regions (store_meanings to_int store)

    are_grids : AreGridsOf (list_of p.channels).channels samples
    are_grids = grids_of_lying to_int store (list_of p.channels).channels (layout_of p.channels) lie_there

    module _ (w : Width) (undone : (depth : ℕ) → UndoesAll to_int w depth (undos_of p.undoings.items) store grids) where
      -- the image becomes the coded samples
      chain : (depth : ℕ) → Chain w depth steps (given_list (store_meanings to_int grids)) (store_meanings to_int grids) samples
      chain depth =
          let made = chain_of to_int w depth steps (given_list (store_meanings to_int grids)) (list_of p.channels) (first_layout channels) store grids leaves have lie_first_there tables_there
          (subst (λ (us : List Undo). UndoesAll to_int w depth us store grids) by.undos (undone depth)) in
          subst (λ (gs : List (Grid ℤ)). Chain w depth steps (given_list (store_meanings to_int grids)) gs samples) (own_grids to_int grids full)
          (subst (λ (l : Layout). Chain w depth steps (given_list (store_meanings to_int grids)) (grids_in (first_layout channels).regions (store_meanings to_int grids)) (grids_in l.regions (store_meanings to_int store)))
          (sym by.layout) made)

      -- and is ready to be written
      pub are_prepared : (nodes : List EncodeNode) (tree : Shape Leaf) → IsTreeGiven nodes (list_of p.channels).channels tree → (tokens : List ℕ) → AreTokensOf w (part_at p tree) (cells_of samples) tokens →
          ArePrepared ts nodes (store_meanings to_int grids) w tokens
      are_prepared nodes tree given tokens are = record {
        coded = coded;
        accepted = accepted;
        count = placed.count;
        tree = tree;
        given = given;
        samples = samples;
        counted = sym (all_cells (list_of p.channels).channels samples are_grids);
        are = are;
        chain = chain;
      }

-- ---- answers of calls

-- each transform that is accepted can stand in a header
pub each_stands : (xs : List EncodeTransform) → All IsWritten (map transform_of xs) → All (λ t. IsTransform (transform_of t)) xs
each_stands xs h = each_of transform_of IsTransform xs (All-weaker IsWritten IsTransform is_transform (map transform_of xs) h)

-- the leaves of the tree have the multiplier 1
pub multipliers : (nodes : List EncodeNode) (cs : List Channel) (tree : Shape Leaf) → IsTreeGiven nodes cs tree → AllLeaves (λ l. l.multiplier ≡ 1) tree
multipliers nodes cs tree given = each_leaf {P = IsGivenLeaf} {Q = λ l. l.multiplier ≡ 1} (λ l h. h.1) tree (leaves_given tree nodes given.listed)

-- the channels of the grids are those that were placed
pub placed_there : {S : Type 0} (to_int : S → ℤ) (ts : List Transform) (grids : List (Grid S)) (infos : List Channel) (p : PlacedChannels) → infos ≡ (given_list (store_meanings to_int grids)).channels → ArePlaced ts infos p →
    ArePlaced ts (given_list (store_meanings to_int grids)).channels p
placed_there to_int ts grids infos p same h = subst (λ (cs : List Channel). ArePlaced ts cs p) same h

-- a transform is refused
pub transforms_fail : (ts : List Transform) (nodes : List EncodeNode) (image : List (Grid ℤ)) (infos : List Channel) → infos ≡ (given_list image).channels → (e : EncodeError) → AreRefused ts infos e → EncodeFails ts nodes image e
transforms_fail ts nodes image infos same (InvalidTransform k) h = subst (λ (cs : List Channel). IsTransformRefused ts (listed cs) k) same h
transforms_fail ts nodes image infos same InvalidTree h = absurd h
transforms_fail ts nodes image infos same OutOfMemory h = tt

-- the tree is refused
pub tree_fails : (ts : List Transform) (nodes : List EncodeNode) (image : List (Grid ℤ)) (p : PlacedChannels) → ArePlaced ts (given_list image).channels p → (e : EncodeError) → IsNotGiven nodes (list_of p.channels).channels e →
    EncodeFails ts nodes image e
tree_fails ts nodes image p placed (InvalidTransform k) h = absurd h
tree_fails ts nodes image p placed InvalidTree h = record {
  coded = record { steps = placed.come.steps; list = list_of p.channels };
  accepted = record { few = placed.few; written = placed.come.written; come = placed.come.come };
  count = placed.count;
  none = h;
}
tree_fails ts nodes image p placed OutOfMemory h = tt
