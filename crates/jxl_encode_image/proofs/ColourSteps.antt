-- A colour transform of a coded image: it is run in its store.
use Rattle.std.proofs.Common.{ℕ, suc, ◌≤◌, ℤ, List, [], ◌∷◌, ◌++◌, length, refl, sym, subst}
use Rattle.std.specs.Int.{Width}
use Rattle.std.specs.List.{All}
use Rattle.std.proofs.lemmas.List.Elements.{All-cons, All-nil}
use Rattle.jxlm_base.specs.Grid.{Grid}
use Rattle.jxlm_chain.specs.Shape.{SameShape}
use Rattle.jxlm_chain.specs.Steps.{CanUndoAll}
use Rattle.jxlm_chain.specs.Undo.{Undo, UndoesAll}
use Rattle.jxlm_chain.specs.Undoings.{undos_of}
use Rattle.jxlm_chain.specs.declared.placed.PlacedChannels.{PlacedChannels}
use Rattle.jxlm_chain.proofs.CanUndo.{can_undo_all}
use Rattle.jxlm_encode_transform.specs.Redo.{IsNoPalette, UndoesNoPalette}
use Rattle.jxlm_encode_transform.proofs.NoPalettes.{no_palettes}
use Rattle.jxlm_transform.specs.ChannelSteps.{RctStep, Step}
use Rattle.jxlm_transform.specs.Lists.{layout_of, list_of}
use Rattle.jxlm_transform.specs.Transforms.{OfRct}
use Rattle.jxlm_transform.specs.declared.channels.ModularChannels.{ModularChannels}
use Rattle.jxlm_transform.specs.declared.transform.Rct.{Rct}
use Rattle.jxl_encode_image.specs.Preparations.{IsFileRct}
use Rattle.jxl_encode_image.specs.Inner.Placing.{GoesOnTo, IsPlacedFor, LieAlone}
use Rattle.jxl_encode_image.specs.declared.transform.ImageTransform.{ImageTransform}
use Rattle.jxl_encode_image.specs.declared.transform.ImageTransform.TheVariants as images
use Rattle.jxl_encode_image.proofs.Steps.{by_step, goes_next, lie_next, step_has, step_leaves}

module _ {S : Type 0} (t : Rct) (spelled : IsFileRct t) (old : ModularChannels) (store : List (Grid S)) (alone : LieAlone old store) (p : PlacedChannels) (placed : IsPlacedFor (OfRct t ∷ []) old p) where
  abbrev u : ImageTransform
  u = images.Colour t

  abbrev ss : List Step
  ss = RctStep t ∷ []

  pub colour_runs : CanUndoAll store (undos_of p.undoings.items)
  colour_runs =
      subst (CanUndoAll store) (sym (by_step u spelled old p placed).undos)
      (can_undo_all ss (list_of old) (list_of p.channels) (layout_of old) store (step_leaves u spelled old p placed) (step_has u spelled old p placed) alone.lie.lie alone.all)

  pub colour_no_palette : All UndoesNoPalette (undos_of p.undoings.items)
  colour_no_palette = subst (All UndoesNoPalette) (sym (by_step u spelled old p placed).undos) (no_palettes ss (layout_of old) (All-cons IsNoPalette (RctStep t) [] tt (All-nil IsNoPalette)))

  module _ (next : List (Grid S)) (shape : SameShape store next) where
    pub colour_lies : LieAlone p.channels next
    colour_lies = lie_next u spelled old p placed store store next alone alone.lie.lie alone.all alone.full shape

    pub colour_goes : (to_int : S → ℤ) (w : Width) → ((depth : ℕ) → UndoesAll to_int w depth (undos_of p.undoings.items) next store) → (ts : List ImageTransform) → suc (length ts) ≤ 273 →
        GoesOnTo to_int w old store ts p.channels next (ts ++ u ∷ [])
    colour_goes to_int w undone ts few =
        goes_next u spelled old p placed store store next alone alone.lie.lie alone.all alone.full shape to_int w refl
        (λ depth. subst (λ (us : List Undo). UndoesAll to_int w depth us next store) (by_step u spelled old p placed).undos (undone depth)) ts few
