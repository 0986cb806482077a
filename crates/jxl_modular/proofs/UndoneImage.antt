-- An image whose steps were undone in its store, which was lent and is given back.
use Rattle.std.proofs.Common.{◌≡◌, ℕ, ◌++◌, List, length, take, drop, sym, subst, ℤ}
use Rattle.std.specs.Int.{Width}
use Rattle.jxlm_base.specs.Grid.{Grid}
use Rattle.jxlm_transform.specs.Layout.{first_layout}
use Rattle.jxlm_chain.specs.Shape.{SameShape}
use Rattle.jxlm_chain.specs.Undo.{Undo, UndoesAll, undo_of_all}
use Rattle.jxlm_chain.proofs.ShapeLaws.{shape_all_undone}
use Rattle.jxl_modular.specs.Image.{Image, IsOnlyImage, coded_grids, given_list, image_grids}
use Rattle.jxl_modular.specs.Inner.Laid.{IsLaidOut}
use Rattle.jxl_modular.specs.SameButCells.{SameButCells}
use Rattle.jxl_modular.proofs.Laid.{only_image, same_but_store, still_laid}
use Rattle.jxlm_nested.proofs.PartFacts.{refilled}

module _ {S D : Type 0} (to_int : S → ℤ) (w : Width) {x : Image S D} (laid : IsLaidOut x) (n : ℕ) (len : n ≡ length x.store)
    (undos : List Undo) (are : undos ≡ undo_of_all x.steps (first_layout (given_list x).channels))
    (lent now : List (Grid S)) (was : lent ≡ x.store) (undone : UndoesAll to_int w x.bit_depth undos lent now) where
  -- the store that is given back
  abbrev after : List (Grid S)
  after = take n (now ++ drop (length now) x.store)

  all_undone : UndoesAll to_int w x.bit_depth (undo_of_all x.steps (first_layout (given_list x).channels)) x.store now
  all_undone =
      subst (λ us. UndoesAll to_int w x.bit_depth us x.store now) are
      (subst (λ (store : List (Grid S)). UndoesAll to_int w x.bit_depth undos store now) was undone)

  shape : SameShape x.store now
  shape = shape_all_undone to_int w x.bit_depth (undo_of_all x.steps (first_layout (given_list x).channels)) x.store now all_undone

  whole : after ≡ now
  whole = refilled n now x.store len shape.count

  pub same : SameButCells x (record x { store = after })
  same = same_but_store x after (subst (SameShape x.store) (sym whole) shape)

  pub laid_after : IsLaidOut (record x { store = after })
  laid_after = still_laid x (record x { store = after }) laid same

  -- its channels are the only ones that become the coded grids as they were
  pub only : IsOnlyImage w (record x { store = after }) (image_grids to_int (record x { store = after })) (coded_grids to_int x)
  only =
      only_image to_int w x (record x { store = after }) laid laid_after same
      (subst (UndoesAll to_int w x.bit_depth (undo_of_all x.steps (first_layout (given_list x).channels)) x.store) (sym whole) all_undone)
