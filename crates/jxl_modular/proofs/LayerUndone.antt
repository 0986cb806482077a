-- A part's own header whose transforms are undone, beside an image.
use Rattle.std.proofs.Common.{◌≡◌, ℕ, ◌+◌, ◌-◌, List, ◌++◌, take, drop, length, ℤ, Result, Ok, Err, sym, ap, ◌∙◌, subst, arith, OnOk, OnErr}
use Rattle.std.specs.Int.{Width}
use Rattle.std.proofs.lemmas.List.{drop-take, length-append, length-drop, length-take, take-append-drop, take-take}
use Rattle.jxlm_base.specs.Grid.{Grid}
use Rattle.jxlm_base.specs.Outside.{KeepsOutside}
use Rattle.jxlm_base.specs.Regions.{grids_in, store_meanings}
use Rattle.jxlm_bits.specs.declared.error.Error.{Error}
use Rattle.jxlm_chain.specs.Chain.{IsOnlyImage}
use Rattle.jxlm_chain.specs.Shape.{SameShape}
use Rattle.jxlm_chain.specs.Steps.{IsNarrowStore}
use Rattle.jxlm_chain.specs.Undo.{Undo, UndoesAll}
use Rattle.jxlm_chain.specs.Undoings.{undos_of}
use Rattle.jxlm_chain.proofs.ShapeLaws.{shape_all_undone, shape_same}
use Rattle.jxlm_transform.specs.Channels.{infos, regions}
use Rattle.jxlm_transform.specs.declared.channels.PlacedChannel.{PlacedChannel}
use Rattle.jxlm_transform.specs.Steps.{tables_of}
use Rattle.jxl_modular.specs.Image.{Image}
use Rattle.jxl_modular.specs.Inner.LayerCode.{IsLayer, layer_kept}
use Rattle.jxlm_nested.specs.NestedParts.{nested_list, regions_in}
use Rattle.jxlm_nested.specs.Opened.{steps_of_header}
use Rattle.jxl_modular.specs.Layers.{StandsIn}
use Rattle.jxl_modular.specs.Recursive.{IsUndone}
use Rattle.jxl_modular.specs.SameButCells.{SameButCells, SameButIn}
use Rattle.jxlm_nested.specs.declared.nested.NestedPart.{NestedPart}
use Rattle.jxl_modular.proofs.LayerLaws.{base_is, held_only, shape_left, tables_count, undone_outside}
use Rattle.jxl_modular.proofs.NestedLaws.{grids_front}

-- a front of a list, and then one of what is after it
front_of : {X : Type 0} (n k : ℕ) (xs : List X) → take n xs ++ take k (drop n xs) ≡ take (n + k) xs
front_of n k xs =
    ap (λ ys. ys ++ take k (drop n xs)) (sym (take-take n (n + k) xs (omega arith)))
    ∙ ap (λ ys. take n (take (n + k) xs) ++ ys) (sym (drop-take n k xs))
    ∙ take-append-drop n (take (n + k) xs)

-- ---- a store with tables that was changed, and the tables cut off

module _ {S : Type 0} (store tables now new : List (Grid S)) (cut : new ≡ take (length store) now) where
  pub front_shape : SameShape (store ++ tables) now → SameShape store new
  front_shape same =
      let n : ℕ = length store in
      let long = length-append store tables in
      let count = same.count in
      let first = length-take n now in
      let parts : take n now ++ drop n now ≡ now = take-append-drop n now in
      subst (λ (xs : List (Grid S)). SameShape store xs) (sym cut)
      (shape_left store tables (take n now) (drop n now) (omega (arith, long, count, first)) (subst (λ (xs : List (Grid S)). SameShape (store ++ tables) xs) (sym parts) same))

-- whatever is returned, the store keeps its shape
pub finish_shape : {S : Type 0} (to_int : S → ℤ) (w : Width) (depth : ℕ) (us : List Undo) (store tables new : List (Grid S)) (r : Result (Unit {0}) Error) →
    OnOk r ((last : List (Grid S)) × UndoesAll to_int w depth us (store ++ tables) last × (new ≡ take (length store) last)) → OnErr r (new ≡ store) → SameShape store new
finish_shape to_int w depth us store tables new (Ok u) (last, undone, cut) same =
    front_shape store tables last new cut (shape_all_undone to_int w depth us (store ++ tables) last undone)
finish_shape to_int w depth us store tables new (Err e) undone same = subst (SameShape store) (sym same) (shape_same store)

-- ---- beside an image

module _ {S D : Type 0} (n : NestedPart D) (given : List PlacedChannel) (tables : List (Grid S)) (is : IsLayer n given tables) (old new : Image S D) (stands : StandsIn (layer_kept n given tables) old) (narrow : IsNarrowStore old.store)
    (to_int : S → ℤ) (w : Width) where
  abbrev Last : Type 0
  Last = (last : List (Grid S)) × UndoesAll to_int w old.bit_depth (undos_of n.placed.undoings.items) (old.store ++ tables) last × (new.store ≡ take (length old.store) last)

  undone_is : Last → IsUndone w to_int (layer_kept n given tables) old new
  undone_is (last, undone, cut) =
      let k : ℕ = length old.store in
      let base = base_is n given tables is old.store stands.lie stands.count in
      let tabled = tables_count (steps_of_header n.header) is.outer tables is.own in
      let shape = shape_all_undone to_int w old.bit_depth (undos_of n.placed.undoings.items) (old.store ++ tables) last undone in
      let count = shape.count in
      let long = length-append old.store tables in
      let after = length-drop k last in
      let outer = length-take is.outer (drop k last) in
      let theirs = length-take (length tables - length (tables_of (steps_of_header n.header))) tables in
      let joined : new.store ++ take is.outer (drop k last) ≡ take (k + is.outer) last = ap (λ xs. xs ++ take is.outer (drop k last)) cut ∙ front_of k is.outer last in
      let grids : grids_in (regions given) (store_meanings to_int (new.store ++ take is.outer (drop k last))) ≡ grids_in (regions given) (store_meanings to_int last) =
      ap (λ (xs : List (Grid S)). grids_in (regions given) (store_meanings to_int xs)) joined
      ∙ grids_front to_int (k + is.outer) last (regions given) (λ i d lt. let t = is.taken i d lt in omega (arith, t, base)) in
      record {
        outer = take is.outer (drop k last);
        count = omega (arith, count, long, after, outer, theirs, tabled);
        only = subst (λ gs. IsOnlyImage w old.bit_depth (steps_of_header n.header) (nested_list (infos given)) gs (grids_in (regions_in n) (store_meanings to_int (old.store ++ tables)))) (sym grids)
            (held_only n given tables is old.store stands.lie stands.count narrow to_int w old.bit_depth last undone);
      }

  pub finish_only : (r : Result (Unit {0}) Error) → OnOk r Last → OnOk r (IsUndone w to_int (layer_kept n given tables) old new)
  finish_only (Ok u) h = undone_is h
  finish_only (Err e) h = tt

  pub finish_same : (r : Result (Unit {0}) Error) → SameButCells old new → OnOk r Last → OnOk r (SameButIn (regions given) old new)
  finish_same (Ok u) cells (last, undone, cut) = record {
    cells = cells;
    outside = subst (λ (xs : List (Grid S)). KeepsOutside (regions given) old.store xs) (sym cut) (undone_outside n given tables is old.store stands.lie stands.count narrow to_int w old.bit_depth last undone);
  }
  finish_same (Err e) cells h = tt
