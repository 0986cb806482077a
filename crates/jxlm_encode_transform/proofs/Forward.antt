-- Undoings run forward, from the first to the last.
use Rattle.std.proofs.Common.{◌≡◌, ℕ, zero, suc, ap, ltb-true, ◌+◌, ◌<◌, ◌≤◌, List, [], ◌∷◌, ◌++◌, length, take, get_or, ℤ, refl, sym, ◌∙◌, subst, inl, inr, arith}
use Rattle.std.specs.Prelude.{true, nat_lt, ◌&&◌}
use Rattle.std.specs.Int.{Width}
use Rattle.std.specs.List.{All}
use Rattle.std.proofs.lemmas.Bool.{cases_lt}
use Rattle.std.proofs.lemmas.List.{get_or_default, take_more}
use Rattle.jxlm_base.specs.Grid.{Grid, grid, IsFull}
use Rattle.jxlm_chain.specs.Shape.{SameShape}
use Rattle.jxlm_chain.specs.Steps.{CanUndoAll}
use Rattle.jxlm_chain.specs.Undo.{Undo, UndoRct, UndoPalette, UndoSqueeze, Undoes, UndoesAll}
use Rattle.jxlm_base.specs.declared.subgrid.Region.{Region}
use Rattle.jxlm_transform.proofs.StepFacts.{both_of}
use Rattle.jxlm_chain.proofs.ShapeLaws.{shape_same, shape_both, undos_kept}
use Rattle.jxlm_encode_transform.specs.Inner.Room.{HasRoom, HasRoomForCells}

-- ---- the store

pub full_kept : {S : Type 0} (old new : List (Grid S)) → SameShape old new → All IsFull old → All IsFull new
full_kept old new same full i d lt =
    let count = same.count in
    let inside : i < length old = omega (arith, count, lt) in
    subst IsFull (get_or_default new i (grid 0 0 []) d lt) (same.full i (full i (grid 0 0 []) inside))

module _ {S : Type 0} (f : S → ℤ) (w : Width) where
  -- one undoing after those that have been undone last
  pub redone_more : (depth : ℕ) (us : List Undo) (u : Undo) (old now new : List (Grid S)) → UndoesAll f w depth us now old → Undoes f w depth u new now → UndoesAll f w depth (us ++ u ∷ []) new old
  redone_more depth [] u old now new all one = (new, refl, subst (Undoes f w depth u new) (sym all) one)
  redone_more depth (v ∷ us) u old now new all one = (all.0, redone_more depth us u all.0 now new all.1 one, all.2)

  -- the undoings before k are run forward
  pub record Redone (us : List Undo) (k : ℕ) (old now : List (Grid S)) : Type 0 where
    pub done : (depth : ℕ) → UndoesAll f w depth (take k us) now old
    pub shape : SameShape old now
    pub can : CanUndoAll now us
    pub full : All IsFull now

  pub redone_none : (us : List Undo) (store : List (Grid S)) → CanUndoAll store us → All IsFull store → Redone us 0 store store
  redone_none us store can full = record { done = λ depth. refl; shape = shape_same store; can = can; full = full }

  pub redone_next : (us : List Undo) (k : ℕ) (d : Undo) (old now new : List (Grid S)) → k < length us → Redone us k old now → ((depth : ℕ) → Undoes f w depth (get_or us k d) new now) → SameShape now new →
      Redone us (k + 1) old new
  redone_next us k d old now new lt was one same = record {
    done = λ depth. subst (λ (vs : List Undo). UndoesAll f w depth vs new old) (sym (take_more us k d lt)) (redone_more depth (take k us) (get_or us k d) old now new (was.done depth) (one depth));
    shape = shape_both old now new was.shape same;
    can = undos_kept now new same us was.can;
    full = full_kept now new same was.full;
  }

-- ---- regions with cells

pub some_rows : (r : Region) → (nat_lt 0 r.width && nat_lt 0 r.height) ≡ true → 0 < r.height
some_rows r cells = ltb-true 0 r.height (both_of (nat_lt 0 r.width) (nat_lt 0 r.height) cells).1

-- ---- a list up to its end

pub take_whole : {X : Type 0} (xs : List X) (n : ℕ) → length xs ≤ n → take n xs ≡ xs
take_whole [] zero h = refl
take_whole [] (suc n) h = refl
take_whole (x ∷ xs) zero h = absurd (omega (arith, h))
take_whole (x ∷ xs) (suc n) h = ap (λ ys. x ∷ ys) (take_whole xs n (omega (arith, h)))

-- ---- room

more_for_cells : (n m : ℕ) (u : Undo) → n ≤ m → HasRoomForCells n u → HasRoomForCells m u
more_for_cells n m (UndoRct kind regions) le h = omega (arith, le, h)
more_for_cells n m (UndoPalette t table index regions) le h = tt
more_for_cells n m (UndoSqueeze horizontal r) le h = omega (arith, le, h)

more_room : (n m : ℕ) (u : Undo) → n ≤ m → HasRoom n u → HasRoom m u
more_room n m u le h = λ some. more_for_cells n m u le (h some)

-- room for one undoing more
pub room_next : (us : List Undo) (i a b both : ℕ) (u : Undo) → a ≤ both → b ≤ both → i < length us → u ≡ get_or us i u → ((k : ℕ) (d : Undo) → k < i → HasRoom a (get_or us k d)) → HasRoom b u →
    (k : ℕ) (d : Undo) → k < i + 1 → HasRoom both (get_or us k d)
room_next us i a b both u le_a le_b lt at so_far own k d l =
    elim (cases_lt k i) [
      | inl less ↦ more_room a both (get_or us k d) le_a (so_far k d less)
      | inr more ↦
          let last : i ≡ k = omega (arith, l, more) in
          more_room b both (get_or us k d) le_b (subst (λ (j : ℕ). HasRoom b (get_or us j d)) last (subst (HasRoom b) (at ∙ get_or_default us i u d lt) own))
    ]
