-- Room for undoing, and where it stays.
use Rattle.std.proofs.Common.{◌≡◌, ◌+◌, ◌<◌, ◌≤◌, inl, inr, ℕ, List, [], Option, Some, None, length, get_or, refl, sym, ◌∙◌, subst, arith}
use Rattle.std.proofs.lemmas.Bool.{cases_lt}
use Rattle.std.proofs.lemmas.List.{get_or_default}
use Rattle.std.specs.List.{All}
use Rattle.jxlm_base.specs.Grid.{Grid, grid}
use Rattle.jxlm_base.specs.Regions.{Lies}
use Rattle.jxlm_base.specs.declared.subgrid.Region.{Region}
use Rattle.jxlm_predictor.specs.Standing.{HasSameRoom}
use Rattle.jxlm_weighted.specs.declared.weights.WpHeader.{WpHeader}
use Rattle.jxlm_chain.specs.Scratch.{HasRoomFor, HasRoomForCells, IsNarrow, IsNarrowUndo, KeepsScratch, state_for}
use Rattle.jxlm_chain.specs.Inner.Needs.{AreNarrow, Covers, CoversCells, columns_for, larger_needs}
use Rattle.jxlm_chain.specs.Steps.{CanUndo, CanUndoAll, IsNarrowStore}
use Rattle.jxlm_chain.specs.Undo.{Undo, UndoRct, UndoPalette, UndoSqueeze}
use Rattle.jxlm_chain.specs.declared.scratch.Needs.{Needs}
use Rattle.jxlm_chain.specs.declared.scratch.Scratch.{Scratch}

-- ---- needs

columns_left : (a b : Needs) (o : Option WpHeader) → columns_for o a ≤ columns_for o (larger_needs a b)
columns_left a b None = omega arith
columns_left a b (Some weights) = omega arith

columns_right : (a b : Needs) (o : Option WpHeader) → columns_for o b ≤ columns_for o (larger_needs a b)
columns_right a b None = omega arith
columns_right a b (Some weights) = omega arith

-- the larger of two needs covers what each of them covers
cells_left : (a b : Needs) (u : Undo) → CoversCells a u → CoversCells (larger_needs a b) u
cells_left a b (UndoRct kind regions) h = omega arith
cells_left a b (UndoPalette t table index regions) (h, k) = let more = columns_left a b t.wp_header in (omega (arith, more, h), omega (arith, k))
cells_left a b (UndoSqueeze horizontal r) h = omega arith

cells_right : (a b : Needs) (u : Undo) → CoversCells b u → CoversCells (larger_needs a b) u
cells_right a b (UndoRct kind regions) h = omega arith
cells_right a b (UndoPalette t table index regions) (h, k) = let more = columns_right a b t.wp_header in (omega (arith, more, h), omega (arith, k))
cells_right a b (UndoSqueeze horizontal r) h = omega arith

pub covers_left : (a b : Needs) (u : Undo) → Covers a u → Covers (larger_needs a b) u
covers_left a b u h = λ some. cells_left a b u (h some)

pub covers_right : (a b : Needs) (u : Undo) → Covers b u → Covers (larger_needs a b) u
covers_right a b u h = λ some. cells_right a b u (h some)

-- one undoing more is covered
pub covers_more : (us : List Undo) (i : ℕ) (a b both : Needs) (u : Undo) → both ≡ larger_needs a b → i < length us → u ≡ get_or us i u → ((k : ℕ) (d : Undo) → k < i → Covers a (get_or us k d)) → Covers b u →
    (k : ℕ) (d : Undo) → k < i + 1 → Covers both (get_or us k d)
covers_more us i a b both u is lt at so_far own k d l =
    subst (λ (n : Needs). Covers n (get_or us k d)) (sym is) (elim (cases_lt k i) [
      | inl less ↦ covers_left a b (get_or us k d) (so_far k d less)
      | inr more ↦
          let last : i ≡ k = omega arith in
          covers_right a b (get_or us k d) (subst (λ (j : ℕ). Covers b (get_or us j d)) last (subst (Covers b) (at ∙ get_or_default us i u d lt) own))
    ])

pub narrow_larger : (a b : Needs) → AreNarrow a → AreNarrow b → AreNarrow (larger_needs a b)
narrow_larger a b (p, q) (r, s) = (omega arith, omega arith)

-- regions that lie in a narrow store are narrow
narrow_region : {S : Type 0} (store : List (Grid S)) (r : Region) → IsNarrowStore store → Lies r store → IsNarrow r
narrow_region store r narrow lies =
    let sides = narrow r.buffer (grid 0 0 []) lies.there in
    let wide = sides.0 in
    let high = sides.1 in
    let columns = lies.columns in
    let rows = lies.rows in
    (omega (arith, wide, columns), omega (arith, high, rows))

narrow_undo : {S : Type 0} (store : List (Grid S)) (u : Undo) → IsNarrowStore store → CanUndo store u → IsNarrowUndo u
narrow_undo store (UndoRct kind regions) narrow can = tt
narrow_undo store (UndoPalette t table index regions) narrow can = narrow_region store index narrow can.index_lies
narrow_undo store (UndoSqueeze horizontal r) narrow can = narrow_region store r narrow can

-- what can be undone in a narrow store is narrow
pub narrow_undos : {S : Type 0} (store : List (Grid S)) (us : List Undo) → IsNarrowStore store → CanUndoAll store us → All IsNarrowUndo us
narrow_undos store us narrow can = λ i d l. narrow_undo store (get_or us i d) narrow (can i d l)

-- ---- room

module _ {S : Type 0} where
  pub keeps_scratch : (a : Scratch S) → KeepsScratch a a
  keeps_scratch a = record {
    rows = record { first = refl; second = refl; third = refl };
    line = refl;
    plain = record { same_room = refl; same_earlier_room = refl; same_weights = refl };
    weighted = record { same_room = refl; same_earlier_room = refl; same_weights = refl };
    members = refl;
  }

  pub keeps_both : (a b c : Scratch S) → KeepsScratch a b → KeepsScratch b c → KeepsScratch a c
  keeps_both a b c h k = record {
    rows = record { first = k.rows.first ∙ h.rows.first; second = k.rows.second ∙ h.rows.second; third = k.rows.third ∙ h.rows.third };
    line = k.line ∙ h.line;
    plain = record { same_room = k.plain.same_room ∙ h.plain.same_room; same_earlier_room = k.plain.same_earlier_room ∙ h.plain.same_earlier_room; same_weights = k.plain.same_weights ∙ h.plain.same_weights };
    weighted =
        record {
          same_room = k.weighted.same_room ∙ h.weighted.same_room;
          same_earlier_room = k.weighted.same_earlier_room ∙ h.weighted.same_earlier_room;
          same_weights = k.weighted.same_weights ∙ h.weighted.same_weights;
        };
    members = k.members ∙ h.members;
  }

  state_kept : (a b : Scratch S) (o : Option WpHeader) → KeepsScratch a b → HasSameRoom (state_for o a) (state_for o b)
  state_kept a b None k = k.plain
  state_kept a b (Some weights) k = k.weighted

  -- room to undo is still there in a scratch of as much room
  room_still : (a b : Scratch S) (u : Undo) → KeepsScratch a b → HasRoomForCells a u → HasRoomForCells b u
  room_still a b (UndoRct kind regions) k h =
      let p = k.rows.first in
      let q = k.rows.second in
      let s = k.rows.third in
      let c = h.first in
      let d = h.second in
      let e = h.third in
      record { first = omega (arith, p, c); second = omega (arith, q, d); third = omega (arith, s, e) }
  room_still a b (UndoPalette t table index regions) k h =
      let same = state_kept a b t.wp_header k in
      let room = same.same_room in
      let was = h.0 in
      let count = k.members in
      let listed = h.2 in
      (omega (arith, room, was), same.same_weights ∙ h.1, omega (arith, count, listed))
  room_still a b (UndoSqueeze horizontal r) k h = let l = k.line in omega (arith, l, h)

  pub room_kept : (us : List Undo) (a b : Scratch S) → KeepsScratch a b → HasRoomFor us a → HasRoomFor us b
  room_kept us a b k room = λ i d l some. room_still a b (get_or us i d) k (room i d l some)
