-- Undoing from the last to the first.
use Rattle.std.proofs.Common.{◌≡◌, ℕ, ◌+◌, ◌<◌, List, length, drop, get_or, ℤ, sym, ap, ◌∙◌, subst, arith}
use Rattle.std.specs.Int.{Width}
use Rattle.std.specs.List.{All}
use Rattle.std.proofs.lemmas.List.{drop_more, length-map}
use Rattle.std.proofs.Math.ListN.{get_or-map}
use Rattle.jxlm_base.specs.Grid.{Grid}
use Rattle.jxlm_chain.specs.Scratch.{HasRoomFor, KeepsScratch}
use Rattle.jxlm_chain.specs.Shape.{SameShape}
use Rattle.jxlm_chain.specs.Steps.{CanUndoAll, IsNarrowStore}
use Rattle.jxlm_chain.specs.Undo.{Undo, Undoes, UndoesAll}
use Rattle.jxlm_chain.specs.Undoings.{undo_of_code, undos_of}
use Rattle.jxlm_chain.specs.declared.scratch.Scratch.{Scratch}
use Rattle.jxlm_chain.specs.declared.undo.Undoing.{Undoing}
use Rattle.jxlm_chain.proofs.Rooms.{keeps_both, room_kept}
use Rattle.jxlm_chain.proofs.ShapeLaws.{narrow_kept, shape_undone, undos_kept}

module _ {S : Type 0} (to_int : S → ℤ) (w : Width) (depth : ℕ) (us : List Undo) where
  -- the undoings from k on are done
  pub record Undone (k : ℕ) (old now : List (Grid S)) (a b : Scratch S) : Type 0 where
    pub done : UndoesAll to_int w depth (drop k us) old now
    pub can : CanUndoAll now us
    pub narrow : IsNarrowStore now
    pub room : HasRoomFor us b
    pub keeps : KeepsScratch a b

  pub undone_next : (j k : ℕ) (d : Undo) (old now new : List (Grid S)) (a b c : Scratch S) → j < length us → k ≡ j + 1 → Undone k old now a b → Undoes to_int w depth (get_or us j d) now new → KeepsScratch b c → Undone j old new a c
  undone_next j k d old now new a b c lt next was one keeps =
      let same : SameShape now new = shape_undone to_int w depth (get_or us j d) now new one in
      let rest : UndoesAll to_int w depth (drop (j + 1) us) old now = subst (λ (n : ℕ). UndoesAll to_int w depth (drop n us) old now) next was.done in
      record {
        done = subst (λ (vs : List Undo). UndoesAll to_int w depth vs old new) (sym (drop_more us j d lt)) (now, rest, one);
        can = undos_kept now new same us was.can;
        narrow = narrow_kept now new same was.narrow;
        room = room_kept us b c keeps was.room;
        keeps = keeps_both a b c was.keeps keeps;
      }

-- ---- the undoing that a program reads

pub undo_at : (us : List Undoing) (j : ℕ) (x : Undoing) → x ≡ get_or us j x → undo_of_code x ≡ get_or (undos_of us) j (undo_of_code x)
undo_at us j x is = ap undo_of_code is ∙ sym (get_or-map undo_of_code us j x)

pub holds_at : (P : Undo → Type 0) (us : List Undoing) (j : ℕ) (x : Undoing) → j < length us → x ≡ get_or us j x → All P (undos_of us) → P (undo_of_code x)
holds_at P us j x lt is all = let n = length-map us undo_of_code in subst P (sym (undo_at us j x is)) (all j (undo_of_code x) (omega (arith, n)))
