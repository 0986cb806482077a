use Rattle.std.proofs.Common.{◌≡◌, sym, ap, subst, ◌∙◌, List, Some}
use Rattle.std.specs.List.{All}
use Rattle.jxlm_base.specs.Grid.{Grid}
use Rattle.jxlm_transform.specs.Layout.{first_layout}
use Rattle.jxlm_chain.specs.Scratch.{HasRoomFor, IsNarrowUndo}
use Rattle.jxlm_chain.specs.Steps.{CanUndoAll, IsNarrowStore}
use Rattle.jxlm_transform.specs.Steps.{steps_in}
use Rattle.jxlm_chain.specs.Undo.{Undo, undo_of_all}
use Rattle.jxlm_chain.specs.Undoings.{SuitsWeights, undos_of}
use Rattle.jxlm_chain.specs.declared.undo.Undoing.{Undoing}
use Rattle.jxlm_chain.proofs.Rooms.{narrow_undos}
use Rattle.jxlm_header.specs.Header.{header_of}
use Rattle.jxl_modular.proofs.Laid.{can_undo}
use Rattle.jxl_modular.proofs.Suits.{steps_suit}
use Rattle.jxl_modular.proofs.UndoneImage.{same, laid_after, only}
use Rattle.jxl_modular.proofs.image.ModularImageDestination.undo_transforms.Goals as goal

pub new-requires-clause-narrow : goal.new-requires-clause-narrow
new-requires-clause-narrow g c κs within =
    let undos : undos_of c.deref.result.now ≡ undo_of_all (steps_in (header_of c.self.inside.header).transform) (first_layout c.self.inside.given.items) =
    ap (λ (us : List Undoing). undos_of us) c.deref.ensures.value ∙ c.self.invariant.undos in
    subst (All IsNarrowUndo) (sym undos) (narrow_undos c.self.inside.store.items _ c.self.invariant.laid.narrow_store (can_undo _ c.self.invariant.laid))

pub new-requires-clause-suits : goal.new-requires-clause-suits
new-requires-clause-suits g c κs within =
    let undos : undos_of c.deref.result.now ≡ undo_of_all (steps_in (header_of c.self.inside.header).transform) (first_layout c.self.inside.given.items) =
    ap (λ (us : List Undoing). undos_of us) c.deref.ensures.value ∙ c.self.invariant.undos in
    subst (All (SuitsWeights (Some c.self.inside.header.wp_params))) (sym undos) (steps_suit _ _ _ c.self.invariant.laid.palettes)

pub undo_all-requires-clause-can : goal.undo_all-requires-clause-can
undo_all-requires-clause-can g c κs within =
    let undos : undos_of c.deref-2.result.now ≡ undo_of_all (steps_in (header_of c.self.inside.header).transform) (first_layout c.self.inside.given.items) =
    ap (λ (us : List Undoing). undos_of us) c.deref-2.ensures.value ∙ c.self.invariant.undos in
    subst (λ (store : List (Grid g.row.S.Denot)). CanUndoAll store (undos_of c.deref-2.result.now)) (sym c.deref_mut.ensures.value)
    (subst (CanUndoAll c.self.inside.store.items) (sym undos) (can_undo _ c.self.invariant.laid))

pub undo_all-requires-clause-narrow : goal.undo_all-requires-clause-narrow
undo_all-requires-clause-narrow g c κs within = subst (λ (store : List (Grid g.row.S.Denot)). IsNarrowStore store) (sym c.deref_mut.ensures.value) c.self.invariant.laid.narrow_store

pub undo_all-requires-clause-room : goal.undo_all-requires-clause-room
undo_all-requires-clause-room g c κs within =
    let same : undos_of c.deref.result.now ≡ undos_of c.deref-2.result.now = ap (λ (us : List Undoing). undos_of us) (c.deref.ensures.value ∙ sym c.deref-2.ensures.value) in
    subst (λ (us : List Undo). HasRoomFor us c.in_ok-scratch.scratch) same c.in_ok-scratch.ensures.room

pub invariant_of-self : goal.invariant_of-self
invariant_of-self g c =
    let undos : undos_of c.deref-2.result.now ≡ undo_of_all (steps_in (header_of c.self.inside.header).transform) (first_layout c.self.inside.given.items) =
    ap (λ (us : List Undoing). undos_of us) c.deref-2.ensures.value ∙ c.self.invariant.undos in
    record {
      laid = laid_after g.S.Sealed.to_int g.S.Sealed.width c.self.invariant.laid c.self.inside.store.len c.self.inside.store.ok.0
          (undos_of c.deref-2.result.now) undos _ c.undo_all.new.store c.deref_mut.ensures.value c.undo_all.ensures.undoes;
      undos = c.self.invariant.undos;
    }

pub returns-clause-same : goal.returns-clause-same
returns-clause-same g c =
    let undos : undos_of c.deref-2.result.now ≡ undo_of_all (steps_in (header_of c.self.inside.header).transform) (first_layout c.self.inside.given.items) =
    ap (λ (us : List Undoing). undos_of us) c.deref-2.ensures.value ∙ c.self.invariant.undos in
    rw (← c.self.view_is) (same g.S.Sealed.to_int g.S.Sealed.width c.self.invariant.laid c.self.inside.store.len c.self.inside.store.ok.0
    (undos_of c.deref-2.result.now) undos _ c.undo_all.new.store c.deref_mut.ensures.value c.undo_all.ensures.undoes)

pub returns-clause-only : goal.returns-clause-only
returns-clause-only g c =
    let undos : undos_of c.deref-2.result.now ≡ undo_of_all (steps_in (header_of c.self.inside.header).transform) (first_layout c.self.inside.given.items) =
    ap (λ (us : List Undoing). undos_of us) c.deref-2.ensures.value ∙ c.self.invariant.undos in
    rw (← c.self.view_is) (only g.S.Sealed.to_int g.S.Sealed.width c.self.invariant.laid c.self.inside.store.len c.self.inside.store.ok.0
    (undos_of c.deref-2.result.now) undos _ c.undo_all.new.store c.deref_mut.ensures.value c.undo_all.ensures.undoes)
