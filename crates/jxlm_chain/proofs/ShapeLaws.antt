-- What holds of a store holds of one of the same shape.
use Rattle.std.proofs.Common.{◌≡◌, ℕ, suc, ◌+◌, ◌^◌, ◌<◌, ◌≤◌, List, [], ◌∷◌, length, get_or, ℤ, refl, sym, ap, ◌∙◌, subst, arith}
use Rattle.std.specs.Int.{Width}
use Rattle.std.proofs.lemmas.List.{get_or_default}
use Rattle.jxlm_base.specs.Grid.{Grid, grid}
use Rattle.jxlm_base.specs.Outside.{KeepsOutside, buffer_at}
use Rattle.jxlm_base.specs.Regions.{Lies, AllLie}
use Rattle.jxlm_base.specs.declared.subgrid.Region.{Region}
use Rattle.jxlm_transform.specs.Channels.{Channel, HasSides}
use Rattle.jxlm_transform.specs.ChannelSteps.{Step, RctStep, PaletteStep, SqueezeStep}
use Rattle.jxlm_transform.specs.Layout.{Layout, HasBuffers}
use Rattle.jxlm_chain.specs.Lying.{HasTables, LieIn}
use Rattle.jxlm_transform.specs.Steps.{Sides}
use Rattle.jxlm_chain.specs.Shape.{SameShape}
use Rattle.jxlm_chain.specs.Steps.{CanUndo, CanUndoAll, IsNarrowStore}
use Rattle.jxlm_chain.specs.Undo.{Undo, UndoRct, UndoPalette, UndoSqueeze, Undoes, UndoesAll}

module _ {S : Type 0} where
  pub shape_same : (store : List (Grid S)) → SameShape store store
  shape_same store = record { count = refl; width = λ b. refl; height = λ b. refl; full = λ b h. h }

  pub shape_both : (a b c : List (Grid S)) → SameShape a b → SameShape b c → SameShape a c
  shape_both a b c h k =
      record { count = k.count ∙ h.count; width = λ n. k.width n ∙ h.width n; height = λ n. k.height n ∙ h.height n; full = λ n f. k.full n (h.full n f) }

  -- what is kept outside regions has the same shape
  pub shape_kept : (regions : List Region) (old new : List (Grid S)) → KeepsOutside regions old new → SameShape old new
  shape_kept regions old new k = record { count = k.count; width = k.width; height = k.height; full = k.full }

  shape_rest : (g h : Grid S) (gs hs : List (Grid S)) → SameShape (g ∷ gs) (h ∷ hs) → SameShape gs hs
  shape_rest g h gs hs same =
      let count = same.count in
      record { count = omega (arith, count); width = λ b. same.width (suc b); height = λ b. same.height (suc b); full = λ b. same.full (suc b) }

  -- ---- what is kept

  module _ (old new : List (Grid S)) (same : SameShape old new) where
    pub lies_kept : (r : Region) → Lies r old → Lies r new
    lies_kept r h =
        let there = h.there in
        let count = same.count in
        record {
          there = omega (arith, there, count);
          full = same.full r.buffer h.full;
          columns = subst (λ n. r.x + r.width ≤ n) (sym (same.width r.buffer)) h.columns;
          rows = subst (λ n. r.y + r.height ≤ n) (sym (same.height r.buffer)) h.rows;
        }

    pub all_lie_kept : (rs : List Region) → AllLie rs old → AllLie rs new
    all_lie_kept rs lie = λ i d h. lies_kept (get_or rs i d) (lie i d h)

    pub lie_in_kept : (cs : List Channel) (places : Layout) → LieIn cs places old → LieIn cs places new
    lie_in_kept cs places h = record { sizes = h.sizes; lie = all_lie_kept places.regions h.lie; taken = h.taken; apart = h.apart }

    pub sides_kept : (width height b : ℕ) → HasSides width height (buffer_at old b) → HasSides width height (buffer_at new b)
    sides_kept width height b h = record { same_width = same.width b ∙ h.same_width; same_height = same.height b ∙ h.same_height; full = same.full b h.full }

    pub tables_kept : (ss : List Step) (b : ℕ) → HasTables ss b old → HasTables ss b new
    tables_kept [] b h = same.count ∙ h
    tables_kept (RctStep t ∷ ss) b h = tables_kept ss b h
    tables_kept (PaletteStep t ∷ ss) b h = (sides_kept t.nb_colours t.num_c b h.0, tables_kept ss (suc b) h.1)
    tables_kept (SqueezeStep t ∷ ss) b h = tables_kept ss b h

    pub undo_kept : (u : Undo) → CanUndo old u → CanUndo new u
    undo_kept (UndoRct kind regions) h = (h.0, all_lie_kept regions h.1, h.2, h.3)
    undo_kept (UndoPalette t table index regions) h =
        record {
          table_lies = lies_kept table h.table_lies;
          index_lies = lies_kept index h.index_lies;
          finished_lie = all_lie_kept regions h.finished_lie;
          count = h.count;
          table_width = h.table_width;
          table_height = h.table_height;
          sizes = h.sizes;
          apart = h.apart;
          table_apart = h.table_apart;
          index_apart = h.index_apart;
        }
    undo_kept (UndoSqueeze horizontal r) h = lies_kept r h

    pub undos_kept : (us : List Undo) → CanUndoAll old us → CanUndoAll new us
    undos_kept us h = λ i d l. undo_kept (get_or us i d) (h i d l)

    pub narrow_kept : IsNarrowStore old → IsNarrowStore new
    narrow_kept h = λ i d l.
        let count = same.count in
        let within : i < length old = omega (arith, count, l) in
        let is : get_or new i d ≡ buffer_at new i = get_or_default new i d (grid 0 0 []) l in
        let was : get_or old i d ≡ buffer_at old i = get_or_default old i d (grid 0 0 []) within in
        let wide : (get_or new i d).width ≡ (get_or old i d).width = ap (λ g. g.width) is ∙ same.width i ∙ sym (ap (λ g. g.width) was) in
        let high : (get_or new i d).height ≡ (get_or old i d).height = ap (λ g. g.height) is ∙ same.height i ∙ sym (ap (λ g. g.height) was) in
        (subst (λ n. n ≤ 2 ^ 30) (sym wide) (h i d within).0, subst (λ n. n ≤ 2 ^ 30) (sym high) (h i d within).1)

  pub buffers_kept : (sides : List Sides) (old new : List (Grid S)) → SameShape old new → HasBuffers sides old → HasBuffers sides new
  buffers_kept [] [] [] same has = tt
  buffers_kept [] [] (h ∷ hs) same has = let count = same.count in absurd (omega (arith, count))
  buffers_kept [] (g ∷ gs) new same has = absurd has
  buffers_kept (s ∷ sides) [] new same has = absurd has
  buffers_kept (s ∷ sides) (g ∷ gs) [] same has = let count = same.count in absurd (omega (arith, count))
  buffers_kept (s ∷ sides) (g ∷ gs) (h ∷ hs) same has = (sides_kept (g ∷ gs) (h ∷ hs) same s.width s.height 0 has.0, buffers_kept sides gs hs (shape_rest g h gs hs same) has.1)

-- ---- undoing

module _ {S : Type 0} (to_int : S → ℤ) (w : Width) (depth : ℕ) where
  pub shape_undone : (u : Undo) (old new : List (Grid S)) → Undoes to_int w depth u old new → SameShape old new
  shape_undone (UndoRct kind regions) old new h = shape_kept regions old new h.1
  shape_undone (UndoPalette t table index regions) old new h = shape_kept regions old new h.1
  shape_undone (UndoSqueeze horizontal r) old new h = shape_kept (r ∷ []) old new h.1

  pub shape_all_undone : (us : List Undo) (old new : List (Grid S)) → UndoesAll to_int w depth us old new → SameShape old new
  shape_all_undone [] old new h = subst (SameShape old) (sym h) (shape_same old)
  shape_all_undone (u ∷ us) old new h = let (between, others, one) = h in shape_both old between new (shape_all_undone us old between others) (shape_undone u between new one)
