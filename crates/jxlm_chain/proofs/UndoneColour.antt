-- A colour step undone: the three grids now, recoloured, are those that were there.
use Rattle.std.proofs.Common.{◌≡◌, ℕ, List, ℤ, sym, ap, ◌∙◌, subst}
use Rattle.std.specs.Prelude.{map}
use Rattle.std.specs.Int.{Width}
use Rattle.jxlm_base.specs.Grid.{Grid}
use Rattle.jxlm_base.specs.Outside.{KeepsOutside}
use Rattle.jxlm_base.specs.Regions.{grid_of, store_meanings, grids_in}
use Rattle.jxlm_base.specs.declared.subgrid.Region.{Region}
use Rattle.jxlm_transform.specs.Channels.{Channel}
use Rattle.jxlm_transform.specs.ChannelSteps.{RctStep, range, with_range}
use Rattle.jxlm_inverse.specs.Recoloured.{recolour, UndoesColour}
use Rattle.jxlm_transform.specs.declared.transform.Rct.{Rct}
use Rattle.jxlm_chain.specs.Chain.{Codes}
use Rattle.jxlm_chain.proofs.SampleGrids.{AreSampleGrids}
use Rattle.jxlm_transform.specs.Layout.{Layout, layout_after}
use Rattle.jxlm_chain.specs.Lying.{LieIn}
use Rattle.jxlm_chain.specs.Undo.{UndoRct, Undoes, UndoesAll, undo_of}
use Rattle.jxlm_chain.proofs.KeptGrids.{grid_out_of_range}
use Rattle.jxlm_transform.proofs.Ranges.{range_map, with_own, with_range_same}

module _ {S : Type 0} (to_int : S → ℤ) (w : Width) (depth : ℕ) (t : Rct) (places : Layout) (cs : List Channel) (old new : List (Grid S)) (lies : LieIn cs places old) where
  pub colour_codes : UndoesAll to_int w depth (undo_of (RctStep t) places) old new →
      Codes w depth (RctStep t) (grids_in places.regions (store_meanings to_int new)) (grids_in (layout_after (RctStep t) places).regions (store_meanings to_int old))
  colour_codes h =
      let rs : List Region = range t.begin_c 3 places.regions in
      let was : List (Grid ℤ) = store_meanings to_int old in
      let now : List (Grid ℤ) = store_meanings to_int new in
      let undone : UndoesColour w t.rct_type rs was now × KeepsOutside rs old new = subst (λ store. Undoes to_int w depth (UndoRct t.rct_type rs) store new) h.1 h.2 in
      let coded : recolour w t.rct_type (range t.begin_c 3 (map (grid_of now) places.regions)) ≡ range t.begin_c 3 (map (grid_of was) places.regions) =
      ap (recolour w t.rct_type) (range_map (grid_of now) t.begin_c 3 places.regions) ∙ undone.0.colour ∙ sym (range_map (grid_of was) t.begin_c 3 places.regions) in (
        subst (AreSampleGrids w) (sym (range_map (grid_of now) t.begin_c 3 places.regions)) undone.0.samples,
        sym (with_own t.begin_c 3 (map (grid_of was) places.regions))
            ∙ ap (λ gs. with_range t.begin_c 3 gs (map (grid_of was) places.regions)) (sym coded)
            ∙ with_range_same (grid_of was) (grid_of now) t.begin_c 3 places.regions
            (λ k d l out. sym (grid_out_of_range to_int t.begin_c 3 places.regions old new lies.apart lies.lie undone.1 k d l out))
            (recolour w t.rct_type (range t.begin_c 3 (map (grid_of now) places.regions))),
      )
