-- A palette step undone: the finished grids are those of the table and the indices that were there.
use Rattle.std.proofs.Common.{ℕ, List, [], ◌∷◌, ℤ, sym, ap, ◌∙◌, subst}
use Rattle.std.specs.Prelude.{get_or, map}
use Rattle.std.specs.Int.{Width}
use Rattle.jxlm_base.specs.Grid.{Grid}
use Rattle.jxlm_base.specs.Outside.{KeepsOutside}
use Rattle.jxlm_base.specs.Regions.{region, grid_of, store_meanings, grids_in}
use Rattle.jxlm_base.specs.declared.subgrid.Region.{Region}
use Rattle.jxlm_transform.specs.Channels.{Channel}
use Rattle.jxlm_transform.specs.ChannelSteps.{PaletteStep, range}
use Rattle.jxlm_inverse.specs.Palette.{IsPaletteOf}
use Rattle.jxlm_transform.specs.declared.transform.Palette.{Palette}
use Rattle.jxlm_chain.specs.Chain.{Codes}
use Rattle.jxlm_transform.specs.Layout.{Layout, layout_after, no_region}
use Rattle.jxlm_chain.specs.Lying.{LieIn}
use Rattle.jxlm_chain.specs.Undo.{UndoPalette, Undoes, UndoesAll, undo_of}
use Rattle.jxlm_chain.proofs.KeptGrids.{grid_out_of_range}
use Rattle.jxlm_transform.proofs.Ranges.{range_map, with_range_map, with_range_same}

module _ {S : Type 0} (to_int : S → ℤ) (w : Width) (depth : ℕ) (t : Palette) (places : Layout) (cs : List Channel) (old new : List (Grid S)) (lies : LieIn cs places old) where
  pub palette_codes : UndoesAll to_int w depth (undo_of (PaletteStep t) places) old new →
      Codes w depth (PaletteStep t) (grids_in places.regions (store_meanings to_int new)) (grids_in (layout_after (PaletteStep t) places).regions (store_meanings to_int old))
  palette_codes h =
      let rs : List Region = range t.begin_c t.num_c places.regions in
      let was : List (Grid ℤ) = store_meanings to_int old in
      let now : List (Grid ℤ) = store_meanings to_int new in
      let table : Region = region places.buffers 0 0 t.nb_colours t.num_c in
      let index : Region = get_or places.regions t.begin_c no_region in
      let undone : IsPaletteOf w depth t (grid_of was table) (grid_of was index) (map (grid_of now) rs) × KeepsOutside rs old new =
      subst (λ store. Undoes to_int w depth (UndoPalette t table index rs) store new) h.1 h.2 in (
        grid_of was table,
        grid_of was index,
        subst (IsPaletteOf w depth t (grid_of was table) (grid_of was index)) (sym (range_map (grid_of now) t.begin_c t.num_c places.regions)) undone.0,
        ap (λ gs. grid_of was table ∷ gs)
            (with_range_map (grid_of was) t.begin_c t.num_c (index ∷ []) places.regions
            ∙ with_range_same (grid_of was) (grid_of now) t.begin_c t.num_c places.regions
            (λ k d l out. sym (grid_out_of_range to_int t.begin_c t.num_c places.regions old new lies.apart lies.lie undone.1 k d l out))
            (grid_of was index ∷ [])),
      )
