-- A squeeze step undone: the grids of the regions' two parts are the averages and the residuals of the grids now.
use Rattle.std.proofs.Common.{◌≡◌, ℕ, zero, suc, ◌<◌, List, [], ◌∷◌, length, Bool, ℤ, sym, ap, ◌∙◌, subst, arith}
use Rattle.std.specs.Prelude.{get_or, map}
use Rattle.std.specs.List.{All}
use Rattle.std.specs.Int.{Width}
use Rattle.std.proofs.lemmas.List.Elements.{All-map}
use Rattle.jxlm_base.specs.Grid.{Grid}
use Rattle.jxlm_base.specs.Outside.{KeepsOutside}
use Rattle.jxlm_base.specs.Regions.{grid_of, Lies, AllLie, AreApart, LieApart, store_meanings, HasCell, grids_in}
use Rattle.jxlm_base.specs.SqueezedGrids.{AreGridSamples}
use Rattle.jxlm_base.specs.declared.subgrid.Region.{Region}
use Rattle.jxlm_base.proofs.Outside.{keeps_all, keeps_both, keeps_wider, all_one, all_lie_still}
use Rattle.jxlm_base.proofs.Regions.{AreApart_sym}
use Rattle.jxlm_transform.specs.Channels.{Channel}
use Rattle.jxlm_transform.specs.ChannelSteps.{SqueezeStep, range, with_halves}
use Rattle.jxlm_transform.specs.declared.transform.SqueezeParams.{SqueezeParams}
use Rattle.jxlm_transform.specs.SqueezedRegions.{average_region, residual_region}
use Rattle.jxlm_inverse.specs.UndoneSqueeze.{average_grid, residual_grid, squeezed_grid, UndoesSqueeze}
use Rattle.jxlm_inverse.proofs.SqueezedRegions.{averages_stood, residuals_stood}
use Rattle.jxlm_chain.specs.Chain.{Codes}
use Rattle.jxlm_chain.proofs.SampleGrids.{AreSampleGrids}
use Rattle.jxlm_transform.specs.Layout.{Layout, layout_after}
use Rattle.jxlm_chain.specs.Lying.{LieIn}
use Rattle.jxlm_chain.specs.Undo.{UndoSqueeze, UndoesAll, undo_of}
use Rattle.jxlm_chain.proofs.KeptGrids.{grid_apart, grid_out_of_range}
use Rattle.jxlm_transform.proofs.Ranges.{range_map, with_halves_map, with_halves_same, map_map_same}
use Rattle.jxlm_transform.proofs.RangeParts.{all_range}
use Rattle.jxlm_chain.proofs.StepParts.{pairs_range}

-- ---- several regions, one after another

first_and_rest : {X : Type 0} (P : X → Type 0) (x : X) (xs : List X) → P x → All P xs → All P (x ∷ xs)
first_and_rest P x xs p ps zero d h = p
first_and_rest P x xs p ps (suc k) d h = ps k d (omega arith)

-- what is in each region now, squeezed, is what was there
abbrev pub AreSqueezed : Width → Bool → List Region → List (Grid ℤ) → List (Grid ℤ) → Type 0
AreSqueezed w horizontal rs old new = All (λ r. UndoesSqueeze w horizontal r old new) rs

module _ {S : Type 0} (to_int : S → ℤ) (w : Width) (depth : ℕ) (horizontal : Bool) where
  pub undone_regions : (rs : List Region) (old new : List (Grid S)) → LieApart rs → AllLie rs old → UndoesAll to_int w depth (map (UndoSqueeze horizontal) rs) old new →
      AreSqueezed w horizontal rs (store_meanings to_int old) (store_meanings to_int new) × KeepsOutside rs old new
  undone_regions [] old new apart lie h = ((λ k d l. absurd (omega arith)), subst (KeepsOutside [] old) (sym h) (keeps_all [] old))
  undone_regions (r ∷ rs) old new apart lie h =
      let between : List (Grid S) = h.0 in
      let others : AllLie rs old = λ k d l. lie (suc k) d (omega arith) in
      let rest : AreSqueezed w horizontal rs (store_meanings to_int old) (store_meanings to_int between) × KeepsOutside rs old between =
      undone_regions rs old between (λ i j d lt l. apart (suc i) (suc j) d (omega arith) (omega arith)) others h.1 in
      let from_first : (k : ℕ) (d : Region) → k < length rs → AreApart r (get_or rs k d) = λ k d l. apart zero (suc k) d (omega arith) (omega arith) in
      let first : grid_of (store_meanings to_int between) r ≡ grid_of (store_meanings to_int old) r =
      grid_apart to_int rs old between r rest.1 (lie 0 r (omega arith)) (λ k d l. AreApart_sym r (get_or rs k d) (from_first k d l)) in
      let keeps : KeepsOutside (r ∷ rs) old new =
      keeps_both (r ∷ rs) old between new
      (keeps_wider rs (r ∷ rs) old between rest.1 (λ n x y o k d l. o (suc k) d (omega arith)))
      (keeps_wider (r ∷ []) (r ∷ rs) between new h.2.1 (λ n x y o. all_one (λ q. HasCell q n x y → ⊥) r (o 0 r (omega arith)))) in
      let stays : (k : ℕ) (d : Region) → k < length rs → grid_of (store_meanings to_int new) (get_or rs k d) ≡ grid_of (store_meanings to_int between) (get_or rs k d) =
      λ k d l. grid_apart to_int (r ∷ []) between new (get_or rs k d) h.2.1 (all_lie_still rs rs old between rest.1 others k d l) (all_one (λ q. AreApart q (get_or rs k d)) r (from_first k d l)) in
      let squeezed_now : AreSqueezed w horizontal (r ∷ rs) (store_meanings to_int old) (store_meanings to_int new) =
      first_and_rest (λ q. UndoesSqueeze w horizontal q (store_meanings to_int old) (store_meanings to_int new)) r rs (record { squeezed = h.2.0.squeezed ∙ first; samples = h.2.0.samples })
      (λ k d l. record {
        squeezed = ap (squeezed_grid w horizontal) (stays k d l) ∙ (rest.0 k d l).squeezed;
        samples = subst (AreGridSamples w) (sym (stays k d l)) (rest.0 k d l).samples;
      }) in
      (squeezed_now, keeps)

-- the averages and the residuals of the regions' grids were in their two parts
module _ (w : Width) (horizontal : Bool) (rs : List Region) (old new : List (Grid ℤ)) (squeezed : AreSqueezed w horizontal rs old new) where
  averages_of : map (grid_of old) (map (average_region horizontal) rs) ≡ map (average_grid w horizontal) (map (grid_of new) rs)
  averages_of = map_map_same (grid_of old) (average_region horizontal) (average_grid w horizontal) (grid_of new) rs (λ k d h. sym (averages_stood w (get_or rs k d) old new horizontal (squeezed k d h)))

  residuals_of : map (grid_of old) (map (residual_region horizontal) rs) ≡ map (residual_grid w horizontal) (map (grid_of new) rs)
  residuals_of = map_map_same (grid_of old) (residual_region horizontal) (residual_grid w horizontal) (grid_of new) rs (λ k d h. sym (residuals_stood w (get_or rs k d) old new horizontal (squeezed k d h)))

-- ---- the step

module _ {S : Type 0} (to_int : S → ℤ) (w : Width) (depth : ℕ) (t : SqueezeParams) (places : Layout) (cs : List Channel) (old new : List (Grid S)) (lies : LieIn cs places old) where
  pub squeeze_codes : UndoesAll to_int w depth (undo_of (SqueezeStep t) places) old new →
      Codes w depth (SqueezeStep t) (grids_in places.regions (store_meanings to_int new)) (grids_in (layout_after (SqueezeStep t) places).regions (store_meanings to_int old))
  squeeze_codes h =
      let rs : List Region = range t.begin_c t.num_c places.regions in
      let was : List (Grid ℤ) = store_meanings to_int old in
      let now : List (Grid ℤ) = store_meanings to_int new in
      let undone : AreSqueezed w t.horizontal rs was now × KeepsOutside rs old new =
      undone_regions to_int w depth t.horizontal rs old new (pairs_range AreApart t.begin_c t.num_c places.regions lies.apart) (all_range (λ r. Lies r old) t.begin_c t.num_c places.regions lies.lie) h in
      let ranged : range t.begin_c t.num_c (map (grid_of now) places.regions) ≡ map (grid_of now) rs = range_map (grid_of now) t.begin_c t.num_c places.regions in
      let samples : AreSampleGrids w (map (grid_of now) rs) = All-map (AreGridSamples w) (grid_of now) rs (λ k d l. (undone.0 k d l).samples) in (
        subst (AreSampleGrids w) (sym ranged) samples,
        with_halves_map (grid_of was) t (map (average_region t.horizontal) rs) (map (residual_region t.horizontal) rs) places.regions
            ∙ ap (λ gs. with_halves t gs (map (grid_of was) (map (residual_region t.horizontal) rs)) (map (grid_of was) places.regions))
            (averages_of w t.horizontal rs was now undone.0 ∙ ap (map (average_grid w t.horizontal)) (sym ranged))
            ∙ ap (λ gs. with_halves t (map (average_grid w t.horizontal) (range t.begin_c t.num_c (map (grid_of now) places.regions))) gs (map (grid_of was) places.regions))
            (residuals_of w t.horizontal rs was now undone.0 ∙ ap (map (residual_grid w t.horizontal)) (sym ranged))
            ∙ with_halves_same (grid_of was) (grid_of now) t places.regions
            (λ k d l out. sym (grid_out_of_range to_int t.begin_c t.num_c places.regions old new lies.apart lies.lie undone.1 k d l out))
            (map (average_grid w t.horizontal) (range t.begin_c t.num_c (map (grid_of now) places.regions)))
            (map (residual_grid w t.horizontal) (range t.begin_c t.num_c (map (grid_of now) places.regions))),
      )
