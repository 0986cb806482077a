-- The grids of regions that an undoing leaves.
use Rattle.std.proofs.Common.{◌≡◌, ℕ, ◌+◌, ◌<◌, ◌≤◌, List, [], ◌∷◌, length, ℤ, sym, subst, arith}
use Rattle.std.specs.Prelude.{get_or}
use Rattle.std.specs.List.{All}
use Rattle.std.proofs.lemmas.List.{get_or_default}
use Rattle.jxlm_base.specs.Grid.{Grid, at}
use Rattle.jxlm_base.specs.Outside.{KeepsOutside}
use Rattle.jxlm_base.specs.Regions.{buffer_of, grid_of, Lies, AllLie, AreApart, LieApart, store_meanings, grids_in}
use Rattle.jxlm_base.specs.declared.subgrid.Region.{Region}
use Rattle.jxlm_base.proofs.GridLaws.{grid_by_same}
use Rattle.jxlm_base.proofs.Outside.{number_same, region_cell_kept}
use Rattle.jxlm_base.proofs.Regions.{HasCell_at, apart_at, IsFull-grid_of}
use Rattle.jxlm_transform.specs.Channels.{AreGridsOf, AreRegionsOf, Channel}
use Rattle.jxlm_transform.specs.ChannelSteps.{range}
use Rattle.jxlm_transform.specs.Layout.{Layout}
use Rattle.jxlm_chain.specs.Lying.{LieIn}
use Rattle.jxlm_transform.proofs.Ranges.{range_at, range_length}

module _ {S : Type 0} (f : S → ℤ) where
  -- the grid of a region that shares no cell with any of the changed ones is as before
  pub grid_apart : (regions : List Region) (old new : List (Grid S)) (s : Region) → KeepsOutside regions old new → Lies s old → All (λ r. AreApart r s) regions →
      grid_of (store_meanings f new) s ≡ grid_of (store_meanings f old) s
  grid_apart regions old new s k lies apart =
      grid_by_same s.width s.height (λ i j. at (buffer_of (store_meanings f new) s) (s.x + i) (s.y + j)) (λ i j. at (buffer_of (store_meanings f old) s) (s.x + i) (s.y + j))
      (λ i j a b.
      number_same f old new s i j
      (region_cell_kept regions s old new i j k lies a b (λ n d h c. apart n d h s.buffer (s.x + i) (s.y + j) c (HasCell_at s i j a b))))

  -- of regions that lie apart, those out of a range keep their grids where those in it change
  pub grid_out_of_range : (begin n : ℕ) (rs : List Region) (old new : List (Grid S)) → LieApart rs → AllLie rs old → KeepsOutside (range begin n rs) old new →
      (k : ℕ) (d : Region) → k < length rs → (begin ≤ k → k < begin + n → ⊥) → grid_of (store_meanings f new) (get_or rs k d) ≡ grid_of (store_meanings f old) (get_or rs k d)
  grid_out_of_range begin n rs old new apart lie keeps k d h out =
      grid_apart (range begin n rs) old new (get_or rs k d) keeps (lie k d h)
      (λ i e l.
      let p = range_length begin n rs i l in
      let p0 = p.0 in
      subst (λ r. AreApart r (get_or rs k d)) (sym (range_at begin n rs i e p.0))
      (subst (AreApart (get_or rs (begin + i) e)) (get_or_default rs k e d h)
      (apart_at rs (begin + i) k e apart p.1 h (λ q. out (omega arith) (omega arith)))))

-- ---- grids of channels that lie in a store

grids_of_sizes : (store : List (Grid ℤ)) (cs : List Channel) (rs : List Region) → AreRegionsOf cs rs → AreGridsOf cs (grids_in rs store)
grids_of_sizes store [] [] sizes = tt
grids_of_sizes store [] (r ∷ rs) sizes = absurd sizes
grids_of_sizes store (c ∷ cs) [] sizes = absurd sizes
grids_of_sizes store (c ∷ cs) (r ∷ rs) sizes = (
  record { same_width = sizes.0.0; same_height = sizes.0.1; full = IsFull-grid_of store r },
  grids_of_sizes store cs rs sizes.1,
)

-- where channels lie in a store, there are grids of them
pub grids_of_lying : {S : Type 0} (to_int : S → ℤ) (store : List (Grid S)) (cs : List Channel) (places : Layout) → LieIn cs places store → AreGridsOf cs (grids_in places.regions (store_meanings to_int store))
grids_of_lying to_int store cs places lies = grids_of_sizes (store_meanings to_int store) cs places.regions lies.sizes
