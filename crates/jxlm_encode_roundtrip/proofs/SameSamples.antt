-- Grids whose numbers are the same.
use Rattle.std.proofs.Common.{◌≡◌, ℤ, List, [], ◌∷◌, map, refl, sym, ap, ◌∙◌}
use Rattle.jxlm_base.specs.Grid.{Grid, meanings}
use Rattle.jxlm_base.specs.Regions.{store_meanings}

module _ {S : Type 0} (to_int : S → ℤ) (from_int : ℤ → S) (back : (x : S) → from_int (to_int x) ≡ x) where
  cells_back : (xs : List S) → map from_int (map to_int xs) ≡ xs
  cells_back [] = refl
  cells_back (x ∷ xs) = ap (λ y. y ∷ map from_int (map to_int xs)) (back x) ∙ ap (λ ys. x ∷ ys) (cells_back xs)

  grid_back : (g : Grid S) → meanings from_int (meanings to_int g) ≡ g
  grid_back g = ap (λ xs. record { width = g.width; height = g.height; cells = xs }) (cells_back g.cells)

  grids_back : (gs : List (Grid S)) → store_meanings from_int (store_meanings to_int gs) ≡ gs
  grids_back [] = refl
  grids_back (g ∷ gs) = ap (λ h. h ∷ store_meanings from_int (store_meanings to_int gs)) (grid_back g) ∙ ap (λ hs. g ∷ hs) (grids_back gs)

  -- grids of the same numbers are the same
  pub same_grids : (gs hs : List (Grid S)) → store_meanings to_int gs ≡ store_meanings to_int hs → gs ≡ hs
  same_grids gs hs e = sym (grids_back gs) ∙ ap (store_meanings from_int) e ∙ grids_back hs
