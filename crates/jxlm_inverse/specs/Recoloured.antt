-- Colour of whole channels (ISO/IEC 18181-1, Modular: reversible colour transforms).
use Rattle.std.specs.Prelude.{◌≡◌, ℕ, List, [], ◌∷◌, map, ℤ}
use Rattle.std.specs.List.{All, AllPairs}
use Rattle.std.specs.Int.{Width}
use Rattle.jxlm_lanes.specs.Colour.{Triple, triple, coded_triple}
use Rattle.jxlm_base.specs.Grid.{Grid, grid_by, at}
use Rattle.jxlm_base.specs.Regions.{grid_of}
use Rattle.jxlm_base.specs.SqueezedGrids.{AreGridSamples}
use Rattle.jxlm_base.specs.declared.subgrid.Region.{Region}

-- three grids of one size, coded sample by sample
abbrev pub recolour : Width → ℕ → List (Grid ℤ) → List (Grid ℤ)
recolour w kind (f ∷ g ∷ h ∷ []) =
    let coded : ℕ → ℕ → Triple = λ x y. coded_triple w kind (triple (at f x y) (at g x y) (at h x y)) in
    let part : (Triple → ℤ) → Grid ℤ = λ p. grid_by f.width f.height (λ x y. p (coded x y)) in
    part (λ t. t.first) ∷ part (λ t. t.second) ∷ part (λ t. t.third) ∷ []
recolour w kind gs = gs

-- the regions have one size
abbrev pub HaveOneSize : List Region → Type 0
HaveOneSize rs = AllPairs (λ r s. (r.width ≡ s.width) × (r.height ≡ s.height)) rs

-- What is in the regions now are w-bit samples, and they are coded as what was there.
pub record UndoesColour (w : Width) (kind : ℕ) (regions : List Region) (old new : List (Grid ℤ)) : Type 0 where
  pub colour : recolour w kind (map (grid_of new) regions) ≡ map (grid_of old) regions
  pub samples : All (AreGridSamples w) (map (grid_of new) regions)
