-- A row in which each cell is predicted by the clamped gradient, as the code goes over it.
use Rattle.std.proofs.Common.{◌≡◌, ℕ, suc, ◌+◌, List, map, get_or, sym, ap, ◌∙◌, subst, arith, ℤ, pos, FitsSigned}
use Rattle.std.specs.Int.{w32, int_wrap}
use Rattle.std.proofs.Math.ListN.{get_or-map}
use Rattle.std.proofs.lemmas.Int.{int_wrap_fits}
use Rattle.jxlm_bits.specs.Numbers.{clamped_gradient}
use Rattle.jxlm_samples.specs.RowNeighbours.{gradient_in, north_in, north_west_in, west_in}

-- a sample of the row above, or another in the first row
pub above_is : {X : Type 0} (to_int : X → ℤ) (above : List X) (x : ℕ) (n other : X) (e : ℤ) → n ≡ get_or above x other → to_int other ≡ e → to_int n ≡ get_or (map to_int above) x e
above_is to_int above x n other e is at = ap to_int is ∙ sym (get_or-map to_int above x other) ∙ ap (get_or (map to_int above) x) at

module _ (A R : List ℤ) (x : ℕ) where
  -- the neighbours of the next cell
  pub next_west : (v : ℤ) → get_or R x (pos 0) ≡ v → v ≡ west_in A R (x + 1)
  next_west v is = let n : suc x ≡ x + 1 = omega arith in subst (λ k. v ≡ west_in A R k) n (sym is)

  pub next_north_west : (m v : ℤ) → m ≡ get_or A x v → get_or R x (pos 0) ≡ v → m ≡ north_west_in A R (x + 1)
  next_north_west m v is at = let n : suc x ≡ x + 1 = omega arith in subst (λ k. m ≡ north_west_in A R k) n (is ∙ ap (get_or A x) (sym at))

  -- the clamped gradient that the code computes
  pub gradient_value : (n w nw g : ℤ) → n ≡ north_in A R x → w ≡ west_in A R x → nw ≡ north_west_in A R x → g ≡ clamped_gradient n w nw → FitsSigned w32 g → g ≡ gradient_in A R x
  gradient_value n w nw g hn hw hnw is fits =
      sym (int_wrap_fits w32 g fits) ∙ ap (int_wrap w32) is
      ∙ ap (λ z. int_wrap w32 (clamped_gradient z w nw)) hn ∙ ap (λ z. int_wrap w32 (clamped_gradient (north_in A R x) z nw)) hw
      ∙ ap (λ z. int_wrap w32 (clamped_gradient (north_in A R x) (west_in A R x) z)) hnw
