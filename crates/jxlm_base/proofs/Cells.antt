-- The cells of a grid: after a write, and by coordinates.
use Rattle.std.proofs.Common.{◌≡◌, ℕ, zero, suc, ◌+◌, ◌*◌, ◌/◌, ◌%◌, ◌<◌, List, [], ◌∷◌, length, Some, sym, refl, ap, ◌∙◌, subst, arith}
use Rattle.std.specs.List.{slice_get}
use Rattle.std.proofs.lemmas.Nat.{same_from_place, mul-add-lt, mod_below, div_below, div-add-mod'}
use Rattle.std.proofs.Math.Nat.{mul_comm}
use Rattle.std.proofs.Math.ListN.{length-set}
use Rattle.jxlm_lanes.proofs.NumberAt.{slice_get-set_same, slice_get-set_other}
use Rattle.jxlm_base.specs.Grid.{Grid, grid, cell, with_cell, place, IsFull}

module _ {S : Type 0} where
  pub place_within : (g : Grid S) (x y : ℕ) → IsFull g → x < g.width → y < g.height → place g x y < length g.cells
  place_within g x y full p q = subst (λ n. place g x y < n) (sym full) (mul-add-lt y g.width x g.height q p)

  pub cell-with_cell_same : (g : Grid S) (x y : ℕ) (v : S) → IsFull g → x < g.width → y < g.height → cell (with_cell g x y v) x y ≡ Some v
  cell-with_cell_same g x y v full p q = slice_get-set_same g.cells (place g x y) v (place_within g x y full p q)

  pub cell-with_cell_other : (g : Grid S) (x y i j : ℕ) (v : S) → x < g.width → i < g.width → ((x ≡ i) × (y ≡ j) → ⊥) → cell (with_cell g x y v) i j ≡ cell g i j
  cell-with_cell_other g x y i j v p q ne =
      slice_get-set_other g.cells (place g x y) (place g i j) v (λ e. let s = same_from_place y x j i g.width p q e in ne (s.1, s.0))

  pub IsFull-with_cell : (g : Grid S) (x y : ℕ) (v : S) → IsFull g → IsFull (with_cell g x y v)
  IsFull-with_cell g x y v full = length-set g.cells (place g x y) v ∙ full

-- ---- a grid is its cells by coordinates

list_same : {X : Type 0} (xs ys : List X) → length xs ≡ length ys → ((i : ℕ) → i < length xs → slice_get xs i ≡ slice_get ys i) → xs ≡ ys
list_same [] [] e h = refl
list_same [] (y ∷ ys) e h = absurd (omega arith)
list_same (x ∷ xs) [] e h = absurd (omega arith)
list_same (x ∷ xs) (y ∷ ys) e h =
    let first : Some x ≡ Some y = h 0 (omega arith) in
    let same : x ≡ y = cc in
    ap (λ z. z ∷ xs) same ∙ ap (λ zs. y ∷ zs) (list_same xs ys (omega arith) (λ i p. h (suc i) (omega arith)))

positive : (a w i : ℕ) → i < a * w → 0 < w
positive a zero i h = absurd (omega arith)
positive a (suc w) i h = omega arith

module _ {S : Type 0} where
  pub grid_same : (g h : Grid S) → IsFull g → IsFull h → g.width ≡ h.width → g.height ≡ h.height →
      ((x y : ℕ) → x < g.width → y < g.height → cell g x y ≡ cell h x y) → g ≡ h
  grid_same g h f k same_width same_height same =
      let cells : g.cells ≡ h.cells =
      list_same g.cells h.cells (f ∙ ap (λ w. w * g.height) same_width ∙ ap (λ n. h.width * n) same_height ∙ sym k)
      (λ i p.
      let within : i < g.height * g.width = let q : i < g.width * g.height = subst (λ n. i < n) f p in omega (arith, mul_comm g.width g.height) in
      let some : 0 < g.width = positive g.height g.width i within in
      let x : i % g.width < g.width = mod_below i g.width some in
      let y : i / g.width < g.height = div_below i g.width g.height some within in
      let is : i / g.width * g.width + i % g.width ≡ i = div-add-mod' i g.width in
      ap (slice_get g.cells) (sym is) ∙ same (i % g.width) (i / g.width) x y ∙ ap (slice_get h.cells) (ap (λ w. i / g.width * w + i % g.width) (sym same_width) ∙ is))
      in ap (λ w. grid w g.height g.cells) same_width ∙ ap (λ n. grid h.width n g.cells) same_height ∙ ap (grid h.width h.height) cells
