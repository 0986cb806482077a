-- Grids by coordinates.
use Rattle.std.proofs.Common.{◌≡◌, ℕ, suc, zero, ◌+◌, ◌*◌, ◌<◌, List, ◌++◌, length, ℤ, pos, Some, sym, refl, ap, ◌∙◌, arith}
use Rattle.std.specs.Prelude.{get_or, map, slice_get, replicate}
use Rattle.std.specs.List.{flat_map, range_with_len}
use Rattle.std.proofs.Math.ListN.{length-append}
use Rattle.std.proofs.lemmas.List.{get_or_append_left, get_or-append-add}
use Rattle.std.proofs.lemmas.List.FromFn.{length-map-range_with_len, get_or-map-range_with_len}
use Rattle.std.proofs.lemmas.Option.{slice_get-get_or, get_or_from_slice_get}
use Rattle.std.proofs.lemmas.Nat.{mul-add-lt}
use Rattle.jxlm_base.specs.Grid.{Grid, grid_by, at, below, cell, place, filled, IsFull}
use Rattle.jxlm_base.proofs.Cells.{grid_same, place_within}

module _ {S : Type 0} where
  -- n rows, from row a on
  abbrev rows : (ℕ → ℕ → S) → ℕ → ℕ → ℕ → List S
  rows f w a n = flat_map (λ y. map (λ x. f x y) (below w)) (range_with_len a n)

  length-rows : (f : ℕ → ℕ → S) (w a n : ℕ) → length (rows f w a n) ≡ w * n
  length-rows f w a zero = omega arith
  length-rows f w a (suc n) =
      length-append (map (λ x. f x a) (below w)) (rows f w (a + 1) n) ∙ (let r = length-map-range_with_len (λ x. f x a) 0 w in let s = length-rows f w (a + 1) n in omega arith)

  get-rows : (f : ℕ → ℕ → S) (w a n x i : ℕ) (d : S) → x < w → i < n → get_or (rows f w a n) (i * w + x) d ≡ f x (a + i)
  get-rows f w a zero x i d p q = absurd (omega arith)
  get-rows f w a (suc n) x zero d p q =
      let front : List S = map (λ x. f x a) (below w) in
      let long : length front ≡ w = length-map-range_with_len (λ x. f x a) 0 w in
      let first : zero * w + x ≡ x = omega arith in
      let start : a ≡ a + zero = omega arith in
      ap (λ k. get_or (front ++ rows f w (a + 1) n) k d) first ∙ get_or_append_left front (rows f w (a + 1) n) d x (omega arith)
      ∙ get_or-map-range_with_len (λ x. f x a) 0 w x x d p (omega arith) ∙ ap (f x) start
  get-rows f w a (suc n) x (suc i) d p q =
      let front : List S = map (λ x. f x a) (below w) in
      let long : length front ≡ w = length-map-range_with_len (λ x. f x a) 0 w in
      let there : suc i * w + x ≡ length front + (i * w + x) = omega arith in
      let row : a + 1 + i ≡ a + suc i = omega arith in
      ap (λ k. get_or (front ++ rows f w (a + 1) n) k d) there ∙ get_or-append-add front (rows f w (a + 1) n) (i * w + x) d
      ∙ get-rows f w (a + 1) n x i d p (omega arith) ∙ ap (f x) row

  get-first_rows : (f : ℕ → ℕ → S) (w n x y : ℕ) (d : S) → x < w → y < n → get_or (rows f w 0 n) (y * w + x) d ≡ f x y
  get-first_rows f w n x y d p q = let e : 0 + y ≡ y = omega arith in get-rows f w 0 n x y d p q ∙ ap (f x) e

  -- a grid by coordinates is full, and its cell in column x of row y is f x y
  pub IsFull-grid_by : (w h : ℕ) (f : ℕ → ℕ → S) → IsFull (grid_by w h f)
  IsFull-grid_by w h f = length-rows f w 0 h

  pub cell-grid_by : (w h : ℕ) (f : ℕ → ℕ → S) (x y : ℕ) → x < w → y < h → cell (grid_by w h f) x y ≡ Some (f x y)
  cell-grid_by w h f x y p q =
      slice_get-get_or ((grid_by w h f).cells) (y * w + x) (f x y) (place_within (grid_by w h f) x y (IsFull-grid_by w h f) p q)
      ∙ ap Some (get-first_rows f w h x y (f x y) p q)

  -- such grids are the same where their cells are
  pub grid_by_same : (w h : ℕ) (f g : ℕ → ℕ → S) → ((x y : ℕ) → x < w → y < h → f x y ≡ g x y) → grid_by w h f ≡ grid_by w h g
  grid_by_same w h f g same =
      grid_same (grid_by w h f) (grid_by w h g) (IsFull-grid_by w h f) (IsFull-grid_by w h g) refl refl
      (λ x y p q. cell-grid_by w h f x y p q ∙ ap Some (same x y p q) ∙ sym (cell-grid_by w h g x y p q))

module _ {S : Type 0} where
  slice_get-replicate : (n k : ℕ) (v : S) → k < n → slice_get (replicate n v) k ≡ Some v
  slice_get-replicate zero k v h = absurd (omega arith)
  slice_get-replicate (suc n) zero v h = refl
  slice_get-replicate (suc n) (suc k) v h = slice_get-replicate n k v (omega arith)

  -- each cell of a new grid
  pub cell-filled : (w h : ℕ) (v : S) (x y : ℕ) → x < w → y < h → cell (filled w h v) x y ≡ Some v
  cell-filled w h v x y p q = slice_get-replicate (w * h) (y * w + x) v (mul-add-lt y w x h q p)

-- ---- the numbers of a grid

pub at_from_cell : (g : Grid ℤ) (x y : ℕ) (v : ℤ) → cell g x y ≡ Some v → at g x y ≡ v
at_from_cell g x y v h = get_or_from_slice_get g.cells (place g x y) v (pos 0) h

pub cell_from_at : (g : Grid ℤ) (x y : ℕ) → IsFull g → x < g.width → y < g.height → cell g x y ≡ Some (at g x y)
cell_from_at g x y full p q = slice_get-get_or g.cells (place g x y) (pos 0) (place_within g x y full p q)

pub at-grid_by : (w h : ℕ) (f : ℕ → ℕ → ℤ) (x y : ℕ) → x < w → y < h → at (grid_by w h f) x y ≡ f x y
at-grid_by w h f x y p q = get-first_rows f w h x y (pos 0) p q
