-- Samples in the text of a picture, where its layout places them.
use Rattle.std.proofs.Common.{◌≡◌, ℕ, zero, suc, ◌+◌, ◌*◌, ◌/◌, ◌<◌, ◌≤◌, ℤ, pos, List, [], ◌∷◌, ◌++◌, length, map, get_or, min, Bool, true, Some, refl, sym, ap, ◌∙◌, subst, arith, length-append}
use Rattle.std.specs.Prelude.{slice_get, ◌==◌, if◌then◌else◌}
use Rattle.std.specs.List.{flat_map, range_with_len}
use Rattle.std.proofs.Math.Nat.{mul-le-mul_right}
use Rattle.std.proofs.lemmas.Bool.Decides.{nat_tests}
use Rattle.std.proofs.lemmas.List.{get_or_append_left, get_or-append-add}
use Rattle.std.proofs.lemmas.List.FromFn.{length-range_with_len}
use Rattle.std.proofs.lemmas.Option.{get_or_from_slice_get, same_Some, slice_get_within}
use Rattle.jxlm_base.specs.Grid.{Grid, at, below, cell}
use Rattle.jxl_netpbm.specs.Rasters.{Layer, level, number_text, pixel_text, pixels_text, raster_text, rescaled_sample, sample_text}

-- ---- pieces of one length

module _ {X : Type 0} (f : X → List ℕ) (size : ℕ) (all : (x : X) → length (f x) ≡ size) where
  pub length-pieces : (xs : List X) → length (flat_map f xs) ≡ length xs * size
  length-pieces [] = omega arith
  length-pieces (x ∷ xs) = omega (arith, length-append (f x) (flat_map f xs), all x, length-pieces xs)

  -- byte j of piece i
  pub piece_byte : (xs : List X) (i j : ℕ) (x : X) → slice_get xs i ≡ Some x → j < size → get_or (flat_map f xs) (i * size + j) 0 ≡ get_or (f x) j 0
  piece_byte [] i j x is below = absurd (omega (arith, slice_get_within [] i x is))
  piece_byte (y ∷ ys) zero j x is below =
      let place : zero * size + j ≡ j = omega arith in
      let inside : j < length (f y) = omega (arith, below, all y) in
      ap (λ n. get_or (f y ++ flat_map f ys) n 0) place ∙ get_or_append_left (f y) (flat_map f ys) 0 j inside ∙ ap (λ (v : X). get_or (f v) j 0) (same_Some y x is)
  piece_byte (y ∷ ys) (suc i) j x is below =
      let place : suc i * size + j ≡ length (f y) + (i * size + j) = omega (arith, all y) in
      ap (λ n. get_or (f y ++ flat_map f ys) n 0) place ∙ get_or-append-add (f y) (flat_map f ys) (i * size + j) 0 ∙ piece_byte ys i j x is below

range_element : (a n i : ℕ) → i < n → slice_get (range_with_len a n) i ≡ Some (a + i)
range_element a zero i h = absurd (omega (arith, h))
range_element a (suc n) zero h = let e : a ≡ a + zero = omega arith in ap Some e
range_element a (suc n) (suc i) h = let e : a + 1 + i ≡ a + suc i = omega arith in range_element (a + 1) n i (omega (arith, h)) ∙ ap Some e

-- byte j of piece i of n pieces by their numbers
pub number_byte : (f : ℕ → List ℕ) (size n i j : ℕ) → ((i : ℕ) → length (f i) ≡ size) → i < n → j < size → get_or (flat_map f (below n)) (i * size + j) 0 ≡ get_or (f i) j 0
number_byte f size n i j all inside within =
    let e : 0 + i ≡ i = omega arith in
    piece_byte f size all (below n) i j i (range_element 0 n i inside ∙ ap Some e) within

pub length-numbers : (f : ℕ → List ℕ) (size n : ℕ) → ((i : ℕ) → length (f i) ≡ size) → length (flat_map f (below n)) ≡ n * size
length-numbers f size n all = length-pieces f size all (below n) ∙ ap (λ k. k * size) (length-range_with_len 0 n)

-- a byte of a piece of some pieces is below all bytes
pub piece_place : (k n s j : ℕ) → k < n → j < s → k * s + j < n * s
piece_place k n s j inside below = let rows : (k + 1) * s ≤ n * s = mul-le-mul_right s (omega (arith, inside)) in omega (arith, rows, below)

pub place_split : (y w x n k s j : ℕ) → ((y * w + x) * n + k) * s + j ≡ y * (w * (n * s)) + (x * (n * s) + (k * s + j))
place_split y w x n k s j = omega arith

-- ---- samples of whole numbers

abbrev pub layers_by : ℕ → List (Grid ℤ) → List Layer
layers_by most gs = map (λ (g : Grid ℤ). record { grid = g; own = most }) gs

pub layer_element : (most : ℕ) (gs : List (Grid ℤ)) (k : ℕ) (g : Grid ℤ) → slice_get gs k ≡ Some g → slice_get (layers_by most gs) k ≡ Some (record { grid = g; own = most })
layer_element most [] k g is = absurd (omega (arith, slice_get_within [] k g is))
layer_element most (x ∷ gs) zero g is = ap (λ (v : Grid ℤ). Some (record { grid = v; own = most })) (same_Some x g is)
layer_element most (x ∷ gs) (suc k) g is = layer_element most gs k g is

length-layers : (most : ℕ) (gs : List (Grid ℤ)) → length (layers_by most gs) ≡ length gs
length-layers most [] = refl
length-layers most (g ∷ gs) = ap suc (length-layers most gs)

module _ (most size : ℕ) (numbers : (v : ℕ) → length (number_text most v) ≡ size) (gs : List (Grid ℤ)) (w h : ℕ) where
  pixels : (y x : ℕ) → length (pixel_text most (layers_by most gs) y x) ≡ length gs * size
  pixels y x = length-pieces (sample_text most x y) size (λ layer. numbers (rescaled_sample layer.own most (level layer.own (at layer.grid x y)))) (layers_by most gs) ∙ ap (λ n. n * size) (length-layers most gs)

  rows : (y : ℕ) → length (pixels_text most (layers_by most gs) y w) ≡ w * (length gs * size)
  rows y = length-numbers (pixel_text most (layers_by most gs) y) (length gs * size) w (pixels y)

  pub length-raster : length (raster_text most (layers_by most gs) w h) ≡ h * (w * (length gs * size))
  length-raster = length-numbers (λ y. pixels_text most (layers_by most gs) y w) (w * (length gs * size)) h rows

  pub raster_byte : (x y k j : ℕ) (g : Grid ℤ) → slice_get gs k ≡ Some g → x < w → y < h → j < size →
      get_or (raster_text most (layers_by most gs) w h) (((y * w + x) * length gs + k) * size + j) 0 ≡ get_or (sample_text most x y (record { grid = g; own = most })) j 0
  raster_byte x y k j g is inside under within =
      let n = length gs in
      let channel : k < n = slice_get_within gs k g is in
      let third : k * size + j < n * size = piece_place k n size j channel within in
      let second : x * (n * size) + (k * size + j) < w * (n * size) = piece_place x w (n * size) (k * size + j) inside third in
      ap (λ i. get_or (raster_text most (layers_by most gs) w h) i 0) (place_split y w x n k size j)
      ∙ number_byte (λ r. pixels_text most (layers_by most gs) r w) (w * (n * size)) h y (x * (n * size) + (k * size + j)) rows under second
      ∙ number_byte (pixel_text most (layers_by most gs) y) (n * size) w x (k * size + j) (pixels y) inside third
      ∙ piece_byte (sample_text most x y) size (λ layer. numbers (rescaled_sample layer.own most (level layer.own (at layer.grid x y)))) (layers_by most gs) k j (record { grid = g; own = most })
      (layer_element most gs k g is) within

-- the text of a sample within the maximum is that of its number
pub sample_text-within : (most x y v : ℕ) (g : Grid ℤ) → cell g x y ≡ Some (pos v) → v ≤ most → sample_text most x y (record { grid = g; own = most }) ≡ number_text most v
sample_text-within most x y v g is small =
    let here : at g x y ≡ pos v = get_or_from_slice_get g.cells (y * g.width + x) (pos v) (pos 0) is in
    let least : min v most ≡ v = omega (arith, small) in
    let same : (most == most) ≡ true = grind (arith, nat_tests) in
    let P : Bool → Type 0 = λ b. (if b then v else (2 * v * most + most) / (2 * most)) ≡ v in
    ap (λ (z : ℤ). number_text most (rescaled_sample most most (level most z))) here ∙ ap (λ n. number_text most (rescaled_sample most most n)) least
    ∙ ap (number_text most) (subst P (sym same) refl)
