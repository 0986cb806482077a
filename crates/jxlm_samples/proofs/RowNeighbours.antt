-- The neighbours of a cell of a row are those of the samples before it.
use Rattle.std.proofs.Common.{◌≡◌, ◌≢◌, ℕ, zero, suc, ◌+◌, ◌*◌, ◌-◌, ◌/◌, ◌%◌, ◌<◌, ◌≤◌, List, [], ◌++◌, length, take, map, Option, Some, Bool, true, false, if◌then◌else◌, refl, sym, ap, ◌∙◌, subst, arith, ℤ, pos, ◌+ℤ◌, ◌-ℤ◌}
use Rattle.std.specs.Prelude.{get_or, nat_lt, slice_get}
use Rattle.std.specs.Int.{w32, int_wrap}
use Rattle.std.proofs.lemmas.Bool.Decides.{nat_tests}
use Rattle.std.proofs.lemmas.List.{get_or-append-add, get_or-take, get_or_append_left, get_or_default, get_or_past, length-append, length-map, length-take-le, same_lists}
use Rattle.std.proofs.lemmas.Nat.{div-mul-add, mod-mul-add, mul-add-lt, mul-le}
use Rattle.std.proofs.lemmas.Option.{get_or_from_slice_get, slice_get-get_or}
use Rattle.jxlm_base.specs.Grid.{Grid, IsFull, row as grid_row}
use Rattle.jxlm_bits.specs.Numbers.{clamped_gradient}
use Rattle.jxlm_base.specs.Regions.{grid_of, region_cell, store_meanings}
use Rattle.jxlm_base.specs.declared.subgrid.Region.{Region}
use Rattle.jxlm_base.proofs.Outside.{number_of_row}
use Rattle.jxlm_base.proofs.RegionRows.{get_row, length-row}
use Rattle.jxlm_base.proofs.Regions.{IsFull-grid_of, cell-grid_of}
use Rattle.jxlm_weighted.specs.Neighbours.{Neighbours, at, column, neighbours, neighbours_at, north, north_east, north_east_east, north_north, north_west, row as line, west, west_west}
use Rattle.jxlm_weighted.specs.SelfCorrecting.{weighted_prediction}
use Rattle.jxlm_predictor.specs.Predictions.{prediction, prediction_from}
use Rattle.jxlm_predictor.specs.declared.predictor.Predictor.{Predictor}
use Rattle.jxlm_predictor.specs.Properties.{Surroundings, gradient_at}
use Rattle.jxlm_predictor.specs.Sums.{gradient_sum}
use Rattle.jxlm_weighted.specs.declared.weights.WpHeader.{WpHeader}
use Rattle.jxlm_predictor.specs.declared.predictor.Predictor.TheVariants as predictor
use Rattle.jxlm_ma_tree.specs.declared.leaf.Leaf.{Leaf}
use Rattle.jxlm_samples.specs.Inner.LeafRows.{around_in, north_east_in, prediction_in, row_two_above, west_west_in}
use Rattle.jxlm_samples.specs.Inner.Paths.{row_above}
use Rattle.jxlm_samples.specs.RowNeighbours.{gradient_in, north_in, north_west_in, property_9_in, sum_by, west_in}

-- the row above, as it is read from a store
pub row_above_is : {X : Type 0} (f : X → ℤ) (store : List (Grid X)) (r : Region) (y : ℕ) (vs : List X) → 0 < y → y < r.height → length vs ≡ r.width →
    ((x : ℕ) → x < r.width → region_cell store r x (y - 1) ≡ slice_get vs x) → map f vs ≡ row_above (grid_of (store_meanings f store) r) y
row_above_is f store r zero vs later below long is = absurd (omega arith)
row_above_is f store r (suc z) vs later below long is =
    let g : Grid ℤ = grid_of (store_meanings f store) r in
    let full = IsFull-grid_of (store_meanings f store) r in
    let z_is : suc z - 1 ≡ z = omega arith in
    let z_in : z < r.height = omega (arith, below) in
    let n = length-map vs f in
    let m = length-row g full z z_in in
    same_lists (map f vs) (grid_row g z) (n ∙ long ∙ sym m) (λ k e h.
    let k_in : k < r.width = omega (arith, n, h, long) in
    let there : region_cell store r k z ≡ slice_get vs k = subst (λ j. region_cell store r k j ≡ slice_get vs k) z_is (is k k_in) in
    let number : slice_get (grid_row g z) k ≡ Some (get_or (map f vs) k (pos 0)) = get_row g full z z_in k k_in ∙ cell-grid_of (store_meanings f store) r k z k_in z_in ∙ ap Some (number_of_row f store r k z vs there) in
    get_or_default (map f vs) k e (pos 0) h ∙ sym (get_or_from_slice_get (grid_row g z) k (get_or (map f vs) k (pos 0)) e number))

-- the row two above, as it is read from a store
pub row_two_above_is : {X : Type 0} (f : X → ℤ) (store : List (Grid X)) (r : Region) (y : ℕ) (vs : List X) → 0 < y → y < r.height → length vs ≡ r.width →
    ((x : ℕ) → x < r.width → region_cell store r x (y - 2) ≡ slice_get vs x) → map f vs ≡ row_two_above (grid_of (store_meanings f store) r) y
row_two_above_is f store r zero vs later below long is = absurd (omega arith)
row_two_above_is f store r (suc z) vs later below long is =
    let place : suc z - 2 ≡ z - 1 + 1 - 1 = omega arith in
    let last : z - 1 + 1 ≡ suc (z - 1) = omega arith in
    subst (λ k. map f vs ≡ row_above (grid_of (store_meanings f store) r) k) last
    (row_above_is f store r (z - 1 + 1) vs (omega arith) (omega (arith, below)) long (λ x px. subst (λ j. region_cell store r x j ≡ slice_get vs x) place (is x px)))

-- ---- all neighbours

abbrev seven : ℤ → ℤ → ℤ → ℤ → ℤ → ℤ → ℤ → Neighbours
seven w n nw ne nee nn ww = record { w = w; n = n; nw = nw; ne = ne; nee = nee; nn = nn; ww = ww }

pub same_seven : {a b c d e f g h i j k l m n : ℤ} → a ≡ h → b ≡ i → c ≡ j → d ≡ k → e ≡ l → f ≡ m → g ≡ n → seven a b c d e f g ≡ seven h i j k l m n
same_seven {a = a} {b = b} {c = c} {d = d} {e = e} {f = f} {g = g} {h = h} {i = i} {j = j} {k = k} {l = l} {m = m} {n = n} p q r s t u v =
    ap (λ z. seven z b c d e f g) p ∙ ap (λ z. seven h z c d e f g) q ∙ ap (λ z. seven h i z d e f g) r ∙ ap (λ z. seven h i j z e f g) s
    ∙ ap (λ z. seven h i j k z f g) t ∙ ap (λ z. seven h i j k l z g) u ∙ ap (λ z. seven h i j k l m z) v

-- what one of two samples is, by a test
by_test : (b : Bool) (s t u : ℤ) → (b ≡ true → s ≡ u) → (b ≡ false → t ≡ u) → (if b then s else t) ≡ u
by_test true s t u h k = h refl
by_test false s t u h k = k refl

is_less : (a b : ℕ) → nat_lt a b ≡ true → a < b
is_less a b h = grind (arith, nat_tests)

is_not_less : (a b : ℕ) → nat_lt a b ≡ false → b ≤ a
is_not_less a b h = grind (arith, nat_tests)

-- no predictor but the weighted one depends on the weighted prediction
weightless : (a : Neighbours) (p q : ℤ) (k : Predictor) → k ≢ predictor.SelfCorrecting → prediction_from a p k ≡ prediction_from a q k
weightless a p q predictor.Zero other = refl
weightless a p q predictor.West other = refl
weightless a p q predictor.North other = refl
weightless a p q predictor.AvgWestAndNorth other = refl
weightless a p q predictor.Select other = refl
weightless a p q predictor.Gradient other = refl
weightless a p q predictor.SelfCorrecting other = absurd (other refl)
weightless a p q predictor.NorthEast other = refl
weightless a p q predictor.NorthWest other = refl
weightless a p q predictor.WestWest other = refl
weightless a p q predictor.AvgWestAndNorthWest other = refl
weightless a p q predictor.AvgNorthAndNorthWest other = refl
weightless a p q predictor.AvgNorthAndNorthEast other = refl
weightless a p q predictor.AvgAll other = refl

-- ---- neighbours, from the samples before and from a row and the row above

module _ (samples A row : List ℤ) (W : ℕ) where
  abbrev NoneAbove : ℕ → Type 0
  NoneAbove y = y ≡ 0 → A ≡ []

  abbrev IsAbove : ℕ → Type 0
  IsAbove y = (z : ℕ) → y ≡ suc z → (a : ℕ) (e : ℤ) → a < W → at samples W a z ≡ get_or A a e

  abbrev IsOwn : ℕ → ℕ → Type 0
  IsOwn x y = (a : ℕ) → a < x → at samples W a y ≡ get_or row a (pos 0)

  west_is : (x y : ℕ) → x < W → NoneAbove y → IsAbove y → IsOwn x y → west samples W x y ≡ west_in A row x
  west_is zero zero px none above own = sym (ap (λ as'. get_or as' 0 (pos 0)) (none refl))
  west_is zero (suc z) px none above own = above z refl 0 (pos 0) px
  west_is (suc x) y px none above own = own x (omega arith)

  north_is : (x y : ℕ) → x < W → NoneAbove y → IsAbove y → IsOwn x y → north samples W x y ≡ north_in A row x
  north_is x zero px none above own = west_is x zero px none above own ∙ sym (ap (λ as'. get_or as' x (west_in A row x)) (none refl))
  north_is x (suc z) px none above own = above z refl x (west_in A row x) px

  north_west_is : (x y : ℕ) → x < W → NoneAbove y → IsAbove y → IsOwn x y → north_west samples W x y ≡ north_west_in A row x
  north_west_is zero y px none above own = west_is zero y px none above own
  north_west_is (suc x) zero px none above own = west_is (suc x) zero px none above own ∙ sym (ap (λ as'. get_or as' x (west_in A row (suc x))) (none refl))
  north_west_is (suc x) (suc z) px none above own = above z refl x (west_in A row (suc x)) (omega arith)

  -- what is computed from the three
  pub from_three : (f : ℤ → ℤ → ℤ → ℤ) (x y : ℕ) → length samples ≡ y * W + x → x < W → NoneAbove y → IsAbove y → IsOwn x y →
      f (neighbours samples W).n (neighbours samples W).w (neighbours samples W).nw ≡ f (north_in A row x) (west_in A row x) (north_west_in A row x)
  from_three f x y long px none above own =
      let col : length samples % W ≡ x = ap (λ n. n % W) long ∙ mod-mul-add y W x px in
      let line : length samples / W ≡ y = ap (λ n. n / W) long ∙ div-mul-add y W x px in
      ap (λ c. f (north samples W c (length samples / W)) (west samples W c (length samples / W)) (north_west samples W c (length samples / W))) col
      ∙ ap (λ r. f (north samples W x r) (west samples W x r) (north_west samples W x r)) line
      ∙ ap (λ z. f z (west samples W x y) (north_west samples W x y)) (north_is x y px none above own)
      ∙ ap (λ z. f (north_in A row x) z (north_west samples W x y)) (west_is x y px none above own)
      ∙ ap (λ z. f (north_in A row x) (west_in A row x) z) (north_west_is x y px none above own)

  module _ (B : List ℤ) where
    abbrev IsTwoAbove : ℕ → Type 0
    IsTwoAbove y = (z : ℕ) → y ≡ suc (suc z) → (a : ℕ) (e : ℤ) → a < W → at samples W a z ≡ get_or B a e

    north_east_is : (x y : ℕ) → x < W → NoneAbove y → IsAbove y → IsOwn x y → (0 < y → length A ≡ W) → north_east samples W x y ≡ north_east_in A row x
    north_east_is x zero px none above own long = north_is x zero px none above own ∙ sym (ap (λ as'. get_or as' (x + 1) (north_in A row x)) (none refl))
    north_east_is x (suc z) px none above own long =
        by_test (nat_lt (x + 1) W) (at samples W (x + 1) z) (north samples W x (suc z)) (north_east_in A row x) (λ lt. above z refl (x + 1) (north_in A row x) (is_less (x + 1) W lt))
        (λ ge. north_is x (suc z) px none above own ∙ sym (get_or_past A (x + 1) (north_in A row x) (let n = long (omega arith) in let m = is_not_less (x + 1) W ge in omega (arith, n, m))))

    north_east_east_is : (x y : ℕ) → x < W → NoneAbove y → IsAbove y → IsOwn x y → (0 < y → length A ≡ W) → north_east_east samples W x y ≡ get_or A (x + 2) (north_east_in A row x)
    north_east_east_is x zero px none above own long = north_east_is x zero px none above own long ∙ sym (ap (λ as'. get_or as' (x + 2) (north_east_in A row x)) (none refl))
    north_east_east_is x (suc z) px none above own long =
        by_test (nat_lt (x + 2) W) (at samples W (x + 2) z) (north_east samples W x (suc z)) (get_or A (x + 2) (north_east_in A row x)) (λ lt. above z refl (x + 2) (north_east_in A row x) (is_less (x + 2) W lt))
        (λ ge. north_east_is x (suc z) px none above own long ∙ sym (get_or_past A (x + 2) (north_east_in A row x) (let n = long (omega arith) in let m = is_not_less (x + 2) W ge in omega (arith, n, m))))

    north_north_is : (x y : ℕ) → x < W → NoneAbove y → IsAbove y → IsOwn x y → (0 < y → length A ≡ W) → (y ≡ 0 → B ≡ []) → (y ≡ 1 → B ≡ A) → IsTwoAbove y → north_north samples W x y ≡ get_or B x (north_in A row x)
    north_north_is x zero px none above own long first second two = north_is x zero px none above own ∙ sym (ap (λ bs. get_or bs x (north_in A row x)) (first refl))
    north_north_is x (suc zero) px none above own long first second two =
        north_is x 1 px none above own ∙ get_or_default A x (west_in A row x) (north_in A row x) (let n = long (omega arith) in omega (arith, n, px)) ∙ sym (ap (λ bs. get_or bs x (north_in A row x)) (second refl))
    north_north_is x (suc (suc z)) px none above own long first second two = two z refl x (north_in A row x) px

    west_west_is : (x y : ℕ) → x < W → NoneAbove y → IsAbove y → IsOwn x y → west_west samples W x y ≡ west_west_in A row x
    west_west_is zero y px none above own = west_is zero y px none above own
    west_west_is (suc zero) y px none above own = west_is 1 y px none above own
    west_west_is (suc (suc x)) y px none above own = own x (omega arith)

    pub neighbours_are : (x y : ℕ) → length samples ≡ y * W + x → x < W → NoneAbove y → IsAbove y → IsOwn x y → (0 < y → length A ≡ W) → (y ≡ 0 → B ≡ []) → (y ≡ 1 → B ≡ A) → IsTwoAbove y →
        neighbours samples W ≡ around_in A B row x
    neighbours_are x y long px none above own full first second two =
        let col : length samples % W ≡ x = ap (λ n. n % W) long ∙ mod-mul-add y W x px in
        let line : length samples / W ≡ y = ap (λ n. n / W) long ∙ div-mul-add y W x px in
        ap (λ c. neighbours_at samples W c (length samples / W)) col ∙ ap (neighbours_at samples W x) line
        ∙ same_seven (west_is x y px none above own) (north_is x y px none above own) (north_west_is x y px none above own) (north_east_is x y px none above own full)
        (north_east_east_is x y px none above own full) (north_north_is x y px none above own full first second two) (west_west_is x y px none above own)

zero_reduced : int_wrap w32 (pos 0) ≡ pos 0
unfolding int_wrap
zero_reduced = refl

pub zero_is : (weights : Option WpHeader) (samples : List ℤ) (width : ℕ) → prediction weights samples width predictor.Zero ≡ pos 0
zero_is weights samples width = zero_reduced

long_above : (g : Grid ℤ) → IsFull g → (y : ℕ) → y < g.height → 0 < y → length (row_above g y) ≡ g.width
long_above g full zero below later = absurd (omega arith)
long_above g full (suc z) below later = length-row g full z (omega (arith, below))

-- ---- the samples of a channel up to a cell of a row: the rows above, and the row so far

module _ (g : Grid ℤ) (full : IsFull g) (y : ℕ) (below : y < g.height) (row : List ℤ) (short : length row < g.width) where
  abbrev pub samples : List ℤ
  samples = take (y * g.width) g.cells ++ row

  rows_long : length (take (y * g.width) g.cells) ≡ y * g.width
  rows_long = let m = mul-add-lt y g.width (length row) g.height below short in length-take-le (y * g.width) g.cells (omega (arith, full, m))

  samples_long : length samples ≡ y * g.width + length row
  samples_long = length-append (take (y * g.width) g.cells) row ∙ ap (λ n. n + length row) rows_long

  -- those of the row
  own : (a : ℕ) → a < length row → at samples g.width a y ≡ get_or row a (pos 0)
  own a less = ap (λ n. get_or samples (n + a) (pos 0)) (sym rows_long) ∙ get_or-append-add (take (y * g.width) g.cells) row a (pos 0)

  -- those of the rows above
  over_line : (z : ℕ) → z < y → (a : ℕ) (e : ℤ) → a < g.width → at samples g.width a z ≡ get_or (grid_row g z) a e
  over_line z is a e pa =
      let z_in : z < g.height = omega (arith, below, is) in
      let m = mul-le (suc z) g.width y g.width (omega (arith, is)) (omega arith) in
      let before : z * g.width + a < y * g.width = omega (arith, m, pa) in
      let n = length-row g full z z_in in
      let number : slice_get g.cells (z * g.width + a) ≡ Some (get_or (grid_row g z) a e) =
      sym (get_row g full z z_in a pa) ∙ slice_get-get_or (grid_row g z) a e (omega (arith, n, pa)) in
      get_or_append_left (take (y * g.width) g.cells) row (pos 0) (z * g.width + a) (omega (arith, rows_long, before))
      ∙ get_or-take (y * g.width) g.cells (z * g.width + a) (pos 0) before
      ∙ get_or_from_slice_get g.cells (z * g.width + a) (get_or (grid_row g z) a e) (pos 0) number

  over : (z : ℕ) → y ≡ suc z → (a : ℕ) (e : ℤ) → a < g.width → at samples g.width a z ≡ get_or (row_above g y) a e
  over z is a e pa = over_line z (omega (arith, is)) a e pa ∙ ap (λ xs. get_or xs a e) (sym (ap (row_above g) is))

  two_over : (z : ℕ) → y ≡ suc (suc z) → (a : ℕ) (e : ℤ) → a < g.width → at samples g.width a z ≡ get_or (row_two_above g y) a e
  two_over z is a e pa =
      let last : suc z - 1 ≡ z = omega arith in
      over_line z (omega (arith, is)) a e pa ∙ ap (λ xs. get_or xs a e) (sym (ap (row_two_above g) is ∙ ap (grid_row g) last))

  none_over : y ≡ 0 → row_above g y ≡ []
  none_over first = ap (row_above g) first

  -- the gradient from the row is that from the samples
  pub gradient_is : (weights : Option WpHeader) → prediction weights samples g.width predictor.Gradient ≡ gradient_in (row_above g y) row (length row)
  gradient_is weights = from_three samples (row_above g y) row g.width (λ n w nw. int_wrap w32 (clamped_gradient n w nw)) (length row) y samples_long short none_over over own

  -- and so is property 9
  pub property_9_seen : gradient_at samples g.width (column samples g.width) (line samples g.width) ≡ property_9_in (row_above g y) row false (length row)
  property_9_seen = from_three samples (row_above g y) row g.width (λ n w nw. int_wrap w32 (w -ℤ nw +ℤ n)) (length row) y samples_long short none_over over own

  -- and the clamped sum
  pub sum_seen : (s : Surroundings) → s.samples ≡ samples → s.width ≡ g.width → gradient_sum s ≡ property_9_in (row_above g y) row true (length row)
  sum_seen s same wide =
      ap (λ xs. sum_by true ((neighbours xs s.width).w -ℤ (neighbours xs s.width).nw +ℤ (neighbours xs s.width).n)) same
      ∙ ap (λ n. sum_by true ((neighbours samples n).w -ℤ (neighbours samples n).nw +ℤ (neighbours samples n).n)) wide
      ∙ from_three samples (row_above g y) row g.width (λ n w nw. sum_by true (w -ℤ nw +ℤ n)) (length row) y samples_long short none_over over own

  -- all neighbours from the rows are those from the samples
  around_is : neighbours samples g.width ≡ around_in (row_above g y) (row_two_above g y) row (length row)
  around_is =
      neighbours_are samples (row_above g y) row g.width (row_two_above g y) (length row) y samples_long short none_over over own (long_above g full y below) (λ first. ap (row_two_above g) first)
      (λ second. ap (row_two_above g) second ∙ sym (ap (row_above g) second)) two_over

  -- and so are the predictions without weights
  pub prediction_is : (weights : Option WpHeader) (l : Leaf) → l.predictor ≢ predictor.SelfCorrecting → prediction weights samples g.width l.predictor ≡ prediction_in (row_above g y) (row_two_above g y) l row
  prediction_is weights l other =
      ap (int_wrap w32) (weightless (neighbours samples g.width) (weighted_prediction weights samples g.width) (pos 0) l.predictor other ∙ ap (λ a. prediction_from a (pos 0) l.predictor) around_is)
