-- The steps of a palette without deltas: part of a row looked up and written.
use Rattle.std.proofs.Common.{◌≡◌, inl, inr, ℕ, zero, suc, ◌+◌, ◌-◌, ◌*◌, ◌/◌, ◌%◌, ◌<◌, ◌≤◌, List, [], ◌∷◌, ◌++◌, length, sym, refl, ap, ◌∙◌, subst, arith, ℤ, pos, negsuc, Bool, true, false, ◌&&◌, ◌≤ℤ◌, set, FitsSigned, w32}
use Rattle.std.specs.Prelude.{get_or, take, drop, map, slice_get, unsigned_abs, if◌then◌else◌, ◌↔◌, IsTrue}
use Rattle.std.specs.Int.{Width, int_wrap}
use Rattle.std.proofs.lemmas.Bool.{cases_lt}
use Rattle.std.proofs.lemmas.Int.{ints}
use Rattle.std.proofs.Math.Seq.{drop-cons}
use Rattle.std.proofs.lemmas.List.{append_assoc, get_or-map, get_or-set_same, get_or-set_other, get_or_past, length-map, length-take-le, map_more, set-append_right, take-append-drop, take_more, take_more_same}
use Rattle.std.proofs.lemmas.Nat.{mul-le, div-add-mod', div_below, mod_below}
use Rattle.std.proofs.Math.Nat.{mul_comm}
use Rattle.jxlm_base.specs.Grid.{Grid, at}
use Rattle.jxlm_inverse.specs.Inner.PaletteSteps.{number_of}
use Rattle.jxlm_base.specs.Outside.{KeepsOutside, SetsRow, row_of}
use Rattle.jxlm_base.specs.Regions.{AreApart, HasCell, Lies, buffer_of, grid_of, region_cell, store_meanings}
use Rattle.jxlm_base.specs.declared.subgrid.Region.{Region}
use Rattle.jxlm_base.proofs.Outside.{all_one, grid_kept, keeps_wider, number_of_row, number_same, region_cell_kept}
use Rattle.jxlm_base.proofs.Regions.{IsFull-grid_of, at-grid_of}
use Rattle.jxlm_transform.specs.declared.transform.Palette.{Palette}
use Rattle.jxlm_inverse.specs.declared.palette.FinishedChannel.{FinishedChannel}
use Rattle.jxlm_inverse.specs.Palette.{finished_sample, finished_samples}
use Rattle.jxlm_inverse.specs.Inner.PaletteSteps.{StillToCome, AreSimple, ChannelLies, Filled, FillsOn, IsSimpleIndex, columns_of, index_in, looked_up}
use Rattle.jxlm_inverse.proofs.PaletteSteps.{simple_place, simple_sample}

-- the first n elements of two lists that have the same ones there
take_same : (xs ys : List ℤ) (n : ℕ) → n ≤ length xs → n ≤ length ys → ((i : ℕ) → i < n → get_or xs i (pos 0) ≡ get_or ys i (pos 0)) → take n xs ≡ take n ys
take_same xs ys zero a b each = refl
take_same xs ys (suc n) a b each =
    let more : suc n ≡ n + 1 = omega arith in
    ap (λ m. take m xs) more ∙ take_more_same xs ys n (pos 0) (omega arith) (omega arith) (take_same xs ys n (omega arith) (omega arith) (λ i h. each i (omega arith))) (each n (omega arith))
    ∙ ap (λ m. take m ys) (sym more)

positive : (w h n : ℕ) → n < w * h → 0 < w
positive zero h n p = absurd (omega arith)
positive (suc w) h n p = omega arith

-- ---- indices of the table that are no deltas

pub simple_positive : (t : Palette) (i : ℤ) → IsSimpleIndex t i → pos 0 ≤ℤ i
simple_positive t (pos i) h = omega (arith, ints)
simple_positive t (negsuc k) h = absurd h

never : {X : Type 0} → false ≡ true → X
never e = let one : zero ≡ suc zero = ap (λ (b : Bool). if b then suc zero else zero) e in absurd (omega (arith, one))

-- one more number that is simple, or not
pub simple_more : (t : Palette) (numbers : ℕ → ℤ) (n : ℕ) (s b : Bool) (i : ℤ) → i ≡ numbers n → (IsTrue s ↔ AreSimple t numbers n) → (IsTrue b ↔ IsSimpleIndex t i) → IsTrue (s && b) ↔ AreSimple t numbers (n + 1)
simple_more t numbers n true b i e so_far here = (
  λ h x l.
      elim (cases_lt x n) [
        | inl lt ↦ so_far.0 refl x lt
        | inr ge ↦ (let same : n ≡ x = omega arith in subst (λ k. IsSimpleIndex t (numbers k)) same (subst (IsSimpleIndex t) e (here.0 h)))
      ],
  λ all. here.1 (subst (IsSimpleIndex t) (sym e) (all n (omega arith))),
)
simple_more t numbers n false b i e so_far here = (λ h. never h, λ all. so_far.1 (λ x l. all x (omega arith)))

-- ---- samples looked up

-- the number of an element that was read
pub number_read : {S : Type 0} (f : S → ℤ) (xs : List S) (i : ℕ) (v : S) → i < length xs → v ≡ get_or xs i v → number_of f xs i ≡ f v
number_read f xs i v h e = get_or-map f xs i v (pos 0) h ∙ ap f (sym e)

-- one more number of a line
pub line_more : (is : ℕ → ℤ) (line : List ℤ) (j : ℕ) (v : ℤ) → j < length line → v ≡ is j → ((i : ℕ) → i < j → get_or line i (pos 0) ≡ is i) → (i : ℕ) → i < j + 1 → get_or (set line j v) i (pos 0) ≡ is i
line_more is line j v within e so_far i h =
    elim (cases_lt i j) [
      | inl lt ↦ get_or-set_other line j i v (pos 0) (λ same. absurd (omega arith)) ∙ so_far i lt
      | inr ge ↦ (let same : j ≡ i = omega arith in subst (λ k. get_or (set line j v) k (pos 0) ≡ is k) same (get_or-set_same line j v (pos 0) within ∙ e))
    ]

-- and the numbers of a line still fit
pub fits_more : (line : List ℤ) (j : ℕ) (v : ℤ) → j < length line → FitsSigned w32 v → ((i : ℕ) → i < j → FitsSigned w32 (get_or line i (pos 0))) → (i : ℕ) → i < j + 1 → FitsSigned w32 (get_or (set line j v) i (pos 0))
fits_more line j v within fits so_far i h =
    elim (cases_lt i j) [
      | inl lt ↦ subst (FitsSigned w32) (sym (get_or-set_other line j i v (pos 0) (λ same. absurd (omega arith)))) (so_far i lt)
      | inr ge ↦
          (let same : j ≡ i = omega arith in
          subst (λ k. FitsSigned w32 (get_or (set line j v) k (pos 0))) same (subst (FitsSigned w32) (sym (get_or-set_same line j v (pos 0) within)) fits))
    ]

-- ---- samples written over cells of a row

module _ {S : Type 0} (f : ℤ → S) (old : List S) (start : ℕ) (numbers : List ℤ) where
  -- the row with the first j samples
  abbrev pub written_until : ℕ → List S
  written_until j = take start old ++ (map f (take j numbers) ++ drop (start + j) old)

  pub written_none : written_until 0 ≡ old
  written_none = let none : start + 0 ≡ start = omega arith in ap (λ k. take start old ++ drop k old) none ∙ take-append-drop start old

  pub written_more : (j : ℕ) (v : S) → j < length numbers → start + j < length old → v ≡ f (get_or numbers j (pos 0)) → set (written_until j) (start + j) v ≡ written_until (j + 1)
  written_more j v h within is =
      let first : length (take start old) ≡ start = length-take-le start old (omega arith) in
      let second : length (map f (take j numbers)) ≡ j = length-map (take j numbers) f ∙ length-take-le j numbers (omega arith) in
      let offset : start + j - start ≡ j = omega arith in
      let none : j - j ≡ 0 = omega arith in
      let next : suc (start + j) ≡ start + (j + 1) = omega arith in
      set-append_right (take start old) (map f (take j numbers) ++ drop (start + j) old) start (start + j) v first (omega arith)
      ∙ ap (λ k. take start old ++ set (map f (take j numbers) ++ drop (start + j) old) k v) offset
      ∙ ap (λ xs. take start old ++ xs) (
      set-append_right (map f (take j numbers)) (drop (start + j) old) j j v second (omega arith)
      ∙ ap (λ k. map f (take j numbers) ++ set (drop (start + j) old) k v) none
      ∙ ap (λ xs. map f (take j numbers) ++ set xs 0 v) (drop-cons old (start + j) v within)
      ∙ ap (λ k. map f (take j numbers) ++ v ∷ drop k old) next
      ∙ sym (append_assoc (map f (take j numbers)) (v ∷ []) (drop (start + (j + 1)) old))
      ∙ ap (λ z. (map f (take j numbers) ++ z ∷ []) ++ drop (start + (j + 1)) old) is
      ∙ ap (λ xs. xs ++ drop (start + (j + 1)) old) (sym (map_more f numbers j (pos 0) h)))

-- ---- columns of regions

-- some columns of a region lie where it lies
pub part_lies : {S : Type 0} (store : List (Grid S)) (r part : Region) (x n : ℕ) → part ≡ columns_of r x n → Lies r store → x + n ≤ r.width → Lies part store
part_lies store r part x n is lies fits =
    let columns = lies.columns in
    subst (λ q. Lies q store) (sym is) (record { there = lies.there; full = lies.full; columns = omega arith; rows = lies.rows })

module _ {S : Type 0} (f : S → ℤ) where
  -- the number in a region, where its cell is an element of a row of some of its columns
  pub part_number : (store : List (Grid S)) (r : Region) (x n y j : ℕ) (vs : List S) → j < n → x + n ≤ r.width → y < r.height → region_cell store (columns_of r x n) j y ≡ slice_get vs j →
      at (grid_of (store_meanings f store) r) (x + j) y ≡ number_of f vs j
  part_number store r x n y j vs h fits below is =
      let same : r.x + (x + j) ≡ r.x + x + j = omega arith in
      at-grid_of (store_meanings f store) r (x + j) y (omega arith) below
      ∙ ap (λ z. at (buffer_of (store_meanings f store) r) z (r.y + y)) same ∙ number_of_row f store (columns_of r x n) j y vs is

  -- and where it is an element of a whole row
  pub row_number : (store : List (Grid S)) (r : Region) (x y : ℕ) (vs : List S) → x < r.width → y < r.height → region_cell store r x y ≡ slice_get vs x →
      at (grid_of (store_meanings f store) r) x y ≡ number_of f vs x
  row_number store r x y vs h below is = at-grid_of (store_meanings f store) r x y h below ∙ number_of_row f store r x y vs is

  -- a cell of a region that was not written
  cell_kept : (old new : List (Grid S)) (q r : Region) (x y : ℕ) → KeepsOutside (q ∷ []) old new → Lies r old → x < r.width → y < r.height → (HasCell q r.buffer (r.x + x) (r.y + y) → ⊥) →
      at (grid_of (store_meanings f new) r) x y ≡ at (grid_of (store_meanings f old) r) x y
  cell_kept old new q r x y keeps lies px py out =
      at-grid_of (store_meanings f new) r x y px py
      ∙ number_same f old new r x y (region_cell_kept (q ∷ []) r old new x y keeps lies px py (all_one (λ s. HasCell s r.buffer (r.x + x) (r.y + y) → ⊥) q out))
      ∙ sym (at-grid_of (store_meanings f old) r x y px py)

  -- so are the cells before the written ones, and those after them
  other_cell : (old new : List (Grid S)) (r : Region) (x n y i : ℕ) → KeepsOutside (row_of (columns_of r x n) y ∷ []) old new → Lies r old → x + n ≤ r.width → y < r.height →
      (y * r.width + x ≤ i → i < y * r.width + x + n → ⊥) → get_or (grid_of (store_meanings f new) r).cells i (pos 0) ≡ get_or (grid_of (store_meanings f old) r).cells i (pos 0)
  other_cell old new r x n y i keeps lies fits below out =
      let after : List ℤ = (grid_of (store_meanings f new) r).cells in
      let before : List ℤ = (grid_of (store_meanings f old) r).cells in
      let long_after : length after ≡ r.width * r.height = IsFull-grid_of (store_meanings f new) r in
      let long_before : length before ≡ r.width * r.height = IsFull-grid_of (store_meanings f old) r in
      elim (cases_lt i (r.width * r.height)) [
        | inl inside ↦
            let some : 0 < r.width = positive r.width r.height i inside in
            let a : ℕ = i % r.width in
            let b : ℕ = i / r.width in
            let is : b * r.width + a ≡ i = div-add-mod' i r.width in
            let column : a < r.width = mod_below i r.width some in
            subst (λ k. get_or after k (pos 0) ≡ get_or before k (pos 0)) is
            (cell_kept old new (row_of (columns_of r x n) y) r a b keeps lies column (div_below i r.width r.height some (omega (arith, mul_comm r.width r.height, inside))) (λ h.
            let left = h.left in
            let right = h.right in
            let top = h.top in
            let bottom = h.bottom in
            let row : b ≡ y = omega arith in
            let here : y * r.width + a ≡ i = ap (λ k. k * r.width + a) (sym row) ∙ is in
            out (omega arith) (omega arith)))
        | inr past ↦ get_or_past after i (pos 0) (omega arith) ∙ sym (get_or_past before i (pos 0) (omega arith))
      ]

-- ---- a part of a row written

part_inside : (r : Region) (x n y b i j : ℕ) → x + n ≤ r.width → y < r.height → HasCell (row_of (columns_of r x n) y) b i j → HasCell r b i j
part_inside r x n y b i j fits below h =
    let left = h.left in
    let right = h.right in
    let top = h.top in
    let bottom = h.bottom in
    record { buffer = h.buffer; left = omega arith; right = omega arith; top = omega arith; bottom = omega arith }

module _ {S : Type 0} (to_int : S → ℤ) (t : Palette) (p : FinishedChannel) (old new : List (Grid S)) (x n y : ℕ) (vs : List S) (lies : ChannelLies t p old) (fits : x + n ≤ p.index.width) (py : y < p.index.height)
    (sets : SetsRow (columns_of p.target x n) y vs old new) where
  abbrev start : ℕ
  start = y * p.index.width + x

  abbrev cells_of : List (Grid S) → Region → List ℤ
  cells_of store r = (grid_of (store_meanings to_int store) r).cells

  inside : x + n ≤ p.target.width
  inside = let w = lies.same_width in omega arith

  below : y < p.target.height
  below = let h = lies.same_height in omega arith

  pub part_keeps : KeepsOutside (p.target ∷ []) old new
  part_keeps =
      keeps_wider (row_of (columns_of p.target x n) y ∷ []) (p.target ∷ []) old new sets.keeps
      (λ b i j o. all_one (λ r. HasCell r b i j → ⊥) (row_of (columns_of p.target x n) y) (λ h. o 0 p.target (omega arith) (part_inside p.target x n y b i j inside below h)))

  part_apart : (r : Region) → AreApart p.target r → AreApart (row_of (columns_of p.target x n) y) r
  part_apart r apart = λ b i j h k. apart b i j (part_inside p.target x n y b i j inside below h) k

  others_kept : (i : ℕ) → (start ≤ i → i < start + n → ⊥) → get_or (cells_of new p.target) i (pos 0) ≡ get_or (cells_of old p.target) i (pos 0)
  others_kept i out =
      other_cell to_int old new p.target x n y i sets.keeps lies.target_lies inside below
      (subst (λ w. y * w + x ≤ i → i < y * w + x + n → ⊥) (sym lies.same_width) out)

  indices_kept : (i : ℕ) → start + n ≤ i → get_or (cells_of new p.index) i (pos 0) ≡ get_or (cells_of old p.index) i (pos 0)
  indices_kept i l =
      elim lies.index_apart [
        | inl same ↦ subst (λ r. get_or (cells_of new r) i (pos 0) ≡ get_or (cells_of old r) i (pos 0)) (sym same) (others_kept i (λ a b. absurd (omega arith)))
        | inr apart ↦ ap (λ (g : Grid ℤ). get_or g.cells i (pos 0)) (grid_kept to_int old new (row_of (columns_of p.target x n) y) p.index sets.keeps lies.index_lies (part_apart p.index apart))
      ]

  pub part_ahead : (table index : Grid ℤ) → StillToCome p start table index (store_meanings to_int old) → StillToCome p (start + n) table index (store_meanings to_int new)
  part_ahead table index a = record {
    table_is = grid_kept to_int old new (row_of (columns_of p.target x n) y) p.table sets.keeps lies.table_lies (part_apart p.table lies.table_apart) ∙ a.table_is;
    indices = λ i l. indices_kept i l ∙ a.indices i (omega arith);
  }

  -- a cell that was written
  written_cell : (j : ℕ) → j < n → get_or (cells_of new p.target) (start + j) (pos 0) ≡ number_of to_int vs j
  written_cell j h =
      let place : y * p.target.width + (x + j) ≡ start + j = ap (λ w. y * w + (x + j)) lies.same_width ∙ omega arith in
      ap (λ k. get_or (cells_of new p.target) k (pos 0)) (sym place) ∙ part_number to_int new p.target x n y j vs h inside below (sets.cells j h)

  long : (store : List (Grid S)) → start + n ≤ length (cells_of store p.target)
  long store =
      let full = IsFull-grid_of (store_meanings to_int store) p.target in
      let width = lies.same_width in
      let height = lies.same_height in
      let row : (y + 1) * p.target.width ≤ p.target.width * p.target.height = omega (arith, mul-le (y + 1) p.target.width p.target.height p.target.width (omega arith) (omega arith), mul_comm p.target.height p.target.width) in
      let place : start ≡ y * p.target.width + x = ap (λ w. y * w + x) (sym width) in
      omega (arith, full, row, place, inside)

  module _ (w : Width) (depth : ℕ) (table index : Grid ℤ) (f : Filled w depth t p table index start (store_meanings to_int old)) where
    abbrev up_to : ℕ → List ℤ
    up_to = finished_samples w depth t table index p.number

    -- with the first m of the part
    filled_until : (m : ℕ) → m ≤ n →
        ((j : ℕ) → j < n → number_of to_int vs j ≡ finished_sample w depth t table (get_or index.cells (start + j) (pos 0)) p.number (up_to (start + j)) index.width) →
        take (start + m) (cells_of new p.target) ≡ up_to (start + m)
    filled_until zero l each =
        let none : start + 0 ≡ start = omega arith in
        let before = long old in
        let after = long new in
        ap (λ k. take k (cells_of new p.target)) none
        ∙ take_same (cells_of new p.target) (cells_of old p.target) start (omega arith) (omega arith) (λ i h. others_kept i (λ a b. absurd (omega arith)))
        ∙ f.samples ∙ ap up_to (sym none)
    filled_until (suc m) l each =
        let more : start + suc m ≡ start + m + 1 = omega arith in
        let next : suc (start + m) ≡ start + suc m = omega arith in
        let after = long new in
        ap (λ k. take k (cells_of new p.target)) more ∙ take_more (cells_of new p.target) (start + m) (pos 0) (omega arith)
        ∙ ap (λ xs. xs ++ get_or (cells_of new p.target) (start + m) (pos 0) ∷ []) (filled_until m (omega arith) each)
        ∙ ap (λ z. up_to (start + m) ++ z ∷ []) (written_cell m (omega arith) ∙ each m (omega arith))
        ∙ ap up_to next

    pub part_filled : ((j : ℕ) → j < n → number_of to_int vs j ≡ finished_sample w depth t table (get_or index.cells (start + j) (pos 0)) p.number (up_to (start + j)) index.width) →
        Filled w depth t p table index (start + n) (store_meanings to_int new)
    part_filled each = record { samples = filled_until n (omega arith) each; later_cells = part_ahead table index f.later_cells; as_wide = f.as_wide }

-- ---- a part of a row looked up

-- the number of a sample that a number became
pub became : {S : Type 0} (f : S → ℤ) (to : ℤ → S) (w : Width) → ((z : ℤ) → f (to z) ≡ z) → (numbers : List ℤ) (j : ℕ) → j < length numbers →
    number_of f (map (λ n. to (int_wrap w n)) numbers) j ≡ int_wrap w (get_or numbers j (pos 0))
became f to w back numbers j h =
    let many = length-map numbers (λ n. to (int_wrap w n)) in
    get_or-map f (map (λ n. to (int_wrap w n)) numbers) j (to (int_wrap w (pos 0))) (pos 0) (omega (arith, many, h))
    ∙ ap f (get_or-map (λ n. to (int_wrap w n)) numbers j (pos 0) (to (int_wrap w (pos 0))) h) ∙ back (int_wrap w (get_or numbers j (pos 0)))

module _ {S : Type 0} (to_int : S → ℤ) (t : Palette) (p : FinishedChannel) (old new : List (Grid S)) (x n y : ℕ) (colours indices vs : List S) (lies : ChannelLies t p old) (fits : x + n ≤ p.index.width) (py : y < p.index.height)
    (is_colours : (i : ℕ) → i < p.table.width → region_cell old p.table i p.number ≡ slice_get colours i)
    (is_indices : (j : ℕ) → j < n → region_cell old (columns_of p.index x n) j y ≡ slice_get indices j) where
  -- what is in the indices that were read
  pub read_index : (j : ℕ) → j < n → at (index_in p (store_meanings to_int old)) (x + j) y ≡ number_of to_int indices j
  read_index j h = part_number to_int old p.index x n y j indices h fits py (is_indices j h)

  module _ (w : Width) (simple : (j : ℕ) → j < n → IsSimpleIndex t (number_of to_int indices j)) (found : (j : ℕ) → j < n → number_of to_int vs j ≡ int_wrap w (number_of to_int colours (unsigned_abs (number_of to_int indices j))))
      (sets : SetsRow (columns_of p.target x n) y vs old new) where
    pub part_fills : (depth : ℕ) → FillsOn w depth t p (y * p.index.width + x) (y * p.index.width + x + n) (store_meanings to_int old) (store_meanings to_int new)
    part_fills depth table index f =
        part_filled to_int t p old new x n y vs lies fits py sets w depth table index f (λ j h.
        let k : ℕ = y * p.index.width + x in
        let i : ℤ = number_of to_int indices j in
        let columns = lies.columns in
        let within : unsigned_abs i < p.table.width = omega (arith, columns, simple_place t i (simple j h)) in
        let before : List ℤ = finished_samples w depth t table index p.number (k + j) in
        let place : y * p.index.width + (x + j) ≡ k + j = omega arith in
        let there : i ≡ get_or index.cells (k + j) (pos 0) = sym (read_index j h) ∙ ap (λ m. get_or (index_in p (store_meanings to_int old)).cells m (pos 0)) place ∙ f.later_cells.indices (k + j) (omega arith) in
        found j h
        ∙ ap (int_wrap w) (sym (row_number to_int old p.table (unsigned_abs i) p.number colours within lies.row (is_colours (unsigned_abs i) within)) ∙ ap (λ (g : Grid ℤ). looked_up g i p.number) f.later_cells.table_is)
        ∙ sym (simple_sample w depth t table i p.number before index.width (simple j h))
        ∙ ap (λ z. finished_sample w depth t table z p.number before index.width) there)
