-- The first cells of a row of a region are written: what its grid is then, and what the cells of a part are.
use Rattle.std.proofs.Common.{◌≡◌, ℕ, zero, suc, ◌+◌, ◌*◌, ◌<◌, ◌≤◌, inl, inr, List, [], ◌∷◌, ◌++◌, length, take, drop, map, Some, refl, sym, ap, ◌∙◌, arith, ℤ, pos, set}
use Rattle.std.specs.Prelude.{get_or}
use Rattle.std.proofs.Math.ListN.{length-set}
use Rattle.std.proofs.Math.Nat.{mul_comm}
use Rattle.std.proofs.Math.Seq.{drop-append-add, take-append-add}
use Rattle.std.proofs.lemmas.Bool.{cases_eq, cases_lt}
use Rattle.std.proofs.lemmas.List.{append_assoc, drop-append-le, drop_at, get_or-map, get_or-set_other, get_or-set_same, length-append, length-map, length-take-le, same_lists, take-append-le, take_at}
use Rattle.std.proofs.lemmas.Nat.{mul-le}
use Rattle.std.proofs.lemmas.Slice.Zip.{AllZip-long}
use Rattle.std.proofs.lemmas.Option.{slice_get-get_or}
use Rattle.jxlm_base.specs.Grid.{Grid, IsFull, cell, with_row, written}
use Rattle.jxlm_base.specs.Outside.{KeepsOutside, SetsRow, row_of}
use Rattle.jxlm_base.specs.Regions.{AllLie, AreApart, HasCell, LieApart, Lies, grid_of, store_meanings}
use Rattle.jxlm_base.specs.declared.subgrid.Region.{Region}
use Rattle.jxlm_base.proofs.Cells.{grid_same, place_within}
use Rattle.jxlm_base.proofs.Outside.{all_one, grid_kept, keeps_wider, number_of_row, number_same, region_cell_kept}
use Rattle.jxlm_base.proofs.RegionRows.{length-written, written_inside, written_is, written_outside}
use Rattle.jxlm_base.proofs.Regions.{IsFull-grid_of, apart_at, cell-grid_of}
use Rattle.jxlm_samples.specs.Inner.Rows.{first_columns}
use Rattle.jxlm_transform.specs.Channels.{AreGridsOf, Channel}
use Rattle.jxlm_samples.specs.Part.{cells_before, cells_of, channel, grid as grid_at}
use Rattle.jxlm_samples.proofs.Places.{before_suc, split}

-- ---- lists with others written over them

module _ {X : Type 0} where
  module _ (xs : List X) (k : ℕ) (vs : List X) (fits : k + length vs ≤ length xs) where
    pub take_written : take (k + length vs) (written xs k vs) ≡ take k xs ++ vs
    take_written =
        ap (take (k + length vs)) (written_is xs k vs fits ∙ sym (append_assoc (take k xs) vs (drop (k + length vs) xs)))
        ∙ take_at (take k xs ++ vs) (drop (k + length vs) xs) (k + length vs) (omega (arith, length-append (take k xs) vs, length-take-le k xs (omega arith)))

    pub drop_written : drop (k + length vs) (written xs k vs) ≡ drop (k + length vs) xs
    drop_written =
        ap (drop (k + length vs)) (written_is xs k vs fits ∙ sym (append_assoc (take k xs) vs (drop (k + length vs) xs)))
        ∙ drop_at (take k xs ++ vs) (drop (k + length vs) xs) (k + length vs) (omega (arith, length-append (take k xs) vs, length-take-le k xs (omega arith)))

  -- in the first of two lists, and in the second
  written_left : (xs ys : List X) (k : ℕ) (vs : List X) → k + length vs ≤ length xs → written xs k vs ++ ys ≡ written (xs ++ ys) k vs
  written_left xs ys k vs fits =
      ap (λ zs. zs ++ ys) (written_is xs k vs fits) ∙ append_assoc (take k xs) (vs ++ drop (k + length vs) xs) ys
      ∙ ap (λ zs. take k xs ++ zs) (append_assoc vs (drop (k + length vs) xs) ys ∙ ap (λ zs. vs ++ zs) (sym (drop-append-le (k + length vs) xs ys fits)))
      ∙ ap (λ zs. zs ++ (vs ++ drop (k + length vs) (xs ++ ys))) (sym (take-append-le k xs ys (omega arith)))
      ∙ sym (written_is (xs ++ ys) k vs (omega (arith, length-append xs ys)))

  written_right : (xs ys : List X) (k : ℕ) (vs : List X) → k + length vs ≤ length ys → xs ++ written ys k vs ≡ written (xs ++ ys) (length xs + k) vs
  written_right xs ys k vs fits =
      let place : length xs + k + length vs ≡ length xs + (k + length vs) = omega arith in
      ap (λ zs. xs ++ zs) (written_is ys k vs fits) ∙ sym (append_assoc xs (take k ys) (vs ++ drop (k + length vs) ys))
      ∙ ap (λ zs. zs ++ (vs ++ drop (k + length vs) ys)) (sym (take-append-add xs ys k))
      ∙ ap (λ zs. take (length xs + k) (xs ++ ys) ++ (vs ++ zs)) (sym (ap (λ n. drop n (xs ++ ys)) place ∙ drop-append-add xs ys (k + length vs)))
      ∙ sym (written_is (xs ++ ys) (length xs + k) vs (omega (arith, fits, length-append xs ys)))

-- ---- grids with the first numbers of a row

module _ (g : Grid ℤ) (full : IsFull g) (y : ℕ) (vs : List ℤ) (below : y < g.height) (narrow : length vs ≤ g.width) where
  pub row_takes : y * g.width + length vs ≤ length g.cells
  row_takes = omega (arith, narrow, full, mul-le (suc y) g.width g.height g.width (omega arith) (omega arith), mul_comm g.height g.width)

  pub IsFull-written : IsFull (with_row g y vs)
  IsFull-written = length-written g.cells (y * g.width) vs row_takes ∙ full

  cell_in : (a : ℕ) → a < length vs → cell (with_row g y vs) a y ≡ Some (get_or vs a (pos 0))
  cell_in a p = written_inside g.cells (y * g.width) vs row_takes (y * g.width + a) a refl p ∙ slice_get-get_or vs a (pos 0) p

  cell_else : (a b : ℕ) → a < g.width → b < g.height → ((a < length vs) × (b ≡ y) → ⊥) → cell (with_row g y vs) a b ≡ cell g a b
  cell_else a b p q out =
      written_outside g.cells (y * g.width) vs row_takes (b * g.width + a) (place_within g a b full p q) (λ low high.
      elim (cases_eq b y) [
        | inl is ↦ out (let same = ap (λ n. n * g.width) is in omega (arith, same, high), is)
        | inr ne ↦
            elim (cases_lt b y) [
              | inl lt ↦ absurd (omega (arith, low, p, mul-le (suc b) g.width y g.width (omega arith) (omega arith)))
              | inr ge ↦ absurd (omega (arith, high, narrow, mul-le (suc y) g.width b g.width (omega (arith, ne, ge)) (omega arith)))
            ]
      ])

-- ---- regions of a store

module _ {X : Type 0} (f : X → ℤ) (store new : List (Grid X)) (y n : ℕ) (vs : List X) (long : length vs ≡ n) where
  length-numbers : length (map f vs) ≡ n
  length-numbers = length-map vs f ∙ long

  module _ (r : Region) (lies : Lies r store) (below : y < r.height) (narrow : n ≤ r.width) (sets : SetsRow (first_columns r n) y vs store new) where
    inside : (b i j : ℕ) → HasCell (row_of (first_columns r n) y) b i j → HasCell r b i j
    inside b i j h =
        let right = h.right in
        let top = h.top in
        let bottom = h.bottom in
        record { buffer = h.buffer; left = h.left; right = omega arith; top = omega arith; bottom = omega arith }

    pub row_grid : grid_of (store_meanings f new) r ≡ with_row (grid_of (store_meanings f store) r) y (map f vs)
    row_grid =
        let g : Grid ℤ = grid_of (store_meanings f store) r in
        let full = IsFull-grid_of (store_meanings f store) r in
        let fits : length (map f vs) ≤ r.width = omega (arith, narrow, length-numbers) in
        let written : Grid ℤ = with_row g y (map f vs) in
        grid_same (grid_of (store_meanings f new) r) written (IsFull-grid_of (store_meanings f new) r) (IsFull-written g full y (map f vs) below fits) refl refl (λ a b p q.
        elim (cases_eq b y) [
          | inl e ↦
              elim (cases_lt a n) [
                | inl lt ↦
                    ap (λ k. cell (grid_of (store_meanings f new) r) a k) e ∙ cell-grid_of (store_meanings f new) r a y p below
                    ∙ ap Some (number_of_row f new r a y vs (sets.cells a lt)) ∙ sym (cell_in g full y (map f vs) below fits a (omega (arith, lt, length-numbers))) ∙ ap (λ k. cell written a k) (sym e)
                | inr ge ↦ elsewhere a b p q (λ h. let h0 = h.0 in absurd (omega arith))
              ]
          | inr ne ↦ elsewhere a b p q (λ h. ne h.1)
        ])
      where
        elsewhere : (a b : ℕ) → a < r.width → b < r.height → ((a < n) × (b ≡ y) → ⊥) → cell (grid_of (store_meanings f new) r) a b ≡ cell (with_row (grid_of (store_meanings f store) r) y (map f vs)) a b
        elsewhere a b p q out =
            cell-grid_of (store_meanings f new) r a b p q
            ∙ ap Some (number_same f store new r a b
            (region_cell_kept (row_of (first_columns r n) y ∷ []) r store new a b sets.keeps lies p q
            (all_one (λ s. HasCell s r.buffer (r.x + a) (r.y + b) → ⊥) (row_of (first_columns r n) y) (λ h. let right = h.right in let top = h.top in let bottom = h.bottom in out (omega arith, omega arith)))))
            ∙ sym (cell-grid_of (store_meanings f store) r a b p q)
            ∙ sym (cell_else (grid_of (store_meanings f store) r) (IsFull-grid_of (store_meanings f store) r) y (map f vs) below (omega (arith, narrow, length-numbers)) a b p q (λ h. let h0 = h.0 in out (omega (arith, h0, length-numbers), h.1)))

  -- of regions no two of which share a cell, one's grid has the row, and the others are as before
  pub row_grids : (rs : List Region) (i : ℕ) (d : Region) → LieApart rs → AllLie rs store → i < length rs → y < (get_or rs i d).height → n ≤ (get_or rs i d).width → SetsRow (first_columns (get_or rs i d) n) y vs store new →
      map (grid_of (store_meanings f new)) rs ≡ set (map (grid_of (store_meanings f store)) rs) i (with_row (grid_of (store_meanings f store) (get_or rs i d)) y (map f vs))
  row_grids rs i d apart all p below narrow sets =
      let r : Region = get_or rs i d in
      let changed : Grid ℤ = with_row (grid_of (store_meanings f store) r) y (map f vs) in
      let old : List (Grid ℤ) = map (grid_of (store_meanings f store)) rs in
      let a : length old ≡ length rs = length-map rs (grid_of (store_meanings f store)) in
      let b : length (map (grid_of (store_meanings f new)) rs) ≡ length rs = length-map rs (grid_of (store_meanings f new)) in
      same_lists (map (grid_of (store_meanings f new)) rs) (set old i changed) (b ∙ sym a ∙ sym (length-set old i changed)) (λ k e h.
      let k_in : k < length rs = omega (arith, b, h) in
      let here : get_or (map (grid_of (store_meanings f new)) rs) k e ≡ grid_of (store_meanings f new) (get_or rs k d) = get_or-map (grid_of (store_meanings f new)) rs k d e k_in in
      elim (cases_eq k i) [
        | inl is ↦
            here ∙ ap (λ j. grid_of (store_meanings f new) (get_or rs j d)) is ∙ row_grid r (all i d p) below narrow sets
            ∙ sym (get_or-set_same old i changed e (omega (arith, a))) ∙ ap (λ j. get_or (set old i changed) j e) (sym is)
        | inr ne ↦
            let away : AreApart (row_of (first_columns r n) y) (get_or rs k d) = λ q u v h j. apart_at rs i k d apart p k_in (λ s. ne (sym s)) q u v (inside r (all i d p) below narrow sets q u v h) j in
            here ∙ grid_kept f store new (row_of (first_columns r n) y) (get_or rs k d) sets.keeps (all k d k_in) away
            ∙ sym (get_or-map (grid_of (store_meanings f store)) rs k d e k_in) ∙ sym (get_or-set_other old i k changed e ne)
      ])

  -- and outside of the regions nothing changes
  pub row_keeps : (rs : List Region) (i : ℕ) (d : Region) → AllLie rs store → i < length rs → y < (get_or rs i d).height → n ≤ (get_or rs i d).width → SetsRow (first_columns (get_or rs i d) n) y vs store new → KeepsOutside rs store new
  row_keeps rs i d all p below narrow sets =
      let r : Region = get_or rs i d in
      keeps_wider (row_of (first_columns r n) y ∷ []) rs store new sets.keeps
      (λ b u v o. all_one (λ s. HasCell s b u v → ⊥) (row_of (first_columns r n) y) (λ h. o i d p (inside r (all i d p) below narrow sets b u v h)))

-- ---- the cells of a part

pub fits_count : {X : Type 0} (channels : List Channel) (grids : List (Grid X)) → AreGridsOf channels grids → length grids ≡ length channels
fits_count channels grids fit = AllZip-long _ channels grids fit

-- grid i with these as the first numbers of row y
abbrev pub with_row_of : List (Grid ℤ) → ℕ → ℕ → List ℤ → List (Grid ℤ)
with_row_of grids i y vs = set grids i (with_row (grid_at grids i) y vs)

-- where row y of channel i begins among all cells
abbrev pub row_place : List Channel → ℕ → ℕ → ℕ
row_place channels i y = cells_before channels i + (y * (channel channels i).width + 0)

-- the grids still fit their channels
pub fits_written : (channels : List Channel) (grids : List (Grid ℤ)) (i y : ℕ) (vs : List ℤ) → AreGridsOf channels grids → y < (channel channels i).height → length vs ≤ (channel channels i).width →
    AreGridsOf channels (with_row_of grids i y vs)
fits_written [] [] i y vs fit q narrow = fit
fits_written [] (g ∷ gs) i y vs fit q narrow = absurd fit
fits_written (c ∷ cs) [] i y vs fit q narrow = absurd fit
fits_written (c ∷ cs) (g ∷ gs) zero y vs fit q narrow = (
  record {
    same_width = fit.0.same_width;
    same_height = fit.0.same_height;
    full = IsFull-written g fit.0.full y vs (rw fit.0.same_height q) (rw fit.0.same_width narrow);
  },
  fit.1,
)
fits_written (c ∷ cs) (g ∷ gs) (suc i) y vs fit q narrow = (fit.0, fits_written cs gs i y vs fit.1 q narrow)

-- the whole row lies among the cells
pub row_within : (channels : List Channel) (grids : List (Grid ℤ)) (i y : ℕ) → AreGridsOf channels grids → i < length channels → y < (channel channels i).height →
    row_place channels i y + (channel channels i).width ≤ length (cells_of grids)
row_within channels grids i y fit l q =
    let c = channel channels i in
    let all = (split channels grids i fit l).all in
    omega (arith, all, mul-le (suc y) c.width c.height c.width (omega arith) (omega arith), mul_comm c.height c.width)

-- the numbers are written over the cells from there on
pub cells_written : (channels : List Channel) (grids : List (Grid ℤ)) (i y : ℕ) (vs : List ℤ) → AreGridsOf channels grids → i < length channels → y < (channel channels i).height →
    length vs ≤ (channel channels i).width → cells_of (with_row_of grids i y vs) ≡ written (cells_of grids) (row_place channels i y) vs
cells_written [] grids i y vs fit l q narrow = absurd (omega arith)
cells_written (c ∷ cs) [] i y vs fit l q narrow = absurd fit
cells_written (c ∷ cs) (g ∷ gs) zero y vs fit l q narrow =
    let at : row_place (c ∷ cs) zero y ≡ y * g.width = omega arith ∙ ap (λ w. y * w) (sym fit.0.same_width) in
    written_left g.cells (cells_of gs) (y * g.width) vs (row_takes g fit.0.full y vs (rw fit.0.same_height q) (rw fit.0.same_width narrow))
    ∙ ap (λ k. written (g.cells ++ cells_of gs) k vs) (sym at)
cells_written (c ∷ cs) (g ∷ gs) (suc i) y vs fit l q narrow =
    let s = split (c ∷ cs) (g ∷ gs) zero fit (omega arith) in
    let long = s.long in
    let at : row_place (c ∷ cs) (suc i) y ≡ length g.cells + row_place cs i y = omega (arith, before_suc c cs i, long) in
    ap (λ zs. g.cells ++ zs) (cells_written cs gs i y vs fit.1 (omega arith) q narrow)
    ∙ written_right g.cells (cells_of gs) (row_place cs i y) vs (let m = row_within cs gs i y fit.1 (omega arith) q in omega (arith, m, narrow))
    ∙ ap (λ k. written (g.cells ++ cells_of gs) k vs) (sym at)

-- the cells up to the last of them
pub first_cells : (channels : List Channel) (grids : List (Grid ℤ)) (i y : ℕ) (vs : List ℤ) → AreGridsOf channels grids → i < length channels → y < (channel channels i).height →
    length vs ≤ (channel channels i).width → take (row_place channels i y + length vs) (cells_of (with_row_of grids i y vs)) ≡ take (row_place channels i y) (cells_of grids) ++ vs
first_cells channels grids i y vs fit l q narrow =
    ap (take (row_place channels i y + length vs)) (cells_written channels grids i y vs fit l q narrow)
    ∙ take_written (cells_of grids) (row_place channels i y) vs (let m = row_within channels grids i y fit l q in omega (arith, m, narrow))
