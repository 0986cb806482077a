-- Regions of a store: what is read in one, and what a write to one cell changes.
use Rattle.std.proofs.Common.{◌≡◌, ◌≢◌, ℕ, suc, zero, ◌+◌, ◌<◌, ◌≤◌, inl, inr, List, [], ◌∷◌, length, ℤ, pos, Some, sym, refl, ap, ◌∙◌, arith, subst}
use Rattle.std.specs.Prelude.{get_or, map, slice_set}
use Rattle.std.specs.Option.{unwrap_or, option_map}
use Rattle.std.proofs.lemmas.Option.{unwrap_or-slice_get, slice_get-map}
use Rattle.std.proofs.Math.ListN.{length-set}
use Rattle.std.proofs.lemmas.Bool.{cases_eq, cases_lt}
use Rattle.std.proofs.lemmas.List.{get_or-set_same, get_or-set_other, get_or-map, get_or_default, length-map, same_lists}
use Rattle.jxlm_base.specs.Grid.{Grid, grid, at, cell, place, IsFull, with_cell, meanings}
use Rattle.jxlm_base.specs.Regions.{Region, region, buffer_of, region_cell, with_region_cell, Lies, AllLie, IsWhole, store_meanings, grid_of, HasCell, AreApart, LieApart}
use Rattle.jxlm_base.proofs.Cells.{grid_same, cell-with_cell_same, cell-with_cell_other, IsFull-with_cell}
use Rattle.jxlm_base.proofs.GridLaws.{IsFull-grid_by, cell-grid_by, grid_by_same, at_from_cell, cell_from_at, at-grid_by}

-- ---- the buffers after a write

module _ {S : Type 0} where
  pub buffer_of_written : (store : List (Grid S)) (r : Region) (x y : ℕ) (v : S) → r.buffer < length store → buffer_of (with_region_cell store r x y v) r ≡ with_cell (buffer_of store r) (r.x + x) (r.y + y) v
  buffer_of_written store r x y v there = get_or-set_same store r.buffer (with_cell (buffer_of store r) (r.x + x) (r.y + y) v) (grid 0 0 []) there

  -- a region of the same buffer sees the written buffer, and one of another buffer its own as before
  pub buffer_of_same : (store : List (Grid S)) (r s : Region) (x y : ℕ) (v : S) → r.buffer < length store → s.buffer ≡ r.buffer → buffer_of (with_region_cell store r x y v) s ≡ with_cell (buffer_of store s) (r.x + x) (r.y + y) v
  buffer_of_same store r s x y v there same =
      ap (λ b. get_or (with_region_cell store r x y v) b (grid 0 0 [])) same ∙ buffer_of_written store r x y v there
      ∙ ap (λ b. with_cell (get_or store b (grid 0 0 [])) (r.x + x) (r.y + y) v) (sym same)

  pub buffer_of_other : (store : List (Grid S)) (r s : Region) (x y : ℕ) (v : S) → s.buffer ≢ r.buffer → buffer_of (with_region_cell store r x y v) s ≡ buffer_of store s
  buffer_of_other store r s x y v other = get_or-set_other store r.buffer s.buffer (with_cell (buffer_of store r) (r.x + x) (r.y + y) v) (grid 0 0 []) other

  pub length-with_region_cell : (store : List (Grid S)) (r : Region) (x y : ℕ) (v : S) → length (with_region_cell store r x y v) ≡ length store
  length-with_region_cell store r x y v = length-set store r.buffer (with_cell (buffer_of store r) (r.x + x) (r.y + y) v)

  pub width_after : (store : List (Grid S)) (r s : Region) (x y : ℕ) (v : S) → r.buffer < length store → (buffer_of (with_region_cell store r x y v) s).width ≡ (buffer_of store s).width
  width_after store r s x y v there = elim (cases_eq s.buffer r.buffer) [ inl e ↦ ap (λ g. g.width) (buffer_of_same store r s x y v there e) | inr ne ↦ ap (λ g. g.width) (buffer_of_other store r s x y v ne) ]

  pub height_after : (store : List (Grid S)) (r s : Region) (x y : ℕ) (v : S) → r.buffer < length store → (buffer_of (with_region_cell store r x y v) s).height ≡ (buffer_of store s).height
  height_after store r s x y v there = elim (cases_eq s.buffer r.buffer) [ inl e ↦ ap (λ g. g.height) (buffer_of_same store r s x y v there e) | inr ne ↦ ap (λ g. g.height) (buffer_of_other store r s x y v ne) ]

  pub full_after : (store : List (Grid S)) (r s : Region) (x y : ℕ) (v : S) → r.buffer < length store → IsFull (buffer_of store s) → IsFull (buffer_of (with_region_cell store r x y v) s)
  full_after store r s x y v there full =
      elim (cases_eq s.buffer r.buffer) [
        | inl e ↦ subst IsFull (sym (buffer_of_same store r s x y v there e)) (IsFull-with_cell (buffer_of store s) (r.x + x) (r.y + y) v full)
        | inr ne ↦ subst IsFull (sym (buffer_of_other store r s x y v ne)) full
      ]

  -- regions lie where they lay
  pub Lies_after : (store : List (Grid S)) (r s : Region) (x y : ℕ) (v : S) → Lies r store → Lies s store → Lies s (with_region_cell store r x y v)
  Lies_after store r s x y v lies stays =
      let there = lies.there in
      let there' = stays.there in
      let columns = stays.columns in
      let rows = stays.rows in
      let w = width_after store r s x y v there in
      let h = height_after store r s x y v there in
      let n = length-with_region_cell store r x y v in
      record { there = omega (arith, n); full = full_after store r s x y v there stays.full; columns = omega (arith, w); rows = omega (arith, h) }

  pub AllLie_after : (store : List (Grid S)) (r : Region) (rs : List Region) (x y : ℕ) (v : S) → Lies r store → AllLie rs store → AllLie rs (with_region_cell store r x y v)
  AllLie_after store r rs x y v lies all = λ k d h. Lies_after store r (get_or rs k d) x y v lies (all k d h)

  -- each other cell of each buffer is as before
  pub buffer_cell_other : (store : List (Grid S)) (r s : Region) (x y i j : ℕ) (v : S) → Lies r store → x < r.width → i < (buffer_of store s).width →
      ((s.buffer ≡ r.buffer) × (r.x + x ≡ i) × (r.y + y ≡ j) → ⊥) → cell (buffer_of (with_region_cell store r x y v) s) i j ≡ cell (buffer_of store s) i j
  buffer_cell_other store r s x y i j v lies p q ne =
      elim (cases_eq s.buffer r.buffer) [
        | inl e ↦
            let same : (buffer_of store s).width ≡ (buffer_of store r).width = ap (λ b. (get_or store b (grid 0 0 [])).width) e in
            let columns = lies.columns in
            ap (λ g. cell g i j) (buffer_of_same store r s x y v lies.there e)
            ∙ cell-with_cell_other (buffer_of store s) (r.x + x) (r.y + y) i j v (omega arith) q (λ h. ne (e, h.0, h.1))
        | inr n ↦ ap (λ g. cell g i j) (buffer_of_other store r s x y v n)
      ]

  pub buffer_cell_written : (store : List (Grid S)) (r : Region) (x y : ℕ) (v : S) → Lies r store → x < r.width → y < r.height → region_cell (with_region_cell store r x y v) r x y ≡ Some v
  buffer_cell_written store r x y v lies p q =
      let columns = lies.columns in
      let rows = lies.rows in
      ap (λ g. cell g (r.x + x) (r.y + y)) (buffer_of_written store r x y v lies.there)
      ∙ cell-with_cell_same (buffer_of store r) (r.x + x) (r.y + y) v lies.full (omega arith) (omega arith)

-- ---- regions that share no cell

pub AreApart_sym : (r s : Region) → AreApart r s → AreApart s r
AreApart_sym r s apart = λ b x y h k. apart b x y k h

pub apart_by_buffer : (r s : Region) → r.buffer ≢ s.buffer → AreApart r s
apart_by_buffer r s ne = λ b x y h k. ne (h.buffer ∙ sym k.buffer)

pub apart_by_columns : (r s : Region) → r.x + r.width ≤ s.x → AreApart r s
apart_by_columns r s le = λ b x y h k. let a = h.right in let b = k.left in absurd (omega arith)

pub apart_by_rows : (r s : Region) → r.y + r.height ≤ s.y → AreApart r s
apart_by_rows r s le = λ b x y h k. let a = h.bottom in let b = k.top in absurd (omega arith)

pub HasCell_at : (r : Region) (x y : ℕ) → x < r.width → y < r.height → HasCell r r.buffer (r.x + x) (r.y + y)
HasCell_at r x y p q = record { buffer = refl; left = omega arith; right = omega arith; top = omega arith; bottom = omega arith }

-- two regions of a list of regions that lie apart
pub apart_at : (rs : List Region) (i j : ℕ) (d : Region) → LieApart rs → i < length rs → j < length rs → i ≢ j → AreApart (get_or rs i d) (get_or rs j d)
apart_at rs i j d apart p q ne =
    elim (cases_lt i j) [
      | inl lt ↦ apart i j d lt q
      | inr ge ↦ AreApart_sym (get_or rs j d) (get_or rs i d) (apart j i d (omega arith) p)
    ]

-- ---- the grids in regions

at_same : (g h : Grid ℤ) (x y i j : ℕ) → cell g x y ≡ cell h i j → at g x y ≡ at h i j
at_same g h x y i j e = sym (unwrap_or-slice_get g.cells (place g x y) (pos 0)) ∙ ap (λ o. unwrap_or o (pos 0)) e ∙ unwrap_or-slice_get h.cells (place h i j) (pos 0)

pub IsFull-grid_of : (store : List (Grid ℤ)) (r : Region) → IsFull (grid_of store r)
IsFull-grid_of store r = IsFull-grid_by r.width r.height (λ x y. at (buffer_of store r) (r.x + x) (r.y + y))

pub cell-grid_of : (store : List (Grid ℤ)) (r : Region) (x y : ℕ) → x < r.width → y < r.height → cell (grid_of store r) x y ≡ Some (at (buffer_of store r) (r.x + x) (r.y + y))
cell-grid_of store r x y p q = cell-grid_by r.width r.height (λ x y. at (buffer_of store r) (r.x + x) (r.y + y)) x y p q

pub at-grid_of : (store : List (Grid ℤ)) (r : Region) (x y : ℕ) → x < r.width → y < r.height → at (grid_of store r) x y ≡ at (buffer_of store r) (r.x + x) (r.y + y)
at-grid_of store r x y p q = at-grid_by r.width r.height (λ x y. at (buffer_of store r) (r.x + x) (r.y + y)) x y p q

-- a write to one cell of a region is a write to that cell of its grid
pub grid_of_written : (store : List (Grid ℤ)) (r : Region) (x y : ℕ) (v : ℤ) → Lies r store → x < r.width → y < r.height → grid_of (with_region_cell store r x y v) r ≡ with_cell (grid_of store r) x y v
grid_of_written store r x y v lies p q =
    let store' : List (Grid ℤ) = with_region_cell store r x y v in
    let columns = lies.columns in
    grid_same (grid_of store' r) (with_cell (grid_of store r) x y v) (IsFull-grid_of store' r) (IsFull-with_cell (grid_of store r) x y v (IsFull-grid_of store r)) refl refl
    (λ i j a b.
    elim (cases_eq x i) [
      | inl ex ↦
          elim (cases_eq y j) [
            | inl ey ↦
                cell-grid_of store' r i j a b ∙ ap Some (at_from_cell (buffer_of store' r) (r.x + i) (r.y + j) v (let h = buffer_cell_written store r x y v lies p q in subst (λ k. cell (buffer_of store' r) (r.x + k) (r.y + j) ≡ Some v) ex (subst (λ k. cell (buffer_of store' r) (r.x + x) (r.y + k) ≡ Some v) ey h)))
                ∙ sym (subst (λ k. cell (with_cell (grid_of store r) x y v) k j ≡ Some v) ex (subst (λ k. cell (with_cell (grid_of store r) x y v) x k ≡ Some v) ey (cell-with_cell_same (grid_of store r) x y v (IsFull-grid_of store r) p q)))
            | inr ny ↦ elsewhere i j a b (λ h. ny h.1)
          ]
      | inr nx ↦ elsewhere i j a b (λ h. nx h.0)
    ])
  where
    elsewhere : (i j : ℕ) → i < r.width → j < r.height → ((x ≡ i) × (y ≡ j) → ⊥) → cell (grid_of (with_region_cell store r x y v) r) i j ≡ cell (with_cell (grid_of store r) x y v) i j
    elsewhere i j a b ne =
        let store' : List (Grid ℤ) = with_region_cell store r x y v in
        let columns = lies.columns in
        cell-grid_of store' r i j a b
        ∙ ap Some (at_same (buffer_of store' r) (buffer_of store r) (r.x + i) (r.y + j) (r.x + i) (r.y + j) (buffer_cell_other store r r x y (r.x + i) (r.y + j) v lies p (omega arith) (λ h. let h1 = h.1 in let h2 = h.2 in ne (omega arith, omega arith))))
        ∙ sym (cell-grid_of store r i j a b)
        ∙ sym (cell-with_cell_other (grid_of store r) x y i j v p a ne)

-- and leaves the grids of the regions that lie apart from it
pub grid_of_apart : (store : List (Grid ℤ)) (r s : Region) (x y : ℕ) (v : ℤ) → Lies r store → Lies s store → AreApart r s → x < r.width → y < r.height → grid_of (with_region_cell store r x y v) s ≡ grid_of store s
grid_of_apart store r s x y v lies stays apart p q =
    let store' : List (Grid ℤ) = with_region_cell store r x y v in
    let columns = stays.columns in
    grid_by_same s.width s.height (λ i j. at (buffer_of store' s) (s.x + i) (s.y + j)) (λ i j. at (buffer_of store s) (s.x + i) (s.y + j)) (λ i j a b.
    at_same (buffer_of store' s) (buffer_of store s) (s.x + i) (s.y + j) (s.x + i) (s.y + j) (buffer_cell_other store r s x y (s.x + i) (s.y + j) v lies p (omega arith) (λ h.
    let h1 = h.1 in
    let h2 = h.2 in
    apart r.buffer (r.x + x) (r.y + y) (HasCell_at r x y p q) (record { buffer = h.0; left = omega arith; right = omega arith; top = omega arith; bottom = omega arith }))))

-- all at once, of regions no two of which share a cell
pub grids_of_written : (store : List (Grid ℤ)) (rs : List Region) (i x y : ℕ) (v : ℤ) (d : Region) → LieApart rs → AllLie rs store → i < length rs → x < (get_or rs i d).width → y < (get_or rs i d).height →
    map (grid_of (with_region_cell store (get_or rs i d) x y v)) rs ≡ slice_set (map (grid_of store) rs) i (with_cell (grid_of store (get_or rs i d)) x y v)
grids_of_written store rs i x y v d apart all p a b =
    let r : Region = get_or rs i d in
    let store' : List (Grid ℤ) = with_region_cell store r x y v in
    let new : Grid ℤ = with_cell (grid_of store r) x y v in
    let old : List (Grid ℤ) = map (grid_of store) rs in
    let n : length old ≡ length rs = length-map rs (grid_of store) in
    let m : length (map (grid_of store') rs) ≡ length rs = length-map rs (grid_of store') in
    same_lists (map (grid_of store') rs) (slice_set old i new) (m ∙ sym n ∙ sym (length-set old i new)) (λ k e h.
    let k_in : k < length rs = omega (arith, m, h) in
    let here : get_or (map (grid_of store') rs) k e ≡ grid_of store' (get_or rs k d) = get_or-map (grid_of store') rs k d e k_in in
    elim (cases_eq k i) [
      | inl is ↦
          here ∙ ap (λ j. grid_of store' (get_or rs j d)) is ∙ grid_of_written store r x y v (all i d p) a b
          ∙ sym (get_or-set_same old i new e (omega (arith, n))) ∙ ap (λ j. get_or (slice_set old i new) j e) (sym is)
      | inr ne ↦
          here ∙ grid_of_apart store r (get_or rs k d) x y v (all i d p) (all k d k_in) (apart_at rs i k d apart p k_in (λ q. ne (sym q))) a b
          ∙ sym (get_or-map (grid_of store) rs k d e k_in) ∙ sym (get_or-set_other old i k new e ne)
    ])

-- the grid of a whole buffer is the buffer
pub grid_of_whole : (store : List (Grid ℤ)) (r : Region) → IsWhole r store → IsFull (buffer_of store r) → grid_of store r ≡ buffer_of store r
grid_of_whole store r whole full =
    let g : Grid ℤ = buffer_of store r in
    let left = whole.left in
    let top = whole.top in
    let columns = whole.columns in
    let rows = whole.rows in
    grid_same (grid_of store r) g (IsFull-grid_of store r) full columns rows (λ x y p q.
    let ex : r.x + x ≡ x = omega arith in
    let ey : r.y + y ≡ y = omega arith in
    cell-grid_of store r x y p q ∙ ap (λ k. Some (at g k (r.y + y))) ex ∙ ap (λ k. Some (at g x k)) ey ∙ sym (cell_from_at g x y full (omega arith) (omega arith)))

-- ---- what the cells stand for

map-set : {X Y : Type 0} (f : X → Y) (xs : List X) (i : ℕ) (v : X) → map f (slice_set xs i v) ≡ slice_set (map f xs) i (f v)
map-set f [] i v = refl
map-set f (x ∷ xs) zero v = refl
map-set f (x ∷ xs) (suc i) v = ap (λ ys. f x ∷ ys) (map-set f xs i v)

module _ {S T : Type 0} where
  get_or-meanings : (f : S → T) (store : List (Grid S)) (b : ℕ) → get_or (map (meanings f) store) b (grid 0 0 []) ≡ meanings f (get_or store b (grid 0 0 []))
  get_or-meanings f [] b = refl
  get_or-meanings f (g ∷ gs) zero = refl
  get_or-meanings f (g ∷ gs) (suc b) = get_or-meanings f gs b

  pub IsFull-meanings : (f : S → T) (g : Grid S) → IsFull g → IsFull (meanings f g)
  IsFull-meanings f g full = length-map g.cells f ∙ full

  pub cell-meanings : (f : S → T) (g : Grid S) (x y : ℕ) (v : S) → cell g x y ≡ Some v → cell (meanings f g) x y ≡ Some (f v)
  cell-meanings f g x y v h = slice_get-map f g.cells (place g x y) ∙ ap (option_map f) h

  pub with_cell-meanings : (f : S → T) (g : Grid S) (x y : ℕ) (v : S) → meanings f (with_cell g x y v) ≡ with_cell (meanings f g) x y (f v)
  with_cell-meanings f g x y v = ap (grid g.width g.height) (map-set f g.cells (place g x y) v)

  pub buffer_of-meanings : (f : S → T) (store : List (Grid S)) (r : Region) → buffer_of (store_meanings f store) r ≡ meanings f (buffer_of store r)
  buffer_of-meanings f store r = get_or-meanings f store r.buffer

  pub with_region_cell-meanings : (f : S → T) (store : List (Grid S)) (r : Region) (x y : ℕ) (v : S) → store_meanings f (with_region_cell store r x y v) ≡ with_region_cell (store_meanings f store) r x y (f v)
  with_region_cell-meanings f store r x y v =
      map-set (meanings f) store r.buffer (with_cell (buffer_of store r) (r.x + x) (r.y + y) v)
      ∙ ap (slice_set (store_meanings f store) r.buffer) (with_cell-meanings f (buffer_of store r) (r.x + x) (r.y + y) v ∙ ap (λ g. with_cell g (r.x + x) (r.y + y) (f v)) (sym (buffer_of-meanings f store r)))

  pub Lies-meanings : (f : S → T) (store : List (Grid S)) (r : Region) → Lies r store → Lies r (store_meanings f store)
  Lies-meanings f store r lies =
      let there = lies.there in
      let columns = lies.columns in
      let rows = lies.rows in
      let is = buffer_of-meanings f store r in
      record {
        there = omega (arith, length-map store (meanings f));
        full = subst IsFull (sym is) (IsFull-meanings f (buffer_of store r) lies.full);
        columns = subst (λ g. r.x + r.width ≤ g.width) (sym is) columns;
        rows = subst (λ g. r.y + r.height ≤ g.height) (sym is) rows;
      }

  pub AllLie-meanings : (f : S → T) (store : List (Grid S)) (rs : List Region) → AllLie rs store → AllLie rs (store_meanings f store)
  AllLie-meanings f store rs all = λ k d h. Lies-meanings f store (get_or rs k d) (all k d h)

-- a cell that was read is the cell of the region's grid
pub cell-grid_of_read : {S : Type 0} (f : S → ℤ) (store : List (Grid S)) (r : Region) (x y : ℕ) (v : S) → x < r.width → y < r.height → region_cell store r x y ≡ Some v → cell (grid_of (store_meanings f store) r) x y ≡ Some (f v)
cell-grid_of_read f store r x y v p q h =
    cell-grid_of (store_meanings f store) r x y p q
    ∙ ap Some (ap (λ g. at g (r.x + x) (r.y + y)) (buffer_of-meanings f store r) ∙ at_from_cell (meanings f (buffer_of store r)) (r.x + x) (r.y + y) (f v) (cell-meanings f (buffer_of store r) (r.x + x) (r.y + y) v h))

-- ---- a store of samples, seen through what they stand for

module _ {S : Type 0} (f : S → ℤ) (store : List (Grid S)) where
  -- a write to one cell of a region, as the region's grid sees it, and as regions apart from it do
  pub grid_of_set : (r : Region) (x y : ℕ) (v : S) → Lies r store → x < r.width → y < r.height →
      grid_of (store_meanings f (with_region_cell store r x y v)) r ≡ with_cell (grid_of (store_meanings f store) r) x y (f v)
  grid_of_set r x y v lies p q =
      ap (λ s. grid_of s r) (with_region_cell-meanings f store r x y v) ∙ grid_of_written (store_meanings f store) r x y (f v) (Lies-meanings f store r lies) p q

  pub grid_of_set_apart : (r s : Region) (x y : ℕ) (v : S) → Lies r store → Lies s store → AreApart r s → x < r.width → y < r.height →
      grid_of (store_meanings f (with_region_cell store r x y v)) s ≡ grid_of (store_meanings f store) s
  grid_of_set_apart r s x y v lies stays apart p q =
      ap (λ t. grid_of t s) (with_region_cell-meanings f store r x y v)
      ∙ grid_of_apart (store_meanings f store) r s x y (f v) (Lies-meanings f store r lies) (Lies-meanings f store s stays) apart p q

  pub grids_of_set : (rs : List Region) (i x y : ℕ) (v : S) (d : Region) → LieApart rs → AllLie rs store → i < length rs → x < (get_or rs i d).width → y < (get_or rs i d).height →
      map (grid_of (store_meanings f (with_region_cell store (get_or rs i d) x y v))) rs ≡ slice_set (map (grid_of (store_meanings f store)) rs) i (with_cell (grid_of (store_meanings f store) (get_or rs i d)) x y (f v))
  grids_of_set rs i x y v d apart all p a b =
      ap (λ s. map (grid_of s) rs) (with_region_cell-meanings f store (get_or rs i d) x y v)
      ∙ grids_of_written (store_meanings f store) rs i x y (f v) d apart (AllLie-meanings f store rs all) p a b

-- where each region is a whole buffer, in their order, the grids are the buffers
pub grids_of_whole : (store : List (Grid ℤ)) (rs : List Region) → length rs ≡ length store →
    ((k : ℕ) (d : Region) → k < length rs → ((get_or rs k d).buffer ≡ k) × IsWhole (get_or rs k d) store × IsFull (buffer_of store (get_or rs k d))) → map (grid_of store) rs ≡ store
grids_of_whole store rs long whole =
    let none : Region = region 0 0 0 0 0 in
    let n : length (map (grid_of store) rs) ≡ length rs = length-map rs (grid_of store) in
    same_lists (map (grid_of store) rs) store (n ∙ long) (λ k d h.
    let k_in : k < length rs = omega (arith, n, h) in
    let w = whole k none k_in in
    get_or-map (grid_of store) rs k none d k_in ∙ grid_of_whole store (get_or rs k none) w.1 w.2 ∙ ap (λ b. get_or store b (grid 0 0 [])) w.0
    ∙ get_or_default store k (grid 0 0 []) d (omega (arith, long, k_in)))
