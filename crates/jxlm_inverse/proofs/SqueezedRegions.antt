-- A region of a store whose rows or columns were squeezed: where its averages and residuals are, and what undoing them
-- leaves.
use Rattle.std.proofs.Common.{◌≡◌, ℕ, ◌+◌, ◌-◌, ◌/◌, ◌<◌, ◌≤◌, inl, inr, List, [], ◌∷◌, Bool, true, false, ℤ, refl, sym, ap, ◌∙◌, subst, arith}
use Rattle.std.specs.Prelude.{cond, nat_lt, get_or, slice_set}
use Rattle.std.specs.Int.{Width}
use Rattle.std.proofs.Math.ListN.{length-set}
use Rattle.std.proofs.lemmas.Bool.{cases_eq, cases_lt, lt-ltb, le-ltb}
use Rattle.std.proofs.lemmas.List.{get_or-set_same, get_or-set_other, get_or_default}
use Rattle.jxlm_base.specs.Grid.{Grid, grid, grid_by, at, cell, meanings, IsFull}
use Rattle.jxlm_base.specs.Outside.{buffer_at, KeepsOutside}
use Rattle.jxlm_base.specs.Regions.{buffer_of, grid_of, store_meanings, Lies, HasCell}
use Rattle.jxlm_lanes.specs.Squeeze.{averages, average_at, residual_at, squeezed}
use Rattle.jxlm_base.specs.SqueezedGrids.{squeezed_rows, squeezed_columns, AreGridSamples}
use Rattle.jxlm_base.specs.Subgrid.{whole, IsAt, IsOutside, IsSameOutside, KeepsOutside as KeepsRest, numbers_in}
use Rattle.jxlm_base.specs.declared.subgrid.MutableSubgrid.{MutableSubgrid}
use Rattle.jxlm_base.specs.declared.subgrid.Region.{Region}
use Rattle.jxlm_base.proofs.GridLaws.{grid_by_same, at-grid_by}
use Rattle.jxlm_base.proofs.Regions.{at-grid_of, buffer_of-meanings}
use Rattle.jxlm_transform.specs.SqueezedRegions.{average_region, residual_region}
use Rattle.jxlm_inverse.specs.UndoneSqueeze.{average_grid, residual_grid, UndoesSqueeze}

-- ---- where averages and residuals are

if_lt : {X : Type 0} (a b : ℕ) (x y : X) → a < b → cond (nat_lt a b) x y ≡ x
if_lt a b x y h = ap (λ (t : Bool). cond t x y) (lt-ltb a b h)

if_ge : {X : Type 0} (a b : ℕ) (x y : X) → b ≤ a → cond (nat_lt a b) x y ≡ y
if_ge a b x y h = ap (λ (t : Bool). cond t x y) (le-ltb a b h)

module _ (w : Width) (n : ℕ) (row : ℕ → ℤ) where
  average_stands : (k : ℕ) → k < averages n → squeezed w n row k ≡ average_at w n row k
  average_stands k h = if_lt k (averages n) (average_at w n row k) (residual_at w n row (k - averages n)) h

  residual_stands : (k : ℕ) → squeezed w n row (averages n + k) ≡ residual_at w n row k
  residual_stands k =
      let i : ℕ = averages n + k in
      let is : i - averages n ≡ k = omega arith in
      if_ge i (averages n) (average_at w n row i) (residual_at w n row (i - averages n)) (omega arith) ∙ ap (residual_at w n row) is

-- column x of row y of a squeezed region
module _ (w : Width) (r : Region) (old new : List (Grid ℤ)) (x y : ℕ) (p : x < r.width) (q : y < r.height) where
  row_code : UndoesSqueeze w true r old new → squeezed w r.width (λ i. at (grid_of new r) i y) x ≡ at (buffer_of old r) (r.x + x) (r.y + y)
  row_code u =
      sym (at-grid_by r.width r.height (λ x y. squeezed w r.width (λ i. at (grid_of new r) i y) x) x y p q)
      ∙ ap (λ g. at g x y) u.squeezed ∙ at-grid_of old r x y p q

  column_code : UndoesSqueeze w false r old new → squeezed w r.height (λ i. at (grid_of new r) x i) y ≡ at (buffer_of old r) (r.x + x) (r.y + y)
  column_code u =
      sym (at-grid_by r.width r.height (λ x y. squeezed w r.height (λ i. at (grid_of new r) x i) y) x y p q)
      ∙ ap (λ g. at g x y) u.squeezed ∙ at-grid_of old r x y p q

module _ (w : Width) (r : Region) (old new : List (Grid ℤ)) where
  -- the averages of what is in the region now were in its first part, and the residuals in its second
  pub averages_stood : (horizontal : Bool) → UndoesSqueeze w horizontal r old new → average_grid w horizontal (grid_of new r) ≡ grid_of old (average_region horizontal r)
  averages_stood true u =
      grid_by_same (averages r.width) r.height (λ x y. average_at w r.width (λ i. at (grid_of new r) i y) x) (λ x y. at (buffer_of old r) (r.x + x) (r.y + y))
      (λ x y p q. sym (average_stands w r.width (λ i. at (grid_of new r) i y) x p) ∙ row_code w r old new x y (omega arith) q u)
  averages_stood false u =
      grid_by_same r.width (averages r.height) (λ x y. average_at w r.height (λ i. at (grid_of new r) x i) y) (λ x y. at (buffer_of old r) (r.x + x) (r.y + y))
      (λ x y p q. sym (average_stands w r.height (λ i. at (grid_of new r) x i) y q) ∙ column_code w r old new x y p (omega arith) u)

  pub residuals_stood : (horizontal : Bool) → UndoesSqueeze w horizontal r old new → residual_grid w horizontal (grid_of new r) ≡ grid_of old (residual_region horizontal r)
  residuals_stood true u =
      grid_by_same (r.width / 2) r.height (λ x y. residual_at w r.width (λ i. at (grid_of new r) i y) x) (λ x y. at (buffer_of old r) (r.x + averages r.width + x) (r.y + y))
      (λ x y p q.
      let is : r.x + (averages r.width + x) ≡ r.x + averages r.width + x = omega arith in
      sym (residual_stands w r.width (λ i. at (grid_of new r) i y) x) ∙ row_code w r old new (averages r.width + x) y (omega arith) q u
      ∙ ap (λ k. at (buffer_of old r) k (r.y + y)) is)
  residuals_stood false u =
      grid_by_same r.width (r.height / 2) (λ x y. residual_at w r.height (λ i. at (grid_of new r) x i) y) (λ x y. at (buffer_of old r) (r.x + x) (r.y + averages r.height + y))
      (λ x y p q.
      let is : r.y + (averages r.height + y) ≡ r.y + averages r.height + y = omega arith in
      sym (residual_stands w r.height (λ i. at (grid_of new r) x i) y) ∙ column_code w r old new x (averages r.height + y) p (omega arith) u
      ∙ ap (λ k. at (buffer_of old r) (r.x + x) k) is)

-- ---- a rectangle of one buffer, written

module _ {S : Type 0} (store : List (Grid S)) (r : Region) (lies : Lies r store) (d new : Grid S) where
  abbrev after : List (Grid S)
  after = slice_set store r.buffer new

  read_is : get_or store r.buffer d ≡ buffer_of store r
  read_is = get_or_default store r.buffer d (grid 0 0 []) lies.there

  at_same : buffer_at after r.buffer ≡ new
  at_same = get_or-set_same store r.buffer new (grid 0 0 []) lies.there

  at_other : (b : ℕ) → (b ≡ r.buffer → ⊥) → buffer_at after b ≡ buffer_at store b
  at_other b ne = get_or-set_other store r.buffer b new (grid 0 0 []) ne

  is_outside : (i j : ℕ) → (HasCell r r.buffer i j → ⊥) → IsOutside r.x r.y r.width r.height i j
  is_outside i j out =
      elim (cases_lt i r.x) [
        | inl a ↦ inl a
        | inr a ↦
            elim (cases_lt i (r.x + r.width)) [
              | inr b ↦ inr (inl b)
              | inl b ↦
                  elim (cases_lt j r.y) [
                    | inl c ↦ inr (inr (inl c))
                    | inr c ↦
                        elim (cases_lt j (r.y + r.height)) [
                          | inr e ↦ inr (inr (inr e))
                          | inl e ↦ absurd (out (record { buffer = refl; left = a; right = b; top = c; bottom = e }))
                        ]
                  ]
            ]
      ]

  -- what is kept outside the rectangle is kept outside the region
  keeps_part : IsSameOutside r.x r.y r.width r.height (get_or store r.buffer d) new → KeepsOutside (r ∷ []) store after
  keeps_part given =
      let same : IsSameOutside r.x r.y r.width r.height (buffer_of store r) new = subst (λ g. IsSameOutside r.x r.y r.width r.height g new) read_is given in
      record {
        count = length-set store r.buffer new;
        width = λ b. elim (cases_eq b r.buffer) [
          | inl e ↦ ap (λ n. (buffer_at after n).width) e ∙ ap (λ g. g.width) at_same ∙ same.same_width ∙ ap (λ n. (buffer_at store n).width) (sym e)
          | inr ne ↦ ap (λ g. g.width) (at_other b ne)
        ];
        height = λ b. elim (cases_eq b r.buffer) [
          | inl e ↦ ap (λ n. (buffer_at after n).height) e ∙ ap (λ g. g.height) at_same ∙ same.same_height ∙ ap (λ n. (buffer_at store n).height) (sym e)
          | inr ne ↦ ap (λ g. g.height) (at_other b ne)
        ];
        full = λ b h. elim (cases_eq b r.buffer) [
          | inl e ↦ subst (λ n. IsFull (buffer_at after n)) (sym e) (subst IsFull (sym at_same) same.full)
          | inr ne ↦ subst IsFull (sym (at_other b ne)) h
        ];
        cells = λ b i j p q out. elim (cases_eq b r.buffer) [
          | inl e ↦
              ap (λ n. cell (buffer_at after n) i j) e ∙ ap (λ g. cell g i j) at_same
              ∙ same.outside i j (subst (λ n. i < (buffer_at store n).width) e p) (subst (λ n. j < (buffer_at store n).height) e q)
              (is_outside i j (λ h. out 0 r (omega arith) (subst (λ n. HasCell r n i j) (sym e) h)))
              ∙ ap (λ n. cell (buffer_at store n) i j) (sym e)
          | inr ne ↦ ap (λ g. cell g i j) (at_other b ne)
        ];
      }

-- the numbers in a rectangle of a buffer are the region's grid
module _ {S : Type 0} (f : S → ℤ) (store : List (Grid S)) (r : Region) (g : Grid S) where
  abbrev numbers : ℕ → ℕ → ℕ → ℕ → Grid ℤ
  numbers x y n h = grid_by n h (λ i j. at (meanings f g) (x + i) (y + j))

  numbers_are : g ≡ buffer_of store r → (x y n h : ℕ) → x ≡ r.x → y ≡ r.y → n ≡ r.width → h ≡ r.height → numbers x y n h ≡ grid_of (store_meanings f store) r
  numbers_are is x y n h left top columns rows =
      ap (λ x. numbers x y n h) left ∙ ap (λ y. numbers r.x y n h) top ∙ ap (λ n. numbers r.x r.y n h) columns ∙ ap (λ h. numbers r.x r.y r.width h) rows
      ∙ ap (λ k. grid_by r.width r.height (λ i j. at k (r.x + i) (r.y + j))) (ap (meanings f) is ∙ sym (buffer_of-meanings f store r))

-- ---- a rectangle of a buffer, undone

module _ {S : Type 0} (f : S → ℤ) (w : Width) (store : List (Grid S)) (r : Region) (lies : Lies r store) (d : Grid S) (s t : MutableSubgrid S)
    (was : whole s ≡ get_or store r.buffer d) (place : IsAt s r.x r.y r.width r.height) (kept : KeepsRest s t) where
  abbrev undone : List (Grid S)
  undone = slice_set store r.buffer (whole t)

  old_numbers : numbers_in f s ≡ grid_of (store_meanings f store) r
  old_numbers = numbers_are f store r (whole s) (was ∙ read_is store r lies d (whole t)) s.x s.y s.width s.height place.left place.top place.columns place.rows

  new_numbers : numbers_in f t ≡ grid_of (store_meanings f undone) r
  new_numbers =
      let stays = kept.place.at in
      numbers_are f undone r (whole t) (sym (at_same store r lies d (whole t))) t.x t.y t.width t.height (stays.left ∙ place.left) (stays.top ∙ place.top) (stays.columns ∙ place.columns) (stays.rows ∙ place.rows)

  pub rows_undone : squeezed_rows w (numbers_in f t) ≡ numbers_in f s → AreGridSamples w (numbers_in f t) → UndoesSqueeze w true r (store_meanings f store) (store_meanings f undone)
  rows_undone e fits = record {
    squeezed = subst (λ g. squeezed_rows w g ≡ grid_of (store_meanings f store) r) new_numbers (e ∙ old_numbers);
    samples = subst (AreGridSamples w) new_numbers fits;
  }

  pub columns_undone : squeezed_columns w (numbers_in f t) ≡ numbers_in f s → AreGridSamples w (numbers_in f t) → UndoesSqueeze w false r (store_meanings f store) (store_meanings f undone)
  columns_undone e fits = record {
    squeezed = subst (λ g. squeezed_columns w g ≡ grid_of (store_meanings f store) r) new_numbers (e ∙ old_numbers);
    samples = subst (AreGridSamples w) new_numbers fits;
  }

  pub rest_kept : KeepsOutside (r ∷ []) store undone
  rest_kept =
      keeps_part store r lies d (whole t)
      (subst (λ g. IsSameOutside r.x r.y r.width r.height g (whole t)) was
      (subst (λ x. IsSameOutside x r.y r.width r.height (whole s) (whole t)) place.left
      (subst (λ y. IsSameOutside s.x y r.width r.height (whole s) (whole t)) place.top
      (subst (λ n. IsSameOutside s.x s.y n r.height (whole s) (whole t)) place.columns
      (subst (λ h. IsSameOutside s.x s.y s.width h (whole s) (whole t)) place.rows kept.cells)))))
