-- What a store keeps outside regions: one write after another, and the regions that are not touched.
use Rattle.std.proofs.Common.{◌≡◌, ℕ, zero, suc, ◌+◌, ◌<◌, ◌≤◌, List, [], ◌∷◌, length, ℤ, pos, refl, sym, ap, ◌∙◌, subst, arith}
use Rattle.std.specs.Prelude.{get_or, map, slice_get}
use Rattle.std.specs.List.{All}
use Rattle.std.specs.Option.{unwrap_or, option_map}
use Rattle.std.proofs.lemmas.Option.{unwrap_or-slice_get, slice_get-map}
use Rattle.jxlm_base.specs.Grid.{Grid, at, cell, place, meanings}
use Rattle.jxlm_base.specs.Outside.{KeepsOutside}
use Rattle.jxlm_base.specs.Regions.{Region, region, buffer_of, grid_of, region_cell, with_region_cell, Lies, AllLie, HasCell, AreApart, store_meanings}
use Rattle.jxlm_base.proofs.GridLaws.{grid_by_same}
use Rattle.jxlm_base.proofs.Regions.{buffer_of-meanings, width_after, height_after, full_after, length-with_region_cell, buffer_cell_other, HasCell_at}

at_buffer : ℕ → Region
at_buffer b = region b 0 0 0 0

-- ---- what holds of one region, or of three

module _ {X : Type 0} (P : X → Type 0) where
  pub all_one : (a : X) → P a → All P (a ∷ [])
  all_one a p zero d h = p
  all_one a p (suc k) d h = absurd (omega arith)

  pub all_three : (a b c : X) → P a → P b → P c → All P (a ∷ b ∷ c ∷ [])
  all_three a b c p q r zero d h = p
  all_three a b c p q r (suc zero) d h = q
  all_three a b c p q r (suc (suc zero)) d h = r
  all_three a b c p q r (suc (suc (suc k))) d h = absurd (omega arith)

-- ---- one write after another

module _ {S : Type 0} where
  pub keeps_all : (regions : List Region) (store : List (Grid S)) → KeepsOutside regions store store
  keeps_all regions store = record { count = refl; width = λ b. refl; height = λ b. refl; full = λ b h. h; cells = λ b x y p q o. refl }

  pub keeps_both : (regions : List Region) (a b c : List (Grid S)) → KeepsOutside regions a b → KeepsOutside regions b c → KeepsOutside regions a c
  keeps_both regions a b c h k = record {
    count = k.count ∙ h.count;
    width = λ n. k.width n ∙ h.width n;
    height = λ n. k.height n ∙ h.height n;
    full = λ n f. k.full n (h.full n f);
    cells = λ n x y p q o.
        k.cells n x y (subst (λ u. x < u) (sym (h.width n)) p) (subst (λ u. y < u) (sym (h.height n)) q) o ∙ h.cells n x y p q o;
  }

  -- what is kept outside some regions is kept outside others that cover them
  pub keeps_wider : (some more : List Region) (a b : List (Grid S)) → KeepsOutside some a b →
      ((n x y : ℕ) → All (λ r. HasCell r n x y → ⊥) more → All (λ r. HasCell r n x y → ⊥) some) → KeepsOutside more a b
  keeps_wider some more a b k covers = record {
    count = k.count;
    width = k.width;
    height = k.height;
    full = k.full;
    cells = λ n x y p q o. k.cells n x y p q (covers n x y o);
  }

  -- what is kept outside one of some regions is kept outside them all
  pub keeps_one_of : (regions : List Region) (i : ℕ) (d : Region) (old new : List (Grid S)) → i < length regions → KeepsOutside (get_or regions i d ∷ []) old new → KeepsOutside regions old new
  keeps_one_of regions i d old new l k = keeps_wider (get_or regions i d ∷ []) regions old new k (λ n x y o. all_one (λ r. HasCell r n x y → ⊥) (get_or regions i d) (o i d l))

  -- a write to one cell of a region
  pub keeps_written : (store : List (Grid S)) (r : Region) (x y : ℕ) (v : S) → Lies r store → x < r.width → y < r.height → KeepsOutside (r ∷ []) store (with_region_cell store r x y v)
  unfolding at_buffer
  keeps_written store r x y v lies px qy = record {
    count = length-with_region_cell store r x y v;
    width = λ b. width_after store r (at_buffer b) x y v lies.there;
    height = λ b. height_after store r (at_buffer b) x y v lies.there;
    full = λ b f. full_after store r (at_buffer b) x y v lies.there f;
    cells = λ b j k p q o.
        buffer_cell_other store r (at_buffer b) x y j k v lies px p
        (λ h. o 0 r (omega arith) (subst (λ n. HasCell r n j k) (sym h.0) (subst (λ n. HasCell r r.buffer n k) h.1 (subst (λ n. HasCell r r.buffer (r.x + x) n) h.2 (HasCell_at r x y px qy)))));
  }

  -- a write to one cell of one of some regions
  pub keeps_written_in : (regions : List Region) (store : List (Grid S)) (i : ℕ) (d : Region) (x y : ℕ) (v : S) → AllLie regions store → i < length regions → x < (get_or regions i d).width → y < (get_or regions i d).height →
      KeepsOutside regions store (with_region_cell store (get_or regions i d) x y v)
  keeps_written_in regions store i d x y v lie li px qy =
      keeps_one_of regions i d store (with_region_cell store (get_or regions i d) x y v) li (keeps_written store (get_or regions i d) x y v (lie i d li) px qy)

  -- a region lies where it lay
  pub lies_still : (regions : List Region) (old new : List (Grid S)) (r : Region) → KeepsOutside regions old new → Lies r old → Lies r new
  lies_still regions old new r k was =
      let there = was.there in
      let count = k.count in
      record {
        there = omega (arith, there, count);
        full = k.full r.buffer was.full;
        columns = subst (λ n. r.x + r.width ≤ n) (sym (k.width r.buffer)) was.columns;
        rows = subst (λ n. r.y + r.height ≤ n) (sym (k.height r.buffer)) was.rows;
      }

  pub all_lie_still : (regions rs : List Region) (old new : List (Grid S)) → KeepsOutside regions old new → AllLie rs old → AllLie rs new
  all_lie_still regions rs old new k lie = λ i d h. lies_still regions old new (get_or rs i d) k (lie i d h)

  -- a cell of a region that no other region has
  pub region_cell_kept : (regions : List Region) (r : Region) (old new : List (Grid S)) (x y : ℕ) → KeepsOutside regions old new → Lies r old → x < r.width → y < r.height →
      All (λ s. HasCell s r.buffer (r.x + x) (r.y + y) → ⊥) regions → region_cell new r x y ≡ region_cell old r x y
  region_cell_kept regions r old new x y k lies p q out =
      let columns = lies.columns in
      let rows = lies.rows in
      k.cells r.buffer (r.x + x) (r.y + y) (omega arith) (omega arith) out

-- ---- the numbers of cells

module _ {S : Type 0} (f : S → ℤ) where
  number_is : (g : Grid S) (x y : ℕ) → at (meanings f g) x y ≡ unwrap_or (option_map f (cell g x y)) (pos 0)
  number_is g x y = sym (unwrap_or-slice_get (map f g.cells) (place g x y) (pos 0)) ∙ ap (λ o. unwrap_or o (pos 0)) (slice_get-map f g.cells (place g x y))

  -- the number in a region, where its cell is an element of a row
  pub number_of_row : (store : List (Grid S)) (r : Region) (x y : ℕ) (vs : List S) → region_cell store r x y ≡ slice_get vs x →
      at (buffer_of (store_meanings f store) r) (r.x + x) (r.y + y) ≡ get_or (map f vs) x (pos 0)
  number_of_row store r x y vs is =
      ap (λ g. at g (r.x + x) (r.y + y)) (buffer_of-meanings f store r) ∙ number_is (buffer_of store r) (r.x + x) (r.y + y)
      ∙ ap (λ o. unwrap_or (option_map f o) (pos 0)) is
      ∙ sym (ap (λ o. unwrap_or o (pos 0)) (slice_get-map f vs x)) ∙ unwrap_or-slice_get (map f vs) x (pos 0)

  -- and in two stores, where its cell is the same
  pub number_same : (old new : List (Grid S)) (r : Region) (x y : ℕ) → region_cell new r x y ≡ region_cell old r x y →
      at (buffer_of (store_meanings f new) r) (r.x + x) (r.y + y) ≡ at (buffer_of (store_meanings f old) r) (r.x + x) (r.y + y)
  number_same old new r x y is =
      ap (λ g. at g (r.x + x) (r.y + y)) (buffer_of-meanings f new r) ∙ number_is (buffer_of new r) (r.x + x) (r.y + y)
      ∙ ap (λ o. unwrap_or (option_map f o) (pos 0)) is ∙ sym (number_is (buffer_of old r) (r.x + x) (r.y + y))
      ∙ sym (ap (λ g. at g (r.x + x) (r.y + y)) (buffer_of-meanings f old r))

  -- the grid of a region that shares no cell with the written one is as before
  pub grid_kept : (old new : List (Grid S)) (r s : Region) → KeepsOutside (r ∷ []) old new → Lies s old → AreApart r s →
      grid_of (store_meanings f new) s ≡ grid_of (store_meanings f old) s
  grid_kept old new r s k lies apart =
      grid_by_same s.width s.height (λ i j. at (buffer_of (store_meanings f new) s) (s.x + i) (s.y + j)) (λ i j. at (buffer_of (store_meanings f old) s) (s.x + i) (s.y + j))
      (λ i j a b.
      number_same old new s i j
      (region_cell_kept (r ∷ []) s old new i j k lies a b (all_one (λ q. HasCell q s.buffer (s.x + i) (s.y + j) → ⊥) r (λ h. apart s.buffer (s.x + i) (s.y + j) h (HasCell_at s i j a b)))))
