-- Colour of three regions, row by row.
use Rattle.std.proofs.Common.{◌≡◌, ◌≢◌, ℕ, ◌+◌, ◌*◌, ◌/◌, ◌%◌, ◌<◌, ◌≤◌, inl, inr, List, [], ◌∷◌, length, ℤ, refl, sym, ap, ◌∙◌, arith, subst}
use Rattle.std.specs.Prelude.{get_or, map, slice_get}
use Rattle.std.specs.List.{All}
use Rattle.std.specs.Int.{Width}
use Rattle.std.proofs.lemmas.Bool.{cases_eq}
use Rattle.std.proofs.lemmas.List.{length-map}
use Rattle.jxlm_lanes.specs.Colour.{Triple, IsTripleOf, permute, finished_by, finished_triple, coded_triple, triple_at, FinishesRows}
use Rattle.jxlm_base.specs.Grid.{Grid, grid_by}
use Rattle.jxlm_base.specs.Outside.{KeepsOutside, SetsRow, row_of}
use Rattle.jxlm_base.specs.declared.subgrid.Region.{Region}
use Rattle.jxlm_base.specs.Regions.{region_cell, AllLie, HasCell, AreApart, LieApart, store_meanings, grid_of}
use Rattle.jxlm_lanes.proofs.ColourLaws.{triple_same, permuted_fits, finished_fits, colour_is_lossless}
use Rattle.jxlm_base.proofs.GridLaws.{grid_by_same}
use Rattle.jxlm_base.proofs.Outside.{keeps_all, keeps_both, keeps_wider, lies_still, region_cell_kept, all_one, all_three, number_of_row, number_same}
use Rattle.jxlm_base.proofs.Regions.{AreApart_sym, HasCell_at, at-grid_of}
use Rattle.jxlm_base.specs.SqueezedGrids.{AreGridSamples}
use Rattle.jxlm_inverse.specs.Inner.ColourRows.{AreThree, triple_of, rows_of, PutsRow, FinishesRow, FinishedUntil}
use Rattle.jxlm_inverse.specs.Recoloured.{HaveOneSize, UndoesColour}
use Rattle.jxlm_inverse.proofs.Triples.{triple_in}

-- ---- rows of regions that share no cell

row_inside : (r : Region) (y b i j : ℕ) → y < r.height → HasCell (row_of r y) b i j → HasCell r b i j
row_inside r y b i j below h =
    let top = h.top in
    let bottom = h.bottom in
    record { buffer = h.buffer; left = h.left; right = h.right; top = omega arith; bottom = omega arith }

row_apart : (r s : Region) (x y z : ℕ) → AreApart r s → x < r.width → y < r.height → z < s.height → HasCell (row_of s z) r.buffer (r.x + x) (r.y + y) → ⊥
row_apart r s x y z apart p q below h = apart r.buffer (r.x + x) (r.y + y) (HasCell_at r x y p q) (row_inside s z r.buffer (r.x + x) (r.y + y) below h)

other_row : (r : Region) (x y z : ℕ) → y ≢ z → HasCell (row_of r z) r.buffer (r.x + x) (r.y + y) → ⊥
other_row r x y z ne h = let top = h.top in let bottom = h.bottom in absurd (omega arith)

module _ (r s t : Region) where
  -- outside of three rows is outside of each of them
  not_first : (y n i j : ℕ) → All (λ q. HasCell q n i j → ⊥) (rows_of r s t y) → All (λ q. HasCell q n i j → ⊥) (row_of r y ∷ [])
  not_first y n i j o = all_one (λ q. HasCell q n i j → ⊥) (row_of r y) (o 0 r (omega arith))

  not_second : (y n i j : ℕ) → All (λ q. HasCell q n i j → ⊥) (rows_of r s t y) → All (λ q. HasCell q n i j → ⊥) (row_of s y ∷ [])
  not_second y n i j o = all_one (λ q. HasCell q n i j → ⊥) (row_of s y) (o 1 r (omega arith))

  not_third : (y n i j : ℕ) → All (λ q. HasCell q n i j → ⊥) (rows_of r s t y) → All (λ q. HasCell q n i j → ⊥) (row_of t y ∷ [])
  not_third y n i j o = all_one (λ q. HasCell q n i j → ⊥) (row_of t y) (o 2 r (omega arith))

  -- and outside of the regions is outside of their rows
  not_rows : {X : Type 0} (store : List (Grid X)) (y n i j : ℕ) → AreThree r s t store → y < r.height →
      All (λ q. HasCell q n i j → ⊥) (r ∷ s ∷ t ∷ []) → All (λ q. HasCell q n i j → ⊥) (rows_of r s t y)
  not_rows store y n i j three below o =
      let second = three.second_height in
      let third = three.third_height in
      all_three (λ q. HasCell q n i j → ⊥) (row_of r y) (row_of s y) (row_of t y)
      (λ h. o 0 r (omega arith) (row_inside r y n i j below h)) (λ h. o 1 r (omega arith) (row_inside s y n i j (omega arith) h)) (λ h. o 2 r (omega arith) (row_inside t y n i j (omega arith) h))

module _ {S : Type 0} (r s t : Region) where
  -- three regions stay three
  pub three_still : (regions : List Region) (old new : List (Grid S)) → KeepsOutside regions old new → AreThree r s t old → AreThree r s t new
  three_still regions old new k h = record {
    first = lies_still regions old new r k h.first;
    second = lies_still regions old new s k h.second;
    third = lies_still regions old new t k h.third;
    first_second = h.first_second;
    first_third = h.first_third;
    second_third = h.second_third;
    second_width = h.second_width;
    third_width = h.third_width;
    second_height = h.second_height;
    third_height = h.third_height;
  }

  -- ---- three rows written one after another

  module _ (f : S → ℤ) (y : ℕ) (a b c : List S) (s0 s1 s2 s3 : List (Grid S)) (three : AreThree r s t s0) (below : y < r.height)
      (first : SetsRow r y a s0 s1) (second : SetsRow s y b s1 s2) (third : SetsRow t y c s2 s3) where
    second_below : y < s.height
    second_below = let e = three.second_height in omega arith

    third_below : y < t.height
    third_below = let e = three.third_height in omega arith

    three_1 : AreThree r s t s1
    three_1 = three_still (row_of r y ∷ []) s0 s1 first.keeps three

    three_2 : AreThree r s t s2
    three_2 = three_still (row_of s y ∷ []) s1 s2 second.keeps three_1

    first_cell : (x : ℕ) → x < r.width → region_cell s3 r x y ≡ slice_get a x
    first_cell x h =
        region_cell_kept (row_of t y ∷ []) r s2 s3 x y third.keeps three_2.first h below (all_one (λ q. HasCell q r.buffer (r.x + x) (r.y + y) → ⊥) (row_of t y) (row_apart r t x y y three.first_third h below third_below))
        ∙ region_cell_kept (row_of s y ∷ []) r s1 s2 x y second.keeps three_1.first h below (all_one (λ q. HasCell q r.buffer (r.x + x) (r.y + y) → ⊥) (row_of s y) (row_apart r s x y y three.first_second h below second_below))
        ∙ first.cells x h

    second_cell : (x : ℕ) → x < s.width → region_cell s3 s x y ≡ slice_get b x
    second_cell x h =
        region_cell_kept (row_of t y ∷ []) s s2 s3 x y third.keeps three_2.second h second_below (all_one (λ q. HasCell q s.buffer (s.x + x) (s.y + y) → ⊥) (row_of t y) (row_apart s t x y y three.second_third h second_below third_below))
        ∙ second.cells x h

    pub puts_row : PutsRow r s t f y (triple_at (map f a) (map f b) (map f c)) s0 s3
    puts_row = record {
      each = λ x h.
          let sw = three.second_width in
          let tw = three.third_width in
          triple_same _ _ _ _ _ _ (number_of_row f s3 r x y a (first_cell x h)) (number_of_row f s3 s x y b (second_cell x (omega arith))) (number_of_row f s3 t x y c (third.cells x (omega arith)));
      keeps =
          keeps_both (rows_of r s t y) s0 s1 s3 (keeps_wider (row_of r y ∷ []) (rows_of r s t y) s0 s1 first.keeps (not_first r s t y))
          (keeps_both (rows_of r s t y) s1 s2 s3 (keeps_wider (row_of s y ∷ []) (rows_of r s t y) s1 s2 second.keeps (not_second r s t y))
          (keeps_wider (row_of t y ∷ []) (rows_of r s t y) s2 s3 third.keeps (not_third r s t y)));
    }

  -- ---- one row finished

  module _ (f : S → ℤ) (w : Width) (ty order : ℕ) where
    pub finishes_row : (y : ℕ) (old new : List (Grid S)) (a b c a' b' c' : List S) → AreThree r s t old →
        length a ≡ r.width → ((x : ℕ) → x < r.width → region_cell old r x y ≡ slice_get a x) → ((x : ℕ) → x < s.width → region_cell old s x y ≡ slice_get b x) → ((x : ℕ) → x < t.width → region_cell old t x y ≡ slice_get c x) →
        FinishesRows w ty (map f a) (map f b) (map f c) (map f a') (map f b') (map f c') →
        PutsRow r s t f y (λ x. permute order (triple_at (map f a') (map f b') (map f c') x)) old new →
        FinishesRow r s t f w ty order y old new
    finishes_row y old new a b c a' b' c' three long is_a is_b is_c rows puts =
        let sw = three.second_width in
        let tw = three.third_width in
        let many : length (map f a) ≡ length a = length-map a f in
        let was : (x : ℕ) → x < r.width → triple_of r s t (store_meanings f old) x y ≡ triple_at (map f a) (map f b) (map f c) x =
        λ x h. triple_same _ _ _ _ _ _ (number_of_row f old r x y a (is_a x h)) (number_of_row f old s x y b (is_b x (omega arith))) (number_of_row f old t x y c (is_c x (omega arith))) in
        record {
          fits = λ x h. subst (IsTripleOf w) (sym (was x h)) (rows.fits x (omega (arith, many, long)));
          puts = record {
            each = λ x h.
                puts.each x h ∙ ap (permute order) (rows.each x (omega (arith, many, long)) ∙ ap (finished_by w ty) (sym (was x h)));
            keeps = puts.keeps;
          };
        }

    -- ---- row after row

    pub until_start : (store : List (Grid S)) → FinishedUntil r s t f w ty order 0 store store
    until_start store = record {
      fits = λ x y p q. absurd (omega arith);
      each = λ x y p q. absurd (omega arith);
      rest = λ x y p q l. refl;
      keeps = keeps_all (r ∷ s ∷ t ∷ []) store;
    }

    -- a row that is not written
    other_triple : (n : ℕ) (now new : List (Grid S)) (x y : ℕ) → AreThree r s t now → KeepsOutside (rows_of r s t n) now new → x < r.width → y < r.height → n < r.height → y ≢ n →
        triple_of r s t (store_meanings f new) x y ≡ triple_of r s t (store_meanings f now) x y
    other_triple n now new x y three keeps p q below ne =
        let sw = three.second_width in
        let tw = three.third_width in
        let sh = three.second_height in
        let th = three.third_height in
        let first : region_cell new r x y ≡ region_cell now r x y =
        region_cell_kept (rows_of r s t n) r now new x y keeps three.first p q (all_three (λ k. HasCell k r.buffer (r.x + x) (r.y + y) → ⊥) (row_of r n) (row_of s n) (row_of t n)
        (other_row r x y n ne) (row_apart r s x y n three.first_second p q (omega arith)) (row_apart r t x y n three.first_third p q (omega arith))) in
        let second : region_cell new s x y ≡ region_cell now s x y =
        region_cell_kept (rows_of r s t n) s now new x y keeps three.second (omega arith) (omega arith) (all_three (λ k. HasCell k s.buffer (s.x + x) (s.y + y) → ⊥) (row_of r n) (row_of s n) (row_of t n)
        (row_apart s r x y n (AreApart_sym r s three.first_second) (omega arith) (omega arith) below) (other_row s x y n ne) (row_apart s t x y n three.second_third (omega arith) (omega arith) (omega arith))) in
        let third : region_cell new t x y ≡ region_cell now t x y =
        region_cell_kept (rows_of r s t n) t now new x y keeps three.third (omega arith) (omega arith) (all_three (λ k. HasCell k t.buffer (t.x + x) (t.y + y) → ⊥) (row_of r n) (row_of s n) (row_of t n)
        (row_apart t r x y n (AreApart_sym r t three.first_third) (omega arith) (omega arith) below) (row_apart t s x y n (AreApart_sym s t three.second_third) (omega arith) (omega arith) (omega arith)) (other_row t x y n ne)) in
        triple_same _ _ _ _ _ _ (number_same f now new r x y first) (number_same f now new s x y second) (number_same f now new t x y third)

    pub until_more : (n : ℕ) (old now new : List (Grid S)) → AreThree r s t old → n < r.height → FinishedUntil r s t f w ty order n old now → FinishesRow r s t f w ty order n now new →
        FinishedUntil r s t f w ty order (n + 1) old new
    until_more n old now new three below u row =
        let three' : AreThree r s t now = three_still (r ∷ s ∷ t ∷ []) old now u.keeps three in
        let keeps = row.puts.keeps in
        let was : (x : ℕ) → x < r.width → triple_of r s t (store_meanings f now) x n ≡ triple_of r s t (store_meanings f old) x n = λ x p. u.rest x n p (omega arith) below in
        record {
          fits = λ x y p q. elim (cases_eq y n) [
            | inl e ↦ subst (λ k. IsTripleOf w (triple_of r s t (store_meanings f old) x k)) (sym e) (subst (IsTripleOf w) (was x p) (row.fits x p))
            | inr ne ↦ u.fits x y p (omega arith)
          ];
          each = λ x y p q. elim (cases_eq y n) [
            | inl e ↦
                subst (λ k. triple_of r s t (store_meanings f new) x k ≡ permute order (finished_by w ty (triple_of r s t (store_meanings f old) x k))) (sym e)
                (row.puts.each x p ∙ ap (λ k. permute order (finished_by w ty k)) (was x p))
            | inr ne ↦ other_triple n now new x y three' keeps p (omega arith) below ne ∙ u.each x y p (omega arith)
          ];
          rest = λ x y p l q. other_triple n now new x y three' keeps p q below (λ e. absurd (omega arith)) ∙ u.rest x y p (omega arith) q;
          keeps = keeps_both (r ∷ s ∷ t ∷ []) old now new u.keeps (keeps_wider (rows_of r s t n) (r ∷ s ∷ t ∷ []) now new keeps (λ b i j o. not_rows r s t now n b i j three' below o));
        }

    -- ---- the whole regions

    module _ (old new : List (Grid S)) (three : AreThree r s t old) (small : ty ≤ 6) (done : FinishedUntil r s t f w ty order r.height old new) where
      is_finished : (x : Triple) → permute order (finished_by w ty x) ≡ finished_triple w (order * 7 + ty) x
      is_finished x =
          let d : (order * 7 + ty) / 7 ≡ order = omega arith in
          let m : (order * 7 + ty) % 7 ≡ ty = omega arith in
          ap (λ k. permute k (finished_by w ty x)) (sym d) ∙ ap (λ k. permute ((order * 7 + ty) / 7) (finished_by w k x)) (sym m)

      in_grids : (x y : ℕ) → x < r.width → y < r.height → triple_in (grid_of (store_meanings f new) r) (grid_of (store_meanings f new) s) (grid_of (store_meanings f new) t) x y ≡ triple_of r s t (store_meanings f new) x y
      in_grids x y p q =
          let sw = three.second_width in
          let tw = three.third_width in
          let sh = three.second_height in
          let th = three.third_height in
          triple_same _ _ _ _ _ _ (at-grid_of (store_meanings f new) r x y p q) (at-grid_of (store_meanings f new) s x y (omega arith) (omega arith)) (at-grid_of (store_meanings f new) t x y (omega arith) (omega arith))

      coded_back : (x y : ℕ) → x < r.width → y < r.height →
          coded_triple w (order * 7 + ty) (triple_in (grid_of (store_meanings f new) r) (grid_of (store_meanings f new) s) (grid_of (store_meanings f new) t) x y) ≡ triple_of r s t (store_meanings f old) x y
      coded_back x y p q =
          ap (coded_triple w (order * 7 + ty)) (in_grids x y p q ∙ done.each x y p q ∙ is_finished (triple_of r s t (store_meanings f old) x y))
          ∙ (colour_is_lossless w).back (order * 7 + ty) (triple_of r s t (store_meanings f old) x y) (done.fits x y p q)

      now_fits : (x y : ℕ) → x < r.width → y < r.height → IsTripleOf w (triple_in (grid_of (store_meanings f new) r) (grid_of (store_meanings f new) s) (grid_of (store_meanings f new) t) x y)
      now_fits x y p q =
          subst (IsTripleOf w) (sym (in_grids x y p q ∙ done.each x y p q))
          (permuted_fits w order (finished_by w ty (triple_of r s t (store_meanings f old) x y)) (finished_fits w ty (triple_of r s t (store_meanings f old) x y) (done.fits x y p q)))

      pub undoes_colour : UndoesColour w (order * 7 + ty) (r ∷ s ∷ t ∷ []) (store_meanings f old) (store_meanings f new)
      undoes_colour =
          let sw = three.second_width in
          let tw = three.third_width in
          let sh = three.second_height in
          let th = three.third_height in
          let code : ℕ → ℕ → Triple = λ x y. coded_triple w (order * 7 + ty) (triple_in (grid_of (store_meanings f new) r) (grid_of (store_meanings f new) s) (grid_of (store_meanings f new) t) x y) in
          let first : grid_by r.width r.height (λ x y. (code x y).first) ≡ grid_of (store_meanings f old) r =
          grid_by_same r.width r.height _ _ (λ x y p q. ap (λ k. k.first) (coded_back x y p q)) in
          let second : grid_by r.width r.height (λ x y. (code x y).second) ≡ grid_of (store_meanings f old) s =
          ap (λ n. grid_by n r.height (λ x y. (code x y).second)) (sym sw) ∙ ap (λ n. grid_by s.width n (λ x y. (code x y).second)) (sym sh)
          ∙ grid_by_same s.width s.height _ _ (λ x y p q. ap (λ k. k.second) (coded_back x y (omega arith) (omega arith))) in
          let third : grid_by r.width r.height (λ x y. (code x y).third) ≡ grid_of (store_meanings f old) t =
          ap (λ n. grid_by n r.height (λ x y. (code x y).third)) (sym tw) ∙ ap (λ n. grid_by t.width n (λ x y. (code x y).third)) (sym th)
          ∙ grid_by_same t.width t.height _ _ (λ x y p q. ap (λ k. k.third) (coded_back x y (omega arith) (omega arith))) in
          record {
            colour = three_lists _ _ _ _ _ _ first second third;
            samples = all_three (AreGridSamples w) (grid_of (store_meanings f new) r) (grid_of (store_meanings f new) s) (grid_of (store_meanings f new) t)
                (λ x y p q. (now_fits x y p q).first) (λ x y p q. (now_fits x y (omega arith) (omega arith)).second) (λ x y p q. (now_fits x y (omega arith) (omega arith)).third);
          }
        where
          three_lists : (a b c d e g : Grid ℤ) → a ≡ d → b ≡ e → c ≡ g → (a ∷ b ∷ c ∷ []) ≡ (d ∷ e ∷ g ∷ [])
          three_lists a b c d e g p q k = ap (λ z. z ∷ b ∷ c ∷ []) p ∙ ap (λ z. d ∷ z ∷ c ∷ []) q ∙ ap (λ z. d ∷ e ∷ z ∷ []) k

-- ---- three regions of a list

pub are_three : {S : Type 0} (r s t : Region) (store : List (Grid S)) → AllLie (r ∷ s ∷ t ∷ []) store → LieApart (r ∷ s ∷ t ∷ []) → HaveOneSize (r ∷ s ∷ t ∷ []) → AreThree r s t store
are_three r s t store lie apart sizes =
    let one = sizes 0 1 r (omega arith) (omega arith) in
    let two = sizes 0 2 r (omega arith) (omega arith) in
    record {
      first = lie 0 r (omega arith);
      second = lie 1 r (omega arith);
      third = lie 2 r (omega arith);
      first_second = apart 0 1 r (omega arith) (omega arith);
      first_third = apart 0 2 r (omega arith) (omega arith);
      second_third = apart 1 2 r (omega arith) (omega arith);
      second_width = sym one.0;
      third_width = sym two.0;
      second_height = sym one.1;
      third_height = sym two.1;
    }

three_of : (rs : List Region) (d : Region) → length rs ≡ 3 → rs ≡ get_or rs 0 d ∷ get_or rs 1 d ∷ get_or rs 2 d ∷ []
three_of [] d h = absurd (omega arith)
three_of (a ∷ []) d h = absurd (omega arith)
three_of (a ∷ b ∷ []) d h = absurd (omega arith)
three_of (a ∷ b ∷ c ∷ []) d h = refl
three_of (a ∷ b ∷ c ∷ e ∷ rs) d h = absurd (omega arith)

module _ {S : Type 0} (rs : List Region) (d : Region) (store : List (Grid S)) (long : length rs ≡ 3) where
  pub are_three_of : AllLie rs store → LieApart rs → HaveOneSize rs → AreThree (get_or rs 0 d) (get_or rs 1 d) (get_or rs 2 d) store
  are_three_of lie apart sizes =
      let is = three_of rs d long in
      are_three (get_or rs 0 d) (get_or rs 1 d) (get_or rs 2 d) store (subst (λ xs. AllLie xs store) is lie) (subst LieApart is apart) (subst HaveOneSize is sizes)

  module _ (f : S → ℤ) (w : Width) (ty order : ℕ) (new : List (Grid S)) (done : FinishedUntil (get_or rs 0 d) (get_or rs 1 d) (get_or rs 2 d) f w ty order (get_or rs 0 d).height store new) where
    pub keeps_of : KeepsOutside rs store new
    keeps_of = subst (λ xs. KeepsOutside xs store new) (sym (three_of rs d long)) done.keeps

    pub undoes_of : AllLie rs store → LieApart rs → HaveOneSize rs → ty ≤ 6 → UndoesColour w (order * 7 + ty) rs (store_meanings f store) (store_meanings f new)
    undoes_of lie apart sizes small =
        subst (λ xs. UndoesColour w (order * 7 + ty) xs (store_meanings f store) (store_meanings f new)) (sym (three_of rs d long))
        (undoes_colour (get_or rs 0 d) (get_or rs 1 d) (get_or rs 2 d) f w ty order store new (are_three_of lie apart sizes) small done)
