-- Colours of three regions coded in place, row by row.
use Rattle.std.proofs.Common.{◌≡◌, ◌≢◌, ℕ, ◌+◌, ◌<◌, List, [], ◌∷◌, length, ℤ, refl, sym, ap, ◌∙◌, subst, arith}
use Rattle.std.specs.Prelude.{get_or, slice_get}
use Rattle.std.specs.Int.{Width}
use Rattle.jxlm_lanes.specs.Colour.{Triple, IsTripleOf, coded_triple}
use Rattle.jxlm_base.specs.Grid.{Grid, grid_by}
use Rattle.jxlm_base.specs.Outside.{KeepsOutside, SetsRow, row_of}
use Rattle.jxlm_base.specs.Regions.{region_cell, AllLie, HasCell, AreApart, LieApart, store_meanings, grid_of}
use Rattle.jxlm_base.specs.declared.subgrid.Region.{Region}
use Rattle.jxlm_base.specs.SqueezedGrids.{AreGridSamples}
use Rattle.jxlm_lanes.proofs.ColourLaws.{triple_same}
use Rattle.jxlm_base.proofs.GridLaws.{grid_by_same}
use Rattle.jxlm_base.proofs.Outside.{keeps_all, keeps_both, keeps_wider, lies_still, region_cell_kept, all_one, all_three, number_of_row, number_same}
use Rattle.jxlm_base.proofs.Regions.{AreApart_sym, HasCell_at, at-grid_of}
use Rattle.jxlm_encode_transform.specs.Inner.ColourRows.{AreCoded, AreSampleRows, triple_in as triple_of_rows}
use Rattle.jxlm_encode_transform.proofs.Numbers.{below_next}
use Rattle.jxlm_inverse.specs.Recoloured.{HaveOneSize, UndoesColour}
use Rattle.jxlm_inverse.proofs.Triples.{triple_in}
use Rattle.jxlm_encode_transform.specs.Inner.Coded.{AreThree, CodedUntil, CodesRow, rows_of, triple_of}
use Rattle.jxlm_encode_transform.proofs.Squeezed.{other_row, row_inside}

row_apart : (r s : Region) (x y z : ℕ) → AreApart r s → x < r.width → y < r.height → z < s.height → HasCell (row_of s z) r.buffer (r.x + x) (r.y + y) → ⊥
row_apart r s x y z apart p q below h = apart r.buffer (r.x + x) (r.y + y) (HasCell_at r x y p q) (row_inside s z r.buffer (r.x + x) (r.y + y) below h)

-- three regions stay three
pub three_still : {S : Type 0} (r s t : Region) (regions : List Region) (old new : List (Grid S)) → KeepsOutside regions old new → AreThree r s t old → AreThree r s t new
three_still r s t regions old new k h = record {
  first = lies_still regions old new r k h.first;
  second = lies_still regions old new s k h.second;
  third = lies_still regions old new t k h.third;
  first_second = h.first_second;
  first_third = h.first_third;
  second_third = h.second_third;
  second_width = h.second_width;
  third_width = h.third_width;
  second_height = h.second_height;
  third_height = h.third_height;
}

-- ---- three rows written one after another

module _ {S : Type 0} (r s t : Region) (y : ℕ) (a b c : List S) (s0 s1 s2 s3 : List (Grid S)) (three : AreThree r s t s0) (below : y < r.height)
    (first : SetsRow r y a s0 s1) (second : SetsRow s y b s1 s2) (third : SetsRow t y c s2 s3) where
  second_below : y < s.height
  second_below = let e = three.second_height in omega (arith, e, below)

  third_below : y < t.height
  third_below = let e = three.third_height in omega (arith, e, below)

  three_1 : AreThree r s t s1
  three_1 = three_still r s t (row_of r y ∷ []) s0 s1 first.keeps three

  three_2 : AreThree r s t s2
  three_2 = three_still r s t (row_of s y ∷ []) s1 s2 second.keeps three_1

  first_cell : (x : ℕ) → x < r.width → region_cell s3 r x y ≡ slice_get a x
  first_cell x h =
      region_cell_kept (row_of t y ∷ []) r s2 s3 x y third.keeps three_2.first h below (all_one (λ q. HasCell q r.buffer (r.x + x) (r.y + y) → ⊥) (row_of t y) (row_apart r t x y y three.first_third h below third_below))
      ∙ region_cell_kept (row_of s y ∷ []) r s1 s2 x y second.keeps three_1.first h below (all_one (λ q. HasCell q r.buffer (r.x + x) (r.y + y) → ⊥) (row_of s y) (row_apart r s x y y three.first_second h below second_below))
      ∙ first.cells x h

  second_cell : (x : ℕ) → x < s.width → region_cell s3 s x y ≡ slice_get b x
  second_cell x h =
      region_cell_kept (row_of t y ∷ []) s s2 s3 x y third.keeps three_2.second h second_below (all_one (λ q. HasCell q s.buffer (s.x + x) (s.y + y) → ⊥) (row_of t y) (row_apart s t x y y three.second_third h second_below third_below))
      ∙ second.cells x h

  rows_kept : KeepsOutside (rows_of r s t y) s0 s3
  rows_kept =
      keeps_both (rows_of r s t y) s0 s1 s3 (keeps_wider (row_of r y ∷ []) (rows_of r s t y) s0 s1 first.keeps (λ n i j o. all_one (λ q. HasCell q n i j → ⊥) (row_of r y) (o 0 r (omega arith))))
      (keeps_both (rows_of r s t y) s1 s2 s3 (keeps_wider (row_of s y ∷ []) (rows_of r s t y) s1 s2 second.keeps (λ n i j o. all_one (λ q. HasCell q n i j → ⊥) (row_of s y) (o 1 r (omega arith))))
      (keeps_wider (row_of t y ∷ []) (rows_of r s t y) s2 s3 third.keeps (λ n i j o. all_one (λ q. HasCell q n i j → ⊥) (row_of t y) (o 2 r (omega arith)))))

module _ {S : Type 0} (r s t : Region) (f : S → ℤ) where
  abbrev cells : List (Grid S) → ℕ → ℕ → Triple
  cells store x y = triple_of r s t f store x y

  -- a row that is not written
  other_triple : (n : ℕ) (now new : List (Grid S)) (x y : ℕ) → AreThree r s t now → KeepsOutside (rows_of r s t n) now new → x < r.width → y < r.height → n < r.height → y ≢ n → cells new x y ≡ cells now x y
  other_triple n now new x y three keeps p q below ne =
      let sw = three.second_width in
      let tw = three.third_width in
      let sh = three.second_height in
      let th = three.third_height in
      let sp : x < s.width = omega (arith, sw, p) in
      let tp : x < t.width = omega (arith, tw, p) in
      let sq : y < s.height = omega (arith, sh, q) in
      let tq : y < t.height = omega (arith, th, q) in
      let sn : n < s.height = omega (arith, sh, below) in
      let tn : n < t.height = omega (arith, th, below) in
      let first : region_cell new r x y ≡ region_cell now r x y =
      region_cell_kept (rows_of r s t n) r now new x y keeps three.first p q (all_three (λ k. HasCell k r.buffer (r.x + x) (r.y + y) → ⊥) (row_of r n) (row_of s n) (row_of t n)
      (other_row r x y n ne) (row_apart r s x y n three.first_second p q sn) (row_apart r t x y n three.first_third p q tn)) in
      let second : region_cell new s x y ≡ region_cell now s x y =
      region_cell_kept (rows_of r s t n) s now new x y keeps three.second sp sq (all_three (λ k. HasCell k s.buffer (s.x + x) (s.y + y) → ⊥) (row_of r n) (row_of s n) (row_of t n)
      (row_apart s r x y n (AreApart_sym r s three.first_second) sp sq below) (other_row s x y n ne) (row_apart s t x y n three.second_third sp sq tn)) in
      let third : region_cell new t x y ≡ region_cell now t x y =
      region_cell_kept (rows_of r s t n) t now new x y keeps three.third tp tq (all_three (λ k. HasCell k t.buffer (t.x + x) (t.y + y) → ⊥) (row_of r n) (row_of s n) (row_of t n)
      (row_apart t r x y n (AreApart_sym r t three.first_third) tp tq below) (row_apart t s x y n (AreApart_sym s t three.second_third) tp tq sn) (other_row t x y n ne)) in
      triple_same _ _ _ _ _ _ (number_same f now new r x y first) (number_same f now new s x y second) (number_same f now new t x y third)

  -- what is kept outside three rows is kept outside the regions
  keeps_rows : (n : ℕ) (now new : List (Grid S)) → AreThree r s t now → n < r.height → KeepsOutside (rows_of r s t n) now new → KeepsOutside (r ∷ s ∷ t ∷ []) now new
  keeps_rows n now new three below keeps =
      let sh = three.second_height in
      let th = three.third_height in
      keeps_wider (rows_of r s t n) (r ∷ s ∷ t ∷ []) now new keeps
      (λ b i j o.
      all_three (λ q. HasCell q b i j → ⊥) (row_of r n) (row_of s n) (row_of t n)
      (λ h. o 0 r (omega arith) (row_inside r n b i j below h)) (λ h. o 1 r (omega arith) (row_inside s n b i j (omega (arith, sh, below)) h))
      (λ h. o 2 r (omega arith) (row_inside t n b i j (omega (arith, th, below)) h)))

  module _ (w : Width) (kind : ℕ) where
    -- three rows read, coded and written
    pub codes_row : (y : ℕ) (s0 s1 s2 s3 : List (Grid S)) (xs ys zs a b c : List S) → AreThree r s t s0 → y < r.height → length xs ≡ r.width →
        ((x : ℕ) → x < r.width → region_cell s0 r x y ≡ slice_get xs x) → ((x : ℕ) → x < s.width → region_cell s0 s x y ≡ slice_get ys x) → ((x : ℕ) → x < t.width → region_cell s0 t x y ≡ slice_get zs x) →
        AreCoded f (coded_triple w kind) xs ys zs a b c (length xs) → AreSampleRows f w xs ys zs (length xs) → SetsRow r y a s0 s1 → SetsRow s y b s1 s2 → SetsRow t y c s2 s3 →
        CodesRow r s t f w kind y s0 s3
    codes_row y s0 s1 s2 s3 xs ys zs a b c three below long is_x is_y is_z coded samples first second third =
        let sw = three.second_width in
        let tw = three.third_width in
        let was : (x : ℕ) → x < r.width → cells s0 x y ≡ triple_of_rows f xs ys zs x =
        λ x h. triple_same _ _ _ _ _ _ (number_of_row f s0 r x y xs (is_x x h)) (number_of_row f s0 s x y ys (is_y x (omega (arith, sw, h)))) (number_of_row f s0 t x y zs (is_z x (omega (arith, tw, h)))) in
        record {
          samples = λ x h.
              let inside : x < length xs = omega (arith, long, h) in
              subst (IsTripleOf w) (sym (was x h)) (record { first = samples.first x inside; second = samples.second x inside; third = samples.third x inside });
          each = λ x h.
              triple_same _ _ _ _ _ _ (number_of_row f s3 r x y a (first_cell r s t y a b c s0 s1 s2 s3 three below first second third x h))
              (number_of_row f s3 s x y b (second_cell r s t y a b c s0 s1 s2 s3 three below first second third x (omega (arith, sw, h)))) (number_of_row f s3 t x y c (third.cells x (omega (arith, tw, h))))
              ∙ coded x (omega (arith, long, h)) ∙ ap (coded_triple w kind) (sym (was x h));
          keeps = rows_kept r s t y a b c s0 s1 s2 s3 three below first second third;
        }

    pub until_start : (store : List (Grid S)) → CodedUntil r s t f w kind 0 store store
    until_start store = record {
      samples = λ x y p q. absurd (omega (arith, q));
      each = λ x y p q. absurd (omega (arith, q));
      rest = λ x y p l q. refl;
      keeps = keeps_all (r ∷ s ∷ t ∷ []) store;
    }

    pub until_more : (n : ℕ) (old now new : List (Grid S)) → AreThree r s t now → n < r.height → CodedUntil r s t f w kind n old now → CodesRow r s t f w kind n now new → CodedUntil r s t f w kind (n + 1) old new
    until_more n old now new three below u row =
        let keeps = row.keeps in
        let was : (x : ℕ) → x < r.width → cells now x n ≡ cells old x n = λ x p. u.rest x n p (omega arith) below in
        record {
          samples = λ x y p q. below_next (λ z. IsTripleOf w (cells old x z)) n (λ z l. u.samples x z p l) (subst (IsTripleOf w) (was x p) (row.samples x p)) y q;
          each = λ x y p q.
              below_next (λ z. cells new x z ≡ coded_triple w kind (cells old x z)) n
              (λ z l. other_triple n now new x z three keeps p (omega (arith, l, below)) below (omega (arith, l)) ∙ u.each x z p l)
              (row.each x p ∙ ap (coded_triple w kind) (was x p)) y q;
          rest = λ x y p l q. other_triple n now new x y three keeps p q below (omega (arith, l)) ∙ u.rest x y p (omega (arith, l)) q;
          keeps = keeps_both (r ∷ s ∷ t ∷ []) old now new u.keeps (keeps_rows n now new three below keeps);
        }

    -- ---- the whole regions

    module _ (old new : List (Grid S)) (three : AreThree r s t old) (done : CodedUntil r s t f w kind r.height old new) where
      abbrev of_grids : ℕ → ℕ → Triple
      of_grids x y = triple_in (grid_of (store_meanings f old) r) (grid_of (store_meanings f old) s) (grid_of (store_meanings f old) t) x y

      in_grids : (x y : ℕ) → x < r.width → y < r.height → of_grids x y ≡ cells old x y
      in_grids x y p q =
          let sw = three.second_width in
          let tw = three.third_width in
          let sh = three.second_height in
          let th = three.third_height in
          triple_same _ _ _ _ _ _ (at-grid_of (store_meanings f old) r x y p q) (at-grid_of (store_meanings f old) s x y (omega (arith, sw, p)) (omega (arith, sh, q)))
          (at-grid_of (store_meanings f old) t x y (omega (arith, tw, p)) (omega (arith, th, q)))

      coded_is : (x y : ℕ) → x < r.width → y < r.height → coded_triple w kind (of_grids x y) ≡ cells new x y
      coded_is x y p q = ap (coded_triple w kind) (in_grids x y p q) ∙ sym (done.each x y p q)

      fits : (x y : ℕ) → x < r.width → y < r.height → IsTripleOf w (of_grids x y)
      fits x y p q = subst (IsTripleOf w) (sym (in_grids x y p q)) (done.samples x y p q)

      pub coded_undone : UndoesColour w kind (r ∷ s ∷ t ∷ []) (store_meanings f new) (store_meanings f old)
      coded_undone =
          let sw = three.second_width in
          let tw = three.third_width in
          let sh = three.second_height in
          let th = three.third_height in
          let code : ℕ → ℕ → Triple = λ x y. coded_triple w kind (of_grids x y) in
          let first : grid_by r.width r.height (λ x y. (code x y).first) ≡ grid_of (store_meanings f new) r = grid_by_same r.width r.height _ _ (λ x y p q. ap (λ k. k.first) (coded_is x y p q)) in
          let second : grid_by r.width r.height (λ x y. (code x y).second) ≡ grid_of (store_meanings f new) s =
          ap (λ n. grid_by n r.height (λ x y. (code x y).second)) (sym sw) ∙ ap (λ n. grid_by s.width n (λ x y. (code x y).second)) (sym sh)
          ∙ grid_by_same s.width s.height _ _ (λ x y p q. ap (λ k. k.second) (coded_is x y (omega (arith, sw, p)) (omega (arith, sh, q)))) in
          let third : grid_by r.width r.height (λ x y. (code x y).third) ≡ grid_of (store_meanings f new) t =
          ap (λ n. grid_by n r.height (λ x y. (code x y).third)) (sym tw) ∙ ap (λ n. grid_by t.width n (λ x y. (code x y).third)) (sym th)
          ∙ grid_by_same t.width t.height _ _ (λ x y p q. ap (λ k. k.third) (coded_is x y (omega (arith, tw, p)) (omega (arith, th, q)))) in
          record {
            colour = three_lists _ _ _ _ _ _ first second third;
            samples = all_three (AreGridSamples w) (grid_of (store_meanings f old) r) (grid_of (store_meanings f old) s) (grid_of (store_meanings f old) t)
                (λ x y p q. (fits x y p q).first) (λ x y p q. (fits x y (omega (arith, sw, p)) (omega (arith, sh, q))).second) (λ x y p q. (fits x y (omega (arith, tw, p)) (omega (arith, th, q))).third);
          }
        where
          three_lists : (a b c d e g : Grid ℤ) → a ≡ d → b ≡ e → c ≡ g → (a ∷ b ∷ c ∷ []) ≡ (d ∷ e ∷ g ∷ [])
          three_lists a b c d e g p q k = ap (λ z. z ∷ b ∷ c ∷ []) p ∙ ap (λ z. d ∷ z ∷ c ∷ []) q ∙ ap (λ z. d ∷ e ∷ z ∷ []) k

-- ---- three regions of a list

are_three : {S : Type 0} (r s t : Region) (store : List (Grid S)) → AllLie (r ∷ s ∷ t ∷ []) store → LieApart (r ∷ s ∷ t ∷ []) → HaveOneSize (r ∷ s ∷ t ∷ []) → AreThree r s t store
are_three r s t store lie apart sizes =
    let one = sizes 0 1 r (omega arith) (omega arith) in
    let two = sizes 0 2 r (omega arith) (omega arith) in
    record {
      first = lie 0 r (omega arith);
      second = lie 1 r (omega arith);
      third = lie 2 r (omega arith);
      first_second = apart 0 1 r (omega arith) (omega arith);
      first_third = apart 0 2 r (omega arith) (omega arith);
      second_third = apart 1 2 r (omega arith) (omega arith);
      second_width = sym one.0;
      third_width = sym two.0;
      second_height = sym one.1;
      third_height = sym two.1;
    }

three_of : (rs : List Region) (d : Region) → length rs ≡ 3 → rs ≡ get_or rs 0 d ∷ get_or rs 1 d ∷ get_or rs 2 d ∷ []
three_of [] d h = absurd (omega arith)
three_of (a ∷ []) d h = absurd (omega arith)
three_of (a ∷ b ∷ []) d h = absurd (omega arith)
three_of (a ∷ b ∷ c ∷ []) d h = refl
three_of (a ∷ b ∷ c ∷ e ∷ rs) d h = absurd (omega arith)

pub are_three_of : {S : Type 0} (rs : List Region) (d : Region) (store : List (Grid S)) → length rs ≡ 3 → AllLie rs store → LieApart rs → HaveOneSize rs → AreThree (get_or rs 0 d) (get_or rs 1 d) (get_or rs 2 d) store
are_three_of rs d store long lie apart sizes =
    let is = three_of rs d long in
    are_three (get_or rs 0 d) (get_or rs 1 d) (get_or rs 2 d) store (subst (λ xs. AllLie xs store) is lie) (subst LieApart is apart) (subst HaveOneSize is sizes)

module _ {S : Type 0} (rs : List Region) (d : Region) (f : S → ℤ) (w : Width) (kind : ℕ) (old new : List (Grid S)) (long : length rs ≡ 3)
    (done : CodedUntil (get_or rs 0 d) (get_or rs 1 d) (get_or rs 2 d) f w kind (get_or rs 0 d).height old new) where
  pub keeps_of : KeepsOutside rs old new
  keeps_of = subst (λ xs. KeepsOutside xs old new) (sym (three_of rs d long)) done.keeps

  pub undoes_of : AllLie rs old → LieApart rs → HaveOneSize rs → UndoesColour w kind rs (store_meanings f new) (store_meanings f old)
  undoes_of lie apart sizes =
      subst (λ xs. UndoesColour w kind xs (store_meanings f new) (store_meanings f old)) (sym (three_of rs d long))
      (coded_undone (get_or rs 0 d) (get_or rs 1 d) (get_or rs 2 d) f w kind old new (are_three_of rs d old long lie apart sizes) done)
