-- What one sample more does to two rolling rows, and the neighbours that they give.
use Rattle.std.proofs.Common.{◌≡◌, ◌⊎◌, ℕ, zero, suc, ◌+◌, ◌*◌, ◌<◌, ◌≤◌, inl, inr, ℤ, pos, ◌+ℤ◌, ◌-ℤ◌, List, [], ◌∷◌, ◌++◌, length, set, get_or, sym, refl, ◌∙◌, arith, rules, add-one, length-append}
use Rattle.std.specs.Int.{w32, int_wrap}
use Rattle.std.proofs.lemmas.List.{get_or-set_same, get_or-set_other, get_or_append_left, get_or_push}
use Rattle.std.proofs.lemmas.Bool.{cases_lt, lt-ltb, le-ltb}
use Rattle.std.proofs.lemmas.Nat.{mod-mul-add, div-mul-add}
use Rattle.jxlm_weighted.specs.Neighbours.{at, west, north, north_west, north_east, north_east_east, north_north, west_west, column, row}
use Rattle.jxlm_predictor.specs.Properties.{gradient_at}
use Rattle.jxlm_predictor.specs.Rolling.{Rolls}

-- a sample before the last one is where it was
pub at-push : (samples : List ℤ) (s : ℤ) (width x y : ℕ) → y * width + x < length samples → at (samples ++ s ∷ []) width x y ≡ at samples width x y
at-push samples s width x y h = get_or_append_left samples (s ∷ []) (pos 0) (y * width + x) h

-- the last one is at the cell after the others
pub at-push_last : (samples : List ℤ) (s : ℤ) (width x y : ℕ) → length samples ≡ y * width + x → at (samples ++ s ∷ []) width x y ≡ s
at-push_last samples s width x y h = get_or_push samples s (pos 0) (y * width + x) h

pub length-push : (samples : List ℤ) (s : ℤ) → length (samples ++ s ∷ []) ≡ length samples + 1
length-push samples s = length-append samples (s ∷ [])

-- the neighbours of a cell among the samples, or right after them, are as before
module _ (samples : List ℤ) (s : ℤ) (width : ℕ) where
  west-push : (x y : ℕ) → y * width + x ≤ length samples → 0 < width → west (samples ++ s ∷ []) width x y ≡ west samples width x y
  west-push zero zero h w = refl
  west-push zero (suc y) h w = at-push samples s width 0 y (omega arith)
  west-push (suc x) y h w = at-push samples s width x y (omega arith)

  north-push : (x y : ℕ) → y * width + x ≤ length samples → 0 < width → north (samples ++ s ∷ []) width x y ≡ north samples width x y
  north-push x zero h w = west-push x zero h w
  north-push x (suc y) h w = at-push samples s width x y (omega arith)

  north_west-push : (x y : ℕ) → y * width + x ≤ length samples → 0 < width → north_west (samples ++ s ∷ []) width x y ≡ north_west samples width x y
  north_west-push zero y h w = west-push zero y h w
  north_west-push (suc x) zero h w = west-push (suc x) zero h w
  north_west-push (suc x) (suc y) h w = at-push samples s width x y (omega arith)

  gradient_at-push : (x y : ℕ) → y * width + x ≤ length samples → 0 < width → gradient_at (samples ++ s ∷ []) width x y ≡ gradient_at samples width x y
  gradient_at-push x y h w = rw (west-push x y h w, north_west-push x y h w, north-push x y h w) refl

module _ (width x y : ℕ) (w n nw g s : ℤ) (previous current samples : List ℤ) where
  -- the current row with the sample written
  pub current_more : Rolls width x y w n nw g previous current samples → width ≤ length current →
      (i : ℕ) → i < x + 1 → get_or (set current x s) i (pos 0) ≡ at (samples ++ s ∷ []) width i y
  current_more r len i h =
      let place = r.place in
      let in_row = r.in_row in
      elim (cases_lt i x) [
        | inl lt ↦ get_or-set_other current x i s (pos 0) (λ e. let e' : i ≡ x = e in omega arith) ∙ r.current_is i lt ∙ sym (at-push samples s width i y (omega arith))
        | inr ge ↦
            let e : i ≡ x = omega arith in
            rw e (get_or-set_same current x s (pos 0) (omega arith) ∙ sym (at-push_last samples s width x y place))
      ]

  -- property 9 of the cell
  gradient-kept : Rolls width x y w n nw g previous current samples → int_wrap w32 (w -ℤ nw +ℤ n) ≡ gradient_at (samples ++ s ∷ []) width x y
  gradient-kept r =
      let place = r.place in
      let in_row = r.in_row in
      rw (r.west_is, r.north_west_is, r.north_is) (sym (gradient_at-push samples s width x y (omega arith) (omega arith)))

  -- what is still left of the row two above
  two_above-kept : Rolls width x y w n nw g previous current samples → (i above : ℕ) → x + 1 ≤ i → i < width → y ≡ suc (suc above) → get_or (set current x s) i (pos 0) ≡ at (samples ++ s ∷ []) width i above
  two_above-kept r i above le lt e =
      let place = r.place in
      get_or-set_other current x i s (pos 0) (λ d. let d' : i ≡ x = d in omega arith) ∙ r.two_above_is i above (omega arith) lt e
      ∙ sym (at-push samples s width i above (let p = rw e at place in omega arith))

-- in the first row
pub Rolls_first : (width x y : ℕ) (w n nw g s g' : ℤ) (previous current samples : List ℤ) → Rolls width x y w n nw g previous current samples → width ≤ length current → x + 1 < width → y ≡ 0 →
    g' ≡ int_wrap w32 (w -ℤ nw +ℤ n) → Rolls width (x + 1) y s s s g' previous (set current x s) (samples ++ s ∷ [])
Rolls_first width x zero w n nw g s g' previous current samples r len h up e =
    let place = r.place in
    let pushed = length-push samples s in
    let last : s ≡ at (samples ++ s ∷ []) width x 0 = sym (at-push_last samples s width x 0 place) in
    record {
      in_row = h;
      place = omega arith;
      west_is = rw add-one last;
      north_is = rw add-one last;
      north_west_is = rw add-one last;
      start_is = λ d. absurd (omega arith);
      gradient_is = λ before d. let d' : x ≡ before = omega arith in rw (← d') (e ∙ gradient-kept width x 0 w n nw g s previous current samples r);
      current_is = current_more width x 0 w n nw g s previous current samples r len;
      previous_is = λ i above lt d. absurd (omega arith);
      two_above_is = λ i above le lt d. absurd (omega arith);
    }
Rolls_first width x (suc y) w n nw g s g' previous current samples r len h up e = absurd (omega arith)

-- in a later row
pub Rolls_row : (width x y : ℕ) (w n nw g s g' : ℤ) (previous current samples : List ℤ) → Rolls width x y w n nw g previous current samples → width ≤ length current → x + 1 < width → 0 < y →
    g' ≡ int_wrap w32 (w -ℤ nw +ℤ n) → Rolls width (x + 1) y s (get_or previous (x + 1) (pos 0)) n g' previous (set current x s) (samples ++ s ∷ [])
Rolls_row width x zero w n nw g s g' previous current samples r len h up e = absurd (omega arith)
Rolls_row width x (suc y) w n nw g s g' previous current samples r len h up e =
    let place = r.place in
    let pushed = length-push samples s in
    record {
      in_row = h;
      place = omega arith;
      west_is = rw add-one (sym (at-push_last samples s width x (suc y) place));
      north_is = r.previous_is (x + 1) y h refl ∙ sym (at-push samples s width (x + 1) y (omega arith));
      north_west_is = rw add-one (r.north_is ∙ sym (at-push samples s width x y (omega arith)));
      start_is = λ d. absurd (omega arith);
      gradient_is = λ before d. let d' : x ≡ before = omega arith in rw (← d') (e ∙ gradient-kept width x (suc y) w n nw g s previous current samples r);
      current_is = current_more width x (suc y) w n nw g s previous current samples r len;
      previous_is = λ i above lt d. let d' : y ≡ above = omega arith in r.previous_is i above lt d ∙ sym (at-push samples s width i above (rw (← d') (omega arith)));
      two_above_is = two_above-kept width x (suc y) w n nw g s previous current samples r;
    }

-- at the end of a row
pub Rolls_end : (width x y : ℕ) (w n nw g s : ℤ) (previous current samples : List ℤ) → Rolls width x y w n nw g previous current samples → width ≤ length current → width ≤ x + 1 →
    (a : ℤ) → a ≡ get_or (set current x s) 0 (pos 0) → Rolls width 0 (y + 1) a a a (pos 0) (set current x s) previous (samples ++ s ∷ [])
Rolls_end width x y w n nw g s previous current samples r len h a is =
    let place = r.place in
    let in_row = r.in_row in
    let ends : width ≡ x + 1 = omega arith in
    let pushed = length-push samples s in
    let first : a ≡ at (samples ++ s ∷ []) width 0 y = is ∙ current_more width x y w n nw g s previous current samples r len 0 (omega arith) in
    record {
      in_row = omega arith;
      place = omega arith;
      west_is = rw add-one first;
      north_is = rw add-one first;
      north_west_is = rw add-one first;
      start_is = λ d. refl;
      gradient_is = λ before d. absurd (omega arith);
      current_is = λ i lt. absurd (omega arith);
      previous_is = λ i above lt d. let d' : y ≡ above = omega arith in rw (← d') (current_more width x y w n nw g s previous current samples r len i (omega arith));
      two_above_is = λ i above le lt d.
          let d' : y ≡ suc above = omega arith in r.previous_is i above lt d' ∙ sym (at-push samples s width i above (let p = rw d' at place in omega arith));
    }

-- before the first sample
pub Rolls_none : (width : ℕ) (previous current : List ℤ) → 0 < width → Rolls width 0 0 (pos 0) (pos 0) (pos 0) (pos 0) previous current []
Rolls_none width previous current h = record {
  in_row = h;
  place = search rules;
  west_is = refl;
  north_is = refl;
  north_west_is = refl;
  start_is = λ d. refl;
  gradient_is = λ before d. absurd (omega arith);
  current_is = λ i lt. absurd (omega arith);
  previous_is = λ i above lt d. absurd (omega arith);
  two_above_is = λ i above le lt d. absurd (omega arith);
}

module _ (width x y : ℕ) (w n nw g : ℤ) (previous current samples : List ℤ) (r : Rolls width x y w n nw g previous current samples) where
  -- the cell
  pub column_is : column samples width ≡ x
  column_is = rw r.place (mod-mul-add y width x r.in_row)

  pub row_is : row samples width ≡ y
  row_is = rw r.place (div-mul-add y width x r.in_row)

-- above right
pub north_east_at_edge : (width x y : ℕ) (samples : List ℤ) → (y ≡ 0) ⊎ (width ≤ x + 1) → north_east samples width x y ≡ north samples width x y
north_east_at_edge width x zero samples h = refl
north_east_at_edge width x (suc y) samples (inl e) = absurd (omega arith)
north_east_at_edge width x (suc y) samples (inr le) = let t = le-ltb (x + 1) width le in rw t refl

pub north_east_inside : (width x y : ℕ) (samples : List ℤ) (above : ℕ) → y ≡ suc above → x + 1 < width → north_east samples width x y ≡ at samples width (x + 1) above
north_east_inside width x zero samples above e lt = absurd (omega arith)
north_east_inside width x (suc y) samples above e lt = let t = lt-ltb (x + 1) width lt in let e' : y ≡ above = omega arith in rw (t, ← e') refl

pub north_east_east_at_edge : (width x y : ℕ) (samples : List ℤ) → (y ≡ 0) ⊎ (width ≤ x + 2) → north_east_east samples width x y ≡ north_east samples width x y
north_east_east_at_edge width x zero samples h = refl
north_east_east_at_edge width x (suc y) samples (inl e) = absurd (omega arith)
north_east_east_at_edge width x (suc y) samples (inr le) = let t = le-ltb (x + 2) width le in rw t refl

pub north_east_east_inside : (width x y : ℕ) (samples : List ℤ) (above : ℕ) → y ≡ suc above → x + 2 < width → north_east_east samples width x y ≡ at samples width (x + 2) above
north_east_east_inside width x zero samples above e lt = absurd (omega arith)
north_east_east_inside width x (suc y) samples above e lt = let t = lt-ltb (x + 2) width lt in let e' : y ≡ above = omega arith in rw (t, ← e') refl

pub north_north_at_edge : (width x y : ℕ) (samples : List ℤ) → y < 2 → north_north samples width x y ≡ north samples width x y
north_north_at_edge width x zero samples h = refl
north_north_at_edge width x (suc zero) samples h = refl
north_north_at_edge width x (suc (suc y)) samples h = absurd (omega arith)

pub north_north_inside : (width x y : ℕ) (samples : List ℤ) (above : ℕ) → y ≡ suc (suc above) → north_north samples width x y ≡ at samples width x above
north_north_inside width x zero samples above e = absurd (omega arith)
north_north_inside width x (suc zero) samples above e = absurd (omega arith)
north_north_inside width x (suc (suc y)) samples above e = let e' : y ≡ above = omega arith in rw (← e') refl

pub west_west_at_edge : (width x y : ℕ) (samples : List ℤ) → x < 2 → west_west samples width x y ≡ west samples width x y
west_west_at_edge width zero y samples h = refl
west_west_at_edge width (suc zero) y samples h = refl
west_west_at_edge width (suc (suc x)) y samples h = absurd (omega arith)

pub west_west_inside : (width x y : ℕ) (samples : List ℤ) (before : ℕ) → x ≡ suc (suc before) → west_west samples width x y ≡ at samples width before y
west_west_inside width zero y samples before e = absurd (omega arith)
west_west_inside width (suc zero) y samples before e = absurd (omega arith)
west_west_inside width (suc (suc x)) y samples before e = let e' : x ≡ before = omega arith in rw (← e') refl
