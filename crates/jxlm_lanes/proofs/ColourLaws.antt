-- Colour loses nothing.
use Rattle.std.proofs.Common.{◌≡◌, ℕ, ◌/◌, ◌%◌, Bool, true, false, ℤ, ◌+ℤ◌, ◌-ℤ◌, neg_ℤ, refl, sym, ap, ◌∙◌}
use Rattle.std.specs.Prelude.{◌==◌, if◌then◌else◌, FitsSigned}
use Rattle.std.specs.Int.{Width, int_wrap}
use Rattle.std.proofs.lemmas.Int.{int_wrap_fits, int_wrap-add_left, SFits-int_wrap}
use lib.IntN.{+ℤ-neg_ℤ_cancel, -ℤ-+ℤ_cancel, +ℤ_comm}
use Rattle.jxlm_lanes.specs.Colour.{Triple, triple, IsTripleOf, permute, unpermute, plus, minus, floor_half, to_luma, from_luma, to_differences, from_differences, coded_by, finished_by, finished_triple, ColourIsLossless, ColourIsOneToOne}

pub triple_same : (a b c d e f : ℤ) → a ≡ d → b ≡ e → c ≡ f → triple a b c ≡ triple d e f
triple_same a b c d e f p q r = ap (λ x. triple x b c) p ∙ ap (λ x. triple d x c) q ∙ ap (λ x. triple d e x) r

module _ (w : Width) where
  -- adding what was taken away, and taking away what was added
  pub minus-plus : (x y : ℤ) → FitsSigned w x → plus w (minus w x y) y ≡ x
  minus-plus x y fits = int_wrap-add_left w (x -ℤ y) y ∙ ap (int_wrap w) (-ℤ-+ℤ_cancel x y) ∙ int_wrap_fits w x fits

  pub plus-minus : (x y : ℤ) → FitsSigned w x → minus w (plus w x y) y ≡ x
  plus-minus x y fits = int_wrap-add_left w (x +ℤ y) (neg_ℤ y) ∙ ap (int_wrap w) (+ℤ-neg_ℤ_cancel x y) ∙ int_wrap_fits w x fits

  plus_comm : (x y : ℤ) → plus w x y ≡ plus w y x
  plus_comm x y = ap (int_wrap w) (+ℤ_comm x y)

  luma_there : (t : Triple) → IsTripleOf w t → from_luma w (to_luma w t) ≡ t
  luma_there t fits =
      let b : ℤ = minus w t.first t.third in
      let m : ℤ = plus w t.third (floor_half b) in
      let c : ℤ = minus w t.second m in
      let m' : minus w (plus w m (floor_half c)) (floor_half c) ≡ m = plus-minus m (floor_half c) (SFits-int_wrap w (t.third +ℤ floor_half b)) in
      let e : plus w c (minus w (plus w m (floor_half c)) (floor_half c)) ≡ t.second = ap (plus w c) m' ∙ minus-plus t.second m fits.second in
      let f : minus w (minus w (plus w m (floor_half c)) (floor_half c)) (floor_half b) ≡ t.third = ap (λ n. minus w n (floor_half b)) m' ∙ plus-minus t.third (floor_half b) fits.third in
      let d : plus w (minus w (minus w (plus w m (floor_half c)) (floor_half c)) (floor_half b)) b ≡ t.first =
      ap (λ n. plus w n b) f ∙ plus_comm t.third b ∙ minus-plus t.first t.third fits.first in
      triple_same _ _ _ t.first t.second t.third d e f

  luma_back : (t : Triple) → IsTripleOf w t → to_luma w (from_luma w t) ≡ t
  luma_back t fits =
      let m : ℤ = minus w t.first (floor_half t.third) in
      let e : ℤ = plus w t.third m in
      let f : ℤ = minus w m (floor_half t.second) in
      let d : ℤ = plus w f t.second in
      let b' : minus w d f ≡ t.second = ap (λ n. minus w n f) (plus_comm f t.second) ∙ plus-minus t.second f fits.second in
      let m' : plus w f (floor_half (minus w d f)) ≡ m = ap (λ n. plus w f (floor_half n)) b' ∙ minus-plus m (floor_half t.second) (SFits-int_wrap w (t.first -ℤ floor_half t.third)) in
      let c' : minus w e (plus w f (floor_half (minus w d f))) ≡ t.third = ap (minus w e) m' ∙ plus-minus t.third m fits.third in
      let a' : plus w (plus w f (floor_half (minus w d f))) (floor_half (minus w e (plus w f (floor_half (minus w d f))))) ≡ t.first =
      ap (λ n. plus w n (floor_half (minus w e (plus w f (floor_half (minus w d f)))))) m' ∙ ap (λ n. plus w m (floor_half n)) c' ∙ minus-plus t.first (floor_half t.third) fits.first in
      triple_same _ _ _ t.first t.second t.third a' b' c'

  -- the differences, by the tests that choose them
  there_by : (odd one two : Bool) (x y z : ℤ) → FitsSigned w y → FitsSigned w z →
      let c : ℤ = if odd then minus w z x else z in
      let b : ℤ = if one then minus w y x else if two then minus w y (floor_half (plus w x z)) else y in
      let f : ℤ = if odd then plus w c x else c in
      triple x (if one then plus w b x else if two then plus w b (floor_half (plus w x f)) else b) f ≡ triple x y z
  there_by true true two x y z fy fz = triple_same _ _ _ x y z refl (minus-plus y x fy) (minus-plus z x fz)
  there_by false true two x y z fy fz = triple_same _ _ _ x y z refl (minus-plus y x fy) refl
  there_by true false true x y z fy fz =
      triple_same _ _ _ x y z refl (ap (λ n. plus w (minus w y (floor_half (plus w x z))) (floor_half (plus w x n))) (minus-plus z x fz) ∙ minus-plus y (floor_half (plus w x z)) fy) (minus-plus z x fz)
  there_by false false true x y z fy fz = triple_same _ _ _ x y z refl (minus-plus y (floor_half (plus w x z)) fy) refl
  there_by true false false x y z fy fz = triple_same _ _ _ x y z refl refl (minus-plus z x fz)
  there_by false false false x y z fy fz = refl

  back_by : (odd one two : Bool) (x y z : ℤ) → FitsSigned w y → FitsSigned w z →
      let f : ℤ = if odd then plus w z x else z in
      let e : ℤ = if one then plus w y x else if two then plus w y (floor_half (plus w x f)) else y in
      triple x (if one then minus w e x else if two then minus w e (floor_half (plus w x f)) else e) (if odd then minus w f x else f) ≡ triple x y z
  back_by true true two x y z fy fz = triple_same _ _ _ x y z refl (plus-minus y x fy) (plus-minus z x fz)
  back_by false true two x y z fy fz = triple_same _ _ _ x y z refl (plus-minus y x fy) refl
  back_by true false true x y z fy fz = triple_same _ _ _ x y z refl (plus-minus y (floor_half (plus w x (plus w z x))) fy) (plus-minus z x fz)
  back_by false false true x y z fy fz = triple_same _ _ _ x y z refl (plus-minus y (floor_half (plus w x z)) fy) refl
  back_by true false false x y z fy fz = triple_same _ _ _ x y z refl refl (plus-minus z x fz)
  back_by false false false x y z fy fz = refl

  differences_there : (t : ℕ) (x : Triple) → IsTripleOf w x → from_differences w t (to_differences w t x) ≡ x
  differences_there t x fits = there_by (t % 2 == 1) (t / 2 == 1) (t / 2 == 2) x.first x.second x.third fits.second fits.third

  differences_back : (t : ℕ) (x : Triple) → IsTripleOf w x → to_differences w t (from_differences w t x) ≡ x
  differences_back t x fits = back_by (t % 2 == 1) (t / 2 == 1) (t / 2 == 2) x.first x.second x.third fits.second fits.third

-- the orders, by the tests that choose them
abbrev pick : Bool → Bool → Bool → Bool → Bool → Triple → Triple
pick a b c d e t =
    if a then triple t.third t.first t.second else if b then triple t.second t.third t.first else if c then triple t.first t.third t.second else if d then triple t.second t.first t.third else if e then triple t.third t.second t.first else t

abbrev unpick : Bool → Bool → Bool → Bool → Bool → Triple → Triple
unpick a b c d e t =
    if a then triple t.second t.third t.first else if b then triple t.third t.first t.second else if c then triple t.first t.third t.second else if d then triple t.second t.first t.third else if e then triple t.third t.second t.first else t

pick-unpick : (a b c d e : Bool) (t : Triple) → pick a b c d e (unpick a b c d e t) ≡ t
pick-unpick true b c d e t = refl
pick-unpick false true c d e t = refl
pick-unpick false false true d e t = refl
pick-unpick false false false true e t = refl
pick-unpick false false false false true t = refl
pick-unpick false false false false false t = refl

unpick-pick : (a b c d e : Bool) (t : Triple) → unpick a b c d e (pick a b c d e t) ≡ t
unpick-pick true b c d e t = refl
unpick-pick false true c d e t = refl
unpick-pick false false true d e t = refl
unpick-pick false false false true e t = refl
unpick-pick false false false false true t = refl
unpick-pick false false false false false t = refl

unpick_fits : (w : Width) (a b c d e : Bool) (t : Triple) → IsTripleOf w t → IsTripleOf w (unpick a b c d e t)
unpick_fits w true b c d e t f = record { first = f.second; second = f.third; third = f.first }
unpick_fits w false true c d e t f = record { first = f.third; second = f.first; third = f.second }
unpick_fits w false false true d e t f = record { first = f.first; second = f.third; third = f.second }
unpick_fits w false false false true e t f = record { first = f.second; second = f.first; third = f.third }
unpick_fits w false false false false true t f = record { first = f.third; second = f.second; third = f.first }
unpick_fits w false false false false false t f = f

permuted-unpermuted : (n : ℕ) (t : Triple) → permute n (unpermute n t) ≡ t
permuted-unpermuted n t = pick-unpick (n == 1) (n == 2) (n == 3) (n == 4) (n == 5) t

unpermuted-permuted : (n : ℕ) (t : Triple) → unpermute n (permute n t) ≡ t
unpermuted-permuted n t = unpick-pick (n == 1) (n == 2) (n == 3) (n == 4) (n == 5) t

pick_fits : (w : Width) (a b c d e : Bool) (t : Triple) → IsTripleOf w t → IsTripleOf w (pick a b c d e t)
pick_fits w true b c d e t f = record { first = f.third; second = f.first; third = f.second }
pick_fits w false true c d e t f = record { first = f.second; second = f.third; third = f.first }
pick_fits w false false true d e t f = record { first = f.first; second = f.third; third = f.second }
pick_fits w false false false true e t f = record { first = f.second; second = f.first; third = f.third }
pick_fits w false false false false true t f = record { first = f.third; second = f.second; third = f.first }
pick_fits w false false false false false t f = f

pub unpermuted_fits : (w : Width) (n : ℕ) (t : Triple) → IsTripleOf w t → IsTripleOf w (unpermute n t)
unpermuted_fits w n t f = unpick_fits w (n == 1) (n == 2) (n == 3) (n == 4) (n == 5) t f

pub permuted_fits : (w : Width) (n : ℕ) (t : Triple) → IsTripleOf w t → IsTripleOf w (permute n t)
permuted_fits w n t f = pick_fits w (n == 1) (n == 2) (n == 3) (n == 4) (n == 5) t f

module _ (w : Width) where
  chosen_fit : (odd one two : Bool) (x y z u v s : ℤ) → IsTripleOf w (triple x y z) →
      IsTripleOf w (triple x (if one then int_wrap w u else if two then int_wrap w v else y) (if odd then int_wrap w s else z))
  chosen_fit odd one two x y z u v s f = record { first = f.first; second = second one two; third = third odd }
    where
      second : (one two : Bool) → FitsSigned w (if one then int_wrap w u else if two then int_wrap w v else y)
      second true two = SFits-int_wrap w u
      second false true = SFits-int_wrap w v
      second false false = f.second

      third : (odd : Bool) → FitsSigned w (if odd then int_wrap w s else z)
      third true = SFits-int_wrap w s
      third false = f.third

  coded_of_fits : (luma : Bool) (t : ℕ) (x : Triple) → IsTripleOf w x → IsTripleOf w (if luma then to_luma w x else to_differences w t x)
  coded_of_fits true t x f = record { first = SFits-int_wrap w _; second = SFits-int_wrap w _; third = SFits-int_wrap w _ }
  coded_of_fits false t x f = chosen_fit (t % 2 == 1) (t / 2 == 1) (t / 2 == 2) x.first x.second x.third (x.second -ℤ x.first) (x.second -ℤ floor_half (plus w x.first x.third)) (x.third -ℤ x.first) f

  finished_of_fits : (luma : Bool) (t : ℕ) (x : Triple) → IsTripleOf w x → IsTripleOf w (if luma then from_luma w x else from_differences w t x)
  finished_of_fits true t x f = record { first = SFits-int_wrap w _; second = SFits-int_wrap w _; third = SFits-int_wrap w _ }
  finished_of_fits false t x f =
      chosen_fit (t % 2 == 1) (t / 2 == 1) (t / 2 == 2) x.first x.second x.third (x.second +ℤ x.first) (x.second +ℤ floor_half (plus w x.first (if t % 2 == 1 then plus w x.third x.first else x.third))) (x.third +ℤ x.first) f

  pub coded_fits : (t : ℕ) (x : Triple) → IsTripleOf w x → IsTripleOf w (coded_by w t x)
  coded_fits t x f = coded_of_fits (t == 6) t x f

  pub finished_fits : (t : ℕ) (x : Triple) → IsTripleOf w x → IsTripleOf w (finished_by w t x)
  finished_fits t x f = finished_of_fits (t == 6) t x f

there_of : (w : Width) (b : Bool) (t : ℕ) (y : Triple) → IsTripleOf w y →
    (if b then from_luma w (if b then to_luma w y else to_differences w t y) else from_differences w t (if b then to_luma w y else to_differences w t y)) ≡ y
there_of w true t y fits = luma_there w y fits
there_of w false t y fits = differences_there w t y fits

back_of : (w : Width) (b : Bool) (t : ℕ) (x : Triple) → IsTripleOf w x →
    (if b then to_luma w (if b then from_luma w x else from_differences w t x) else to_differences w t (if b then from_luma w x else from_differences w t x)) ≡ x
back_of w true t x fits = luma_back w x fits
back_of w false t x fits = differences_back w t x fits

pub colour_is_lossless : (w : Width) → ColourIsLossless w
colour_is_lossless w = record {
  there = λ kind x fits.
      ap (permute (kind / 7)) (there_of w (kind % 7 == 6) (kind % 7) (unpermute (kind / 7) x) (unpermuted_fits w (kind / 7) x fits)) ∙ permuted-unpermuted (kind / 7) x;
  back = λ kind x fits.
      ap (coded_by w (kind % 7)) (unpermuted-permuted (kind / 7) (finished_by w (kind % 7) x)) ∙ back_of w (kind % 7 == 6) (kind % 7) x fits;
  coded = λ kind x fits. coded_fits w (kind % 7) (unpermute (kind / 7) x) (unpermuted_fits w (kind / 7) x fits);
  finished = λ kind x fits. permuted_fits w (kind / 7) (finished_by w (kind % 7) x) (finished_fits w (kind % 7) x fits);
}

pub colour_is_one_to_one : (w : Width) → ColourIsOneToOne w
colour_is_one_to_one w = λ kind x y fx fy same_code.
    let law = colour_is_lossless w in
    sym (law.there kind x fx) ∙ ap (finished_triple w kind) same_code ∙ law.there kind y fy
