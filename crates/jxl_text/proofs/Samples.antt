-- Words of signed numbers.
use Rattle.std.proofs.Common.{◌≡◌, ◌≢◌, ℕ, zero, suc, ◌+◌, ◌-◌, ◌^◌, ◌<◌, ◌≤◌, ◌⊎◌, ℤ, pos, negsuc, neg_ℤ, List, [], ◌∷◌, length, get_or, take, drop, Ok, Err, refl, sym, ap, ◌∙◌, subst, arith}
use Rattle.std.specs.Prelude.{Result, MatchOption, FitsSigned}
use Rattle.std.specs.Fmt.{decimal, signed_decimal}
use Rattle.std.specs.Int.{Width, w16, w32, IsInRange}
use Rattle.std.specs.Result.{OkIff, result_ok}
use Rattle.std.specs.Str.Parse.{AllDigits, digits_value}
use Rattle.std.proofs.lemmas.Fmt.{decimal_injective, signed_decimal_injective}
use Rattle.std.proofs.lemmas.Int.{ints, int_wrap_fits}
use Rattle.std.specs.Int.{int_wrap}
use lib.Signed.{mag}
use lib.IntN.{◌-ℤ◌}
use mir.Syntax.{w64}
use mir.Val.{to_z, of_z}
use Rattle.std.proofs.lemmas.List.{drop_more, take_rest}
use Rattle.jxl_text.specs.Inner.Cuts.{Lacks}
use Rattle.jxl_text.specs.Inner.Words.{WritesNoNumber, WritesNoSample, WritesSample}
use Rattle.jxl_text.proofs.Decimals.{decimal_lacks}

-- a word that begins with a minus, without it
pub after_minus : (word : List ℕ) → 0 < length word → get_or word 0 0 ≡ 45 → word ≡ 45 ∷ take (length word - 1) (drop 1 word)
after_minus word some led = rw take_rest (drop_more word 0 0 some ∙ ap (λ (c : ℕ). c ∷ drop 1 word) led)

lacks_first : (c : ℕ) (text rest : List ℕ) → text ≡ c ∷ rest → Lacks c text → ⊥
lacks_first c text rest is lacks = (subst (Lacks c) is lacks).0 refl

no_minus : (n : ℕ) (rest : List ℕ) → n < 2 ^ 32 → decimal n ≡ 45 ∷ rest → ⊥
no_minus n rest small is = lacks_first 45 (decimal n) rest is (decimal_lacks 45 n (λ r. omega (arith, r.0)) (omega (arith, small)))

-- what fits 32 bits
fits_pos : (n : ℕ) → FitsSigned w32 (pos n) → n < 2 ^ 31
fits_pos n h = omega (arith, ints, h)

fits_neg : (n : ℕ) → FitsSigned w32 (negsuc n) → n < 2 ^ 31
fits_neg n h = omega (arith, ints, h)

pub minus_none : (word digits : List ℕ) → word ≡ 45 ∷ digits → WritesNoNumber digits → WritesNoSample w32 word
minus_none word digits is none (pos n) fits writes = no_minus n digits (let small = fits_pos n fits in omega arith) (sym writes ∙ is)
minus_none word digits is none (negsuc n) fits writes = none (suc n) (let small = fits_neg n fits in omega arith) (ap (λ ds. drop 1 ds) (sym is ∙ writes))

pub minus_nought : (word digits : List ℕ) → word ≡ 45 ∷ digits → digits ≡ decimal 0 → WritesNoSample w32 word
minus_nought word digits is nought (pos n) fits writes = no_minus n digits (let small = fits_pos n fits in omega arith) (sym writes ∙ is)
minus_nought word digits is nought (negsuc n) fits writes =
    let small = fits_neg n fits in
    let same : 0 ≡ suc n = decimal_injective 0 (suc n) (omega arith) (omega arith) (sym nought ∙ ap (λ ds. drop 1 ds) (sym is ∙ writes)) in
    omega arith

pub plus_none : (word : List ℕ) → get_or word 0 0 ≢ 45 → WritesNoNumber word → WritesNoSample w32 word
plus_none word led none (pos n) fits writes = none n (let small = fits_pos n fits in omega arith) writes
plus_none word led none (negsuc n) fits writes = led (ap (λ ds. get_or ds 0 0) writes)

mag_small : (z : ℤ) → FitsSigned w32 z → mag z < 2 ^ 63
mag_small (pos n) fits = let small = fits_pos n fits in omega arith
mag_small (negsuc n) fits = let small = fits_neg n fits in omega arith

-- two numbers of 32 bits that are written alike
pub one_sample : (w : Width) (y z : ℤ) → ((x : ℤ) → FitsSigned w x → FitsSigned w32 x) → FitsSigned w y → FitsSigned w z → signed_decimal y ≡ signed_decimal z → y ≡ z
one_sample w y z wider fy fz same = signed_decimal_injective y z (mag_small y (wider y fy)) (mag_small z (wider z fz)) same

-- a number that is written so, where it fits
pub fitted : {E : Type 0} (word : List ℕ) (v : ℤ) (r : Result ℤ E) → word ≡ signed_decimal v → mag v < 2 ^ 63 → OkIff r (FitsSigned w32 v) v → MatchOption (result_ok r) (WritesNoSample w32 word) (λ z. WritesSample w32 word z)
fitted word v (Ok z) is small made = record { written = is ∙ ap signed_decimal (sym made.1); fits = subst (FitsSigned w32) (sym made.1) made.0 }
fitted word v (Err e) is small refused = λ z fits writes.
    refused (subst (FitsSigned w32) (signed_decimal_injective z v (mag_small z fits) small (sym writes ∙ is)) fits)

-- the number after a minus
minus_word : (word digits : List ℕ) (n : ℕ) → word ≡ 45 ∷ digits → digits ≡ decimal n → n ≢ 0 → word ≡ signed_decimal (neg_ℤ (pos n))
minus_word word digits zero is same some = absurd (some refl)
minus_word word digits (suc n) is same some = is ∙ ap (λ ds. 45 ∷ ds) same

minus_small : (n : ℕ) → n < 2 ^ 32 → mag (neg_ℤ (pos n)) < 2 ^ 63
minus_small zero h = omega arith
minus_small (suc n) h = omega (arith, h)

abbrev negated : ℤ → ℤ
negated x = to_z w64 (of_z w64 (pos 0 -ℤ to_z w64 (of_z w64 x)))

negated_is : (x : ℤ) (n : ℕ) → n < 2 ^ 32 → x ≡ pos n → negated x ≡ neg_ℤ (pos n)
negated_is x n small is = omega (arith, ints, is)

pub minus_fitted : {E : Type 0} (word digits : List ℕ) (n : ℕ) (x : ℤ) (r : Result ℤ E) → word ≡ 45 ∷ digits → digits ≡ decimal n → n ≢ 0 → n < 2 ^ 32 → x ≡ pos n → OkIff r (FitsSigned w32 (negated x)) (negated x) → MatchOption (result_ok r) (WritesNoSample w32 word) (λ z. WritesSample w32 word z)
minus_fitted word digits n x r is same some small e made =
    let v = negated_is x n small e in
    fitted word (negated x) r (minus_word word digits n is same some ∙ ap signed_decimal (sym v)) (subst (λ (z : ℤ). mag z < 2 ^ 63) (sym v) (minus_small n small)) made

-- a number of 32 bits that does not stay as it is at the width fits it not
pub not_reduced : (w : Width) (word : List ℕ) (v sample : ℤ) → ((z : ℤ) → FitsSigned w z → FitsSigned w32 z) → WritesSample w32 word v → sample ≡ int_wrap w v → (sample ≡ v → ⊥) → WritesNoSample w word
not_reduced w word v sample wider writes is other z fits written =
    let same : v ≡ z = one_sample w32 v z (λ x h. h) writes.fits (wider z fits) (sym writes.written ∙ written) in
    other (is ∙ int_wrap_fits w v (subst (FitsSigned w) (sym same) fits))

pub wider_none : (w : Width) (word : List ℕ) → ((z : ℤ) → FitsSigned w z → FitsSigned w32 z) → WritesNoSample w32 word → WritesNoSample w word
wider_none w word wider none z fits written = none z (wider z fits) written
