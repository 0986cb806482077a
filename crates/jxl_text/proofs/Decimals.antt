-- Words of digits, and the numbers that they write.
use Rattle.std.proofs.Common.{◌≡◌, ◌≢◌, ℕ, zero, suc, ◌+◌, ◌*◌, ◌-◌, ◌^◌, ◌<◌, ◌≤◌, List, [], ◌∷◌, length, get_or, take, refl, sym, ap, ◌∙◌, subst, arith}
use Rattle.std.specs.Char.{digit_value}
use Rattle.std.specs.Fmt.{decimal}
use Rattle.std.specs.Int.{IsInRange}
use Rattle.std.specs.Str.Parse.{AllDigits, digits_value}
use Rattle.std.proofs.lemmas.Fmt.{decimal_nonempty, decimal_digit, first_decimal, length-decimal-le, digits_decimal, digits_value-decimal, decimal-digits_value}
use Rattle.std.proofs.lemmas.Int.Digits.{digits_value_more, digits_more}
use Rattle.std.proofs.lemmas.List.{length-take-le}
use Rattle.std.proofs.lemmas.Str.{digit_value_digit}
use Rattle.std.proofs.lemmas.Str.Parse.{IsNumeralModel, numerals_by_value, tells_digits, digit_at, digits_value_short}
use Rattle.jxl_text.specs.Inner.Cuts.{Lacks}
use Rattle.jxl_text.specs.Inner.Words.{WritesNoNumber}

own : IsNumeralModel (AllDigits 10) (digits_value 10)
own = numerals_by_value (AllDigits 10) tells_digits

wide : (n : ℕ) → n < 2 ^ 32 → n < 2 ^ 64
wide n h = omega (arith, h)

-- ---- one digit more

pub room : (word : List ℕ) (i : ℕ) → i < length word → length word ≤ 10 → AllDigits 10 (take i word) → digits_value 10 (take i word) < 10 ^ 9
room word i within short digits = digits_value_short own (take i word) 9 digits (let n = length-take-le i word (omega arith) in omega arith)

pub more_digits : (word : List ℕ) (i : ℕ) → i < length word → AllDigits 10 (take i word) → IsInRange 48 57 (get_or word i 0) → AllDigits 10 (take (i + 1) word)
more_digits word i within digits in_range = digits_more 10 word i within digits (let d = digit_value_digit (get_or word i 0) in_range in omega (arith, in_range.0, in_range.1))

pub more_value : (word : List ℕ) (i : ℕ) → i < length word → IsInRange 48 57 (get_or word i 0) → digits_value 10 (take i word) * 10 + (get_or word i 0 - 48) ≡ digits_value 10 (take (i + 1) word)
more_value word i within in_range =
    let d = digit_value_digit (get_or word i 0) in_range in
    let same : get_or word i 0 - 48 ≡ digit_value (get_or word i 0) = omega arith in
    ap (λ n. digits_value 10 (take i word) * 10 + n) same ∙ sym (digits_value_more 10 word i within)

-- ---- a word that writes a number

pub writes : (word : List ℕ) → AllDigits 10 word → 0 < length word → length word ≤ 10 → get_or word 0 0 ≢ 48 → word ≡ decimal (digits_value 10 word)
writes word digits some short led =
    sym (decimal-digits_value own word digits some (λ e. absurd (led e)) (let n = digits_value_short own word 10 digits short in omega arith))

pub writes_nought : (word : List ℕ) → length word ≡ 1 → get_or word 0 0 ≡ 48 → word ≡ decimal 0
writes_nought [] one led = absurd (omega (arith, one))
writes_nought (c ∷ []) one led = ap (λ (d : ℕ). d ∷ []) led ∙ sym (decimal_digit 0 (omega arith))
writes_nought (c ∷ d ∷ ds) one led = absurd (omega (arith, one))

-- ---- words that write none

pub none_empty : (word : List ℕ) → length word ≡ 0 → WritesNoNumber word
none_empty word empty n small is = let some = decimal_nonempty n (wide n small) in omega (arith, ap length is)

pub none_long : (word : List ℕ) → 10 < length word → WritesNoNumber word
none_long word long n small is = let most = length-decimal-le 10 n (omega arith) (omega arith) (wide n small) in omega (arith, ap length is)

leading : (n : ℕ) → n < 2 ^ 32 → get_or (decimal n) 0 0 ≡ 48 → length (decimal n) ≡ 1
leading zero small e = ap length (decimal_digit 0 (omega arith))
leading (suc n) small e = let first = first_decimal (suc n) (omega arith) (wide (suc n) small) in absurd (omega arith)

pub none_led : (word : List ℕ) → get_or word 0 0 ≡ 48 → 1 < length word → WritesNoNumber word
none_led word led long n small is = let one = leading n small (sym (ap (λ ds. get_or ds 0 0) is) ∙ led) in omega (arith, ap length is)

pub none_other : (word : List ℕ) (i : ℕ) → i < length word → (IsInRange 48 57 (get_or word i 0) → ⊥) → WritesNoNumber word
none_other word i within other n small is =
    other (digit_at word i (subst (AllDigits 10) (sym is) (digits_decimal own n (wide n small))) within)

pub none_large : (word : List ℕ) → 2 ^ 32 ≤ digits_value 10 word → WritesNoNumber word
none_large word large n small is = let value = digits_value-decimal own n (wide n small) in omega (arith, ap (digits_value 10) is)

-- ---- what decimals lack

digits_lack : (c : ℕ) → (IsInRange 48 57 c → ⊥) → (ds : List ℕ) → AllDigits 10 ds → Lacks c ds
digits_lack c other [] h = tt
digits_lack c other (d ∷ ds) h = (λ e. other (subst (IsInRange 48 57) e (digit_at (d ∷ ds) 0 h (omega arith))), digits_lack c other ds h.1)

pub decimal_lacks : (c n : ℕ) → (IsInRange 48 57 c → ⊥) → n < 2 ^ 64 → Lacks c (decimal n)
decimal_lacks c n other small = digits_lack c other (decimal n) (digits_decimal own n small)
