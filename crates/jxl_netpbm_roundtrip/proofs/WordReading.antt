-- Words and numbers of a header, read where they were written.
use Rattle.std.proofs.Common.{◌≡◌, ℕ, ◌+◌, ◌-◌, ◌*◌, ◌^◌, ◌<◌, ◌≤◌, List, [], ◌∷◌, ◌++◌, length, drop, take, min, Bool, true, false, Some, None, Ok, Err, refl, sym, ap, ◌∙◌, subst, arith, length-append, length-drop}
use Rattle.std.specs.Prelude.{◌==◌, nat_le, slice_range, if◌then◌else◌, Result}
use Rattle.std.specs.Char.{digit_value}
use Rattle.std.specs.Fmt.{decimal}
use Rattle.std.specs.Int.{IsInRange}
use Rattle.std.specs.Str.Parse.{AllDigits, IsNumeral, digits_value_after}
use Rattle.std.proofs.lemmas.Bool.Decides.{nat_tests}
use Rattle.std.proofs.lemmas.Fmt.{decimal_is_IsNumeral}
use Rattle.std.proofs.lemmas.List.{drop-drop, drop_at, take_at}
use Rattle.std.proofs.lemmas.Str.{digit_value_digit}
use Rattle.std.proofs.lemmas.Str.Parse.{digit_from_value}
use Rattle.jxl_netpbm_read.specs.Words.{as_number, digits_from, and_then, gap, is_digit, is_space, number_from, word_from, word_length}
use Rattle.jxl_netpbm_read.specs.declared.error.NetpbmError.{NetpbmError}
use Rattle.jxl_netpbm_read.specs.declared.error.NetpbmError.TheVariants.{Truncated}
use Rattle.jxl_netpbm_read.specs.declared.words.Word.{Word}

-- the bytes from position p on
pub record At (bytes : List ℕ) (p : ℕ) (rest : List ℕ) : Type 0 where
  pub is : drop p bytes ≡ rest
  pub inside : p ≤ length bytes

pub at_more : (bytes : List ℕ) (p : ℕ) (xs rest : List ℕ) → At bytes p (xs ++ rest) → At bytes (p + length xs) rest
at_more bytes p xs rest at =
    let long : length bytes - p ≡ length xs + length rest = sym (length-drop p bytes) ∙ ap length at.is ∙ length-append xs rest in
    record {
      is = sym (drop-drop (length xs) p bytes) ∙ ap (drop (length xs)) at.is ∙ drop_at xs rest (length xs) refl;
      inside = omega (arith, long, at.inside);
    }

not_long : (n k : ℕ) → k < n → nat_le n k ≡ false
not_long n k below = grind (arith, nat_tests)

-- a word after a byte of white space, and before another
pub record IsWordAt (bytes : List ℕ) (p : ℕ) (word : List ℕ) (next : List ℕ) : Type 0 where
  pub read : word_from bytes p ≡ Ok (record { start = p + 1; end = p + 1 + length word })
  pub text : slice_range bytes (p + 1) (p + 1 + length word) ≡ word
  pub next_at : At bytes (p + 1 + length word) next

pub word_read : (bytes : List ℕ) (p b t : ℕ) (word rest : List ℕ) → At bytes p (b ∷ (word ++ t ∷ rest)) → gap false (b ∷ (word ++ t ∷ rest)) ≡ 1 → word_length (word ++ t ∷ rest) ≡ length word → IsWordAt bytes p word (t ∷ rest)
unfolding word_from
word_read bytes p b t word rest at one size =
    let all = word ++ t ∷ rest in
    let second : At bytes (p + 1) all = at_more bytes p (b ∷ []) all at in
    let third : At bytes (p + 1 + length word) (t ∷ rest) = at_more bytes (p + 1) word (t ∷ rest) second in
    let long : length bytes - (p + 1 + length word) ≡ length rest + 1 = sym (length-drop (p + 1 + length word) bytes) ∙ ap length third.is ∙ omega arith in
    let last : ℕ → ℕ → Result Word NetpbmError = λ f e. if nat_le (length bytes) e then Err Truncated else Ok (record { start = f; end = e }) in
    let first : p + gap false (drop p bytes) ≡ p + 1 = ap (λ r. p + gap false r) at.is ∙ ap (λ n. p + n) one in
    let end : p + 1 + word_length (drop (p + 1) bytes) ≡ p + 1 + length word = ap (λ r. p + 1 + word_length r) second.is ∙ ap (λ n. p + 1 + n) size in
    let test : nat_le (length bytes) (p + 1 + length word) ≡ false = not_long (length bytes) (p + 1 + length word) (omega (arith, long)) in
    let good : Result Word NetpbmError = Ok (record { start = p + 1; end = p + 1 + length word }) in
    let bad : Result Word NetpbmError = Err Truncated in
    let P : Bool → Type 0 = λ v. (if v then bad else good) ≡ good in
    let some : p + 1 + length word - (p + 1) ≡ length word = omega arith in
    record {
      read = ap (λ f. last f (f + word_length (drop f bytes))) first ∙ ap (last (p + 1)) end ∙ subst P (sym test) refl;
      text = ap (λ n. take n (drop (p + 1) bytes)) some ∙ ap (take (length word)) second.is ∙ take_at word (t ∷ rest) (length word) refl;
      next_at = third;
    }

-- ---- decimal numbers

digit_tests : (d : ℕ) → IsInRange 48 57 d → ((d == 35) ≡ false) × (is_space d ≡ false) × (is_digit d ≡ true)
digit_tests d range =
    let low = range.0 in
    let high = range.1 in
    let a : (d == 35) ≡ false = grind (arith, nat_tests) in
    let b : (d == 32) ≡ false = grind (arith, nat_tests) in
    let c : nat_le d 13 ≡ false = grind (arith, nat_tests) in
    let e : nat_le 9 d ≡ true = grind (arith, nat_tests) in
    let f : nat_le 48 d ≡ true = grind (arith, nat_tests) in
    let g : nat_le d 57 ≡ true = grind (arith, nat_tests) in
    (a, rw (b, e, c) refl, rw (f, g) refl)

digits_no_gap : (ds r : List ℕ) → IsNumeral 10 ds → gap false (ds ++ r) ≡ 0
digits_no_gap [] r is = absurd (omega (arith, is.0))
digits_no_gap (d ∷ ds) r is = let t = digit_tests d (digit_from_value d is.1.0) in rw (t.0, t.1) refl

digits_word : (ds : List ℕ) (t : ℕ) (rest : List ℕ) → AllDigits 10 ds → is_space t ≡ true → word_length (ds ++ t ∷ rest) ≡ length ds
digits_word [] t rest is space = rw space refl
digits_word (d ∷ ds) t rest is space =
    let tests = digit_tests d (digit_from_value d is.0) in
    let P : Bool → Type 0 = λ v. (if v then 0 else word_length (ds ++ t ∷ rest) + 1) ≡ length (d ∷ ds) in
    subst P (sym tests.1) (let more = digits_word ds t rest is.1 space in omega (arith, more))

digits_read : (v : ℕ) (ds : List ℕ) → AllDigits 10 ds → digits_from v ds ≡ Some (digits_value_after 10 v ds)
digits_read v [] is = refl
digits_read v (d ∷ ds) is =
    let range = digit_from_value d is.0 in
    let tests = digit_tests d range in
    let same : d - 48 ≡ digit_value d = let e = digit_value_digit d range in omega (arith, e) in
    let P : Bool → Type 0 = λ b. (if b then digits_from (v * 10 + (d - 48)) ds else None) ≡ digits_from (v * 10 + (d - 48)) ds in
    subst P (sym tests.2) refl ∙ ap (λ n. digits_from (v * 10 + n) ds) same ∙ digits_read (v * 10 + digit_value d) ds is.1

pub record IsNumberAt (bytes : List ℕ) (p n : ℕ) (next : List ℕ) : Type 0 where
  pub after : ℕ
  pub read : number_from bytes p ≡ Ok (record { value = n; after = after })
  pub next_at : At bytes after next

pub number_read : (bytes : List ℕ) (p b t n : ℕ) (rest : List ℕ) → At bytes p (b ∷ (decimal n ++ t ∷ rest)) → ((bs : List ℕ) → gap false (b ∷ bs) ≡ gap false bs + 1) → is_space t ≡ true → n < 2 ^ 32 → IsNumberAt bytes p n (t ∷ rest)
unfolding number_from
number_read bytes p b t n rest at separates space small =
    let is = decimal_is_IsNumeral n (omega (arith, small)) in
    let ds = decimal n in
    let one : gap false (b ∷ (ds ++ t ∷ rest)) ≡ 1 = separates (ds ++ t ∷ rest) ∙ ap (λ k. k + 1) (digits_no_gap ds (t ∷ rest) is.0) in
    let word = word_read bytes p b t ds rest at one (digits_word ds t rest is.0.1 space) in
    let value : digits_from 0 ds ≡ Some n = digits_read 0 ds is.0.1 ∙ ap Some is.1 in
    let most : min n (2 ^ 32 - 1) ≡ n = omega (arith, small) in
    let end = p + 1 + length ds in
    let the_word : Word = record { start = p + 1; end = end } in
    record {
      after = end;
      read = ap (λ (r : Result Word NetpbmError). and_then r (λ w. as_number w (digits_from 0 (slice_range bytes w.start w.end)))) word.read
          ∙ ap (λ (bs : List ℕ). as_number the_word (digits_from 0 bs)) word.text ∙ ap (as_number the_word) value
          ∙ ap (λ k. Ok (record { value = k; after = end })) most;
      next_at = word.next_at;
    }
