-- A row is read word by word.
use Rattle.std.proofs.Common.{◌≡◌, ◌≢◌, ℕ, zero, suc, ◌+◌, ◌-◌, ◌^◌, ◌<◌, ◌≤◌, ℤ, pos, negsuc, List, [], ◌∷◌, ◌++◌, length, drop, map, Bool, true, false, refl, sym, ap, ◌∙◌, subst, arith, eqb}
use Rattle.std.specs.Prelude.{FitsSigned}
use Rattle.std.specs.Fmt.{decimal, signed_decimal}
use Rattle.std.specs.Int.{Width, w32}
use Rattle.std.specs.List.{All, flat_map}
use Rattle.std.proofs.lemmas.Bool.Decides.{nat_tests}
use Rattle.std.proofs.lemmas.Int.{ints}
use Rattle.std.proofs.lemmas.List.{append_assoc, append-nil, length-append, length-drop, length-map, map-append, nil_from_length}
use Rattle.std.proofs.lemmas.List.Concat.{flat_map-append}
use Rattle.std.proofs.lemmas.List.Elements.{All-nil, All-head, All-tail, All-push, All-map, All-drop}
use Rattle.jxl_text.specs.Printing.{line, row_text}
use Rattle.jxl_text.specs.Inner.Cuts.{Lacks, IsCut}
use Rattle.jxl_text.specs.Inner.Words.{WritesNoSample, WritesSample}
use Rattle.jxl_text.specs.Inner.Rows.{IsNoRow, IsRow, RowGives}
use Rattle.jxl_text.proofs.Cuts.{SameCut, cut_one, cut_is, no_cut, Lacks-append}
use Rattle.jxl_text.proofs.Decimals.{decimal_lacks}

-- numbers of this width fit 32 bits
abbrev pub Fits32 : Width → Type 0
Fits32 w = (z : ℤ) → FitsSigned w z → FitsSigned w32 z

-- a number lacks what is no digit and no minus
number_lacks : (c : ℕ) (z : ℤ) → (c < 45) → FitsSigned w32 z → Lacks c (signed_decimal z)
number_lacks c (pos n) low fits = decimal_lacks c n (λ r. omega (arith, low, r.0)) (omega (arith, ints, fits))
number_lacks c (negsuc n) low fits = (λ e. omega (arith, low, e), decimal_lacks c (suc n) (λ r. omega (arith, low, r.0)) (omega (arith, ints, fits)))

-- the numbers of a row with a space after each
abbrev pub words_text : List ℤ → List ℕ
words_text numbers = flat_map (λ z. signed_decimal z ++ 32 ∷ []) numbers

row_step : (y z : ℤ) (zs : List ℤ) → row_text (y ∷ z ∷ zs) ≡ signed_decimal y ++ 32 ∷ row_text (z ∷ zs)
row_step y z zs = refl

-- the row with one more word at its end
pub row_ended : (row : List ℤ) (z : ℤ) → words_text row ++ signed_decimal z ≡ row_text (row ++ z ∷ [])
row_ended [] z = refl
row_ended (x ∷ []) z =
    ap (λ xs. xs ++ signed_decimal z) (append-nil (signed_decimal x ++ 32 ∷ [])) ∙ append_assoc (signed_decimal x) (32 ∷ []) (signed_decimal z)
row_ended (x ∷ y ∷ ys) z =
    append_assoc (signed_decimal x ++ 32 ∷ []) (words_text (y ∷ ys)) (signed_decimal z)
    ∙ append_assoc (signed_decimal x) (32 ∷ []) (words_text (y ∷ ys) ++ signed_decimal z)
    ∙ ap (λ xs. signed_decimal x ++ 32 ∷ xs) (row_ended (y ∷ ys) z)

pub words_more : (row : List ℤ) (z : ℤ) → words_text (row ++ z ∷ []) ≡ words_text row ++ (signed_decimal z ++ 32 ∷ [])
words_more row z = flat_map-append (λ v. signed_decimal v ++ 32 ∷ []) row (z ∷ []) ∙ ap (λ xs. words_text row ++ xs) (append-nil (signed_decimal z ++ 32 ∷ []))

module _ (w : Width) (narrow : Fits32 w) where
  word_lacks : (c : ℕ) (z : ℤ) → c < 45 → FitsSigned w z → Lacks c (signed_decimal z)
  word_lacks c z low fits = number_lacks c z low (narrow z fits)

  -- what is left of a row after some of its words
  pub left_of : (row numbers : List ℤ) (left : List ℕ) → length row < length numbers → All (FitsSigned w) row → All (FitsSigned w) numbers → words_text row ++ left ≡ row_text numbers → left ≡ row_text (drop (length row) numbers)
  left_of [] numbers left short fit fits is = is
  left_of (x ∷ xs) [] left short fit fits is = absurd (omega arith)
  left_of (x ∷ xs) (y ∷ []) left short fit fits is = absurd (omega arith)
  left_of (x ∷ xs) (y ∷ z ∷ zs) left short fit fits is =
      let first = word_lacks 32 x (omega arith) (All-head (FitsSigned w) x xs fit) in
      let second = word_lacks 32 y (omega arith) (All-head (FitsSigned w) y (z ∷ zs) fits) in
      let parted : signed_decimal x ++ 32 ∷ (words_text xs ++ left) ≡ signed_decimal y ++ 32 ∷ row_text (z ∷ zs) =
      sym (append_assoc (signed_decimal x ++ 32 ∷ []) (words_text xs) left ∙ append_assoc (signed_decimal x) (32 ∷ []) (words_text xs ++ left)) ∙ is in
      let same : SameCut (signed_decimal x) (signed_decimal y) (words_text xs ++ left) (row_text (z ∷ zs)) = cut_one 32 (signed_decimal x) (signed_decimal y) (words_text xs ++ left) (row_text (z ∷ zs)) first second parted in
      left_of xs (z ∷ zs) left (omega arith) (All-tail (FitsSigned w) x xs fit) (All-tail (FitsSigned w) y (z ∷ zs) fits) same.after

  -- more words than one are cut at a space
  pub some_cut : (numbers : List ℤ) (left : List ℕ) → 1 < length numbers → left ≡ row_text numbers → Lacks 32 left → ⊥
  some_cut [] left many is lacks = omega arith
  some_cut (y ∷ []) left many is lacks = omega arith
  some_cut (y ∷ z ∷ zs) left many is lacks = no_cut 32 left (signed_decimal y) (row_text (z ∷ zs)) lacks is

  pub first_word : (numbers : List ℤ) (left word after : List ℕ) → 1 < length numbers → All (FitsSigned w) numbers → left ≡ row_text numbers → IsCut 32 left word after → WritesNoSample w word → ⊥
  first_word [] left word after many fits is cut none = omega arith
  first_word (y ∷ []) left word after many fits is cut none = omega arith
  first_word (y ∷ z ∷ zs) left word after many fits is cut none =
      let own = All-head (FitsSigned w) y (z ∷ zs) fits in
      none y own (cut_is 32 left word after (signed_decimal y) (row_text (z ∷ zs)) cut is (word_lacks 32 y (omega arith) own)).before

  pub last_word : (numbers : List ℤ) (left : List ℕ) → length numbers ≡ 1 → All (FitsSigned w) numbers → left ≡ row_text numbers → WritesNoSample w left → ⊥
  last_word [] left one fits is none = omega arith
  last_word (y ∷ []) left one fits is none = none y (All-head (FitsSigned w) y [] fits) is
  last_word (y ∷ z ∷ zs) left one fits is none = omega arith

  -- no line ends within a row
  pub row_lacks : (numbers : List ℤ) → All (FitsSigned w) numbers → Lacks 10 (row_text numbers)
  row_lacks [] fits = tt
  row_lacks (y ∷ []) fits = word_lacks 10 y (omega arith) (All-head (FitsSigned w) y [] fits)
  row_lacks (y ∷ z ∷ zs) fits =
      Lacks-append 10 (signed_decimal y) (32 ∷ row_text (z ∷ zs)) (word_lacks 10 y (omega arith) (All-head (FitsSigned w) y (z ∷ zs) fits))
      (λ e. omega (arith, e), row_lacks (z ∷ zs) (All-tail (FitsSigned w) y (z ∷ zs) fits))

-- ---- the cells that were read so far, and what is left of the line
pub record Begun {S : Type 0} (to_int : S → ℤ) (w : Width) (line left : List ℕ) (before now : List S) (i : ℕ) : Type 0 where
  pub row : List S
  pub cells : now ≡ before ++ row
  pub count : length row + 1 ≡ i
  pub fit : All (λ s. FitsSigned w (to_int s)) row
  pub read : line ≡ words_text (map to_int row) ++ left

module _ {S : Type 0} (to_int : S → ℤ) (w : Width) where
  pub go_on : (line left word after : List ℕ) (before now next : List S) (i : ℕ) (s : S) → Begun to_int w line left before now i → IsCut 32 left word after → WritesSample w word (to_int s) → next ≡ now ++ s ∷ [] → Begun to_int w line after before next (i + 1)
  go_on line left word after before now next i s begun cut writes pushed =
      let row = begun.row in
      let numbers : List ℤ = map to_int row in
      record {
        row = row ++ s ∷ [];
        cells = pushed ∙ ap (λ (xs : List S). xs ++ s ∷ []) begun.cells ∙ append_assoc before row (s ∷ []);
        count = let n = length-append row (s ∷ []) in omega (arith, begun.count);
        fit = All-push (λ (x : S). FitsSigned w (to_int x)) row s begun.fit writes.fits;
        read =
            begun.read ∙ ap (λ xs. words_text numbers ++ xs) (cut.is ∙ ap (λ xs. xs ++ 32 ∷ after) writes.written)
            ∙ ap (λ xs. words_text numbers ++ xs) (sym (append_assoc (signed_decimal (to_int s)) (32 ∷ []) after))
            ∙ sym (append_assoc (words_text numbers) (signed_decimal (to_int s) ++ 32 ∷ []) after)
            ∙ ap (λ xs. xs ++ after) (sym (words_more numbers (to_int s)))
            ∙ ap (λ (zs : List ℤ). words_text zs ++ after) (sym (map-append to_int row (s ∷ [])));
      }

  pub ended : (line left : List ℕ) (before now next : List S) (width i : ℕ) (s : S) → Begun to_int w line left before now i → i ≡ width → WritesSample w left (to_int s) → next ≡ now ++ s ∷ [] → RowGives to_int w width line before next true
  ended line left before now next width i s begun all writes pushed =
      let row = begun.row in (
        row ++ s ∷ [],
        pushed ∙ ap (λ (xs : List S). xs ++ s ∷ []) begun.cells ∙ append_assoc before row (s ∷ []),
        record {
          count = let n = length-append row (s ∷ []) in omega (arith, begun.count, all);
          fit = All-push (λ (x : S). FitsSigned w (to_int x)) row s begun.fit writes.fits;
          printed =
              begun.read ∙ ap (λ xs. words_text (map to_int row) ++ xs) writes.written ∙ row_ended (map to_int row) (to_int s)
              ∙ ap row_text (sym (map-append to_int row (s ∷ [])));
        },
      )

  fit_numbers : (row : List S) → All (λ s. FitsSigned w (to_int s)) row → All (FitsSigned w) (map to_int row)
  fit_numbers row fit = All-map (FitsSigned w) to_int row fit

  module _ (narrow : Fits32 w) (line left : List ℕ) (before now : List S) (width i : ℕ) (begun : Begun to_int w line left before now i) where
    -- the numbers that are still to come
    abbrev coming : List ℤ → List ℤ
    coming numbers = drop (length (map to_int begun.row)) numbers

    many : (numbers : List ℤ) → length numbers ≡ width → i < width → 1 < length (coming numbers)
    many numbers count more = let n = length-map begun.row to_int in let d = length-drop (length (map to_int begun.row)) numbers in omega (arith, begun.count, count, more)

    one : (numbers : List ℤ) → length numbers ≡ width → i ≡ width → length (coming numbers) ≡ 1
    one numbers count all = let n = length-map begun.row to_int in let d = length-drop (length (map to_int begun.row)) numbers in omega (arith, begun.count, count, all)

    coming_text : (numbers : List ℤ) → i ≤ width → length numbers ≡ width → All (FitsSigned w) numbers → line ≡ row_text numbers → left ≡ row_text (coming numbers)
    coming_text numbers within count fits is =
        let n = length-map begun.row to_int in
        left_of w narrow (map to_int begun.row) numbers left (omega (arith, begun.count, count, within)) (fit_numbers begun.row begun.fit) fits (sym begun.read ∙ is)

    coming_fit : (numbers : List ℤ) → All (FitsSigned w) numbers → All (FitsSigned w) (coming numbers)
    coming_fit numbers fits = All-drop (FitsSigned w) (length (map to_int begun.row)) numbers fits

    pub uncut : i < width → Lacks 32 left → IsNoRow w width line
    uncut more lacks numbers count fits is =
        some_cut w narrow (coming numbers) left (many numbers count more) (coming_text numbers (omega arith) count fits is) lacks

    pub no_word : (word after : List ℕ) → i < width → IsCut 32 left word after → WritesNoSample w word → IsNoRow w width line
    no_word word after more cut none numbers count fits is =
        first_word w narrow (coming numbers) left word after (many numbers count more) (coming_fit numbers fits) (coming_text numbers (omega arith) count fits is) cut none

    pub no_last : i ≡ width → WritesNoSample w left → IsNoRow w width line
    no_last all none numbers count fits is =
        last_word w narrow (coming numbers) left (one numbers count all) (coming_fit numbers fits) (coming_text numbers (omega (arith, all)) count fits is) none
