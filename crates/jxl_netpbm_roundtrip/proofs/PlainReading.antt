-- The headers of PGM, PPM and PFM files, read where they were written.
use Rattle.std.proofs.Common.{◌≡◌, ℕ, zero, suc, ◌+◌, ◌-◌, ◌^◌, ◌<◌, ◌≤◌, List, [], ◌∷◌, ◌++◌, Bool, true, false, Some, Ok, Err, refl, sym, ap, ◌∙◌, subst, arith, inl, inr}
use Rattle.std.specs.Prelude.{Result, if◌then◌else◌}
use Rattle.std.specs.Fmt.{decimal}
use Rattle.std.proofs.Math.Nat.{pow-le-pow_right}
use Rattle.std.proofs.lemmas.Bool.{cases_lt}
use Rattle.jxl_netpbm_read.specs.Headers.{plain_from}
use Rattle.jxl_netpbm_read.specs.Parts.{as_bits, as_side, bits_from, bits_of, is_side, side_from}
use Rattle.jxl_netpbm_read.specs.Words.{and_then, gap as gap_of, is_space}
use Rattle.jxl_netpbm_read.specs.declared.error.NetpbmError.{NetpbmError}
use Rattle.jxl_netpbm_read.specs.declared.error.NetpbmError.TheVariants.{Size}
use Rattle.jxl_netpbm_read.specs.declared.header.Header.{Header}
use Rattle.jxl_netpbm_read.specs.declared.header.Storage.TheVariants.{Numbers}
use Rattle.jxl_netpbm_read.specs.declared.words.Number.{Number}
use Rattle.jxl_netpbm_read.proofs.Places.{side_most}
use Rattle.jxl_netpbm_roundtrip.proofs.WordReading.{At, IsNumberAt, at_more, number_read}

-- what holds of each number from 1 to k
abbrev pub HoldsTo : (ℕ → Type 0) → ℕ → Type 0
HoldsTo P zero = Unit {0}
HoldsTo P (suc k) = P (suc k) × HoldsTo P k

pub holds_to : (P : ℕ → Type 0) (k n : ℕ) → HoldsTo P k → 1 ≤ n → n ≤ k → P n
holds_to P zero n all low high = absurd (omega (arith, low, high))
holds_to P (suc k) n all low high = elim (cases_lt n (suc k)) [
  | inl lt ↦ holds_to P k n all.1 low (omega (arith, lt))
  | inr ge ↦ let same : suc k ≡ n = omega (arith, ge, high) in subst P same all.0
]

-- the number of bits by the maximum
pub bits_of-maximum : (bits : ℕ) → 1 ≤ bits → bits ≤ 16 → bits_of (2 ^ bits - 1) ≡ Some bits
bits_of-maximum bits low high = holds_to (λ n. bits_of (2 ^ n - 1) ≡ Some n) 16 bits (refl, (refl, (refl, (refl, (refl, (refl, (refl, (refl, (refl, (refl, (refl, (refl, (refl, (refl, (refl, (refl, tt)))))))))))))))) low high

pub maximum_small : (bits : ℕ) → bits ≤ 16 → 2 ^ bits - 1 < 2 ^ 32
maximum_small bits high = let p : 2 ^ bits ≤ 2 ^ 16 = pow-le-pow_right {n = 2} (omega arith) high in omega (arith, p)

-- bytes between words: the first before a word, the second after it
pub record Separates (b t : ℕ) : Type 0 where
  pub gap : (bs : List ℕ) → gap_of false (b ∷ bs) ≡ gap_of false bs + 1
  pub space : is_space t ≡ true

pub after_line : Separates 10 32
after_line = record { gap = λ bs. refl; space = refl }

pub after_word : Separates 32 10
after_word = record { gap = λ bs. refl; space = refl }

pub line_to_line : Separates 10 10
line_to_line = record { gap = λ bs. refl; space = refl }

-- the header of a PGM or PPM file with these numbers
abbrev plain_header : ℕ → ℕ → Bool → Number → Result Header NetpbmError
plain_header w h is_grey n = Ok (record { width = w; height = h; grey = is_grey; alpha = false; storage = Numbers n.value; start = n.after + 1 })

-- a number of which this is read next
pub record IsReadAs {A : Type 0} (bytes : List ℕ) (r : ℕ → Result A NetpbmError) (a : ℕ → A) (next : List ℕ) : Type 0 where
  pub after : ℕ
  pub read : r after ≡ Ok (a after)
  pub next_at : At bytes after next

pub side_read : (bytes : List ℕ) (p b t n : ℕ) (rest : List ℕ) → At bytes p (b ∷ (decimal n ++ t ∷ rest)) → Separates b t → is_side n ≡ true →
    IsReadAs bytes (λ q. side_from bytes p) (λ q. record { value = n; after = q }) (t ∷ rest)
unfolding side_from
side_read bytes p b t n rest at separates side =
    let most = side_most n side in
    let number : IsNumberAt bytes p n (t ∷ rest) = number_read bytes p b t n rest at separates.gap separates.space (omega (arith, most)) in
    let good : Result Number NetpbmError = Ok (record { value = n; after = number.after }) in
    let bad : Result Number NetpbmError = Err Size in
    let P : Bool → Type 0 = λ v. (if v then good else bad) ≡ good in
    record { after = number.after; read = ap (λ (r : Result Number NetpbmError). and_then r as_side) number.read ∙ subst P (sym side) refl; next_at = number.next_at }

pub bits_read : (bytes : List ℕ) (p b t bits : ℕ) (rest : List ℕ) → At bytes p (b ∷ (decimal (2 ^ bits - 1) ++ t ∷ rest)) → Separates b t → 1 ≤ bits → bits ≤ 16 →
    IsReadAs bytes (λ q. bits_from bytes p) (λ q. record { value = bits; after = q }) (t ∷ rest)
unfolding bits_from
bits_read bytes p b t bits rest at separates low high =
    let number : IsNumberAt bytes p (2 ^ bits - 1) (t ∷ rest) = number_read bytes p b t (2 ^ bits - 1) rest at separates.gap separates.space (maximum_small bits high) in
    record {
      after = number.after;
      read = ap (λ (r : Result Number NetpbmError). and_then r (λ n. as_bits n.after (bits_of n.value))) number.read ∙ ap (as_bits number.after) (bits_of-maximum bits low high);
      next_at = number.next_at;
    }

pub plain_read : (bytes : List ℕ) (p : ℕ) (is_grey : Bool) (w h bits : ℕ) (raster : List ℕ) →
    At bytes p (10 ∷ (decimal w ++ 32 ∷ (decimal h ++ 10 ∷ (decimal (2 ^ bits - 1) ++ 10 ∷ raster)))) → is_side w ≡ true → is_side h ≡ true → 1 ≤ bits → bits ≤ 16 →
    IsReadAs bytes (λ q. plain_from bytes is_grey p) (λ q. record { width = w; height = h; grey = is_grey; alpha = false; storage = Numbers bits; start = q }) raster
unfolding plain_from
plain_read bytes p is_grey w h bits raster at wide high low few =
    let width = side_read bytes p 10 32 w (decimal h ++ 10 ∷ (decimal (2 ^ bits - 1) ++ 10 ∷ raster)) at after_line wide in
    let height = side_read bytes width.after 32 10 h (decimal (2 ^ bits - 1) ++ 10 ∷ raster) width.next_at after_word high in
    let depth = bits_read bytes height.after 10 10 bits raster height.next_at line_to_line low few in
    let the_w : Number = record { value = w; after = width.after } in
    let the_h : Number = record { value = h; after = height.after } in
    record {
      after = depth.after + 1;
      read = ap (λ (r : Result Number NetpbmError). and_then r (λ a. and_then (side_from bytes a.after) (λ b. and_then (bits_from bytes b.after) (λ n.
          plain_header a.value b.value is_grey n)))) width.read
          ∙ ap (λ (r : Result Number NetpbmError). and_then r (λ b. and_then (bits_from bytes b.after) (λ n. plain_header w b.value is_grey n))) height.read
          ∙ ap (λ (r : Result Number NetpbmError). and_then r (λ n. plain_header w h is_grey n)) depth.read;
      next_at = at_more bytes depth.after (10 ∷ []) raster depth.next_at;
    }
