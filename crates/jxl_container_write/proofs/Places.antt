-- Where boxes are that were written one behind another.
use Rattle.std.proofs.Common.{◌≡◌, ℕ, ◌+◌, ◌-◌, ◌*◌, ◌/◌, ◌%◌, ◌^◌, ◌<◌, List, ◌++◌, length, Bool, true, false, refl, sym, ap, ◌∙◌, arith, append_assoc}
use Rattle.std.specs.Prelude.{nat_lt, ◌==◌, slice_range, take, drop, if◌then◌else◌}
use Rattle.std.proofs.lemmas.List.{length-append}
use Rattle.std.proofs.lemmas.Bool.{ltb-true, ne_eqb}
use Rattle.std.proofs.Math.Seq.{drop-append_seam, take-append_seam}
use Rattle.jxl_container.specs.Boxes.{word_at, box_from}
use Rattle.jxl_container.specs.declared.boxes.FileBox.{FileBox}
use Rattle.jxl_container_write.specs.Containers.{BoxContents}
use Rattle.jxl_container_write.specs.Inner.Spelled.{word, header, box_bytes}
use Rattle.jxl_container_write.proofs.Words.{word_is, next_word_is}

-- how many bytes the header of a box has
abbrev pub header_size : ℕ → ℕ
header_size n = if nat_lt (8 + n) (2 ^ 32) then 8 else 16

-- the box at byte p
abbrev pub place_of : ℕ → BoxContents → FileBox
place_of p c = record { kind = c.0; body = p + header_size (length c.1); end = p + header_size (length c.1) + length c.1 }

-- a box whose type is a number of four bytes, and whose size one of eight
pub record Fits (c : BoxContents) : Type 0 where
  pub kind : c.0 < 2 ^ 32
  pub size : 16 + length c.1 < 2 ^ 64

length-header : (kind n : ℕ) (b : Bool) → nat_lt (8 + n) (2 ^ 32) ≡ b → length (header kind n) ≡ header_size n
length-header kind n true e = rw e refl
length-header kind n false e = rw e refl

pub length-box : (c : BoxContents) → length (box_bytes c) ≡ header_size (length c.1) + length c.1
length-box c = length-append (header c.0 (length c.1)) c.1 ∙ ap (λ n. n + length c.1) (length-header c.0 (length c.1) (nat_lt (8 + length c.1) (2 ^ 32)) refl)

-- what comes after something, up to its own length
pub middle : (xs ys zs : List ℕ) (p q : ℕ) → p ≡ length xs → q ≡ p + length ys → slice_range (xs ++ (ys ++ zs)) p q ≡ ys
middle xs ys zs p q e f =
    let n : q - p ≡ length ys = omega (arith, f) in
    ap (λ m. take m (drop p (xs ++ (ys ++ zs)))) n
    ∙ ap (λ m. take (length ys) (drop m (xs ++ (ys ++ zs)))) e
    ∙ ap (take (length ys)) (drop-append_seam xs (ys ++ zs))
    ∙ take-append_seam ys zs

module _ (xs zs : List ℕ) (c : BoxContents) (fits : Fits c) where
  abbrev file : List ℕ
  file = xs ++ (box_bytes c ++ zs)

  abbrev rest : List ℕ
  rest = c.1 ++ zs

  header_first : file ≡ xs ++ (header c.0 (length c.1) ++ rest)
  header_first = ap (λ ys. xs ++ ys) (append_assoc (header c.0 (length c.1)) c.1 zs)

  by_size : (b : Bool) → nat_lt (8 + length c.1) (2 ^ 32) ≡ b → box_from (xs ++ (header c.0 (length c.1) ++ rest)) (length xs) ≡ place_of (length xs) c
  unfolding box_from
  by_size true e =
      let small = ltb-true (8 + length c.1) (2 ^ 32) e in
      let shape : xs ++ (header c.0 (length c.1) ++ rest) ≡ xs ++ (word (8 + length c.1) ++ (word c.0 ++ rest)) = rw e refl in
      let size : word_at (xs ++ (header c.0 (length c.1) ++ rest)) (length xs) ≡ 8 + length c.1 =
      ap (λ f. word_at f (length xs)) shape ∙ word_is xs (word c.0 ++ rest) (length xs) (8 + length c.1) refl small in
      let kind : word_at (xs ++ (header c.0 (length c.1) ++ rest)) (length xs + 4) ≡ c.0 =
      ap (λ f. word_at f (length xs + 4)) shape ∙ next_word_is xs rest (length xs) (8 + length c.1) c.0 refl fits.kind in
      let not_one : (8 + length c.1 == 1) ≡ false = ne_eqb (8 + length c.1) 1 (λ h. omega (arith, h)) in
      let not_zero : (8 + length c.1 == 0) ≡ false = ne_eqb (8 + length c.1) 0 (λ h. omega (arith, h)) in
      let sum : length xs + (8 + length c.1) ≡ length xs + 8 + length c.1 = omega arith in
      rw (size, kind, not_one, not_zero, e, sum) refl
  by_size false e =
      let all = 16 + length c.1 in
      let high : (16 + length c.1) / 2 ^ 32 < 2 ^ 32 = let s = fits.size in omega (arith, s) in
      let low : (16 + length c.1) % 2 ^ 32 < 2 ^ 32 = omega arith in
      let tail : List ℕ = word ((16 + length c.1) / 2 ^ 32) ++ (word ((16 + length c.1) % 2 ^ 32) ++ rest) in
      let shape : xs ++ (header c.0 (length c.1) ++ rest) ≡ xs ++ (word 1 ++ (word c.0 ++ tail)) = rw e refl in
      let deeper : xs ++ (header c.0 (length c.1) ++ rest) ≡ (xs ++ (word 1 ++ word c.0)) ++ tail =
      shape ∙ sym (append_assoc xs (word 1 ++ word c.0) tail) in
      let l = length-append xs (word 1 ++ word c.0) in
      let eight : length xs + 8 ≡ length (xs ++ (word 1 ++ word c.0)) = omega (arith, l) in
      let twelve : length xs + 12 ≡ length xs + 8 + 4 = omega arith in
      let size : word_at (xs ++ (header c.0 (length c.1) ++ rest)) (length xs) ≡ 1 =
      ap (λ f. word_at f (length xs)) shape ∙ word_is xs (word c.0 ++ tail) (length xs) 1 refl (omega arith) in
      let kind : word_at (xs ++ (header c.0 (length c.1) ++ rest)) (length xs + 4) ≡ c.0 =
      ap (λ f. word_at f (length xs + 4)) shape ∙ next_word_is xs tail (length xs) 1 c.0 refl fits.kind in
      let first : word_at (xs ++ (header c.0 (length c.1) ++ rest)) (length xs + 8) ≡ (16 + length c.1) / 2 ^ 32 =
      ap (λ f. word_at f (length xs + 8)) deeper
      ∙ word_is (xs ++ (word 1 ++ word c.0)) (word ((16 + length c.1) % 2 ^ 32) ++ rest) (length xs + 8) ((16 + length c.1) / 2 ^ 32) eight high in
      let second : word_at (xs ++ (header c.0 (length c.1) ++ rest)) (length xs + 12) ≡ (16 + length c.1) % 2 ^ 32 =
      ap (λ f. word_at f (length xs + 12)) deeper ∙ ap (λ q. word_at ((xs ++ (word 1 ++ word c.0)) ++ tail) q) twelve
      ∙ next_word_is (xs ++ (word 1 ++ word c.0)) rest (length xs + 8) ((16 + length c.1) / 2 ^ 32) ((16 + length c.1) % 2 ^ 32) eight low in
      let sum : length xs + ((16 + length c.1) / 2 ^ 32 * 4294967296 + (16 + length c.1) % 2 ^ 32) ≡ length xs + 16 + length c.1 = omega arith in
      rw (size, kind, first, second, e, sum) refl

  -- the reader finds it at its place,
  pub box_is : box_from file (length xs) ≡ place_of (length xs) c
  box_is = ap (λ f. box_from f (length xs)) header_first ∙ by_size (nat_lt (8 + length c.1) (2 ^ 32)) refl

  -- with its contents
  pub contents_are : slice_range file (place_of (length xs) c).body (place_of (length xs) c).end ≡ c.1
  contents_are =
      let h = length-header c.0 (length c.1) (nat_lt (8 + length c.1) (2 ^ 32)) refl in
      let l = length-append xs (header c.0 (length c.1)) in
      let e : length xs + header_size (length c.1) ≡ length (xs ++ header c.0 (length c.1)) = sym (l ∙ ap (λ n. length xs + n) h) in
      ap (λ f. slice_range f (place_of (length xs) c).body (place_of (length xs) c).end) (header_first ∙ sym (append_assoc xs (header c.0 (length c.1)) rest))
      ∙ middle (xs ++ header c.0 (length c.1)) c.1 zs (length xs + header_size (length c.1)) (length xs + header_size (length c.1) + length c.1) e refl

-- a header with a size of eight bytes
pub long_header : (xs ys zs ws : List ℕ) (kind n : ℕ) → nat_lt (8 + n) (2 ^ 32) ≡ false → 16 + n < 2 ^ 64 →
    ys ≡ xs ++ (word 1 ++ word kind) → zs ≡ ys ++ word ((16 + n) / 2 ^ 32) → ws ≡ zs ++ word ((16 + n) % 2 ^ 32) → ws ≡ xs ++ header kind n
long_header xs ys zs ws kind n long small e f g =
    let shape : header kind n ≡ word 1 ++ (word kind ++ (word ((16 + n) / 2 ^ 32) ++ word ((16 + n) % 2 ^ 32))) = rw long refl in
    g ∙ ap (λ v. v ++ word ((16 + n) % 2 ^ 32)) (f ∙ ap (λ v. v ++ word ((16 + n) / 2 ^ 32)) e)
    ∙ append_assoc (xs ++ (word 1 ++ word kind)) (word ((16 + n) / 2 ^ 32)) (word ((16 + n) % 2 ^ 32))
    ∙ append_assoc xs (word 1 ++ word kind) (word ((16 + n) / 2 ^ 32) ++ word ((16 + n) % 2 ^ 32))
    ∙ ap (λ v. xs ++ v) (sym shape)
