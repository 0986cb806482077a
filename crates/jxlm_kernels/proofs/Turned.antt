-- Rows turned to lines and back.
use Rattle.std.proofs.Common.{◌≡◌, ℕ, zero, suc, ◌+◌, ◌*◌, ◌<◌, ◌≤◌, inl, inr, List, [], ◌∷◌, length, set, get_or, Some, ℤ, sym, refl, ap, ◌∙◌, subst, arith}
use Rattle.std.specs.Prelude.{slice_get, slice_range}
use Rattle.std.proofs.Math.ListN.{length-set}
use Rattle.std.proofs.Math.Nat.{mul-le-mul_right}
use Rattle.std.proofs.lemmas.Bool.{cases_lt}
use Rattle.std.proofs.lemmas.Nat.{same_from_place}
use Rattle.jxlm_lanes.specs.Pairs.{number_at, line_in}
use Rattle.jxlm_lanes.proofs.NumberAt.{slice_get-set_other, slice_get-set_same, number_same}
use Rattle.jxlm_kernels.proofs.Slices.{get-slice_range}

pub turned_within : (i n rows j room : ℕ) → i < n → j < rows → n * rows ≤ room → i * rows + j < room
turned_within i n rows j room p q r = let m = mul-le-mul_right {m = suc i} {n = n} rows (omega arith) in omega arith

pub strip_within : (i n rows j room : ℕ) → i < n → j < rows → (n + 1) * rows ≤ room → i * rows + rows + j < room
strip_within i n rows j room p q r = let m = mul-le-mul_right {m = i + 2} {n = n + 1} rows (omega arith) in omega arith

-- the numbers of a line that was read
pub line_numbers : {S : Type 0} (f : S → ℤ) (coded zs : List S) (start stride n i : ℕ) → zs ≡ slice_range coded (start + i * stride) (start + i * stride + n) → (j : ℕ) → j < n →
    number_at f zs j ≡ line_in f coded start stride j i
line_numbers f coded zs start stride n i e j q =
    number_same f zs coded j (start + i * stride + j) (ap (λ zs. slice_get zs j) e ∙ get-slice_range coded (start + i * stride) (start + i * stride + n) j (omega arith))

below_next : (P : ℕ → Type 0) (k : ℕ) → ((j : ℕ) → j < k → P j) → P k → (j : ℕ) → j < k + 1 → P j
below_next P k h p j lt = elim (cases_lt j k) [ inl l ↦ h j l | inr g ↦ let e : k ≡ j = omega arith in subst P e p ]

get_read : {S : Type 0} (xs : List S) (i : ℕ) (v : S) → i < length xs → v ≡ get_or xs i v → slice_get xs i ≡ Some v
get_read [] i v h e = absurd (omega arith)
get_read (x ∷ xs) zero v h e = ap Some (sym e)
get_read (x ∷ xs) (suc i) v h e = get_read xs i v (omega arith) e

module _ {S : Type 0} (row old : List S) (rows j : ℕ) where
  -- the first i samples of the row are copied
  pub record TurnedSoFar (turned : List S) (i : ℕ) : Type 0 where
    pub len : length turned ≡ length old
    pub copied : (k : ℕ) → k < i → slice_get turned (k * rows + j) ≡ slice_get row k
    pub kept : (k m : ℕ) → m < j → slice_get turned (k * rows + m) ≡ slice_get old (k * rows + m)

  pub turned_none : TurnedSoFar old 0
  turned_none = record { len = refl; copied = λ k h. absurd (omega arith); kept = λ k m h. refl }

  pub turned_more : (turned : List S) (i : ℕ) (v : S) → j < rows → i < length row → length row * rows ≤ length old → v ≡ get_or row i v → TurnedSoFar turned i →
      TurnedSoFar (set turned (i * rows + j) v) (i + 1)
  turned_more turned i v among h room e so_far =
      let len = so_far.len in
      let within = turned_within i (length row) rows j (length old) h among room in
      let n = length-set turned (i * rows + j) v in
      record {
        len = n ∙ len;
        copied = below_next (λ k. slice_get (set turned (i * rows + j) v) (k * rows + j) ≡ slice_get row k) i
            (λ k lt. slice_get-set_other turned (i * rows + j) (k * rows + j) v (λ same. let s = (same_from_place i j k j rows among among same).0 in omega (arith, s)) ∙ so_far.copied k lt)
            (slice_get-set_same turned (i * rows + j) v (omega arith) ∙ sym (get_read row i v h e));
        kept = λ k m lt. slice_get-set_other turned (i * rows + j) (k * rows + m) v (λ same. let s = (same_from_place i j k m rows among (omega arith) same).1 in omega (arith, s)) ∙ so_far.kept k m lt;
      }

module _ {S : Type 0} (strip old : List S) (rows j : ℕ) where
  -- the first i samples of the row are copied back
  pub record BackSoFar (row : List S) (i : ℕ) : Type 0 where
    pub len : length row ≡ length old
    pub copied : (k : ℕ) → k < i → slice_get row k ≡ slice_get strip (k * rows + rows + j)

  pub back_none : BackSoFar old 0
  back_none = record { len = refl; copied = λ k h. absurd (omega arith) }

  pub back_more : (row : List S) (i : ℕ) (v : S) → i < length old → i * rows + rows + j < length strip → v ≡ get_or strip (i * rows + rows + j) v → BackSoFar row i → BackSoFar (set row i v) (i + 1)
  back_more row i v h within e so_far =
      let len = so_far.len in
      let n = length-set row i v in
      record {
        len = n ∙ len;
        copied = below_next (λ k. slice_get (set row i v) k ≡ slice_get strip (k * rows + rows + j)) i
            (λ k lt. slice_get-set_other row i k v (λ same. omega arith) ∙ so_far.copied k lt)
            (slice_get-set_same row i v (omega arith) ∙ sym (get_read strip (i * rows + rows + j) v within e));
      }
