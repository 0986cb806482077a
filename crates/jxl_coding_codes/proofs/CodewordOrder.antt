-- Codewords in their order: where a symbol stands among those of its length, and how codewords of two lengths compare.
use Rattle.std.specs.Prelude.{◌≡◌, ◌≢◌, ℕ, zero, suc, ◌+◌, ◌-◌, ◌*◌, ◌/◌, ◌^◌, ◌<◌, ◌≤◌, ◌⊎◌, List, [], ◌∷◌, ◌++◌, length, true, false, ◌==◌, slice_index}
use Rattle.std.proofs.Common.{refl, sym, ap, subst, inl, inr, arith}
use Rattle.std.proofs.lemmas.Bool.{cases_order, cases_lt, cases_eq}
use Rattle.std.proofs.lemmas.Bool.Decides.{nat_tests}
use Rattle.std.proofs.lemmas.List.{append-nil, get_or_push, get_or_append_left, length_push}
use Rattle.std.proofs.lemmas.Nat.{pow_pos, le-div}
use Rattle.std.proofs.Math.Nat.{pow-suc, mul_assoc, mul_comm}
use Rattle.jxl_coding_codes.specs.PrefixCodes.{of_length}
use Rattle.jxl_coding_codes.specs.Codewords.{codewords_of, first_codeword, codeword_of, HasCodeword}

module _ (lengths : List ℕ) (l : ℕ) where
  -- Symbols of a length.

  pub added : (n : ℕ) → (slice_index lengths n ≡ l) → of_length l lengths (suc n) ≡ of_length l lengths n ++ n ∷ []
  unfolding of_length
  added n h = let t : (slice_index lengths n == l) ≡ true = grind (arith, nat_tests) in rw t refl

  pub passed : (n : ℕ) → (slice_index lengths n ≢ l) → of_length l lengths (suc n) ≡ of_length l lengths n
  unfolding of_length
  passed n h = let t : (slice_index lengths n == l) ≡ false = grind (arith, nat_tests) in rw t (append-nil (of_length l lengths n))

  pub of_none : length (of_length l lengths zero) ≡ 0
  unfolding of_length
  of_none = refl

  decided : (n : ℕ) → ((slice_index lengths n ≡ l) ⊎ (slice_index lengths n ≢ l))
  decided n = cases_eq (slice_index lengths n) l

  -- a symbol is not yet among those before it
  pub rank_below : (symbol n : ℕ) → symbol < n → slice_index lengths symbol ≡ l → length (of_length l lengths symbol) < length (of_length l lengths n)
  rank_below symbol zero lt h = absurd (omega (arith, lt))
  rank_below symbol (suc n) lt h =
      elim (cases_order symbol n) [
        | inl e ↦ rw (added n (subst (λ (m : ℕ). slice_index lengths m ≡ l) e h), e, length_push (of_length l lengths n) n) (omega arith)
        | inr k ↦ elim k [
          | inl less ↦ let before : length (of_length l lengths symbol) < length (of_length l lengths n) = rank_below symbol n less h in
              elim (decided n) [
                | inl same ↦ rw (added n same, length_push (of_length l lengths n) n) (omega arith)
                | inr other ↦ rw (passed n other) before
              ]
          | inr more ↦ absurd (omega (arith, more, lt))
        ]
      ]

  -- the symbol that stands where one does is this one
  pub at_rank : (symbol n : ℕ) → symbol < n → slice_index lengths symbol ≡ l → slice_index (of_length l lengths n) (length (of_length l lengths symbol)) ≡ symbol
  at_rank symbol zero lt h = absurd (omega (arith, lt))
  at_rank symbol (suc n) lt h =
      elim (cases_order symbol n) [
        | inl e ↦ rw (added n (subst (λ (m : ℕ). slice_index lengths m ≡ l) e h), e) (get_or_push (of_length l lengths n) n 0 (length (of_length l lengths n)) refl)
        | inr k ↦ elim k [
          | inl less ↦ let before : slice_index (of_length l lengths n) (length (of_length l lengths symbol)) ≡ symbol = at_rank symbol n less h in
              elim (decided n) [
                | inl same ↦ rw (added n same, get_or_append_left (of_length l lengths n) (n ∷ []) 0 (length (of_length l lengths symbol)) (rank_below symbol n less h)) before
                | inr other ↦ rw (passed n other) before
              ]
          | inr more ↦ absurd (omega (arith, more, lt))
        ]
      ]

  -- each place is the place of a symbol
  pub record Ranked (n place : ℕ) : Type 0 where
    pub symbol : ℕ
    pub within : symbol < n
    pub length_is : slice_index lengths symbol ≡ l
    pub place_is : length (of_length l lengths symbol) ≡ place

  pub ranked : (n place : ℕ) → place < length (of_length l lengths n) → Ranked n place
  ranked zero place lt = absurd (omega (arith, lt, of_none))
  ranked (suc n) place lt =
      elim (decided n) [
        | inl same ↦
            let up : place < length (of_length l lengths n) + 1 = rw (← (length_push (of_length l lengths n) n), ← (added n same)) lt in
            elim (cases_lt place (length (of_length l lengths n))) [
              | inl less ↦ let r = ranked n place less in record { symbol = r.symbol; within = let w : r.symbol < n = r.within in omega arith; length_is = r.length_is; place_is = r.place_is }
              | inr more ↦ record { symbol = n; within = omega arith; length_is = same; place_is = omega arith }
            ]
        | inr other ↦
            let r = ranked n place (rw (passed n other) at lt) in
            record { symbol = r.symbol; within = let w : r.symbol < n = r.within in omega arith; length_is = r.length_is; place_is = r.place_is }
      ]

  pub fewer : (n : ℕ) → length (of_length l lengths n) ≤ n
  fewer zero = omega (arith, of_none)
  fewer (suc n) =
      let before : length (of_length l lengths n) ≤ n = fewer n in
      elim (decided n) [
        | inl same ↦ rw (added n same, length_push (of_length l lengths n) n) (omega arith)
        | inr other ↦ rw (passed n other) (omega arith)
      ]

module _ (lengths : List ℕ) where
  -- the codewords after those of a length are longer
  pub grows : (l d : ℕ) → (first_codeword lengths l + codewords_of lengths l) * 2 ^ suc d ≤ first_codeword lengths (l + suc d)
  grows l zero =
      let e : l + 1 ≡ suc l = omega arith in
      rw e (omega arith)
  grows l (suc d) =
      let e : l + suc (suc d) ≡ suc (l + suc d) = omega arith in
      let before : (first_codeword lengths l + codewords_of lengths l) * 2 ^ suc d ≤ first_codeword lengths (l + suc d) = grows l d in
      let turned : (first_codeword lengths l + codewords_of lengths l) * 2 ^ suc (suc d) ≡ 2 * ((first_codeword lengths l + codewords_of lengths l) * 2 ^ suc d) =
      rw (pow-suc 2 (suc d), ← (mul_assoc (first_codeword lengths l + codewords_of lengths l) (2 ^ suc d) 2)) (mul_comm ((first_codeword lengths l + codewords_of lengths l) * 2 ^ suc d) 2) in
      rw (e, turned) (omega (arith, before))

  rank_among : (symbol : ℕ) → HasCodeword lengths symbol → length (of_length (slice_index lengths symbol) lengths symbol) < codewords_of lengths (slice_index lengths symbol)
  rank_among symbol h = among (slice_index lengths symbol) refl h.1
    where
      among : (l : ℕ) → slice_index lengths symbol ≡ l → 0 < l → length (of_length l lengths symbol) < codewords_of lengths l
      among zero e some = absurd (omega (arith, some))
      among (suc l) e some = rank_below lengths (suc l) symbol (length lengths) h.0 e

  pub codeword_below : (symbol : ℕ) → HasCodeword lengths symbol → codeword_of lengths symbol < first_codeword lengths (slice_index lengths symbol) + codewords_of lengths (slice_index lengths symbol)
  codeword_below symbol h = omega (arith, rank_among symbol h)

  apart : (l s t : ℕ) → slice_index lengths s ≡ l → slice_index lengths t ≡ l → s ≢ t → length (of_length l lengths s) ≢ length (of_length l lengths t)
  apart l s t a b other =
      elim (cases_order s t) [
        | inl e ↦ absurd (other e)
        | inr k ↦ elim k [
          | inl less ↦ let r = rank_below lengths l s t less a in λ e. omega (arith, r, e)
          | inr more ↦ let r = rank_below lengths l t s more b in λ e. omega (arith, r, e)
        ]
      ]

  same_length : (l s t : ℕ) → slice_index lengths s ≡ l → slice_index lengths t ≡ l → s ≢ t → codeword_of lengths t / 2 ^ (l - l) ≢ codeword_of lengths s
  same_length l s t a b other = λ e.
      let z : l - l ≡ 0 = omega arith in
      let f : codeword_of lengths t / 2 ^ 0 ≡ codeword_of lengths s = rw z at e in
      let h : codeword_of lengths t ≡ codeword_of lengths s = omega (arith, f) in
      let ct : codeword_of lengths t ≡ first_codeword lengths l + length (of_length l lengths t) = ap (λ (n : ℕ). first_codeword lengths n + length (of_length n lengths t)) b in
      let cs : codeword_of lengths s ≡ first_codeword lengths l + length (of_length l lengths s) = ap (λ (n : ℕ). first_codeword lengths n + length (of_length n lengths s)) a in
      apart l s t a b other (omega (arith, h, ct, cs))

  longer : (s t : ℕ) → HasCodeword lengths s → slice_index lengths s < slice_index lengths t → codeword_of lengths t / 2 ^ (slice_index lengths t - slice_index lengths s) ≢ codeword_of lengths s
  longer s t h lt = λ e.
      let d = slice_index lengths t - slice_index lengths s - 1 in
      let gap : slice_index lengths t - slice_index lengths s ≡ suc d = omega arith in
      let end : slice_index lengths s + suc d ≡ slice_index lengths t = omega arith in
      let up : (first_codeword lengths (slice_index lengths s) + codewords_of lengths (slice_index lengths s)) * 2 ^ suc d ≤ first_codeword lengths (slice_index lengths t) = subst (λ (n : ℕ). (first_codeword lengths (slice_index lengths s) + codewords_of lengths (slice_index lengths s)) * 2 ^ suc d ≤ first_codeword lengths n) end (grows (slice_index lengths s) d) in
      let least : first_codeword lengths (slice_index lengths s) + codewords_of lengths (slice_index lengths s) ≤ codeword_of lengths t / 2 ^ suc d = le-div _ (codeword_of lengths t) (2 ^ suc d) (pow_pos (suc d)) (omega (arith, up)) in
      let f : codeword_of lengths t / 2 ^ suc d ≡ codeword_of lengths s = rw gap at e in
      let b = codeword_below s h in
      omega (arith, least, f, b)

  -- no codeword begins another
  pub begins_none : (s t : ℕ) → HasCodeword lengths s → HasCodeword lengths t → s ≢ t → slice_index lengths s ≤ slice_index lengths t →
      codeword_of lengths t / 2 ^ (slice_index lengths t - slice_index lengths s) ≢ codeword_of lengths s
  begins_none s t h k other le =
      elim (cases_lt (slice_index lengths s) (slice_index lengths t)) [
        | inl lt ↦ longer s t h lt
        | inr ge ↦
            let e : slice_index lengths t ≡ slice_index lengths s = omega arith in
            subst (λ (n : ℕ). codeword_of lengths t / 2 ^ (n - slice_index lengths s) ≢ codeword_of lengths s) (sym e) (same_length (slice_index lengths s) s t refl e other)
      ]
