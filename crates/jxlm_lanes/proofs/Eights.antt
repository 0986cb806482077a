-- Lines of several columns, eight at a time.
use Rattle.std.proofs.Common.{◌≡◌, ℕ, ◌+◌, ◌*◌, ◌-◌, ◌<◌, ◌≤◌, List, [], ◌∷◌, length, get_or, map, ℤ, pos, FitsSigned, to_z, of_z, sym, refl, ap, ◌∙◌, subst, arith}
use Rattle.std.specs.Int.{Width}
use Rattle.std.proofs.lemmas.Simd.{length-put_chunk, get_or-put_chunk_below, get_or-put_chunk_at, get_or-put_chunk_above, get_or-chunk, length-chunk, Each1-from_get_or}
use lib.Lanes.{Each1, chunk, put_chunk}
use Rattle.jxlm_lanes.specs.Inner.Lanes.{lane}
use Rattle.jxlm_lanes.specs.Pairs.{number_at, first_of, second_of, of_column}
use Rattle.jxlm_lanes.proofs.Each.{same_numbers}
use Rattle.jxlm_lanes.proofs.Lines.{LinesSoFar, more_pairs}

-- numbers stand for themselves
pub same : (xs : List ℤ) → map (λ x. x) xs ≡ xs
same [] = refl
same (x ∷ xs) = ap (λ l. x ∷ l) (same xs)

pub number_lane : (xs : List ℤ) (i : ℕ) → number_at (λ x. x) xs i ≡ lane xs i
number_lane xs i = ap (λ l. get_or l i (pos 0)) (same xs)

-- numbers that fit, as bits and back
abbrev pub back : Width → List ℤ → List ℤ
back w xs = map (to_z w) (map (of_z w) xs)

pub back_fits : (w : Width) (xs : List ℤ) → Each1 (FitsSigned w) xs → Each1 (FitsSigned w) (back w xs)
back_fits w xs h = subst (Each1 (FitsSigned w)) (sym (same_numbers w xs h)) h

-- a chunk of numbers that fit fits
pub chunk_fits : (w : Width) (xs : List ℤ) (i : ℕ) → i + 8 ≤ length xs → ((j : ℕ) → j < 8 → FitsSigned w (lane xs (i + j))) → Each1 (FitsSigned w) (chunk i 8 xs)
chunk_fits w xs i le h =
    let n = length-chunk i 8 xs le in
    Each1-from_get_or (FitsSigned w) (chunk i 8 xs) (pos 0) (λ k lt. subst (FitsSigned w) (sym (get_or-chunk i 8 xs k (pos 0) (omega arith))) (h k (omega arith)))

-- lane j of a chunk of numbers that fit, as bits and back
pub moved : (w : Width) (xs : List ℤ) (i j : ℕ) → i + 8 ≤ length xs → ((j : ℕ) → j < 8 → FitsSigned w (lane xs (i + j))) → j < 8 → lane (back w (chunk i 8 xs)) j ≡ lane xs (i + j)
moved w xs i j le h lt = ap (λ l. lane l j) (same_numbers w (chunk i 8 xs) (chunk_fits w xs i le h)) ∙ get_or-chunk i 8 xs j (pos 0) lt

-- a number that is as before fits as before
pub still_fits : (w : Width) (xs ys : List ℤ) (k : ℕ) → number_at (λ x. x) ys k ≡ number_at (λ x. x) xs k → FitsSigned w (lane xs k) → FitsSigned w (lane ys k)
still_fits w xs ys k e h = subst (FitsSigned w) (sym (sym (number_lane ys k) ∙ e ∙ number_lane xs k)) h

pub four : (p : ℤ → ℤ → ℤ → ℤ → ℤ) (a a2 b b2 c c2 d d2 : ℤ) → a ≡ a2 → b ≡ b2 → c ≡ c2 → d ≡ d2 → p a b c d ≡ p a2 b2 c2 d2
four p a a2 b b2 c c2 d d2 ea eb ec ed = ap (λ z. p z b c d) ea ∙ ap (λ z. p a2 z c d) eb ∙ ap (λ z. p a2 b2 z d) ec ∙ ap (p a2 b2 c2) ed

module _ (w : Width) (averages next residuals old : List ℤ) (n start : ℕ) where
  abbrev column : (ℤ → ℤ → ℤ → ℤ → ℤ) → List ℤ → ℕ → ℤ
  column p strip i = of_column (λ x. x) w averages next residuals n start p strip i

  lanes_of : (p : ℤ → ℤ → ℤ → ℤ → ℤ) (strip : List ℤ) (i : ℕ) → p (lane strip (start + i)) (lane averages i) (lane next i) (lane residuals i) ≡ column p strip i
  lanes_of p strip i =
      four p _ _ _ _ _ _ _ _ (sym (number_lane strip (start + i))) (sym (number_lane averages i)) (sym (number_lane next i)) (sym (number_lane residuals i))

  -- columns up to i are undone, and so are eight more
  pub eight_more : (strip one two : List ℤ) (i : ℕ) → i + 8 ≤ n → start + 3 * n ≤ length old → length one ≡ 8 → length two ≡ 8 →
      ((j : ℕ) → j < 8 → lane one j ≡ first_of w (lane strip (start + (i + j))) (lane averages (i + j)) (lane next (i + j)) (lane residuals (i + j))) →
      ((j : ℕ) → j < 8 → lane two j ≡ second_of w (lane strip (start + (i + j))) (lane averages (i + j)) (lane next (i + j)) (lane residuals (i + j))) →
      ((j : ℕ) → j < n → FitsSigned w (lane averages j)) → ((j : ℕ) → j < n → FitsSigned w (lane residuals j)) →
      LinesSoFar (λ x. x) w averages next residuals old n start strip i →
      LinesSoFar (λ x. x) w averages next residuals old n start (put_chunk (start + 2 * n + i) (put_chunk (start + n + i) strip one) two) (i + 8)
  eight_more strip one two i le room l1 l2 first second averages_fit residuals_fit so_far =
      let len = so_far.len in
      let mid : List ℤ = put_chunk (start + n + i) strip one in
      let later : List ℤ = put_chunk (start + 2 * n + i) mid two in
      let len1 = length-put_chunk (start + n + i) strip one in
      let len2 = length-put_chunk (start + 2 * n + i) mid two in
      let below : (k : ℕ) → k < start + n + i → lane later k ≡ lane strip k =
      λ k h. get_or-put_chunk_below (start + 2 * n + i) mid two k (pos 0) (omega arith) ∙ get_or-put_chunk_below (start + n + i) strip one k (pos 0) h in
      let between : (k : ℕ) → start + n + i + 8 ≤ k → k < start + 2 * n + i → lane later k ≡ lane strip k =
      λ k g h. get_or-put_chunk_below (start + 2 * n + i) mid two k (pos 0) h ∙ get_or-put_chunk_above (start + n + i) strip one k (pos 0) (omega arith) in
      let numbers : (k : ℕ) → lane later k ≡ lane strip k → number_at (λ x. x) later k ≡ number_at (λ x. x) strip k =
      λ k e. number_lane later k ∙ e ∙ sym (number_lane strip k) in
      let at_one : (j : ℕ) → j < 8 → lane later (start + n + (i + j)) ≡ lane one j = λ j h.
      let is : start + n + (i + j) ≡ start + n + i + j = omega arith in
      ap (lane later) is ∙ get_or-put_chunk_below (start + 2 * n + i) mid two (start + n + i + j) (pos 0) (omega arith)
      ∙ get_or-put_chunk_at (start + n + i) strip one j (pos 0) (omega arith) (omega arith) in
      let at_two : (j : ℕ) → j < 8 → lane later (start + 2 * n + (i + j)) ≡ lane two j = λ j h.
      let is : start + 2 * n + (i + j) ≡ start + 2 * n + i + j = omega arith in
      ap (lane later) is ∙ get_or-put_chunk_at (start + 2 * n + i) mid two j (pos 0) (omega arith) (omega arith) in
      more_pairs (λ x. x) w averages next residuals old n start strip later i (i + 8) le
      (λ k h. numbers k (below k (omega arith)))
      (λ k h. numbers (start + n + k) (below (start + n + k) (omega arith)))
      (λ k h. numbers (start + 2 * n + k) (between (start + 2 * n + k) (omega arith) (omega arith)))
      (λ k g h.
      let is : i + (k - i) ≡ k = omega arith in
      subst (λ m. number_at (λ x. x) later (start + n + m) ≡ column (first_of w) strip m) is
      (number_lane later (start + n + (i + (k - i))) ∙ at_one (k - i) (omega arith) ∙ first (k - i) (omega arith) ∙ lanes_of (first_of w) strip (i + (k - i))))
      (λ k g h.
      let is : i + (k - i) ≡ k = omega arith in
      subst (λ m. number_at (λ x. x) later (start + 2 * n + m) ≡ column (second_of w) strip m) is
      (number_lane later (start + 2 * n + (i + (k - i))) ∙ at_two (k - i) (omega arith) ∙ second (k - i) (omega arith) ∙ lanes_of (second_of w) strip (i + (k - i))))
      (λ k g h. subst (FitsSigned w) (sym (number_lane averages k)) (averages_fit k (omega arith)))
      (λ k g h. subst (FitsSigned w) (sym (number_lane residuals k)) (residuals_fit k (omega arith)))
      so_far (omega arith)
