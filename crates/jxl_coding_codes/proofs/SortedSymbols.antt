-- Symbols sorted by the lengths of their codewords in one pass: what the list holds once the first n symbols are placed.
use Rattle.std.specs.Prelude.{◌≡◌, ◌≢◌, ℕ, zero, suc, ◌+◌, ◌-◌, ◌*◌, ◌^◌, ◌<◌, ◌≤◌, ◌⊎◌, List, [], ◌∷◌, ◌++◌, length, replicate, take, sum, slice_index, slice_set}
use Rattle.std.proofs.Common.{refl, sym, ap, subst, ◌∙◌, inl, inr, arith, append_assoc}
use Rattle.std.proofs.lemmas.Bool.{cases_eq}
use Rattle.std.proofs.lemmas.Grind.{get_or-set_at, same_number_lists}
use Rattle.std.proofs.lemmas.List.{append-nil, length-append, length-replicate, get_or-set_other, set-append_left, set-append_right, replicate-append-replicate, take_all}
use Rattle.std.proofs.lemmas.List.Sums.{sum_by_more}
use Rattle.std.proofs.Math.Seq.{set-append_seam}
use Rattle.jxl_coding_codes.specs.PrefixCodes.{of_length, of_lengths, prefix_of, all_of_length}
use Rattle.jxl_coding_codes.specs.Codewords.{codewords_of}
use Rattle.jxl_coding_codes.proofs.CodewordOrder.{added, passed, of_none}
use Rattle.jxl_coding_codes.proofs.CodewordReads.{up_to, symbols_more, of_more, few_up_to, counts_from, counts_are}

module _ (lengths : List ℕ) where
  -- how many of the first n symbols have a length
  abbrev pub rank : ℕ → ℕ → ℕ
  rank n l = length (of_length l lengths n)

  climbs : (l n m : ℕ) → n ≤ m → rank n l ≤ rank m l
  climbs l n zero le = let e : n ≡ 0 = omega arith in rw e (omega arith)
  climbs l n (suc m) le =
      elim (cases_eq n (suc m)) [
        | inl e ↦ rw e (omega arith)
        | inr other ↦
            let before : rank n l ≤ rank m l = climbs l n m (omega (arith, le, other)) in
            let more = of_more lengths l m in
            omega (arith, before, more)
      ]

  -- the symbols of length l + 1 so far, and 0 for each that is still to come
  unfoldable pub block : ℕ → ℕ → List ℕ
  block n l = of_length (suc l) lengths n ++ replicate (codewords_of lengths (suc l) - rank n (suc l)) 0

  -- those of the first k lengths
  unfoldable pub blocks : ℕ → ℕ → List ℕ
  blocks n zero = []
  blocks n (suc k) = blocks n k ++ block n k

  block_long : (n l : ℕ) → n ≤ length lengths → length (block n l) ≡ codewords_of lengths (suc l)
  unfolding block
  block_long n l le =
      let most : rank n (suc l) ≤ codewords_of lengths (suc l) = climbs (suc l) n (length lengths) le in
      let a = length-append (of_length (suc l) lengths n) (replicate (codewords_of lengths (suc l) - rank n (suc l)) 0) in
      let b = length-replicate {A = ℕ} (codewords_of lengths (suc l) - rank n (suc l)) 0 in
      omega (arith, most, a, b)

  pub blocks_long : (n k : ℕ) → n ≤ length lengths → length (blocks n k) ≡ up_to lengths k
  unfolding blocks
  blocks_long n zero le = refl
  blocks_long n (suc k) le =
      let a = length-append (blocks n k) (block n k) in
      let b : length (blocks n k) ≡ up_to lengths k = blocks_long n k le in
      let c = block_long n k le in
      omega (arith, a, b, c)

  -- a symbol changes the block of its length alone
  block_stays : (n l : ℕ) → slice_index lengths n ≢ suc l → block (suc n) l ≡ block n l
  unfolding block
  block_stays n l other = rw (passed lengths (suc l) n other) refl

  pub stays : (n k : ℕ) → ((l : ℕ) → l < k → slice_index lengths n ≢ suc l) → blocks (suc n) k ≡ blocks n k
  unfolding blocks
  stays n zero other = refl
  stays n (suc k) other = rw (stays n k (λ l lt. other l (omega (arith, lt))), block_stays n k (other k (omega arith))) refl

  ranked_more : (n l : ℕ) → slice_index lengths n ≡ suc l → rank (suc n) (suc l) ≡ rank n (suc l) + 1
  ranked_more n l h =
      let a = length-append (of_length (suc l) lengths n) (n ∷ []) in
      rw (added lengths (suc l) n h) (omega (arith, a))

  block_put : (n l : ℕ) → n < length lengths → slice_index lengths n ≡ suc l → slice_set (block n l) (rank n (suc l)) n ≡ block (suc n) l
  unfolding block
  block_put n l lt h =
      let rest : ℕ = codewords_of lengths (suc l) - (rank n (suc l) + 1) in
      let one = ranked_more n l h in
      let most : rank (suc n) (suc l) ≤ codewords_of lengths (suc l) = climbs (suc l) (suc n) (length lengths) lt in
      let before : codewords_of lengths (suc l) - rank n (suc l) ≡ suc rest = omega (arith, one, most) in
      let after : codewords_of lengths (suc l) - rank (suc n) (suc l) ≡ rest = omega (arith, one) in
      let seam = set-append_seam (of_length (suc l) lengths n) 0 (replicate rest 0) n in
      rw (before, after, added lengths (suc l) n h) (seam ∙ sym (append_assoc (of_length (suc l) lengths n) (n ∷ []) (replicate rest 0)))

  room : (l k : ℕ) → l < k → up_to lengths (suc l) ≤ up_to lengths k
  room l zero lt = absurd (omega (arith, lt))
  room l (suc k) lt =
      elim (cases_eq l k) [
        | inl e ↦ rw e (omega arith)
        | inr other ↦ let before : up_to lengths (suc l) ≤ up_to lengths k = room l k (omega (arith, lt, other)) in omega (arith, before)
      ]

  -- a symbol is put after those of its length
  pub put : (n l k : ℕ) → l < k → n < length lengths → slice_index lengths n ≡ suc l →
      (up_to lengths l + rank n (suc l) < up_to lengths k) × (slice_set (blocks n k) (up_to lengths l + rank n (suc l)) n ≡ blocks (suc n) k)
  unfolding blocks
  put n l zero lt within h = absurd (omega (arith, lt))
  put n l (suc k) lt within h =
      let one = ranked_more n l h in
      let most : rank (suc n) (suc l) ≤ codewords_of lengths (suc l) = climbs (suc l) (suc n) (length lengths) within in
      let high : up_to lengths (suc l) ≤ up_to lengths (suc k) = room l (suc k) lt in
      let long : length (blocks n k) ≡ up_to lengths k = blocks_long n k (omega (arith, within)) in (
        omega (arith, one, most, high),
        elim (cases_eq l k) [
          | inl e ↦
              let low : up_to lengths k ≤ up_to lengths l + rank n (suc l) = rw e (omega arith) in
              let place : up_to lengths l + rank n (suc l) - up_to lengths k ≡ rank n (suc l) = rw e (omega arith) in
              let same : blocks (suc n) k ≡ blocks n k = stays n k (λ j less. rw h (λ f. omega (arith, less, e, f))) in
              set-append_right (blocks n k) (block n k) (up_to lengths k) (up_to lengths l + rank n (suc l)) n long low
              ∙ rw (same, place) (ap (λ (b : List ℕ). blocks n k ++ b) (rw (← e) (block_put n l within h)))
          | inr other ↦
              let less : l < k = omega (arith, lt, other) in
              let before = put n l k less within h in
              let same : block (suc n) k ≡ block n k = block_stays n k (rw h (λ f. omega (arith, other, f))) in
              set-append_left (blocks n k) (block n k) (up_to lengths l + rank n (suc l)) n (omega (arith, before.0, long)) ∙ rw (before.1, same) refl
        ],
      )

  -- before the first symbol, and after the last
  none_yet : (l : ℕ) → of_length l lengths 0 ≡ []
  unfolding of_length
  none_yet l = refl

  block_none : (l : ℕ) → block 0 l ≡ replicate (codewords_of lengths (suc l)) 0
  unfolding block
  block_none l =
      let z = of_none lengths (suc l) in
      let all : codewords_of lengths (suc l) - rank 0 (suc l) ≡ codewords_of lengths (suc l) = omega (arith, z) in
      rw (all, none_yet (suc l)) refl

  pub none : (k : ℕ) → blocks 0 k ≡ replicate (up_to lengths k) 0
  unfolding blocks
  none zero = refl
  none (suc k) = rw (none k, block_none k) (replicate-append-replicate (up_to lengths k) (codewords_of lengths (suc k)) 0)

  block_all : (l : ℕ) → block (length lengths) l ≡ all_of_length (suc l) lengths
  unfolding block
  block_all l =
      let z : codewords_of lengths (suc l) - rank (length lengths) (suc l) ≡ 0 = omega arith in
      rw z (append-nil (all_of_length (suc l) lengths))

  first : (of_lengths lengths 0).symbols ≡ []
  unfolding of_lengths
  first = refl

  pub all : (k : ℕ) → blocks (length lengths) k ≡ (of_lengths lengths k).symbols
  unfolding blocks
  all zero = sym first
  all (suc k) = rw (all k, block_all k, symbols_more lengths k) refl

  -- numbers of the symbols of each length so far, from some on
  abbrev pub Count : (ℕ → ℕ) → ℕ → List ℕ → Type 0
  Count base n counts = (l : ℕ) → l < 15 → slice_index counts l ≡ base l + rank n (suc l)

  pub counts_none : (base : ℕ → ℕ) (counts : List ℕ) → ((l : ℕ) → l < 15 → slice_index counts l ≡ base l) → Count base 0 counts
  counts_none base counts h = λ l lt. let e = h l lt in let z : rank 0 (suc l) ≡ 0 = of_none lengths (suc l) in omega (arith, e, z)

  pub counts_stay : (base : ℕ → ℕ) (counts : List ℕ) (n : ℕ) → ((l : ℕ) → l < 15 → slice_index lengths n ≢ suc l) → Count base n counts → Count base (suc n) counts
  counts_stay base counts n other h = λ l lt. let e = h l lt in rw (passed lengths (suc l) n (other l lt)) e

  pub counts_more : (base : ℕ → ℕ) (counts : List ℕ) (n l c : ℕ) → length counts ≡ 15 → l < 15 → slice_index lengths n ≡ suc l → c ≡ slice_index counts l + 1 → Count base n counts → Count base (suc n) (slice_set counts l c)
  counts_more base counts n l c long lt own more h = λ j less.
      elim (cases_eq j l) [
        | inl e ↦
            let here : slice_index (slice_set counts l c) j ≡ c = get_or-set_at counts l j c 0 e (omega (arith, long, lt)) in
            let one = ranked_more n l own in
            let before : slice_index counts l ≡ base l + rank n (suc l) = h l lt in
            rw e (rw e at here ∙ omega (arith, more, before, one))
        | inr other ↦
            let there : slice_index (slice_set counts l c) j ≡ slice_index counts j = get_or-set_other counts l j c 0 other in
            let before : slice_index counts j ≡ base j + rank n (suc j) = h j less in
            rw (passed lengths (suc j) n (rw own (λ f. omega (arith, other, f)))) (there ∙ before)
      ]

  -- the same as a loop sees it
  next : (n : ℕ) → suc n ≡ n + 1
  next n = omega arith

  pub counts_step : (base : ℕ → ℕ) (counts : List ℕ) (n v : ℕ) → length counts ≡ 15 → slice_index lengths n ≡ v → 0 < v → v ≤ 15 → Count base n counts →
      Count base (n + 1) (slice_set counts (v - 1) (slice_index counts (v - 1) + 1))
  counts_step base counts n v long own some most h =
      let up : slice_index lengths n ≡ suc (v - 1) = omega (arith, own, some) in
      subst (λ (m : ℕ). Count base m (slice_set counts (v - 1) (slice_index counts (v - 1) + 1))) (next n)
      (counts_more base counts n (v - 1) (slice_index counts (v - 1) + 1) long (omega (arith, some, most)) up refl h)

  no_length : (n v l : ℕ) → slice_index lengths n ≡ v → (v ≤ 0) ⊎ (15 < v) → l < 15 → slice_index lengths n ≢ suc l
  no_length n v l own (inl none) lt e = omega (arith, own, none, e)
  no_length n v l own (inr long) lt e = omega (arith, own, long, lt, e)

  pub counts_skip : (base : ℕ → ℕ) (counts : List ℕ) (n v : ℕ) → slice_index lengths n ≡ v → (v ≤ 0) ⊎ (15 < v) → Count base n counts → Count base (n + 1) counts
  counts_skip base counts n v own out h = subst (λ (m : ℕ). Count base m counts) (next n) (counts_stay base counts n (λ l lt. no_length n v l own out lt) h)

  pub blocks_skip : (n v : ℕ) → slice_index lengths n ≡ v → (v ≤ 0) ⊎ (15 < v) → blocks (n + 1) 15 ≡ blocks n 15
  blocks_skip n v own out = subst (λ (m : ℕ). blocks m 15 ≡ blocks n 15) (next n) (stays n 15 (λ l lt. no_length n v l own out lt))

  -- the place of the next symbol of a length, and the list with it
  pub blocks_step : (places : List ℕ) (n v : ℕ) → n < length lengths → slice_index lengths n ≡ v → 0 < v → v ≤ 15 → Count (up_to lengths) n places →
      (slice_index places (v - 1) < up_to lengths 15) × (slice_set (blocks n 15) (slice_index places (v - 1)) n ≡ blocks (n + 1) 15)
  blocks_step places n v within own some most h =
      let up : slice_index lengths n ≡ suc (v - 1) = omega (arith, own, some) in
      let less : v - 1 < 15 = omega (arith, some, most) in
      let place : slice_index places (v - 1) ≡ up_to lengths (v - 1) + rank n (suc (v - 1)) = h (v - 1) less in
      let there = put n (v - 1) 15 less within up in
      rw place (there.0, subst (λ (m : ℕ). slice_set (blocks n 15) (up_to lengths (v - 1) + rank n (suc (v - 1))) n ≡ blocks m 15) (next n) there.1)

  -- all counts
  counts_at : (n k l : ℕ) → l < n → slice_index (counts_from lengths k n) l ≡ codewords_of lengths (suc (k + l))
  counts_at zero k l lt = absurd (omega (arith, lt))
  counts_at (suc n) k zero lt = let e : k + 0 ≡ k = omega arith in rw e refl
  counts_at (suc n) k (suc l) lt = let e : suc k + l ≡ k + suc l = omega arith in rw e at (counts_at n (suc k) l (omega (arith, lt)))

  counts_long : (n k : ℕ) → length (counts_from lengths k n) ≡ n
  counts_long zero k = refl
  counts_long (suc n) k = let before = counts_long n (suc k) in omega (arith, before)

  code_count : (l : ℕ) → l < 15 → slice_index (prefix_of lengths).counts l ≡ codewords_of lengths (suc l)
  code_count l lt =
      let e : 0 + l ≡ l = omega arith in
      let there : slice_index (counts_from lengths 0 15) l ≡ codewords_of lengths (suc (0 + l)) = counts_at 15 0 l lt in
      rw (counts_are lengths) (rw e at there)

  code_counts : length (prefix_of lengths).counts ≡ 15
  code_counts = rw (counts_are lengths) (counts_long 15 0)

  pub counts_done : (counts : List ℕ) → length counts ≡ 15 → Count (λ _. 0) (length lengths) counts → counts ≡ (prefix_of lengths).counts
  counts_done counts long h =
      same_number_lists counts (prefix_of lengths).counts (long ∙ sym code_counts)
      (λ l lt. let a = h l (omega (arith, lt, long)) in let b = code_count l (omega (arith, lt, long)) in omega (arith, a, b))

  -- where the symbols of a length begin
  pub starts_are : (l : ℕ) → l ≤ 15 → sum (take l (prefix_of lengths).counts) ≡ up_to lengths l
  starts_are zero le = refl
  starts_are (suc l) le =
      let e : l + 1 ≡ suc l = omega arith in
      let before : sum (take l (prefix_of lengths).counts) ≡ up_to lengths l = starts_are l (omega (arith, le)) in
      let long = code_counts in
      let more : sum (take (l + 1) (prefix_of lengths).counts) ≡ sum (take l (prefix_of lengths).counts) + slice_index (prefix_of lengths).counts l = sum_by_more (λ (x : ℕ). x) (prefix_of lengths).counts l 0 (omega (arith, le, long)) in
      let one = code_count l (omega (arith, le)) in
      let sums : sum (take (l + 1) (prefix_of lengths).counts) ≡ up_to lengths (suc l) = omega (arith, more, before, one) in
      rw e at sums

  pub total : sum (prefix_of lengths).counts ≡ up_to lengths 15
  total = ap sum (sym (take_all 15 (prefix_of lengths).counts (let long = code_counts in omega (arith, long)))) ∙ starts_are 15 (omega arith)

  pub few_symbols : length lengths ≤ 2 ^ 15 → up_to lengths 15 < 2 ^ 20
  few_symbols le = let a : up_to lengths 15 ≤ 15 * length lengths = few_up_to lengths 15 in omega (arith, a, le)

  -- places so far
  pub places_none : (starts : List ℕ) → ((l : ℕ) → l < 15 → slice_index starts l ≡ sum (take l (prefix_of lengths).counts)) → Count (up_to lengths) 0 starts
  places_none starts h = counts_none (up_to lengths) starts (λ l lt. h l lt ∙ starts_are l (omega (arith, lt)))

  pub all_many : (places : List ℕ) → ((l : ℕ) → l < 15 → slice_index places l ≡ sum (take l (prefix_of lengths).counts)) → slice_index places 14 + slice_index (prefix_of lengths).counts 14 ≡ up_to lengths 15
  all_many places h =
      let a : slice_index places 14 ≡ up_to lengths 14 = h 14 (omega arith) ∙ starts_are 14 (omega arith) in
      let b = code_count 14 (omega arith) in
      omega (arith, a, b)
