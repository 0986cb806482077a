-- What is read is the symbol whose codeword is at the reader's position.
use Rattle.std.specs.Prelude.{◌≡◌, ◌≢◌, ℕ, zero, suc, ◌+◌, ◌-◌, ◌*◌, ◌/◌, ◌%◌, ◌^◌, ◌<◌, ◌≤◌, List, [], ◌∷◌, ◌++◌, length, take, Bool, true, false, cond, nat_lt, ◌==◌, Result, Ok, slice_index, slice_index_or}
use Rattle.std.proofs.Common.{refl, sym, ap, subst, ◌∙◌, inl, inr, arith}
use Rattle.std.proofs.lemmas.Bool.{cases_order, cases_lt, cases_eq}
use Rattle.std.proofs.lemmas.Bool.Decides.{nat_tests}
use Rattle.std.proofs.lemmas.List.{length-append, get_or_append_left, get_or-append-add, take_all}
use Rattle.std.proofs.lemmas.List.Sums.{sum_by_more, sum-map}
use Rattle.std.specs.List.{sum_by}
use Rattle.std.proofs.lemmas.Nat.{mul-le, pow-add, pow_below, shl-shr}
use Rattle.std.proofs.Math.Nat.{pow-suc, mul_comm, suc-mul, pow-le-pow_right, lt_of_lt_of_le, div-eq_of_lt, one-mul}
use Rattle.jxlm_bits.specs.Bits.{bit_at, bits_at}
use Rattle.jxlm_bits.specs.Decoding.{Found}
use Rattle.jxlm_bits.specs.declared.decoder.DecoderError.{DecoderError}
use Rattle.jxl_coding_codes.specs.Fields.{number_at}
use Rattle.jxl_coding_codes.specs.PrefixCodes.{of_length, all_of_length, of_lengths, prefix_of, codeword_at, next_symbol_at, share}
use Rattle.jxl_coding_codes.specs.Codewords.{codewords_of, first_codeword, HasCodeword, leading_bits_at, StandsAt, IsFull}
use Rattle.jxl_coding_codes.proofs.CodewordOrder.{rank_below, at_rank, ranked, fewer}

-- the bits so far, as a number, are below the codewords of a length: so are more of them
bit_most : (bytes : List ℕ) (p : ℕ) → bit_at bytes p ≤ 1
bit_most bytes p = omega arith

module _ (lengths bytes : List ℕ) (p : ℕ) where
  abbrev bits : ℕ → ℕ
  bits n = leading_bits_at bytes p n

  -- the first codeword that is longer than this number of bits, less its last bit
  abbrev longer_from : ℕ → ℕ
  longer_from l = first_codeword lengths l + codewords_of lengths l

  stays_below : (l d : ℕ) → bits l < longer_from l → bits (l + suc d) < first_codeword lengths (l + suc d)
  stays_below l zero lt =
      let e : l + 1 ≡ suc l = omega arith in
      let b = bit_most bytes (p + l) in
      rw e (omega (arith, b, lt))
  stays_below l (suc d) lt =
      let e : l + suc (suc d) ≡ suc (l + suc d) = omega arith in
      let b = bit_most bytes (p + (l + suc d)) in
      let before = stays_below l d lt in
      rw e (omega (arith, b, before))

  bits_below : (n : ℕ) → bits n < 2 ^ n
  bits_below zero = omega arith
  bits_below (suc n) =
      let before : bits n < 2 ^ n = bits_below n in
      let b = bit_most bytes (p + n) in
      rw (pow-suc 2 n, mul_comm (2 ^ n) 2) (omega (arith, before, b))

  few_bits : (n : ℕ) → n ≤ 15 → bits n < 2 ^ 15
  few_bits n le = lt_of_lt_of_le (bits_below n) (pow-le-pow_right {n = 2} (omega arith) le)

  one_bit : (q : ℕ) → q + 1 ≤ 8 * length bytes → number_at bytes q 1 ≡ Ok (record { value = bit_at bytes q; position = q + 1 })
  unfolding number_at
  one_bit q le =
      let t : nat_lt (8 * length bytes) (q + 1) ≡ false = grind (arith, nat_tests) in
      let z : q + 0 ≡ q = omega arith in
      let v : bits_at bytes q 1 ≡ bit_at bytes q = rw z (omega arith) in
      rw (t, v) refl

-- Codes by lengths.

module _ (lengths : List ℕ) where
  -- how many codewords have n lengths, the first after l
  abbrev pub counts_from : ℕ → ℕ → List ℕ
  counts_from l zero = []
  counts_from l (suc n) = codewords_of lengths (suc l) ∷ counts_from (suc l) n

  pub counts_are : (prefix_of lengths).counts ≡ counts_from 0 15
  unfolding of_lengths
  counts_are = refl

  -- how many codewords have at most a length
  abbrev pub up_to : ℕ → ℕ
  up_to zero = 0
  up_to (suc l) = up_to l + codewords_of lengths (suc l)

  pub symbols_more : (l : ℕ) → (of_lengths lengths (suc l)).symbols ≡ (of_lengths lengths l).symbols ++ all_of_length (suc l) lengths
  unfolding of_lengths
  symbols_more l = let e : l + 1 ≡ suc l = omega arith in rw e refl

  pub symbols_none : length (of_lengths lengths 0).symbols ≡ 0
  unfolding of_lengths
  symbols_none = refl

  pub many : (n : ℕ) → length (of_lengths lengths n).symbols ≡ up_to n
  many zero = symbols_none
  many (suc n) = rw (symbols_more n, length-append (of_lengths lengths n).symbols (all_of_length (suc n) lengths)) (omega (arith, many n))

  -- the symbols of a length stand after those of the shorter ones
  symbol_in : (n l v : ℕ) → l < n → v < codewords_of lengths (suc l) → slice_index_or (of_lengths lengths n).symbols (up_to l + v) 0 ≡ slice_index (all_of_length (suc l) lengths) v
  symbol_in zero l v lt within = absurd (omega (arith, lt))
  symbol_in (suc n) l v lt within =
      elim (cases_lt l n) [
        | inl less ↦
            let room : up_to (suc l) ≤ up_to n = climbs l n less in
            let below : up_to l + v < length (of_lengths lengths n).symbols = rw (many n) (omega (arith, room, within)) in
            rw (symbols_more n, get_or_append_left (of_lengths lengths n).symbols (all_of_length (suc n) lengths) 0 (up_to l + v) below) (symbol_in n l v less within)
        | inr more ↦
            let e : n ≡ l = omega arith in
            let place : up_to l + v ≡ length (of_lengths lengths l).symbols + v = rw (many l) refl in
            rw (e, symbols_more l, place) (get_or-append-add (of_lengths lengths l).symbols (all_of_length (suc l) lengths) v 0)
      ]
    where
      climbs : (l n : ℕ) → l < n → up_to (suc l) ≤ up_to n
      climbs l zero lt = absurd (omega (arith, lt))
      climbs l (suc n) lt =
          elim (cases_eq l n) [
            | inl e ↦ rw e (omega arith)
            | inr other ↦ let before = climbs l n (omega arith) in omega (arith, before)
          ]

  few_codewords : (l : ℕ) → codewords_of lengths l ≤ length lengths
  few_codewords zero = omega arith
  few_codewords (suc l) = fewer lengths (suc l) (length lengths)

  pub few_up_to : (l : ℕ) → up_to l ≤ l * length lengths
  few_up_to zero = omega arith
  few_up_to (suc l) =
      let before : up_to l ≤ l * length lengths = few_up_to l in
      let one = few_codewords (suc l) in
      rw (suc-mul l (length lengths)) (omega (arith, before, one))

module _ (lengths bytes : List ℕ) (symbol p : ℕ) (short : length lengths ≤ 2 ^ 15) (has : HasCodeword lengths symbol) (stands : StandsAt lengths symbol bytes p) where
  abbrev own : ℕ
  own = slice_index lengths symbol

  abbrev found : Result (Found ℕ) DecoderError
  found = Ok (record { value = symbol; position = p + own })

  abbrev walk : ℕ → ℕ → ℕ → ℕ → Result (Found ℕ) DecoderError
  walk l n code place = codeword_at (counts_from lengths l n) (prefix_of lengths).symbols code place bytes (p + l)

  small : (l : ℕ) → l ≤ 15 → up_to lengths l < 2 ^ 20
  small l le =
      let a : up_to lengths l ≤ l * length lengths = few_up_to lengths l in
      let b : l * length lengths ≤ 15 * 2 ^ 15 = mul-le l (length lengths) 15 (2 ^ 15) le short in
      omega (arith, a, b)

  -- a bit is read, where more follow or none
  read_bit : (l n code place : ℕ) → l < own → code + longer_from lengths bytes p l ≡ bits lengths bytes p l → (v : ℕ) → v + first_codeword lengths (suc l) ≡ bits lengths bytes p (suc l) →
      walk l (suc n) code place ≡ cond (nat_lt v (codewords_of lengths (suc l))) (Ok (record { value = slice_index_or (prefix_of lengths).symbols ((place + v) % 2 ^ 32) 0; position = p + suc l }))
      (walk (suc l) n (v - codewords_of lengths (suc l)) ((place + codewords_of lengths (suc l)) % 2 ^ 32))
  unfolding codeword_at
  read_bit l n code place lt e v f =
      let room : p + l + 1 ≤ 8 * length bytes = omega (arith, stands.0, lt) in
      let q : p + l + 1 ≡ p + suc l = omega arith in
      let most : bits lengths bytes p (suc l) < 2 ^ 15 = few_bits lengths bytes p (suc l) (omega (arith, lt, has.2)) in
      let value : (2 * code + bit_at bytes (p + l)) % 2 ^ 32 ≡ v = omega (arith, e, f, most) in
      rw (one_bit lengths bytes p (p + l) room, value, q) refl

  -- the last bit of the codeword
  last_bit : (n l code place : ℕ) → l + suc n ≡ 15 → suc l ≡ own → code + longer_from lengths bytes p l ≡ bits lengths bytes p l → place ≡ up_to lengths l → walk l (suc n) code place ≡ found
  last_bit n l code place all e before at =
      let rank : ℕ = length (of_length (suc l) lengths symbol) in
      let within : rank < codewords_of lengths (suc l) = rank_below lengths (suc l) symbol (length lengths) has.0 (sym e) in
      let value : bits lengths bytes p (suc l) ≡ first_codeword lengths (suc l) + rank =
      subst (λ (m : ℕ). leading_bits_at bytes p m ≡ first_codeword lengths m + length (of_length m lengths symbol)) (sym e) stands.1 in
      let t : nat_lt rank (codewords_of lengths (suc l)) ≡ true = grind (arith, nat_tests) in
      let less : l < 15 = omega (arith, all) in
      let most : up_to lengths (suc l) < 2 ^ 20 = small (suc l) less in
      let place_is : (place + rank) % 2 ^ 32 ≡ up_to lengths l + rank = omega (arith, at, most, within) in
      let symbol_is : slice_index_or (prefix_of lengths).symbols (up_to lengths l + rank) 0 ≡ symbol = symbol_in lengths 15 l rank less within ∙ at_rank lengths (suc l) symbol (length lengths) has.0 (sym e) in
      read_bit l n code place (omega (arith, e)) before rank (omega (arith, value)) ∙ rw (t, place_is, symbol_is, e) refl

  reads : (n l code place : ℕ) → l + n ≡ 15 → l < own → code + longer_from lengths bytes p l ≡ bits lengths bytes p l → place ≡ up_to lengths l → walk l n code place ≡ found
  reads zero l code place all lt before at = absurd (omega (arith, all, lt, has.2))
  reads (suc n) l code place all lt before at =
      elim (cases_eq (suc l) own) [
        | inl e ↦ last_bit n l code place all e before at
        | inr other ↦
            let v : ℕ = bits lengths bytes p (suc l) - first_codeword lengths (suc l) in
            let up : first_codeword lengths (suc l) ≤ bits lengths bytes p (suc l) = omega (arith, before) in
            let less : suc l < own = omega arith in
            let passes : codewords_of lengths (suc l) ≤ v = passed (suc l) less in
            let t : nat_lt v (codewords_of lengths (suc l)) ≡ false = grind (arith, nat_tests) in
            let most : up_to lengths (suc l) < 2 ^ 20 = small (suc l) (omega (arith, all)) in
            let place_is : (place + codewords_of lengths (suc l)) % 2 ^ 32 ≡ up_to lengths (suc l) = omega (arith, at, most) in
            read_bit l n code place lt before v (omega (arith, up)) ∙ rw (t, place_is) (reads n (suc l) (v - codewords_of lengths (suc l)) (up_to lengths (suc l)) (omega (arith, all)) less (omega (arith, up, passes)) refl)
      ]
    where
      passed : (l : ℕ) → l < own → codewords_of lengths l ≤ bits lengths bytes p l - first_codeword lengths l
      passed l lt =
          elim (cases_lt (bits lengths bytes p l) (longer_from lengths bytes p l)) [
            | inl less ↦
                let d = own - l - 1 in
                let end : l + suc d ≡ own = omega arith in
                let low : bits lengths bytes p own < first_codeword lengths own = subst (λ (m : ℕ). bits lengths bytes p m < first_codeword lengths m) end (stays_below lengths bytes p l d less) in
                absurd (omega (arith, low, stands.1))
            | inr more ↦ omega (arith, more)
          ]

  pub read : length (prefix_of lengths).symbols ≢ 1 → next_symbol_at (prefix_of lengths) bytes p ≡ found
  read several =
      let t : (length (prefix_of lengths).symbols == 1) ≡ false = grind (arith, nat_tests) in
      let z : p + 0 ≡ p = omega arith in
      let walked : walk 0 15 0 0 ≡ found = reads 15 0 0 0 refl has.1 refl refl in
      rw (t, counts_are lengths) (rw z at walked)

-- Codes that leave no room.

share_step : (l k : ℕ) → share (2 ^ suc l) k ≡ 2 * share (2 ^ l) k + cond (k == suc l) 1 0
share_step l zero = grind (arith, nat_tests)
share_step l (suc j) =
    elim (cases_order (suc j) (suc l)) [
      | inl e ↦
          let one : 2 ^ suc l / 2 ^ suc l ≡ 1 = ap (λ (n : ℕ). n / 2 ^ suc l) (sym (one-mul (2 ^ suc l))) ∙ shl-shr 1 (suc l) in
          let none : 2 ^ l / 2 ^ suc l ≡ 0 = div-eq_of_lt (pow_below l (suc l) (omega arith)) in
          let t : (suc l == suc l) ≡ true = grind (arith, nat_tests) in
          let z : (suc l == 0) ≡ false = grind (arith, nat_tests) in
          rw (e, t, z, one, none) refl
      | inr k ↦ elim k [
        | inl less ↦
            let d = l - suc j in
            let t : (suc j == suc l) ≡ false = grind (arith, nat_tests) in
            let end : l ≡ d + suc j = omega arith in
            let a : 2 ^ l / 2 ^ suc j ≡ 2 ^ d = ap (λ (n : ℕ). 2 ^ n / 2 ^ suc j) end ∙ ap (λ (n : ℕ). n / 2 ^ suc j) (pow-add 2 d (suc j)) ∙ shl-shr (2 ^ d) (suc j) in
            let up : suc l ≡ suc d + suc j = omega arith in
            let b : 2 ^ suc l / 2 ^ suc j ≡ 2 ^ suc d = ap (λ (n : ℕ). 2 ^ n / 2 ^ suc j) up ∙ ap (λ (n : ℕ). n / 2 ^ suc j) (pow-add 2 (suc d) (suc j)) ∙ shl-shr (2 ^ suc d) (suc j) in
            let w : 2 ^ suc d ≡ 2 ^ d * 2 = pow-suc 2 d in
            let z : (suc j == 0) ≡ false = grind (arith, nat_tests) in
            rw (t, z, a, b) (omega (arith, w))
        | inr more ↦
            let t : (suc j == suc l) ≡ false = grind (arith, nat_tests) in
            let a : 2 ^ suc l / 2 ^ suc j ≡ 0 = div-eq_of_lt (pow_below (suc l) (suc j) more) in
            let b : 2 ^ l / 2 ^ suc j ≡ 0 = div-eq_of_lt (pow_below l (suc j) (omega (arith, more))) in
            let z : (suc j == 0) ≡ false = grind (arith, nat_tests) in
            rw (t, z, a, b) refl
      ]
    ]

module _ (lengths : List ℕ) where
  -- what the codewords of the first n symbols take of 2^l, where those of up to l bits count
  abbrev taken : ℕ → ℕ → ℕ
  taken n zero = 0
  taken n (suc l) = 2 * taken n l + length (of_length (suc l) lengths n)

  all_taken : (bytes : List ℕ) (p l : ℕ) → longer_from lengths bytes p l ≡ taken (length lengths) l
  all_taken bytes p zero = refl
  all_taken bytes p (suc l) = let before : longer_from lengths bytes p l ≡ taken (length lengths) l = all_taken bytes p l in omega (arith, before)

  taken_none : (l : ℕ) → taken 0 l ≡ 0
  unfolding of_length
  taken_none zero = refl
  taken_none (suc l) = rw (taken_none l) refl

  pub of_more : (l n : ℕ) → length (of_length l lengths (suc n)) ≡ length (of_length l lengths n) + cond (slice_index lengths n == l) 1 0
  unfolding of_length
  of_more l n = length-append (of_length l lengths n) _ ∙ ap (λ (m : ℕ). length (of_length l lengths n) + m) (one_or_none (slice_index lengths n == l))
    where
      one_or_none : (b : Bool) → length (cond b (n ∷ []) []) ≡ cond b 1 0
      one_or_none true = refl
      one_or_none false = refl

  taken_more : (n l : ℕ) → taken (suc n) l ≡ taken n l + share (2 ^ l) (slice_index lengths n)
  taken_more n zero = rw (none (slice_index lengths n)) refl
    where
      none : (k : ℕ) → share (2 ^ 0) k ≡ 0
      none zero = refl
      none (suc k) =
          let z : (suc k == 0) ≡ false = grind (arith, nat_tests) in
          let low : 1 / 2 ^ suc k ≡ 0 = div-eq_of_lt (pow_below 0 (suc k) (omega arith)) in
          rw z low
  taken_more n (suc l) =
      let before : taken (suc n) l ≡ taken n l + share (2 ^ l) (slice_index lengths n) = taken_more n l in
      let a = of_more (suc l) n in
      let b = share_step l (slice_index lengths n) in
      rw (a, b, before) (omega arith)

  taken_sum : (n : ℕ) → n ≤ length lengths → taken n 15 ≡ sum_by (share (2 ^ 15)) (take n lengths)
  taken_sum zero le = taken_none 15
  taken_sum (suc n) le =
      let e : n + 1 ≡ suc n = omega arith in
      taken_more n 15 ∙ rw (taken_sum n (omega arith), ← e) (sym (sum_by_more (share (2 ^ 15)) lengths n 0 le))

  full_taken : IsFull lengths → taken (length lengths) 15 ≡ 2 ^ 15
  full_taken full = taken_sum (length lengths) (omega arith) ∙ rw (take_all (length lengths) lengths (omega arith)) (sym (sum-map (share (2 ^ 15)) lengths) ∙ full)

  module _ (bytes : List ℕ) (p : ℕ) (room : p + 15 ≤ 8 * length bytes) (full : IsFull lengths) where
    abbrev Some : Type 0
    Some = (symbol : ℕ) × (HasCodeword lengths symbol × StandsAt lengths symbol bytes p)

    here : (l v : ℕ) → suc l ≤ 15 → bits lengths bytes p (suc l) ≡ first_codeword lengths (suc l) + v → v < codewords_of lengths (suc l) → Some
    here l v le e lt =
        let r = ranked lengths (suc l) (length lengths) v lt in
        let own : slice_index lengths r.symbol ≡ suc l = r.length_is in
        let value : bits lengths bytes p (suc l) ≡ first_codeword lengths (suc l) + length (of_length (suc l) lengths r.symbol) = e ∙ ap (λ (n : ℕ). first_codeword lengths (suc l) + n) (sym r.place_is) in (
          r.symbol,
          (
            (r.within, rw own (omega arith), rw own le),
            (rw own (omega arith), subst (λ (m : ℕ). leading_bits_at bytes p m ≡ first_codeword lengths m + length (of_length m lengths r.symbol)) (sym own) value),
          ),
        )

    search_from : (n l : ℕ) → l + n ≡ 15 → longer_from lengths bytes p l ≤ bits lengths bytes p l → Some
    search_from zero l all le =
        let e : l ≡ 15 = omega (arith, all) in
        let low : bits lengths bytes p l < 2 ^ 15 = few_bits lengths bytes p l (omega (arith, e)) in
        let whole : longer_from lengths bytes p l ≡ 2 ^ 15 = all_taken bytes p l ∙ rw e (full_taken full) in
        absurd (omega (arith, low, whole, le))
    search_from (suc n) l all le =
        let up : first_codeword lengths (suc l) ≤ bits lengths bytes p (suc l) = omega (arith, le) in
        elim (cases_lt (bits lengths bytes p (suc l)) (longer_from lengths bytes p (suc l))) [
          | inl lt ↦ here l (bits lengths bytes p (suc l) - first_codeword lengths (suc l)) (omega (arith, all)) (omega (arith, up)) (omega (arith, lt, up))
          | inr more ↦ search_from n (suc l) (omega (arith, all)) more
        ]

pub some_stands : (lengths bytes : List ℕ) (p : ℕ) → IsFull lengths → p + 15 ≤ 8 * length bytes → (symbol : ℕ) × (HasCodeword lengths symbol × StandsAt lengths symbol bytes p)
some_stands lengths bytes p full room = search_from lengths bytes p room full 15 0 refl (omega arith)
