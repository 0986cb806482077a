-- Distributions that were written by the widths of their counts are read.
use Rattle.std.proofs.Common.{◌≡◌, ◌≢◌, ℕ, zero, suc, ◌+◌, ◌-◌, ◌*◌, ◌^◌, ◌<◌, ◌≤◌, List, [], ◌∷◌, ◌++◌, length, take, slice_index, slice_set, true, false, Ok, refl, sym, ap, ◌∙◌, subst, inl, inr, arith, append_assoc}
use Rattle.std.specs.Prelude.{nat_le, nat_lt, ◌==◌}
use Rattle.std.specs.List.{sum, All}
use Rattle.std.proofs.lemmas.Bool.{cases_lt, lt-leb, lt-ltb, le-ltb, eq-eqb}
use Rattle.std.proofs.lemmas.Bool.Decides.{nat_tests}
use Rattle.std.proofs.lemmas.List.{length-set, length-take-le, get_or-set_same, get_or-set_other, take_more, take_all, set-set, set-get_or}
use Rattle.std.proofs.lemmas.List.Sums.{sum_by-set}
use Rattle.std.proofs.Math.Nat.{pow-suc}
use Rattle.jxlm_bit_writer.specs.Writes.{Writes}
use Rattle.jxlm_bit_writer.specs.Written.{digits}
use Rattle.jxlm_bit_writer.proofs.WriteLaws.{after, becomes}
use Rattle.jxl_coding_codes.specs.Fields.{var_len_at}
use Rattle.jxl_coding_codes.specs.Reading.{steps}
use Rattle.jxl_coding_codes.specs.Distributions.{Widths, no_widths, one_width, signalled_at, widths_step, signalled_bits, count_at, next_count_at, counts_step, with_rest, ones_at, precision_at, are_widths, many_at, distribution_at, whole}
use Rattle.jxl_coding_fields_write.specs.CountWidths.{digit_count, count_widths, with_width}
use Rattle.jxl_coding_fields_write.proofs.NumberFields.{number_writes}
use Rattle.jxl_coding_fields_write.proofs.ReadingLaws.{placed, writes_nothing, writes_none, writes_steps}
use Rattle.jxl_coding_fields_write.proofs.CountWidthLaws.{wide, width_few, count_widths_next, count_widths_many, taken_many, width_at, width_past, count_widths_top, widest_comes}

-- Widths.

width_step : (all : ℕ) (s : Widths) (w : ℕ) (a b : List ℕ) → length s.widths < all → w ≤ 12 → Writes a b signalled_at w → Writes a b (widths_step all s) (one_width s w)
unfolding widths_step
width_step all s w a b lt few h =
    let t : nat_le all (length s.widths) ≡ false = lt-leb all (length s.widths) lt in
    let u : (w == 13) ≡ false = grind (arith, nat_tests) in
    becomes h (λ bytes p q read. rw (t, read, u) refl)

pub widths_start : (counts : List ℕ) (a : List ℕ) → Writes a a (steps (widths_step (length counts)) 0 no_widths) (count_widths (take 0 counts))
widths_start counts a = writes_none (widths_step (length counts)) no_widths a

pub widths_next : (counts : List ℕ) (i : ℕ) (a b c : List ℕ) → i < length counts → slice_index counts i < 4096 → Writes a b (steps (widths_step (length counts)) i no_widths) (count_widths (take i counts)) →
    Writes b c signalled_at (digit_count (slice_index counts i)) → Writes a c (steps (widths_step (length counts)) (i + 1) no_widths) (count_widths (take (i + 1) counts))
widths_next counts i a b c lt small before w =
    let m = taken_many counts i (omega (arith, lt)) in
    subst (λ (s : Widths). Writes a c (steps (widths_step (length counts)) (i + 1) no_widths) s) (sym (count_widths_next counts i lt))
    (writes_steps (widths_step (length counts)) i no_widths (count_widths (take i counts)) (with_width (count_widths (take i counts)) (slice_index counts i)) a b c before
    (width_step (length counts) (count_widths (take i counts)) (digit_count (slice_index counts i)) b c (omega (arith, m, lt)) (width_few (slice_index counts i) small) w))

pub widths_all : (counts : List ℕ) (i : ℕ) (a b : List ℕ) → i ≡ length counts → Writes a b (steps (widths_step (length counts)) i no_widths) (count_widths (take i counts)) →
    Writes a b (steps (widths_step (length counts)) (length counts) no_widths) (count_widths counts)
widths_all counts i a b e w =
    subst (λ (xs : List ℕ). Writes a b (steps (widths_step (length counts)) (length counts) no_widths) (count_widths xs)) (take_all (length counts) counts (omega arith))
    (subst (λ (n : ℕ). Writes a b (steps (widths_step (length counts)) n no_widths) (count_widths (take n counts))) e w)

-- A count.

all_bits : (w : ℕ) → 2 ≤ w → w ≤ 12 → signalled_bits w 13 ≡ w - 1
all_bits w some few = omega (arith, some, few)

pub short_count : (c : ℕ) (a : List ℕ) → c < 2 → digit_count c ≡ c → Writes a a (λ bytes p. count_at 13 (digit_count c) bytes p) c
unfolding count_at
short_count c a lt e = let t : nat_lt c 2 ≡ true = lt-ltb c 2 lt in becomes (writes_nothing c a) (λ bytes p q read. rw (e, t) read)

long_value : (c w : ℕ) → 2 ≤ w → 2 ^ (w - 1) ≤ c → 2 ^ (w - 1) + (c - 2 ^ (w - 1)) * 2 ^ (w - 1 - (w - 1)) ≡ c
long_value c w some le =
    let z : w - 1 - (w - 1) ≡ 0 = omega arith in
    ap (λ (n : ℕ). 2 ^ (w - 1) + (c - 2 ^ (w - 1)) * 2 ^ n) z ∙ once (2 ^ (w - 1)) le
  where
    once : (n : ℕ) → n ≤ c → n + (c - n) * 1 ≡ c
    once n l = omega (arith, l)

count_by : (c w : ℕ) (a b : List ℕ) → 2 ≤ w → w ≤ 12 → 2 ^ (w - 1) ≤ c → c - 2 ^ (w - 1) < 2 ^ (w - 1) → b ≡ a ++ digits (w - 1) (c - 2 ^ (w - 1)) → Writes a b (λ bytes p. count_at 13 w bytes p) c
unfolding count_at
count_by c w a b some few least small e =
    let t : nat_lt w 2 ≡ false = le-ltb w 2 some in
    let all : signalled_bits w 13 ≡ w - 1 = all_bits w some few in
    becomes (number_writes (w - 1) (c - 2 ^ (w - 1)) a b small e) (λ bytes p q read. rw (t, all, read, long_value c w some least) refl)

halves : (w : ℕ) → 2 ≤ w → 2 ^ w ≡ 2 ^ (w - 1) * 2
halves w some = let k : w ≡ suc (w - 1) = omega (arith, some) in ap (λ (n : ℕ). 2 ^ n) k ∙ pow-suc 2 (w - 1)

pub record Long (c w : ℕ) : Type 0 where
  pub some : 2 ≤ w
  pub least : 2 ^ (w - 1) ≤ c
  pub small : c - 2 ^ (w - 1) < 2 ^ (w - 1)

pub long_is : (c : ℕ) → 2 ≤ c → c < 4096 → Long c (digit_count c)
long_is c two fits =
    let h = wide c (omega (arith, fits)) in
    let some : 2 ≤ digit_count c = at_least (digit_count c) h.below in
    let e = halves (digit_count c) some in
    let b = h.below in
    let l = h.least in
    record { some = some; least = omega (arith, e, l); small = omega (arith, e, b, l) }
  where
    at_least : (w : ℕ) → c < 2 ^ w → 2 ≤ w
    at_least zero lt = absurd (omega (arith, lt, two))
    at_least (suc zero) lt = absurd (omega (arith, lt, two))
    at_least (suc (suc w)) lt = omega arith

pub long_count : (c : ℕ) (a b : List ℕ) → 2 ≤ c → c < 4096 → b ≡ a ++ digits (digit_count c - 1) (c - 2 ^ (digit_count c - 1)) → Writes a b (λ bytes p. count_at 13 (digit_count c) bytes p) c
long_count c a b two fits e = let h = long_is c two fits in count_by c (digit_count c) a b h.some (width_few c fits) h.least h.small e

-- All counts but that of the widest.

module _ (counts : List ℕ) (small : All (λ c. c < 4096) counts) (w : ℕ) (e : w ≡ (count_widths counts).widest) where
  abbrev pub zeroed : List ℕ
  zeroed = slice_set counts w 0

  zeroed_many : length zeroed ≡ length counts
  zeroed_many = length-set counts w 0

  taken : (i : ℕ) → i ≤ length counts → length (take i zeroed) ≡ i
  taken i le = length-take-le i zeroed (let m = zeroed_many in omega (arith, m, le))

  next_is : (i : ℕ) → i < length counts → take (i + 1) zeroed ≡ take i zeroed ++ slice_index zeroed i ∷ []
  next_is i lt = take_more zeroed i 0 (let m = zeroed_many in omega (arith, m, lt))

  no_run : (i : ℕ) → i < length counts → (slice_index (count_widths counts).widths i == 13) ≡ false
  no_run i lt =
      let h = width_at counts i lt in
      let f = width_few (slice_index counts i) (small i 0 lt) in
      let b : slice_index (count_widths counts).widths i ≤ 12 = omega (arith, h, f) in
      grind (arith, nat_tests)

  at_widest : (i : ℕ) → i < length counts → i ≡ w → (bytes : List ℕ) (p : ℕ) → next_count_at 13 (count_widths counts) (take i zeroed) bytes p ≡ Ok (record { value = 0; position = p })
  unfolding next_count_at
  at_widest i lt same bytes p =
      let l = taken i (omega (arith, lt)) in
      let t = no_run i lt in
      let u : (i == (count_widths counts).widest) ≡ true = eq-eqb i (count_widths counts).widest (same ∙ e) in
      rw (l, t, u) refl

  at_other : (i : ℕ) → i < length counts → i ≢ w → (bytes : List ℕ) (p : ℕ) → next_count_at 13 (count_widths counts) (take i zeroed) bytes p ≡ count_at 13 (digit_count (slice_index counts i)) bytes p
  unfolding next_count_at
  at_other i lt other bytes p =
      let l = taken i (omega (arith, lt)) in
      let t = no_run i lt in
      let u : (i == (count_widths counts).widest) ≡ false = differ i (count_widths counts).widest (λ s. other (s ∙ sym e)) in
      rw (l, t, u) (ap (λ (n : ℕ). count_at 13 n bytes p) (width_at counts i lt))
    where
      differ : (x y : ℕ) → x ≢ y → (x == y) ≡ false
      differ x y h = grind (arith, nat_tests)

  pub step_widest : (i : ℕ) (a : List ℕ) → i < length counts → i ≡ w → Writes a a (counts_step 13 (count_widths counts) (take i zeroed)) (take (i + 1) zeroed)
  step_widest i a lt same =
      let z : slice_index zeroed i ≡ 0 = ap (λ (k : ℕ). slice_index zeroed k) same ∙ get_or-set_same counts w 0 0 (omega (arith, lt, same)) in
      let v : take i zeroed ++ 0 ∷ [] ≡ take (i + 1) zeroed = sym (next_is i lt ∙ ap (λ (x : ℕ). take i zeroed ++ x ∷ []) z) in
      becomes (writes_nothing (take (i + 1) zeroed) a) (λ bytes p q read. rw (at_widest i lt same bytes p, v) read)

  pub step_other : (i : ℕ) (a b : List ℕ) → i < length counts → i ≢ w → Writes a b (λ bytes p. count_at 13 (digit_count (slice_index counts i)) bytes p) (slice_index counts i) →
      Writes a b (counts_step 13 (count_widths counts) (take i zeroed)) (take (i + 1) zeroed)
  step_other i a b lt other h =
      let z : slice_index zeroed i ≡ slice_index counts i = get_or-set_other counts w i 0 0 other in
      let v : take i zeroed ++ slice_index counts i ∷ [] ≡ take (i + 1) zeroed = sym (next_is i lt ∙ ap (λ (x : ℕ). take i zeroed ++ x ∷ []) z) in
      becomes h (λ bytes p q read. rw (at_other i lt other bytes p ∙ read, v) refl)

  pub others_start : (a : List ℕ) → Writes a a (steps (counts_step 13 (count_widths counts)) 0 []) (take 0 zeroed)
  others_start a = writes_none (counts_step 13 (count_widths counts)) [] a

  pub others_next : (i : ℕ) (a b c : List ℕ) → Writes a b (steps (counts_step 13 (count_widths counts)) i []) (take i zeroed) → Writes b c (counts_step 13 (count_widths counts) (take i zeroed)) (take (i + 1) zeroed) →
      Writes a c (steps (counts_step 13 (count_widths counts)) (i + 1) []) (take (i + 1) zeroed)
  others_next i a b c u v = writes_steps (counts_step 13 (count_widths counts)) i [] (take i zeroed) (take (i + 1) zeroed) a b c u v

  pub others_all : (i : ℕ) (a b : List ℕ) → i ≡ length counts → Writes a b (steps (counts_step 13 (count_widths counts)) i []) (take i zeroed) → Writes a b (steps (counts_step 13 (count_widths counts)) (length counts) []) zeroed
  others_all i a b n u =
      subst (λ (xs : List ℕ). Writes a b (steps (counts_step 13 (count_widths counts)) (length counts) []) xs) (take_all (length counts) zeroed (let m = zeroed_many in omega (arith, m)))
      (subst (λ (k : ℕ). Writes a b (steps (counts_step 13 (count_widths counts)) k []) (take k zeroed)) n u)

  -- The whole.

  module _ (three : 3 ≤ length counts) (total : sum counts ≡ 4096) where
    inside : w < length counts
    inside = let t = (count_widths_top counts).there (let m = count_widths_many counts in omega (arith, m, three)) in let m = count_widths_many counts in let x = t.0 in omega (arith, e, x, m)

    left : sum zeroed + slice_index counts w ≡ 4096
    left = let s = sum_by-set (λ (x : ℕ). x) counts w 0 0 inside in omega (arith, s, total)

    some : 0 < slice_index counts w
    some = subst (λ (k : ℕ). 0 < slice_index counts k) (sym e) (widest_comes counts small (omega (arith, total)) (omega (arith, three)))

    given_back : slice_set zeroed w (whole - sum zeroed) ≡ counts
    given_back =
        let l = left in
        let r : whole - sum zeroed ≡ slice_index counts w = omega (arith, l) in
        ap (λ (x : ℕ). slice_set zeroed w x) r ∙ set-set counts w 0 (slice_index counts w) ∙ set-get_or counts w 0

    rest_is : with_rest zeroed w ≡ Ok counts
    rest_is =
        let l = left in
        let s = some in
        let t : nat_le whole (sum zeroed) ≡ false = lt-leb whole (sum zeroed) (omega (arith, l, s)) in
        rw (t, given_back) refl

    are : are_widths (count_widths counts) ≡ true
    are =
        let m = count_widths_many counts in
        let t = (count_widths_top counts).there (omega (arith, m, three)) in
        let y = t.1 in
        let a : nat_lt 0 (count_widths counts).most ≡ true = lt-ltb 0 (count_widths counts).most (omega (arith, y)) in
        let b : (slice_index (count_widths counts).widths ((count_widths counts).widest + 1) == 13) ≡ false = no_copy ((count_widths counts).widest + 1) in
        rw (a, b) refl
      where
        no_copy : (k : ℕ) → (slice_index (count_widths counts).widths k == 13) ≡ false
        no_copy k = elim (cases_lt k (length counts)) [ inl lt ↦ no_run k lt | inr le ↦ let z = width_past counts k le in grind (arith, nat_tests) ]

    precision_written : Writes [] (digits 6 55) precision_at 13
    unfolding precision_at ones_at
    precision_written =
        becomes (after (number_writes 1 1 [] (digits 1 1) (omega arith) refl) (after (number_writes 1 1 (digits 1 1) (digits 2 3) (omega arith) refl)
        (after (number_writes 1 1 (digits 2 3) (digits 3 7) (omega arith) refl) (number_writes 3 6 (digits 3 7) (digits 6 55) (omega arith) refl))))
        (λ bytes p q s. rw (s.1, s.2.1, s.2.2.1, s.2.2.2) refl)

    many_written : (b c d f g : List ℕ) → c ≡ b ++ digits 6 55 → Writes c d (λ bytes p. var_len_at bytes p false) (length counts - 3) →
        Writes d f (steps (widths_step (length counts)) (length counts) no_widths) (count_widths counts) → Writes f g (steps (counts_step 13 (count_widths counts)) (length counts) []) zeroed → Writes b g many_at counts
    unfolding many_at
    many_written b c d f g y u v o =
        let m : length counts - 3 + 3 ≡ length counts = omega (arith, three) in
        let r : with_rest zeroed (count_widths counts).widest ≡ Ok counts = ap (λ (k : ℕ). with_rest zeroed k) (sym e) ∙ rest_is in
        becomes (after (placed b c (digits 6 55) precision_written y) (after u (after v o))) (λ bytes p q s. rw (s.1, s.2.1, m, s.2.2.1, are, s.2.2.2, r) refl)

    pub counts_written : (a b c d f g : List ℕ) → b ≡ a ++ digits 2 0 → c ≡ b ++ digits 6 55 → Writes c d (λ bytes p. var_len_at bytes p false) (length counts - 3) →
        Writes d f (steps (widths_step (length counts)) (length counts) no_widths) (count_widths counts) → Writes f g (steps (counts_step 13 (count_widths counts)) (length counts) []) zeroed → Writes a g distribution_at counts
    unfolding distribution_at
    counts_written a b c d f g x y u v o =
        becomes
        (after (number_writes 1 0 a (a ++ digits 1 0) (omega arith) refl)
        (after (number_writes 1 0 (a ++ digits 1 0) b (omega arith) (x ∙ sym (append_assoc a (digits 1 0) (digits 1 0)))) (many_written b c d f g y u v o)))
        (λ bytes p q s. rw (s.1, s.2.1, s.2.2) refl)
