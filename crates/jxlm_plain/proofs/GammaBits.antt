-- The zeros of a gamma token: where the first one bit stands, and what stands after the end of the input.
use Rattle.std.proofs.Common.{◌≡◌, ℕ, zero, suc, ◌+◌, ◌-◌, ◌*◌, ◌/◌, ◌%◌, ◌^◌, ◌<◌, ◌≤◌, List, length, slice_index, nat_lt, Bool, true, false, cond, Result, Ok, Err, IfOk, refl, sym, arith, add-zero, ◌∙◌}
use Rattle.std.specs.Int.{w32, w64, trailing_zeros}
use Rattle.std.specs.Int.Count.{trailing_of_zero}
use Rattle.std.proofs.lemmas.Bool.Decides.{nat_tests}
use Rattle.std.proofs.lemmas.Nat.Bits.{bit_at-trailing_zeros}
use Rattle.std.proofs.lemmas.List.{get_or_past}
use Rattle.std.proofs.Math.Nat.{zero-div}
use Rattle.jxlm_bits.specs.Bits.{bit_at, bits_at}
use Rattle.jxlm_bits.specs.Decoding.{Found, Fails, Gives}
use Rattle.jxlm_bits.specs.ErrorKind.{◌>>=◌}
use Rattle.jxlm_bits.specs.declared.decoder.DecoderError.{DecoderError}
use Rattle.jxlm_bits.specs.declared.decoder.DecoderError.TheVariants.{UnexpectedEof, Invalid}
use Rattle.jxlm_bits.proofs.BitsLemmas.{bits_at-bound, bits_at-join, bits_at-digit}
use Rattle.jxlm_plain.specs.Plain.{zeros_at, zeros_end, low_bits, number_at}
use Rattle.jxlm_plain.specs.Inner.PlainLaws.{bind_ok, ok_same}
use Rattle.jxlm_plain.specs.Inner.GammaReads.{next_at, few_at, many_at}
use Rattle.jxlm_plain.proofs.PlainTokens.{number_there, number_found, number_cut}

pub one_bit : (bytes : List ℕ) (p : ℕ) → bits_at bytes p 1 ≡ bit_at bytes p
one_bit bytes p = rw (add-zero p) (omega arith)

zero_digit : (k : ℕ) → 0 / 2 ^ k % 2 ≡ 0
zero_digit k = rw (zero-div (2 ^ k)) refl

-- after the end each bit is 0
bit_past : (bytes : List ℕ) (i : ℕ) → 8 * length bytes ≤ i → bit_at bytes i ≡ 0
bit_past bytes i h =
    let e : slice_index bytes (i / 8) ≡ 0 = get_or_past bytes (i / 8) 0 (omega arith) in
    rw e (zero_digit (i % 8))

bits_past : (bytes : List ℕ) (p n : ℕ) → 8 * length bytes ≤ p → bits_at bytes p n ≡ 0
bits_past bytes p zero h = refl
bits_past bytes p (suc n) h = rw (bits_past bytes p n h, bit_past bytes (p + n) (omega arith)) (omega arith)

-- bits up to the end are all that there are
pub bits_until : (bytes : List ℕ) (p k n : ℕ) → 8 * length bytes ≤ p + k → k ≤ n → bits_at bytes p n ≡ bits_at bytes p k
bits_until bytes p k n past le =
    let e : n ≡ k + (n - k) = omega arith in
    rw (e, bits_at-join bytes p k (n - k), bits_past bytes (p + k) (n - k) past) (omega arith)

-- of zero bits each is 0
zero_bit : (bytes : List ℕ) (p n j : ℕ) → bits_at bytes p n ≡ 0 → j < n → bit_at bytes (p + j) ≡ 0
zero_bit bytes p n j h lt = let d = bits_at-digit bytes p n j lt in let z : bits_at bytes p n / 2 ^ j % 2 ≡ 0 = rw h (zero_digit j) in sym d ∙ z

-- and bits that are each 0 are zero
zero_bits : (bytes : List ℕ) (p n : ℕ) → ((i : ℕ) → i < n → bit_at bytes (p + i) ≡ 0) → bits_at bytes p n ≡ 0
zero_bits bytes p zero h = refl
zero_bits bytes p (suc n) h = rw (zero_bits bytes p n (λ i lt. h i (omega arith)), h n (omega arith)) (omega arith)

-- what is above a one bit is no zero
one_makes_more : (bytes : List ℕ) (p n m : ℕ) → bit_at bytes (p + n) ≡ 1 → n < m → 0 < bits_at bytes p m
one_makes_more bytes p n m one lt =
    let d = bits_at-digit bytes p m n lt in
    let e : bits_at bytes p m / 2 ^ n % 2 ≡ 1 = d ∙ one in
    more (bits_at bytes p m) e
  where
    more : (v : ℕ) → v / 2 ^ n % 2 ≡ 1 → 0 < v
    more zero h = let z = zero_digit n in absurd (omega arith)
    more (suc v) h = omega arith

-- Of m bits of which one is set: the first that is, and those before it.
pub record First (bytes : List ℕ) (p m t : ℕ) : Type 0 where
  pub within : t < m
  pub one : bit_at bytes (p + t) ≡ 1
  pub zeros : bits_at bytes p t ≡ 0

pub first_one : (bytes : List ℕ) (p : ℕ) → 0 < bits_at bytes p 64 → First bytes p 64 (zeros_at bytes p)
unfolding zeros_at
first_one bytes p more =
    let t = bit_at-trailing_zeros w64 (bits_at bytes p 64) more (bits_at-bound bytes p 64) in
    record {
      within = t.0;
      one = sym (bits_at-digit bytes p 64 (zeros_at bytes p) t.0) ∙ t.1;
      zeros = zero_bits bytes p (zeros_at bytes p) (λ i lt. sym (bits_at-digit bytes p 64 i (omega (arith, t.0, lt))) ∙ t.2 i lt);
    }

pub first_of_32 : (bytes : List ℕ) (p : ℕ) → 0 < bits_at bytes p 32 → First bytes p 32 (trailing_zeros w32 (bits_at bytes p 32))
first_of_32 bytes p more =
    let t = bit_at-trailing_zeros w32 (bits_at bytes p 32) more (bits_at-bound bytes p 32) in
    record {
      within = t.0;
      one = sym (bits_at-digit bytes p 32 (trailing_zeros w32 (bits_at bytes p 32)) t.0) ∙ t.1;
      zeros = zero_bits bytes p (trailing_zeros w32 (bits_at bytes p 32)) (λ i lt. sym (bits_at-digit bytes p 32 i (omega (arith, t.0, lt))) ∙ t.2 i lt);
    }

exact : (t n : ℕ) → (t < n → ⊥) → (n < t → ⊥) → t ≡ n
exact t n a b = grind (arith, a, b)

-- the zeros before a one bit are counted
pub zeros_are : (bytes : List ℕ) (p n : ℕ) → n < 64 → bits_at bytes p n ≡ 0 → bit_at bytes (p + n) ≡ 1 → zeros_at bytes p ≡ n
zeros_are bytes p n lt zeros one =
    let f = first_one bytes p (one_makes_more bytes p n 64 one lt) in
    let not_before : zeros_at bytes p < n → ⊥ = λ before. let z = zero_bit bytes p n (zeros_at bytes p) zeros before in let o = f.one in cc in
    let not_after : n < zeros_at bytes p → ⊥ = λ after. let z = zero_bit bytes p (zeros_at bytes p) n f.zeros after in cc in
    exact (zeros_at bytes p) n not_before not_after

-- where the next k bits are zeros, there are k or more
pub zeros_many : (bytes : List ℕ) (p k : ℕ) → k ≤ 64 → bits_at bytes p k ≡ 0 → k ≤ zeros_at bytes p
unfolding zeros_at
zeros_many bytes p k le zeros = chosen (bits_at bytes p 64) refl
  where
    chosen : (v : ℕ) → bits_at bytes p 64 ≡ v → k ≤ zeros_at bytes p
    chosen zero none = rw (none, trailing_of_zero 64) le
    chosen (suc v) some =
        let f = first_one bytes p (rw some (omega arith)) in
        let not_before : zeros_at bytes p < k → ⊥ = λ before. let z = zero_bit bytes p k (zeros_at bytes p) zeros before in let o = f.one in cc in
        grind (arith, not_before)

abbrev zeros_by : Bool → List ℕ → ℕ → ℕ → Result (Found ℕ) DecoderError
zeros_by b bytes p n = cond b (do
  all ← number_at bytes p 33
  Err (Invalid 7))
    (do
      all ← number_at bytes p (n + 1)
      Ok (record { value = n; position = all.position }))

-- after 32 zeros the input ends before one bit more
cut_by : (bytes : List ℕ) (p n : ℕ) (b : Bool) → nat_lt 32 n ≡ b → 32 ≤ n → 8 * length bytes < p + 33 → zeros_by b bytes p n ≡ Err UnexpectedEof
unfolding number_at
cut_by bytes p n true h more cut = let k : nat_lt (8 * length bytes) (p + 33) ≡ true = grind (arith, nat_tests) in rw k refl
cut_by bytes p n false h more cut = let k : nat_lt (8 * length bytes) (p + (n + 1)) ≡ true = grind (arith, nat_tests) in rw k refl

zeros_cut : (bytes : List ℕ) (p : ℕ) → bits_at bytes p 32 ≡ 0 → 8 * length bytes < p + 33 → zeros_end bytes p ≡ Err UnexpectedEof
unfolding zeros_end
zeros_cut bytes p zeros cut = cut_by bytes p (zeros_at bytes p) (nat_lt 32 (zeros_at bytes p)) refl (zeros_many bytes p 32 (omega arith) zeros) cut

-- and so does what is read
many_cut : (bytes : List ℕ) (p : ℕ) (b : Bool) → nat_lt (8 * length bytes) (p + 32) ≡ b → 8 * length bytes < p + 33 → many_at bytes p ≡ Err UnexpectedEof
unfolding many_at number_at
many_cut bytes p true h cut = rw h refl
many_cut bytes p false h cut = let k : nat_lt (8 * length bytes) (p + 32 + 1) ≡ true = grind (arith, nat_tests) in rw (h, k) refl

-- n zeros and a one
pub few_are : (bytes : List ℕ) (p n : ℕ) → n ≤ 32 → bits_at bytes p n ≡ 0 → bit_at bytes (p + n) ≡ 1 → zeros_end bytes p ≡ few_at bytes p n
unfolding zeros_end few_at
few_are bytes p n le zeros one =
    let e : zeros_at bytes p ≡ n = zeros_are bytes p n (omega arith) zeros one in
    let k : nat_lt 32 n ≡ false = grind (arith, nat_tests) in
    rw (e, k) refl

-- at most 32 zeros are before a one bit
first_under : (bytes : List ℕ) (p : ℕ) → zeros_at bytes p ≤ 32 → First bytes p 64 (zeros_at bytes p)
unfolding zeros_at
first_under bytes p le = chosen (bits_at bytes p 64) refl
  where
    chosen : (v : ℕ) → bits_at bytes p 64 ≡ v → First bytes p 64 (zeros_at bytes p)
    chosen zero none = let all : zeros_at bytes p ≡ 64 = rw (none, trailing_of_zero 64) refl in absurd (omega (arith, le, all))
    chosen (suc v) some = first_one bytes p (rw some (omega arith))

ended_by : (bytes : List ℕ) (p : ℕ) (x : Found ℕ) (b : Bool) → nat_lt 32 (zeros_at bytes p) ≡ b → zeros_by b bytes p (zeros_at bytes p) ≡ Ok x →
    (bits_at bytes p x.value ≡ 0) × (bit_at bytes (p + x.value) ≡ 1) × (x.value ≤ 32) × (x.position ≡ p + (x.value + 1))
ended_by bytes p x true e h = let b = bind_ok (number_at bytes p 33) _ x h in absurd (err_is b.2)
  where
    err_is : Err (Invalid 7) ≡ Ok x → ⊥
    err_is k = cc
ended_by bytes p x false e h =
    let b = bind_ok (number_at bytes p (zeros_at bytes p + 1)) _ x h in
    let n = number_found bytes p (zeros_at bytes p + 1) b.0 b.1 in
    let le : zeros_at bytes p ≤ 32 = grind (arith, nat_tests) in
    let f = first_under bytes p le in
    rw (ok_same _ _ b.2) (f.zeros, f.one, le, n.2)

-- zeros that ended: their number, a one, and the position after it
pub ended_first : (bytes : List ℕ) (p : ℕ) (x : Found ℕ) → zeros_end bytes p ≡ Ok x → (bits_at bytes p x.value ≡ 0) × (bit_at bytes (p + x.value) ≡ 1) × (x.value ≤ 32) × (x.position ≡ p + (x.value + 1))
unfolding zeros_end
ended_first bytes p x h = ended_by bytes p x (nat_lt 32 (zeros_at bytes p)) refl h

-- 33 bits are there, of which 32 are zeros
many_by : (bytes : List ℕ) (p v : ℕ) → bits_at bytes (p + 32) 1 ≡ v → v < 2 → bits_at bytes p 32 ≡ 0 → p + 33 ≤ 8 * length bytes → zeros_end bytes p ≡ many_at bytes p
unfolding zeros_end many_at few_at
many_by bytes p zero last lt zeros within =
    let all : bits_at bytes p 33 ≡ 0 = rw (bits_at-join bytes p 32 1, zeros, last) refl in
    let more : 33 ≤ zeros_at bytes p = zeros_many bytes p 33 (omega arith) all in
    let k : nat_lt 32 (zeros_at bytes p) ≡ true = grind (arith, nat_tests) in
    rw (k, number_there bytes p 33 within, number_there bytes p 32 (omega arith), number_there bytes (p + 32) 1 (omega arith), last) refl
many_by bytes p (suc v) last lt zeros within =
    let is_one : bits_at bytes (p + 32) 1 ≡ 1 = rw last (omega arith) in
    let one : bit_at bytes (p + 32) ≡ 1 = sym (one_bit bytes (p + 32)) ∙ is_one in
    let place : p + 32 + 1 ≡ p + 33 = omega arith in
    rw (few_are bytes p 32 (omega arith) zeros one, number_there bytes p 33 within, number_there bytes p 32 (omega arith), number_there bytes (p + 32) 1 (omega arith), is_one, place) refl

pub many_are : (bytes : List ℕ) (p : ℕ) → next_at bytes p ≡ 0 → zeros_end bytes p ≡ many_at bytes p
unfolding next_at
many_are bytes p zeros = chosen (nat_lt (8 * length bytes) (p + 33)) refl
  where
    chosen : (b : Bool) → nat_lt (8 * length bytes) (p + 33) ≡ b → zeros_end bytes p ≡ many_at bytes p
    chosen true h =
        let cut : 8 * length bytes < p + 33 = grind (arith, nat_tests) in
        zeros_cut bytes p zeros cut ∙ sym (many_cut bytes p (nat_lt (8 * length bytes) (p + 32)) refl cut)
    chosen false h = many_by bytes p (bits_at bytes (p + 32) 1) refl (bits_at-bound bytes (p + 32) 1) zeros (grind (arith, nat_tests))

-- a one among the next 32 bits
pub few_within : (bytes : List ℕ) (p : ℕ) → 0 < next_at bytes p → trailing_zeros w32 (next_at bytes p) < 32
unfolding next_at
few_within bytes p some = (first_of_32 bytes p some).within

pub few_found : (bytes : List ℕ) (p : ℕ) → 0 < next_at bytes p → zeros_end bytes p ≡ few_at bytes p (trailing_zeros w32 (next_at bytes p))
unfolding next_at
few_found bytes p some =
    let f = first_of_32 bytes p some in
    few_are bytes p (trailing_zeros w32 (bits_at bytes p 32)) (omega (arith, f.within)) f.zeros f.one

-- what is read near the end is all that there is
pub all_read : (bytes : List ℕ) (p k value q : ℕ) → k ≤ 32 → 8 * length bytes < p + (k + 1) → number_at bytes p k ≡ Ok (record { value = value; position = q }) → value ≡ next_at bytes p
unfolding next_at
all_read bytes p k value q le few h =
    let a = number_found bytes p k (record { value = value; position = q }) h in
    a.1 ∙ sym (bits_until bytes p k 32 (omega arith) le)

pub all_is : (bytes : List ℕ) (p value q : ℕ) → number_at bytes p 32 ≡ Ok (record { value = value; position = q }) → value ≡ next_at bytes p
unfolding next_at
all_is bytes p value q h = (number_found bytes p 32 (record { value = value; position = q }) h).1

pub none_read : (bytes : List ℕ) (p : ℕ) → 8 * length bytes < p + 1 → 0 ≡ next_at bytes p
unfolding next_at
none_read bytes p few = sym (bits_until bytes p 0 32 (omega arith) (omega arith))

pub fewer_left : (bytes : List ℕ) (p b : ℕ) (e : DecoderError) → e ≡ UnexpectedEof → Fails e (number_at bytes p b) → 8 * length bytes < p + b
fewer_left bytes p b e is h = (number_cut bytes p b UnexpectedEof (rw is at h)).0

-- the 32 bits after the longest tokens' one: some is no zero, or none
pub low_some : (bytes : List ℕ) (p : ℕ) → 0 < next_at bytes p → low_bits bytes p 32 ≡ Err (Invalid 7)
unfolding low_bits next_at
low_some bytes p some = let k : nat_lt 0 (bits_at bytes p 32) ≡ true = grind (arith, nat_tests) in rw k refl

pub low_none : (bytes : List ℕ) (p : ℕ) → next_at bytes p ≡ 0 → low_bits bytes p 32 ≡ number_at bytes p 32
unfolding low_bits next_at
low_none bytes p none = rw none refl

pub low_zero : (bytes : List ℕ) (p q : ℕ) (r : Result ℕ DecoderError) → next_at bytes p ≡ 0 → Gives (λ v. v) r q (number_at bytes p 32) → IfOk r (λ low. low ≡ 0)
low_zero bytes p q (Ok value) none h = all_is bytes p value q h ∙ none
low_zero bytes p q (Err e) none h = tt
