-- A gamma token is read exactly where its code stands.
use Rattle.std.proofs.Common.{◌≡◌, ℕ, zero, suc, ◌+◌, ◌-◌, ◌*◌, ◌/◌, ◌%◌, ◌^◌, ◌<◌, ◌≤◌, List, length, nat_lt, ◌==◌, ◌&&◌, Bool, true, false, cond, Result, Ok, Err, refl, sym, ap, arith, ◌∙◌}
use Rattle.std.proofs.lemmas.Bool.Decides.{nat_tests}
use Rattle.std.proofs.lemmas.Nat.{pow_pos}
use Rattle.std.proofs.Math.Nat.{pow-suc, add-mul-div_right, add-mul-mod_self_right, div-eq_of_lt, mod-eq_of_lt, zero-add}
use Rattle.std.proofs.Math.Pow.{pow_mono}
use Rattle.jxlm_bits.specs.Bits.{bit_at, bits_at}
use Rattle.jxlm_bits.specs.Decoding.{Found, Taken}
use Rattle.jxlm_bits.specs.declared.decoder.DecoderError.{DecoderError}
use Rattle.jxlm_bits.proofs.BitsLemmas.{bit_at-bound, bits_at-bound, bits_at-join}
use Rattle.jxlm_plain.specs.Plain.{PlainState, zeros_end, low_bits, gamma_at, code_of, is_runs, token_at, plain_read}
use Rattle.jxlm_plain.specs.GammaCodes.{HasZeros, gamma_code, GammaStands, EachHasOneCode, GammaTokensAreCodes}
use Rattle.jxlm_plain.specs.Inner.PlainLaws.{bind_ok, ok_same}
use Rattle.jxlm_plain.specs.Inner.GammaReads.{few_at}
use Rattle.jxlm_plain.specs.declared.plain.Code.TheVariants.{Gamma}
use Rattle.jxlm_plain.specs.declared.plain.Mode.{Mode}
use Rattle.jxlm_plain.specs.declared.plain.Mode.TheVariants.{Unsealed, Sealed, Runs}
use Rattle.jxlm_plain.proofs.PlainTokens.{number_found, number_there}
use Rattle.jxlm_plain.proofs.GammaBits.{one_bit, ended_first, few_are}

-- one of two, where the other is an error
pub ok_chosen : {A : Type 0} (is : Bool) (r : Result A DecoderError) (e : DecoderError) (x : A) → cond is (Err e) r ≡ Ok x → (is ≡ false) × (r ≡ Ok x)
ok_chosen true r e x h = cc
ok_chosen false r e x h = (refl, h)

one_more : (a b : ℕ) → (a < b → ⊥) → (b < a → ⊥) → a ≡ b
one_more a b f g = grind (arith, f, g)

-- numbers of this number of digits
fewer_digits : (t n m : ℕ) → HasZeros t n → HasZeros t m → n < m → ⊥
fewer_digits t n m h k lt = let more = pow_mono {i = n + 1} {j = m} (omega arith) in omega (arith, more, h.1, k.0)

digits_of : (t k : ℕ) → t + 1 < 2 ^ k → (n : ℕ) × HasZeros t n
digits_of t zero h = absurd (omega arith)
digits_of t (suc k) h = chosen (nat_lt (t + 1) (2 ^ k)) refl (digits_of t k)
  where
    chosen : (b : Bool) → nat_lt (t + 1) (2 ^ k) ≡ b → (t + 1 < 2 ^ k → (n : ℕ) × HasZeros t n) → (n : ℕ) × HasZeros t n
    chosen true e fewer = fewer (grind (arith, nat_tests))
    chosen false e fewer = let s : suc k ≡ k + 1 = omega arith in (k, (grind (arith, nat_tests), rw s at h))

below_pow : (n : ℕ) → n < 2 ^ n
below_pow zero = omega arith
below_pow (suc n) = let h = below_pow n in omega (arith, h, pow-suc 2 n)

pub each_has_one_code : EachHasOneCode
each_has_one_code t =
    let d = digits_of t (t + 1) (below_pow (t + 1)) in
    (d.0, d.1, λ m h. one_more m d.0 (λ lt. fewer_digits t m d.0 h d.1 lt) (λ lt. fewer_digits t d.0 m d.1 h lt))

-- of numbers of at most 32 bits: at most 32 zeros, and 32 for the last alone
at_most : (t n : ℕ) → t < 2 ^ 32 → HasZeros t n → n ≤ 32
at_most t n lt h = chosen (nat_lt 32 n) refl
  where
    chosen : (b : Bool) → nat_lt 32 n ≡ b → n ≤ 32
    chosen true e = let more = pow_mono {i = 33} {j = n} (grind (arith, nat_tests)) in absurd (omega (arith, more, h.0))
    chosen false e = grind (arith, nat_tests)

-- n bits, a bit, and n bits
three : (bytes : List ℕ) (p n : ℕ) → bits_at bytes p (2 * n + 1) ≡ bits_at bytes p n + (bit_at bytes (p + n) + bits_at bytes (p + n + 1) n * 2) * 2 ^ n
three bytes p n =
    let e : 2 * n + 1 ≡ n + (1 + n) = omega arith in
    rw (e, bits_at-join bytes p n (1 + n), bits_at-join bytes (p + n) 1 n, one_bit bytes (p + n)) refl

apart : (a b c m : ℕ) → a < m → a + b * m ≡ c * m → (a ≡ 0) × (b ≡ c)
apart a b c m lt e =
    let some : 0 < m = omega arith in
    let low : (a + b * m) % m ≡ a = rw (add-mul-mod_self_right a b m) (mod-eq_of_lt lt) in
    let high : (a + b * m) / m ≡ b = rw (add-mul-div_right a b {z = m} some, div-eq_of_lt lt) (zero-add b) in
    let low2 : (0 + c * m) % m ≡ 0 = rw (add-mul-mod_self_right 0 c m) (mod-eq_of_lt some) in
    let high2 : (0 + c * m) / m ≡ c = rw (add-mul-div_right 0 c {z = m} some, div-eq_of_lt some) (zero-add c) in
    let same : a + b * m ≡ 0 + c * m = omega (arith, e) in
    (sym low ∙ ap (λ v. v % m) same ∙ low2, sym high ∙ ap (λ v. v / m) same ∙ high2)

coded : (n low : ℕ) → gamma_code (2 ^ n + low - 1) n ≡ (1 + low * 2) * 2 ^ n
coded n low =
    let some = pow_pos n in
    let e : 2 ^ n + low - 1 + 1 - 2 ^ n ≡ low = omega (arith, some) in
    let s : n + 1 ≡ suc n = omega arith in
    rw (e, s, pow-suc 2 n) (product (2 ^ n) low)
  where
    product : (m l : ℕ) → m + m * 2 * l ≡ (1 + l * 2) * m
    product m l = grind arith

-- n zeros, a one and n bits are the code of the number that they make
stands_by : (bytes : List ℕ) (p n low q : ℕ) → bits_at bytes p n ≡ 0 → bit_at bytes (p + n) ≡ 1 → low ≡ bits_at bytes (p + n + 1) n → q ≡ p + (2 * n + 1) → q ≤ 8 * length bytes →
    GammaStands bytes p (2 ^ n + low - 1) q
stands_by bytes p n low q zeros one is ends inside =
    let some = pow_pos n in
    let bound : low < 2 ^ n = rw is (bits_at-bound bytes (p + n + 1) n) in
    let s : n + 1 ≡ suc n = omega arith in
    let twice : 2 ^ (n + 1) ≡ 2 ^ n * 2 = rw s (pow-suc 2 n) in
    record {
      zeros = n;
      many = (omega (arith, some), omega (arith, some, bound, twice));
      ends = ends;
      inside = inside;
      bits = rw (three bytes p n, zeros, one, ← is, coded n low) (omega arith);
    }

-- what the low bits are
low_is : (bytes : List ℕ) (p n : ℕ) (x : Found ℕ) → n ≤ 32 → low_bits bytes p n ≡ Ok x → (p + n ≤ 8 * length bytes) × (x.value ≡ bits_at bytes p n) × (x.position ≡ p + n) × (2 ^ n + x.value ≤ 2 ^ 32)
unfolding low_bits
low_is bytes p n x le h =
    let c = ok_chosen ((n == 32) && nat_lt 0 (bits_at bytes p n)) _ _ x h in
    let f = number_found bytes p n x c.1 in
    let b = bits_at-bound bytes p n in
    (f.0, f.1, f.2, chosen (nat_lt n 32) refl (n == 32) refl (bits_at bytes p n) (sym f.1) c.0 b)
  where
    chosen : (b : Bool) → nat_lt n 32 ≡ b → (is : Bool) → (n == 32) ≡ is → (v : ℕ) → v ≡ x.value → is && nat_lt 0 v ≡ false → v < 2 ^ n → 2 ^ n + x.value ≤ 2 ^ 32
    chosen true e is k v same not lt =
        let s : n + 1 ≡ suc n = omega arith in
        let twice : 2 ^ (n + 1) ≡ 2 ^ n * 2 = rw s (pow-suc 2 n) in
        let more = pow_mono {i = n + 1} {j = 32} (grind (arith, nat_tests)) in
        omega (arith, twice, more)
    chosen false e true k zero same not lt = let all : n ≡ 32 = grind (arith, nat_tests) in rw (all, ← same) (omega arith)
    chosen false e true k (suc v) same not lt = absurd (grind (arith, nat_tests))
    chosen false e false k v same not lt = absurd (grind (arith, nat_tests))

-- a token that is read has its code there
read_stands : (bytes : List ℕ) (p t q : ℕ) → gamma_at bytes p ≡ Ok (record { value = t; position = q }) → (t < 2 ^ 32) × GammaStands bytes p t q
unfolding gamma_at
read_stands bytes p t q h =
    let a = bind_ok (zeros_end bytes p) _ (record { value = t; position = q }) h in
    let b = bind_ok (low_bits bytes a.0.position a.0.value) _ (record { value = t; position = q }) a.2 in
    let f = ended_first bytes p a.0 a.1 in
    let l = low_is bytes a.0.position a.0.value b.0 f.2 b.1 in
    let is_t : t ≡ 2 ^ a.0.value + b.0.value - 1 = ap (λ (x : Found ℕ). x.value) (ok_same _ _ b.2) in
    let is_q : q ≡ b.0.position = ap (λ (x : Found ℕ). x.position) (ok_same _ _ b.2) in
    let place : a.0.position ≡ p + a.0.value + 1 = omega (arith, f.3) in
    let some = pow_pos a.0.value in
    let where_low : b.0.value ≡ bits_at bytes (p + a.0.value + 1) a.0.value = l.1 ∙ ap (λ (r : ℕ). bits_at bytes r a.0.value) place in
    (omega (arith, some, is_t, l.3), rw is_t (stands_by bytes p a.0.value b.0.value q f.0 f.1 where_low (omega (arith, is_q, l.2, f.3)) (omega (arith, is_q, l.0, l.2))))

-- and a code that stands is read
low_read : (bytes : List ℕ) (p n : ℕ) → 2 ^ n + bits_at bytes p n ≤ 2 ^ 32 → p + n ≤ 8 * length bytes → low_bits bytes p n ≡ Ok (record { value = bits_at bytes p n; position = p + n })
unfolding low_bits
low_read bytes p n small within = rw (tested (bits_at bytes p n) (n == 32) refl small, number_there bytes p n within) refl
  where
    tested : (v : ℕ) (is : Bool) → (n == 32) ≡ is → 2 ^ n + v ≤ 2 ^ 32 → is && nat_lt 0 v ≡ false
    tested v false e small = refl
    tested zero true e small = refl
    tested (suc v) true e small = let all : n ≡ 32 = grind (arith, nat_tests) in absurd (let k = rw all at small in omega (arith, k))

stood_read : (bytes : List ℕ) (p t q : ℕ) → t < 2 ^ 32 → GammaStands bytes p t q → gamma_at bytes p ≡ Ok (record { value = t; position = q })
unfolding gamma_at few_at
stood_read bytes p t q lt g =
    let n : ℕ = g.zeros in
    let le = at_most t g.zeros lt g.many in
    let low : ℕ = t + 1 - 2 ^ g.zeros in
    let is_t : 2 ^ g.zeros + low - 1 ≡ t = omega (arith, g.many.0) in
    let all : bits_at bytes p g.zeros + (bit_at bytes (p + g.zeros) + bits_at bytes (p + g.zeros + 1) g.zeros * 2) * 2 ^ g.zeros ≡ (1 + low * 2) * 2 ^ g.zeros =
    sym (three bytes p g.zeros) ∙ g.bits ∙ ap (λ (v : ℕ). gamma_code v g.zeros) (sym is_t) ∙ coded g.zeros low in
    let a = apart (bits_at bytes p g.zeros) _ (1 + low * 2) (2 ^ g.zeros) (bits_at-bound bytes p g.zeros) all in
    let bound = bit_at-bound bytes (p + g.zeros) in
    let one : bit_at bytes (p + g.zeros) ≡ 1 = omega (arith, a.1) in
    let same : bits_at bytes (p + g.zeros + 1) g.zeros ≡ low = omega (arith, a.1) in
    let ends = g.ends in
    let inside = g.inside in
    let place : p + (g.zeros + 1) ≡ p + g.zeros + 1 = omega arith in
    let last : p + g.zeros + 1 + g.zeros ≡ q = omega arith in
    let few : 2 ^ g.zeros + bits_at bytes (p + g.zeros + 1) g.zeros ≤ 2 ^ 32 = rw same (omega (arith, g.many.0)) in
    rw (few_are bytes p g.zeros le a.0 one, number_there bytes p (g.zeros + 1) (omega arith), place, low_read bytes (p + g.zeros + 1) g.zeros few (omega arith), same, is_t, last) refl

abbrev taken : PlainState → ℕ → ℕ → Result (Taken ℕ PlainState) DecoderError
taken after t q = Ok (record { value = t; state = after; position = q })

-- a read of a gamma cluster is one of its token
there : (s : PlainState) (bytes : List ℕ) (p c m t q : ℕ) (mode : Mode) → s.mode ≡ mode → is_runs mode ≡ false → code_of s.codes c ≡ Gamma → gamma_at bytes p ≡ Ok (record { value = t; position = q }) →
    (after : PlainState) × (plain_read s bytes p c m ≡ taken after t q)
unfolding plain_read token_at
there s bytes p c m t q Unsealed is runs e h = (record s { mode = Unsealed }, rw (is, e, h) refl)
there s bytes p c m t q (Sealed sum) is runs e h = (record s { mode = Sealed ((sum + 256 - t % 256) % 256) }, rw (is, e, h) refl)
there s bytes p c m t q (Runs last left) is runs e h = cc

found_is : (f : Found ℕ) (t q : ℕ) → f.value ≡ t → f.position ≡ q → f ≡ record { value = t; position = q }
found_is f t q h k = rw (← h, ← k) refl

read_by : (mode : Mode) → is_runs mode ≡ false → (bytes : List ℕ) (p : ℕ) (x : Taken ℕ Mode) (t q : ℕ) → token_at mode Gamma bytes p ≡ Ok x → x.value ≡ t → x.position ≡ q → gamma_at bytes p ≡ Ok (record { value = t; position = q })
unfolding token_at
read_by Unsealed runs bytes p x t q h is_t is_q =
    let b = bind_ok (gamma_at bytes p) _ x h in
    b.1 ∙ ap (λ (f : Found ℕ). Ok f) (found_is b.0 t q (sym (ap (λ (r : Taken ℕ Mode). r.value) (ok_same _ _ b.2)) ∙ is_t) (sym (ap (λ (r : Taken ℕ Mode). r.position) (ok_same _ _ b.2)) ∙ is_q))
read_by (Sealed sum) runs bytes p x t q h is_t is_q =
    let b = bind_ok (gamma_at bytes p) _ x h in
    b.1 ∙ ap (λ (f : Found ℕ). Ok f) (found_is b.0 t q (sym (ap (λ (r : Taken ℕ Mode). r.value) (ok_same _ _ b.2)) ∙ is_t) (sym (ap (λ (r : Taken ℕ Mode). r.position) (ok_same _ _ b.2)) ∙ is_q))
read_by (Runs last left) runs bytes p x t q h is_t is_q = cc

back : (s : PlainState) (bytes : List ℕ) (p c m t q : ℕ) (mode : Mode) (after : PlainState) → s.mode ≡ mode → is_runs mode ≡ false → code_of s.codes c ≡ Gamma → plain_read s bytes p c m ≡ taken after t q →
    gamma_at bytes p ≡ Ok (record { value = t; position = q })
unfolding plain_read
back s bytes p c m t q mode after is runs e h =
    let b = bind_ok (token_at s.mode (code_of s.codes c) bytes p) _ (record { value = t; state = after; position = q }) h in
    let same = ok_same _ _ b.2 in
    let gamma : token_at s.mode (code_of s.codes c) bytes p ≡ token_at mode Gamma bytes p = rw (is, e) refl in
    read_by mode runs bytes p b.0 t q (sym gamma ∙ b.1) (sym (ap (λ (x : Taken ℕ PlainState). x.value) same)) (sym (ap (λ (x : Taken ℕ PlainState). x.position) same))

pub gamma_tokens_are_codes : GammaTokensAreCodes
gamma_tokens_are_codes s bytes p c m t q runs e =
    (λ r. read_stands bytes p t q (back s bytes p c m t q s.mode r.0 refl runs e r.1), λ g. there s bytes p c m t q s.mode refl runs e (stood_read bytes p t q g.0 g.1))
