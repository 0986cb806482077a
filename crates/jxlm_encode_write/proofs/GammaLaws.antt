-- Decoders of the second format and gamma codes that were written are read.
use Rattle.std.proofs.Common.{◌≡◌, inl, inr, ℕ, suc, ◌+◌, ◌-◌, ◌*◌, ◌^◌, ◌<◌, ◌≤◌, List, ◌++◌, length, replicate, false, Result, Ok, Err, refl, sym, ap, ◌∙◌, arith, append_assoc}
use Rattle.std.specs.List.{flat_map}
use Rattle.std.proofs.lemmas.List.{length-append}
use Rattle.std.proofs.lemmas.Nat.{pow_pos}
use Rattle.std.proofs.Math.Nat.{mod-eq_of_lt, pow-suc}
use Rattle.std.proofs.Math.Pow.{pow_mono}
use Rattle.std.proofs.lemmas.Bool.{cases_lt}
use Rattle.jxlm_bits.specs.Bits.{bits_at}
use Rattle.jxlm_bits.specs.Decoding.{Taken}
use Rattle.jxlm_bits.specs.ErrorKind.{◌>>=◌}
use Rattle.jxlm_bits.specs.declared.decoder.DecoderError.{DecoderError}
use Rattle.jxlm_bits.proofs.BitsLemmas.{bits_at-join}
use Rattle.jxlm_bits.specs.Numbers.{floor_log2}
use Rattle.jxlm_weighted.proofs.Ranges.{floor_log2_is}
use Rattle.jxlm_plain.specs.Plain.{PlainState, code2_at, fields_at, gamma_at, plain2, plain2_parse, plain_begin, plain_read, token_at}
use Rattle.jxlm_plain.specs.declared.plain.Code.TheVariants.{Gamma}
use Rattle.jxlm_plain.specs.declared.plain.Mode.{Mode}
use Rattle.jxlm_plain.specs.declared.plain.Mode.TheVariants.{Unsealed}
use Rattle.jxlm_plain.specs.GammaCodes.{GammaStands}
use Rattle.jxlm_plain.proofs.GammaCodes.{gamma_tokens_are_codes}
use Rattle.jxlm_bit_writer.specs.Written.{digits, HasBits}
use Rattle.jxlm_encode_write.specs.Tokens.{gamma_decoder_bits, gamma_bits, one_gamma_cluster}
use Rattle.jxlm_encode_write.specs.Laws.{GammaTokensAreRead}
use Rattle.jxlm_bit_writer.proofs.BitLists.{length-digits, number_stands, has_first, has_rest, has_moved}
use Rattle.jxlm_encode_write.proofs.TokenLaws.{number_read, mode_read, clusters_read, length-clusters}
use Rattle.jxlm_encode_write.proofs.Writable.{IsWritable}

-- the zeros of a token's code
pub zeros_fit : (t : ℕ) → t < 2 ^ 32 → (floor_log2 (t + 1) ≤ 32) × (2 ^ floor_log2 (t + 1) ≤ t + 1) × (t + 1 < 2 ^ floor_log2 (t + 1) + 2 ^ floor_log2 (t + 1))
zeros_fit t lt =
    let f = floor_log2_is (t + 1) (omega arith) (omega arith) in
    let twice = pow-suc 2 (floor_log2 (t + 1)) in (
      elim (cases_lt (floor_log2 (t + 1)) 33) [
        | inl few ↦ omega (arith, few)
        | inr many ↦ (let more : 2 ^ 33 ≤ 2 ^ floor_log2 (t + 1) = pow_mono many in absurd (omega (arith, more, f.0)))
      ],
      f.0,
      omega (arith, f.1, twice),
    )

code2_read : (bytes : List ℕ) (p : ℕ) → HasBits bytes p (digits 2 2) → code2_at bytes false p ≡ Ok (record { value = Gamma; position = p + 2 })
unfolding code2_at
code2_read bytes p h = rw (number_read bytes p 2 2 (omega arith) h) refl

fields_read : (bytes : List ℕ) (p contexts q : ℕ) → HasBits bytes p (digits 6 0 ++ (flat_map (digits 4) (replicate contexts 0) ++ digits 2 2)) → q ≡ p + 2 + 4 + 4 * contexts + 2 →
    fields_at code2_at bytes p contexts ≡ Ok (record { value = one_gamma_cluster contexts; position = q })
unfolding fields_at
fields_read bytes p contexts q h e =
    let map : List ℕ = flat_map (digits 4) (replicate contexts 0) in
    let m = length-clusters contexts in
    let six = has_first bytes p (digits 6 0) (map ++ digits 2 2) h in
    let rest = has_moved bytes (p + length (digits 6 0)) (p + 2 + 4) (map ++ digits 2 2) (omega arith) (has_rest bytes p (digits 6 0) (map ++ digits 2 2) h) in
    let q1 : ℕ = p + 2 + 4 + 4 * contexts in
    let count = has_moved bytes (p + 2) (p + 2) (digits 4 0) refl (has_rest bytes p (digits 2 0) (digits 4 0) six) in
    let clusters = has_first bytes (p + 2 + 4) map (digits 2 2) rest in
    let kind = has_moved bytes (p + 2 + 4 + length map) q1 (digits 2 2) (omega (arith, m)) (has_rest bytes (p + 2 + 4) map (digits 2 2) rest) in
    rw (mode_read bytes p six, number_read bytes (p + 2) 4 0 (omega arith) count, clusters_read bytes (p + 2 + 4) contexts q1 clusters refl, code2_read bytes q1 kind)
    (ap (λ (r : ℕ). Ok (record { value = one_gamma_cluster contexts; position = r })) (sym e))

-- the decoder that was written is read
gamma_decoder_read : (bytes : List ℕ) (p contexts q : ℕ) → HasBits bytes p (gamma_decoder_bits contexts) → q ≡ p + length (gamma_decoder_bits contexts) →
    plain2_parse bytes p contexts ≡ Ok (record { value = one_gamma_cluster contexts; position = q })
unfolding plain2_parse
gamma_decoder_read bytes p contexts q h e =
    let map : List ℕ = flat_map (digits 4) (replicate contexts 0) in
    let m = length-clusters contexts in
    let a = length-append (digits 4 2 ++ digits 6 0 ++ map) (digits 2 2) in
    let b = length-append (digits 4 2 ++ digits 6 0) map in
    let nested : gamma_decoder_bits contexts ≡ digits 4 2 ++ (digits 6 0 ++ (map ++ digits 2 2)) =
    append_assoc (digits 4 2 ++ digits 6 0) map (digits 2 2) ∙ append_assoc (digits 4 2) (digits 6 0) (map ++ digits 2 2) in
    let g = rw nested at h in
    let version = has_first bytes p (digits 4 2) (digits 6 0 ++ (map ++ digits 2 2)) g in
    let rest = has_moved bytes (p + length (digits 4 2)) (p + 4) (digits 6 0 ++ (map ++ digits 2 2)) (omega arith) (has_rest bytes p (digits 4 2) (digits 6 0 ++ (map ++ digits 2 2)) g) in
    rw (number_read bytes p 4 2 (omega arith) version) (fields_read bytes (p + 4) contexts q rest (omega (arith, a, b, m, e)))

pub length-gamma : (t : ℕ) → length (gamma_bits t) ≡ 2 * floor_log2 (t + 1) + 1
unfolding gamma_bits
length-gamma t =
    let n : ℕ = floor_log2 (t + 1) in
    let a = length-append (digits (floor_log2 (t + 1)) 0 ++ digits 1 1) (digits (floor_log2 (t + 1)) (t + 1 - 2 ^ floor_log2 (t + 1))) in
    let b = length-append (digits (floor_log2 (t + 1)) 0) (digits 1 1) in
    let c = length-digits (floor_log2 (t + 1)) 0 in
    let e = length-digits (floor_log2 (t + 1)) (t + 1 - 2 ^ floor_log2 (t + 1)) in
    omega (arith, a, b, c, e)

-- n bits, one, and n
parts : (bytes : List ℕ) (p n : ℕ) → bits_at bytes p (2 * n + 1) ≡ bits_at bytes p n + (bits_at bytes (p + n) 1 + bits_at bytes (p + n + 1) n * 2 ^ 1) * 2 ^ n
parts bytes p n =
    let e : 2 * n + 1 ≡ n + (1 + n) = omega arith in
    rw (e, bits_at-join bytes p n (1 + n), bits_at-join bytes (p + n) 1 n) refl

product : (m low : ℕ) → 0 + (1 + low * 2 ^ 1) * m ≡ m + m * 2 * low
product m low = grind arith

-- n zeros, a one and n digits are the code
code_stands : (bytes : List ℕ) (p n t : ℕ) → 2 ^ n ≤ t + 1 → t + 1 < 2 ^ n + 2 ^ n → HasBits bytes p (digits n 0 ++ digits 1 1 ++ digits n (t + 1 - 2 ^ n)) → GammaStands bytes p t (p + (2 * n + 1))
code_stands bytes p n t least most h =
    let low : ℕ = t + 1 - 2 ^ n in
    let some = pow_pos n in
    let l = length-digits n 0 in
    let k = length-digits n low in
    let a = length-append (digits n 0 ++ digits 1 1) (digits n low) in
    let b = length-append (digits n 0) (digits 1 1) in
    let two = has_first bytes p (digits n 0 ++ digits 1 1) (digits n low) h in
    let zeros : bits_at bytes p n ≡ 0 = number_stands bytes p n 0 (has_first bytes p (digits n 0) (digits 1 1) two) ∙ mod-eq_of_lt some in
    let one_has = has_moved bytes (p + length (digits n 0)) (p + n) (digits 1 1) (omega (arith, l)) (has_rest bytes p (digits n 0) (digits 1 1) two) in
    let one : bits_at bytes (p + n) 1 ≡ 1 = number_stands bytes (p + n) 1 1 one_has in
    let low_has = has_moved bytes (p + length (digits n 0 ++ digits 1 1)) (p + n + 1) (digits n low) (omega (arith, b, l)) (has_rest bytes p (digits n 0 ++ digits 1 1) (digits n low) h) in
    let small : low < 2 ^ n = omega (arith, least, most) in
    let is : bits_at bytes (p + n + 1) n ≡ low = number_stands bytes (p + n + 1) n low low_has ∙ mod-eq_of_lt small in
    let i = h.inside in
    let next : n + 1 ≡ suc n = omega arith in
    let twice : 2 ^ (n + 1) ≡ 2 ^ n * 2 = rw next (pow-suc 2 n) in
    record {
      zeros = n;
      many = (least, omega (arith, most, twice));
      ends = refl;
      inside = omega (arith, i, a, b, l, k);
      bits = parts bytes p n ∙ ap (λ x. x + (bits_at bytes (p + n) 1 + bits_at bytes (p + n + 1) n * 2 ^ 1) * 2 ^ n) zeros
          ∙ ap (λ x. 0 + (x + bits_at bytes (p + n + 1) n * 2 ^ 1) * 2 ^ n) one ∙ ap (λ x. 0 + (1 + x * 2 ^ 1) * 2 ^ n) is
          ∙ product (2 ^ n) low ∙ ap (λ x. 2 ^ n + x * low) (sym twice);
    }

bind_ok : {A B : Type 0} (r : Result A DecoderError) (f : A → Result B DecoderError) (y : B) → (r >>= f) ≡ Ok y → (x : A) × (r ≡ Ok x) × (f x ≡ Ok y)
bind_ok (Ok x) f y h = (x, refl, h)
bind_ok (Err e) f y h = cc

abbrev ok : {A : Type 0} → A → Result A DecoderError
ok x = Ok x

ok_same : {A : Type 0} (x y : A) → ok x ≡ ok y → y ≡ x
ok_same x y h = cc

-- a read of a gamma cluster leaves the decoder as it is
left_as_it_is : (contexts : ℕ) (bytes : List ℕ) (p m v q : ℕ) (after : PlainState) → plain_read (one_gamma_cluster contexts) bytes p 0 m ≡ Ok (record { value = v; state = after; position = q }) →
    plain_read (one_gamma_cluster contexts) bytes p 0 m ≡ Ok (record { value = v; state = one_gamma_cluster contexts; position = q })
unfolding plain_read token_at
left_as_it_is contexts bytes p m v q after h =
    let b = bind_ok (token_at Unsealed Gamma bytes p) _ (record { value = v; state = after; position = q }) h in
    let g = bind_ok (gamma_at bytes p) _ b.0 b.1 in
    let mode : b.0.state ≡ Unsealed = ap (λ (x : Taken ℕ Mode). x.state) (ok_same _ _ g.2) in
    let state : after ≡ one_gamma_cluster contexts = ap (λ (x : Taken ℕ PlainState). x.state) (ok_same _ _ b.2) ∙ ap (λ (x : Mode). record (one_gamma_cluster contexts) { mode = x }) mode in
    h ∙ ap (λ (x : PlainState). Ok (record { value = v; state = x; position = q })) state

pub gamma_tokens_are_read : GammaTokensAreRead
unfolding gamma_bits
gamma_tokens_are_read contexts bytes p m v lt h =
    let f = zeros_fit v lt in
    let stands = code_stands bytes p (floor_log2 (v + 1)) v f.1 f.2 h in
    let read = (gamma_tokens_are_codes (one_gamma_cluster contexts) bytes p 0 m v (p + (2 * floor_log2 (v + 1) + 1)) refl refl).1 (lt, stands) in
    rw (length-gamma v) (left_as_it_is contexts bytes p m v (p + (2 * floor_log2 (v + 1) + 1)) read.0 read.1)

begun : (bytes : List ℕ) (p contexts : ℕ) → plain_begin (one_gamma_cluster contexts) bytes p ≡ Ok (record { value = one_gamma_cluster contexts; position = p })
unfolding plain_begin
begun bytes p contexts = refl

-- decoders of a gamma cluster and gamma codes are written and read
pub gamma_writable : IsWritable plain2 one_gamma_cluster gamma_decoder_bits gamma_bits (λ v. v < 2 ^ 32)
gamma_writable = record {
  parsed = gamma_decoder_read;
  begun = begun;
  reads = gamma_tokens_are_read;
  ended = λ contexts. refl;
  clusters = λ contexts. refl;
}
