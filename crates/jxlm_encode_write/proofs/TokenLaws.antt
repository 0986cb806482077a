-- Plain decoders and tokens that were written are read.
use Rattle.std.proofs.Common.{◌≡◌, ℕ, zero, suc, ◌+◌, ◌*◌, ◌^◌, ◌<◌, ◌≤◌, List, [], ◌++◌, length, replicate, false, Ok, refl, sym, ap, ◌∙◌, arith}
use Rattle.std.specs.List.{flat_map}
use Rattle.std.proofs.lemmas.Bool.{le-ltb}
use Rattle.std.proofs.lemmas.List.{length-append}
use Rattle.std.proofs.Math.Nat.{mod-eq_of_lt}
use Rattle.jxlm_plain.specs.Plain.{number_at, mode_at, cluster_at, items_at, code_after, code_at, fields_at, plain, plain_parse, plain_begin, plain_read, token_at}
use Rattle.jxlm_plain.specs.declared.plain.Code.TheVariants.{Fixed}
use Rattle.jxlm_plain.specs.declared.plain.Mode.TheVariants.{Unsealed}
use Rattle.jxlm_bit_writer.specs.Written.{digits, HasBits}
use Rattle.jxlm_encode_write.specs.Tokens.{decoder_bits, one_cluster}
use Rattle.jxlm_encode_write.specs.Laws.{TokensAreRead}
use Rattle.jxlm_encode_write.proofs.Writable.{IsWritable}
use Rattle.jxlm_bit_writer.proofs.BitLists.{length-digits, number_stands, has_first, has_rest, has_moved}

-- a number that stands is read
pub number_read : (bytes : List ℕ) (p n v : ℕ) → v < 2 ^ n → HasBits bytes p (digits n v) → number_at bytes p n ≡ Ok (record { value = v; position = p + n })
unfolding number_at
number_read bytes p n v small h =
    let l = length-digits n v in
    let i = h.inside in
    rw (le-ltb (8 * length bytes) (p + n) (omega (arith, l, i)), number_stands bytes p n v h, mod-eq_of_lt small) refl

pub mode_read : (bytes : List ℕ) (p : ℕ) → HasBits bytes p (digits 6 0) → mode_at bytes p ≡ Ok (record { value = Unsealed; position = p + 2 })
unfolding mode_at
mode_read bytes p h =
    let e : p + 1 + 1 ≡ p + 2 = omega arith in
    rw (number_read bytes p 1 0 (omega arith) (has_first bytes p (digits 1 0) (digits 5 0) h), number_read bytes (p + 1) 1 0 (omega arith) (has_first bytes (p + 1) (digits 1 0) (digits 4 0) (has_rest bytes p (digits 1 0) (digits 5 0) h)))
    (ap (λ (q : ℕ). Ok (record { value = Unsealed; position = q })) e)

cluster_read : (bytes : List ℕ) (p : ℕ) → HasBits bytes p (digits 4 0) → cluster_at bytes 1 p ≡ Ok (record { value = 0; position = p + 4 })
unfolding cluster_at
cluster_read bytes p h = rw (number_read bytes p 4 0 (omega arith) h) refl

pub length-clusters : (n : ℕ) → length (flat_map (digits 4) (replicate n 0)) ≡ 4 * n
length-clusters zero = refl
length-clusters (suc n) =
    let l = length-append (digits 4 0) (flat_map (digits 4) (replicate n 0)) in
    let m = length-clusters n in
    omega (arith, l, m)

pub clusters_read : (bytes : List ℕ) (p n q : ℕ) → HasBits bytes p (flat_map (digits 4) (replicate n 0)) → q ≡ p + 4 * n → items_at (cluster_at bytes 1) n p ≡ Ok (record { value = replicate n 0; position = q })
clusters_read bytes p zero q h e = let s : p ≡ q = omega (arith, e) in ap (λ (r : ℕ). Ok (record { value = []; position = r })) s
clusters_read bytes p (suc n) q h e =
    rw (
      cluster_read bytes p (has_first bytes p (digits 4 0) (flat_map (digits 4) (replicate n 0)) h),
      clusters_read bytes (p + 4) n q (has_rest bytes p (digits 4 0) (flat_map (digits 4) (replicate n 0)) h) (omega (arith, e)),
    ) refl

code_read : (bytes : List ℕ) (p width : ℕ) → width ≤ 32 → HasBits bytes p (digits 1 0) → HasBits bytes (p + 1) (digits 6 width) → code_at bytes false p ≡ Ok (record { value = Fixed width; position = p + 1 + 6 })
unfolding code_at code_after
code_read bytes p width narrow h k =
    rw (number_read bytes p 1 0 (omega arith) h, number_read bytes (p + 1) 6 width (omega (arith, narrow)) k, le-ltb 32 width narrow) refl

-- the decoder that was written is read
pub decoder_read : (bytes : List ℕ) (p contexts width q : ℕ) → width ≤ 32 → HasBits bytes p (decoder_bits contexts width) → q ≡ p + length (decoder_bits contexts width) →
    plain_parse bytes p contexts ≡ Ok (record { value = one_cluster contexts width; position = q })
unfolding fields_at
decoder_read bytes p contexts width q narrow h e =
    let map : List ℕ = flat_map (digits 4) (replicate contexts 0) in
    let m = length-clusters contexts in
    let a = length-append (digits 6 0) map in
    let b = length-append (digits 6 0 ++ map) (digits 1 0) in
    let c = length-append (digits 6 0 ++ map ++ digits 1 0) (digits 6 width) in
    let w = length-digits 6 width in
    let three = has_first bytes p (digits 6 0 ++ map ++ digits 1 0) (digits 6 width) h in
    let two = has_first bytes p (digits 6 0 ++ map) (digits 1 0) three in
    let one = has_first bytes p (digits 6 0) map two in
    let q1 : ℕ = p + 2 + 4 + 4 * contexts in
    let count = has_moved bytes (p + 2) (p + 2) (digits 4 0) refl (has_rest bytes p (digits 2 0) (digits 4 0) one) in
    let clusters = has_moved bytes (p + length (digits 6 0)) (p + 2 + 4) map (omega arith) (has_rest bytes p (digits 6 0) map two) in
    let kind = has_moved bytes (p + length (digits 6 0 ++ map)) q1 (digits 1 0) (omega (arith, a, m)) (has_rest bytes p (digits 6 0 ++ map) (digits 1 0) three) in
    let wide = has_moved bytes (p + length (digits 6 0 ++ map ++ digits 1 0)) (q1 + 1) (digits 6 width) (omega (arith, a, b, m)) (has_rest bytes p (digits 6 0 ++ map ++ digits 1 0) (digits 6 width) h) in
    let end : q1 + 1 + 6 ≡ q = omega (arith, a, b, c, w, m, e) in
    rw (mode_read bytes p one, number_read bytes (p + 2) 4 0 (omega arith) count, clusters_read bytes (p + 2 + 4) contexts q1 clusters refl, code_read bytes q1 width narrow kind wide)
    (ap (λ (r : ℕ). Ok (record { value = one_cluster contexts width; position = r })) end)

-- a token that was written is read
pub token_read : (contexts width : ℕ) (bytes : List ℕ) (p m v : ℕ) → v < 2 ^ width → HasBits bytes p (digits width v) →
    plain_read (one_cluster contexts width) bytes p 0 m ≡ Ok (record { value = v; state = one_cluster contexts width; position = p + width })
unfolding plain_read token_at
token_read contexts width bytes p m v small h = rw (number_read bytes p width v small h) refl

pub tokens_are_read : TokensAreRead
tokens_are_read contexts width bytes p m v small h = token_read contexts width bytes p m v small h

begun : (bytes : List ℕ) (w contexts q : ℕ) → plain_begin (one_cluster contexts w) bytes q ≡ Ok (record { value = one_cluster contexts w; position = q })
unfolding plain_begin
begun bytes w contexts q = refl

-- tokens of a width are read
pub fixed_reads : (w contexts : ℕ) (bytes : List ℕ) (p m v : ℕ) → v < 2 ^ w → HasBits bytes p (digits w v) →
    plain.read (one_cluster contexts w) bytes p 0 m ≡ Ok (record { value = v; state = one_cluster contexts w; position = p + length (digits w v) })
fixed_reads w contexts bytes p m v small h =
    token_read contexts w bytes p m v small h ∙ ap (λ (n : ℕ). Ok (record { value = v; state = one_cluster contexts w; position = p + n })) (sym (length-digits w v))

-- decoders and tokens of a width are written and read
pub fixed_writable : (w : ℕ) → w ≤ 32 → IsWritable plain (λ contexts. one_cluster contexts w) (λ contexts. decoder_bits contexts w) (digits w) (λ v. v < 2 ^ w)
fixed_writable w narrow = record {
  parsed = λ bytes p contexts q h e. decoder_read bytes p contexts w q narrow h e;
  begun = λ bytes p contexts. begun bytes w contexts p;
  reads = fixed_reads w;
  ended = λ contexts. refl;
  clusters = λ contexts. refl;
}
