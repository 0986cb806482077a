-- Bits in bytes that others come before and after, and the zeros up to the next byte.
use Rattle.std.proofs.Common.{◌≡◌, ℕ, zero, suc, ◌+◌, ◌-◌, ◌*◌, ◌/◌, ◌%◌, ◌^◌, ◌<◌, List, ◌++◌, length, replicate, refl, sym, ap, ◌∙◌, arith}
use Rattle.std.specs.Prelude.{slice_index}
use Rattle.std.proofs.lemmas.List.{length-append, append-nil, get_or_append_left, get_or-append-add, get_or-replicate, length-replicate}
use Rattle.jxlm_bits.specs.Bits.{bit_at, bits_at}
use Rattle.jxl_image_header.specs.Fields.{zero_pad_to_byte}
use Rattle.jxlm_bit_writer.specs.Written.{AreFilled, HasBits}
use Rattle.jxlm_bit_writer.proofs.BitLists.{filled_stands, has_rest, length-bits}

-- what is in bytes is there whatever follows them,
pub has_more : (xs ys : List ℕ) (p : ℕ) (bits : List ℕ) → HasBits xs p bits → HasBits (xs ++ ys) p bits
has_more xs ys p bits h = record {
  inside = let l = length-append xs ys in let i = h.inside in omega (arith, l, i);
  each = λ j below.
      let i = h.inside in
      let within : (p + j) / 8 < length xs = omega (arith, i, below) in
      ap (λ n. n / 2 ^ ((p + j) % 8) % 2) (get_or_append_left xs ys 0 ((p + j) / 8) within) ∙ h.each j below;
}

-- and whatever comes before them, behind that
pub has_behind : (xs ys : List ℕ) (p q : ℕ) (bits : List ℕ) → q ≡ 8 * length xs + p → HasBits ys p bits → HasBits (xs ++ ys) q bits
has_behind xs ys p q bits e h = record {
  inside = let l = length-append xs ys in let i = h.inside in omega (arith, l, i, e);
  each = λ j below.
      let place : (q + j) / 8 ≡ length xs + (p + j) / 8 = omega (arith, e) in
      let within : (q + j) % 8 ≡ (p + j) % 8 = omega (arith, e) in
      ap (λ k. slice_index (xs ++ ys) k / 2 ^ ((q + j) % 8) % 2) place
      ∙ ap (λ n. n / 2 ^ ((q + j) % 8) % 2) (get_or-append-add xs ys ((p + j) / 8) 0)
      ∙ ap (λ k. slice_index ys ((p + j) / 8) / 2 ^ k % 2) within
      ∙ h.each j below;
}

-- bits that fill bytes, with the zeros after them
pub filled_whole : (bytes bits : List ℕ) (f : AreFilled bytes bits) → HasBits bytes 0 (bits ++ replicate f.zeros 0)
filled_whole bytes bits f = filled_stands bytes (bits ++ replicate f.zeros 0) (record { zeros = 0; few = omega arith; filled = f.filled ∙ sym (append-nil (bits ++ replicate f.zeros 0)) })

-- how many bits they are
pub filled_exact : (bytes bits : List ℕ) (f : AreFilled bytes bits) → length bits + f.zeros ≡ 8 * length bytes
filled_exact bytes bits f =
    let m = ap length f.filled in
    let n = length-bits bytes in
    let l = length-append bits (replicate f.zeros 0) in
    let z : length {A = ℕ} (replicate f.zeros 0) ≡ f.zeros = length-replicate f.zeros 0 in
    omega (arith, m, n, l, z)

nothing : (x : ℕ) → 0 + 0 * x ≡ 0
nothing x = omega arith

-- zero bits are the number 0
zero_bits : (bytes : List ℕ) (p n : ℕ) → ((j : ℕ) → j < n → bit_at bytes (p + j) ≡ 0) → bits_at bytes p n ≡ 0
zero_bits bytes p zero h = refl
zero_bits bytes p (suc n) h = rw (zero_bits bytes p n (λ j lt. h j (omega (arith, lt))), h n (omega arith)) (nothing (2 ^ n))

-- the zeros after bits that fill bytes are what the reader wants there
pub padding_stands : (before bytes after bits : List ℕ) (p q : ℕ) → AreFilled bytes bits → p ≡ 8 * length before + length bits → q ≡ 8 * (length before + length bytes) →
    zero_pad_to_byte.Stands (before ++ (bytes ++ after)) p 0 q
unfolding zero_pad_to_byte
padding_stands before bytes after bits p q f ep eq =
    let whole : HasBits (before ++ (bytes ++ after)) (8 * length before) (bits ++ replicate f.zeros 0) =
    has_behind before (bytes ++ after) 0 (8 * length before) (bits ++ replicate f.zeros 0) (omega arith) (has_more bytes after 0 (bits ++ replicate f.zeros 0) (filled_whole bytes bits f)) in
    let zeros : HasBits (before ++ (bytes ++ after)) (8 * length before + length bits) (replicate f.zeros 0) = has_rest (before ++ (bytes ++ after)) (8 * length before) bits (replicate f.zeros 0) whole in
    let few = f.few in
    let exact = filled_exact bytes bits f in
    let count : (8 - p % 8) % 8 ≡ f.zeros = omega (arith, ep, few, exact) in
    let l : length {A = ℕ} (replicate f.zeros 0) ≡ f.zeros = length-replicate f.zeros 0 in
    let inside = zeros.inside in
    let value : bits_at (before ++ (bytes ++ after)) p f.zeros ≡ 0 =
    ap (λ n. bits_at (before ++ (bytes ++ after)) n f.zeros) ep
    ∙ zero_bits (before ++ (bytes ++ after)) (8 * length before + length bits) f.zeros (λ j lt. zeros.each j (omega (arith, lt, l)) ∙ get_or-replicate f.zeros j 0 0 lt) in
    (p, p, (refl, refl), (0, q, (omega (arith, count, ep, inside, l), sym (ap (λ n. bits_at (before ++ (bytes ++ after)) p n) count ∙ value), omega (arith, count, ep, eq, exact)), (refl, refl)))
