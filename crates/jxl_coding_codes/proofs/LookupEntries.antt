-- A codeword is read by its bits alone, so a table of numbers can tell it.
use Rattle.std.specs.Prelude.{◌≡◌, ℕ, suc, ◌+◌, ◌-◌, ◌*◌, ◌/◌, ◌%◌, ◌^◌, ◌<◌, ◌≤◌, List, [], ◌∷◌, ◌++◌, length, Bool, true, false, cond, nat_lt, Result, Ok, Err, slice_index, slice_index_or}
use Rattle.std.proofs.Common.{refl, sym, ap, subst, ◌∙◌, inl, inr, arith}
use Rattle.std.proofs.Math.Nat.{add-mul-mod_self_right, mod-eq_of_lt}
use Rattle.std.proofs.lemmas.Bool.{cases_lt}
use Rattle.std.proofs.lemmas.Bool.Decides.{nat_tests}
use Rattle.std.proofs.lemmas.List.{length-append, get_or_append_left, get_or-append-add}
use Rattle.jxlm_bits.specs.Bits.{bit_at, bits_at}
use Rattle.jxlm_bits.specs.Decoding.{Found}
use Rattle.jxlm_bits.specs.declared.decoder.DecoderError.{DecoderError}
use Rattle.jxlm_bits.specs.declared.decoder.DecoderError.TheVariants.{UnexpectedEof}
use Rattle.jxlm_bits.proofs.BitsLemmas.{bits_at-bound, bits_at-digit, bits_at-join, bits_at-byte}
use Rattle.jxl_coding_codes.specs.Fields.{number_at}
use Rattle.jxl_coding_codes.specs.PrefixCodes.{codeword_at}
use Rattle.jxl_coding_codes.specs.Lookups.{empty_entry, Tells, AllTell}
use Rattle.jxl_coding_codes.specs.declared.lookup.Entry.{Entry}

one_bit : (bytes : List ℕ) (q : ℕ) → q + 1 ≤ 8 * length bytes → number_at bytes q 1 ≡ Ok (record { value = bit_at bytes q; position = q + 1 })
unfolding number_at
one_bit bytes q le =
    let t : nat_lt (8 * length bytes) (q + 1) ≡ false = grind (arith, nat_tests) in
    let z : q + 0 ≡ q = omega arith in
    let v : bits_at bytes q 1 ≡ bit_at bytes q = rw z (omega arith) in
    rw (t, v) refl

no_bit : (bytes : List ℕ) (q : ℕ) → 8 * length bytes < q + 1 → number_at bytes q 1 ≡ Err UnexpectedEof
unfolding number_at
no_bit bytes q lt = let t : nat_lt (8 * length bytes) (q + 1) ≡ true = grind (arith, nat_tests) in rw t refl

ok_same : {A : Type 0} (x y : A) → (let r : Result A DecoderError = Ok x in r) ≡ Ok y → y ≡ x
ok_same x y h = cc

-- n bits are the same
abbrev Agree : List ℕ → ℕ → List ℕ → ℕ → ℕ → Type 0
Agree a p b q n = (i : ℕ) → i < n → bit_at a (p + i) ≡ bit_at b (q + i)

-- after a bit: the codeword has ended, or goes on
abbrev pub after_bit : List ℕ → List ℕ → ℕ → ℕ → List ℕ → ℕ → ℕ → Bool → Result (Found ℕ) DecoderError
after_bit counts symbols count place a p v t =
    cond t (Ok (record { value = slice_index_or symbols ((place + v) % 2 ^ 32) 0; position = p + 1 })) (codeword_at counts symbols (v - count) ((place + count) % 2 ^ 32) a (p + 1))

pub step : (counts symbols : List ℕ) (count code place : ℕ) (a : List ℕ) (p : ℕ) → p + 1 ≤ 8 * length a →
    codeword_at (count ∷ counts) symbols code place a p
    ≡ after_bit counts symbols count place a p ((2 * code + bit_at a p) % 2 ^ 32) (nat_lt ((2 * code + bit_at a p) % 2 ^ 32) count)
unfolding codeword_at
step counts symbols count code place a p le = rw (one_bit a p le) refl

pub ends : (counts symbols : List ℕ) (count code place : ℕ) (a : List ℕ) (p : ℕ) → 8 * length a < p + 1 → codeword_at (count ∷ counts) symbols code place a p ≡ Err UnexpectedEof
unfolding codeword_at
ends counts symbols count code place a p lt = rw (no_bit a p lt) refl

none_left : (symbols : List ℕ) (code place : ℕ) (a : List ℕ) (p : ℕ) (f : Found ℕ) → codeword_at [] symbols code place a p ≡ Ok f → ⊥
unfolding codeword_at
none_left symbols code place a p f h = cc

-- The codeword that was read has this number of bits, and is read wherever these stand.
record Anywhere (counts symbols : List ℕ) (code place : ℕ) (a : List ℕ) (p : ℕ) (f : Found ℕ) : Type 0 where
  pub many : ℕ
  pub end : f.position ≡ p + many
  pub there : (b : List ℕ) (q : ℕ) → q + many ≤ 8 * length b → Agree a p b q many → codeword_at counts symbols code place b q ≡ Ok (record { value = f.value; position = q + many })

same_first : (a : List ℕ) (p : ℕ) (b : List ℕ) (q n : ℕ) → 0 < n → Agree a p b q n → bit_at a p ≡ bit_at b q
same_first a p b q n lt agree =
    let s : bit_at a (p + 0) ≡ bit_at b (q + 0) = agree 0 lt in
    let zp : p + 0 ≡ p = omega arith in
    let zq : q + 0 ≡ q = omega arith in
    rw (zp, zq) at s

same_rest : (a : List ℕ) (p : ℕ) (b : List ℕ) (q n : ℕ) → Agree a p b q (suc n) → Agree a (p + 1) b (q + 1) n
same_rest a p b q n agree = λ i lt.
    let s : bit_at a (p + suc i) ≡ bit_at b (q + suc i) = agree (suc i) (omega (arith, lt)) in
    let ep : p + 1 + i ≡ p + suc i = omega arith in
    let eq : q + 1 + i ≡ q + suc i = omega arith in
    rw (ep, eq) s

by_bit : (counts symbols : List ℕ) (count code place : ℕ) (a : List ℕ) (p : ℕ) (f : Found ℕ)
    (after : (code place : ℕ) → codeword_at counts symbols code place a (p + 1) ≡ Ok f → Anywhere counts symbols code place a (p + 1) f) (t : Bool) → nat_lt ((2 * code + bit_at a p) % 2 ^ 32) count ≡ t →
    after_bit counts symbols count place a p ((2 * code + bit_at a p) % 2 ^ 32) t ≡ Ok f → Anywhere (count ∷ counts) symbols code place a p f
by_bit counts symbols count code place a p f after true e h =
    let x = ok_same _ f h in record {
      many = 1;
      end = ap (λ (g : Found ℕ). g.position) x;
      there = λ b q le agree. step counts symbols count code place b q le ∙ rw (← (same_first a p b q 1 (omega arith) agree), e, x) refl;
    }
by_bit counts symbols count code place a p f after false e h =
    let rest = after ((2 * code + bit_at a p) % 2 ^ 32 - count) ((place + count) % 2 ^ 32) h in record {
      many = suc rest.many;
      end = let k = rest.end in omega (arith, k);
      there = λ b q le agree.
          let w : q + suc rest.many ≡ q + 1 + rest.many = omega arith in
          let room : q + 1 + rest.many ≤ 8 * length b = omega (arith, le) in
          let more : codeword_at counts symbols ((2 * code + bit_at a p) % 2 ^ 32 - count) ((place + count) % 2 ^ 32) b (q + 1) ≡ Ok (record { value = f.value; position = q + 1 + rest.many }) = rest.there b (q + 1) room (same_rest a p b q rest.many agree) in
          step counts symbols count code place b q (omega (arith, le)) ∙ rw (← (same_first a p b q (suc rest.many) (omega arith) agree), e, w) more;
    }

anywhere : (counts symbols : List ℕ) (code place : ℕ) (a : List ℕ) (p : ℕ) (f : Found ℕ) → codeword_at counts symbols code place a p ≡ Ok f → Anywhere counts symbols code place a p f
anywhere [] symbols code place a p f h = absurd (none_left symbols code place a p f h)
anywhere (count ∷ counts) symbols code place a p f h =
    elim (cases_lt (8 * length a) (p + 1)) [
      | inl out ↦ absurd (clash (sym (ends counts symbols count code place a p out) ∙ h))
      | inr room ↦ by_bit counts symbols count code place a p f (λ c q k. anywhere counts symbols c q a (p + 1) f k) _ refl (sym (step counts symbols count code place a p room) ∙ h)
    ]
  where
    clash : {A : Type 0} {e : DecoderError} {x : A} → (let r : Result A DecoderError = Err e in r) ≡ Ok x → ⊥
    clash h = cc

-- the first bits of a number's bits
low_part : (bytes : List ℕ) (p l w : ℕ) → l ≤ w → bits_at bytes p w % 2 ^ l ≡ bits_at bytes p l
low_part bytes p l w le =
    let e : w ≡ l + (w - l) = omega arith in
    rw (e, bits_at-join bytes p l (w - l), add-mul-mod_self_right (bits_at bytes p l) (bits_at bytes (p + l) (w - l)) (2 ^ l)) (mod-eq_of_lt (bits_at-bound bytes p l))

-- the bits of two bytes
two_bytes : (a : List ℕ) (n eight : ℕ) → eight ≡ 8 → n < 2 ^ 16 → slice_index a 0 ≡ n % 256 → slice_index a 1 ≡ n / 256 → bits_at a 0 (eight + eight) ≡ n
two_bytes a n eight e lt low high =
    let first : bits_at a (8 * 0) eight ≡ slice_index a 0 = bits_at-byte a 0 eight e (omega (arith, low)) in
    let second : bits_at a (8 * 1) eight ≡ slice_index a 1 = bits_at-byte a 1 eight e (omega (arith, lt, high)) in
    let place : 0 + eight ≡ 8 * 1 = omega (arith, e) in
    let worth : 2 ^ eight ≡ 256 = ap (λ (k : ℕ). 2 ^ k) e in
    rw (bits_at-join a 0 eight eight, place, first, second, worth, low, high) (omega arith)

-- A number that was read.
module _ (bytes : List ℕ) (p n v q : ℕ) (h : number_at bytes p n ≡ Ok (record { value = v; position = q })) where
  abbrev read_as : Bool → Result (Found ℕ) DecoderError
  read_as t = cond t (Err UnexpectedEof) (Ok (record { value = bits_at bytes p n; position = p + n }))

  by_room : (t : Bool) → nat_lt (8 * length bytes) (p + n) ≡ t → read_as t ≡ Ok (record { value = v; position = q }) → (p + n ≤ 8 * length bytes) × ((bits_at bytes p n ≡ v) × (q ≡ p + n))
  by_room true e k = absurd cc
  by_room false e k =
      let same = ok_same _ _ k in
      let le : p + n ≤ 8 * length bytes = grind (arith, nat_tests) in
      (le, (sym (ap (λ (g : Found ℕ). g.value) same), ap (λ (g : Found ℕ). g.position) same))

  parts : (p + n ≤ 8 * length bytes) × ((bits_at bytes p n ≡ v) × (q ≡ p + n))
  unfolding number_at
  parts = by_room (nat_lt (8 * length bytes) (p + n)) refl h

  pub room_of : p + n ≤ 8 * length bytes
  room_of = parts.0

  value_of : bits_at bytes p n ≡ v
  value_of = parts.1.0

module _ (counts symbols : List ℕ) (start : ℕ) where
  -- an entry by the bits of its number
  pub read_tells : (n : ℕ) (a : List ℕ) (s l : ℕ) → n < 2 ^ 16 → l ≤ 16 → slice_index a 0 ≡ n % 256 → slice_index a 1 ≡ n / 256 →
      codeword_at counts symbols 0 start a 0 ≡ Ok (record { value = s; position = l }) → Tells counts symbols start n (record { symbol = s; length = l })
  read_tells n a s l lt le low high h = λ some bytes p room same.
      let w = anywhere counts symbols 0 start a 0 _ h in
      let many : w.many ≡ l = let k = w.end in omega (arith, k) in
      let mine : bits_at a 0 l ≡ n % 2 ^ l = sym (low_part a 0 l (8 + 8) le) ∙ ap (λ (k : ℕ). k % 2 ^ l) (two_bytes a n 8 refl lt low high) in
      let agree : Agree a 0 bytes p l = λ i below. sym (bits_at-digit a 0 l i below) ∙ rw (mine, ← same) (bits_at-digit bytes p l i below) in
      rw many at (w.there bytes p (rw many room) (rw many agree))

  -- an entry that tells nothing
  pub none_tells : (n : ℕ) → Tells counts symbols start n empty_entry
  none_tells n = λ some bytes p room same. absurd (omega (arith, some))

  -- a number whose last bits are the codeword of another's entry
  pub same_tells : (n m : ℕ) (e : Entry) → Tells counts symbols start m e → n % 2 ^ e.length ≡ m % 2 ^ e.length → Tells counts symbols start n e
  same_tells n m e tells same = λ some bytes p room here. tells some bytes p room (here ∙ same)

  -- one entry more
  pub one_more : (entries : List Entry) (e : Entry) → AllTell counts symbols start entries → Tells counts symbols start (length entries) e → AllTell counts symbols start (entries ++ e ∷ [])
  one_more entries e all one = λ n d lt.
      elim (cases_lt n (length entries)) [
        | inl below ↦ rw (get_or_append_left entries (e ∷ []) d n below) (all n d below)
        | inr past ↦
            let k : n ≡ length entries + 0 = let m = length-append entries (e ∷ []) in omega (arith, lt, m) in
            let z : length entries + 0 ≡ length entries = omega arith in
            rw (k, get_or-append-add entries (e ∷ []) 0 d, z) one
      ]

  -- the entry of the next bits
  pub next_tells : (entries : List Entry) (bytes : List ℕ) (p w next q : ℕ) (e : Entry) → AllTell counts symbols start entries →
      number_at bytes p w ≡ Ok (record { value = next; position = q }) → next < length entries → e ≡ slice_index_or entries next e → Tells counts symbols start (bits_at bytes p w) e
  next_tells entries bytes p w next q e all h within at =
      let value : bits_at bytes p w ≡ next = value_of bytes p w next q h in
      subst (λ (x : Entry). Tells counts symbols start (bits_at bytes p w) x) (sym at) (rw value (all next e within))

  -- the next bits tell a codeword
  pub told : (bytes : List ℕ) (p w q : ℕ) (e : Entry) → Tells counts symbols start (bits_at bytes p w) e → 0 < e.length → e.length ≤ w → p + w ≤ 8 * length bytes → q ≡ p + e.length →
      codeword_at counts symbols 0 start bytes p ≡ Ok (record { value = e.symbol; position = q })
  told bytes p w q e tells some le room end =
      let here : p + e.length ≤ 8 * length bytes = omega (arith, le, room) in
      rw end (tells some bytes p here (sym (low_part bytes p e.length w le)))
