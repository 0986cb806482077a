-- Reading items one after another, as a loop does.
use Rattle.std.proofs.Common.{◌≡◌, ℕ, suc, ◌-◌, ◌+◌, ◌≤◌, ◌<◌, List, [], ◌∷◌, ◌++◌, Result, Ok, Err, refl, sym, ap, ◌∙◌, append_assoc, arith}
use Rattle.std.proofs.lemmas.List.{append-nil}
use Rattle.jxlm_bits.specs.declared.decoder.DecoderError.{DecoderError}
use Rattle.jxlm_bits.specs.declared.decoder.DecoderError.TheVariants.{UnexpectedEof, Invalid, OutOfMemory}
use Rattle.jxlm_bits.specs.Decoding.{Found, Fails}
use Rattle.jxlm_bits.specs.ErrorKind.{◌>>=◌}
use Rattle.jxlm_plain.specs.Plain.{items_at}

-- what was read before, and what is still read
abbrev pub with_front : {X : Type 0} → List X → Result (Found (List X)) DecoderError → Result (Found (List X)) DecoderError
with_front front read = read >>= λ x. Ok (record { value = front ++ x.value; position = x.position })

regroup : {X : Type 0} (front : List X) (n : X) (read : Result (Found (List X)) DecoderError) →
    with_front front (read >>= λ x. Ok (record { value = n ∷ x.value; position = x.position })) ≡ with_front (front ++ n ∷ []) read
regroup {X} front n (Ok x) = ap (λ (ns : List X). Ok (record { value = ns; position = x.position })) (simp append_assoc)
regroup front n (Err f) = refl

pub begins : {X : Type 0} (read : Result (Found (List X)) DecoderError) → with_front [] read ≡ read
begins (Ok x) = refl
begins (Err f) = refl

-- one more item was read
pub goes_on : {X : Type 0} (item : ℕ → Result (Found X) DecoderError) (front : List X) (count i p q : ℕ) (x : X) (total : Result (Found (List X)) DecoderError) → i < count →
    item p ≡ Ok (record { value = x; position = q }) → with_front front (items_at item (count - i) p) ≡ total →
    with_front (front ++ x ∷ []) (items_at item (count - (i + 1)) q) ≡ total
goes_on item front count i p q x total lt h so_far =
    let k : count - i ≡ suc (count - (i + 1)) = omega arith in
    let one : with_front front (items_at item (count - i) p) ≡ with_front (front ++ x ∷ []) (items_at item (count - (i + 1)) q) =
    rw (k, h) (regroup front x (items_at item (count - (i + 1)) q)) in
    sym one ∙ so_far

-- the next item gives an error, and so does the whole
pub refused : {X : Type 0} (item : ℕ → Result (Found X) DecoderError) (e : DecoderError) (front : List X) (count i p : ℕ)
    (total : Result (Found (List X)) DecoderError) → i < count → Fails e (item p) → with_front front (items_at item (count - i) p) ≡ total → Fails e total
refused item OutOfMemory front count i p total lt h so_far = tt
refused item UnexpectedEof front count i p total lt h so_far =
    let k : count - i ≡ suc (count - (i + 1)) = omega arith in
    let one : with_front front (items_at item (count - i) p) ≡ Err UnexpectedEof = rw (k, h) refl in
    sym so_far ∙ one
refused item (Invalid n) front count i p total lt h so_far =
    let k : count - i ≡ suc (count - (i + 1)) = omega arith in
    let one : with_front front (items_at item (count - i) p) ≡ Err (Invalid n) = rw (k, h) refl in
    sym so_far ∙ one

-- all items were read
pub is_done : {X : Type 0} (item : ℕ → Result (Found X) DecoderError) (front : List X) (count i p : ℕ) (total : Result (Found (List X)) DecoderError) → count ≤ i →
    with_front front (items_at item (count - i) p) ≡ total → total ≡ Ok (record { value = front; position = p })
is_done {X} item front count i p total le so_far =
    let k : count - i ≡ 0 = omega arith in
    let one : with_front front (items_at item (count - i) p) ≡ Ok (record { value = front; position = p }) =
    rw k (ap (λ (ns : List X). Ok (record { value = ns; position = p })) (append-nil front)) in
    sym so_far ∙ one
