-- Laws of readings that were written: one after another, and many of a kind.
use Rattle.std.proofs.Common.{◌≡◌, ℕ, zero, suc, ◌+◌, List, [], ◌++◌, Result, Ok, Err, refl, sym, ap, ◌∙◌, arith}
use Rattle.jxlm_bits.specs.Decoding.{Found}
use Rattle.jxlm_bits.specs.ErrorKind.{◌>>=◌}
use Rattle.jxlm_bits.specs.declared.decoder.DecoderError.{DecoderError}
use Rattle.jxlm_bit_writer.specs.Writes.{Adds, Writes}
use Rattle.jxlm_bit_writer.proofs.WriteLaws.{after, becomes, none_added}
use Rattle.jxl_coding_codes.specs.Reading.{steps}

-- what a reader reads at a bit position
abbrev pub Reading : Type 0 → Type 0
Reading X = List ℕ → ℕ → Result (Found X) DecoderError

-- a word that was added to no bits, added to others
pub placed : {P : List ℕ → ℕ → ℕ → Type 0} (a b w : List ℕ) → Adds [] w P → b ≡ a ++ w → Adds a b P
placed a b w u e = record { word = u.word; added = e ∙ ap (λ (xs : List ℕ). a ++ xs) u.added; holds = u.holds }

-- no bits, of which nothing is read
pub writes_nothing : {X : Type 0} (x : X) (a : List ℕ) → Writes {E = DecoderError} a a (λ bytes p. Ok (record { value = x; position = p })) x
writes_nothing x a = becomes (none_added a) (λ bytes p q e. ap (λ (r : ℕ). Ok (record { value = x; position = r })) (sym e))

-- another name of what was read
pub writes_renamed : {X Y : Type 0} (read : Reading X) (f : X → Y) (x : X) (a b : List ℕ) → Writes a b read x → Writes a b (λ bytes p. read bytes p >>= λ found. Ok (record { value = f found.value; position = found.position })) (f x)
writes_renamed read f x a b u = becomes u (λ bytes p q s. rw s refl)

abbrev found_of : {X : Type 0} → X → ℕ → Found X
found_of x p = record { value = x; position = p }

abbrev ok : {X : Type 0} → X → Result X DecoderError
ok x = Ok x

same_found : {X : Type 0} (x y : X) (p q : ℕ) → ok (found_of x p) ≡ ok (found_of y q) → found_of x p ≡ found_of y q
same_found x y p q e = cc

-- what follows a result that holds
through : {X Y : Type 0} (one : Result X DecoderError) (k l : X → Result Y DecoderError) (a b : Y) → ((x : X) → k x ≡ ok a → l x ≡ ok b) → (one >>= k) ≡ ok a → (one >>= l) ≡ ok b
through (Ok x) k l a b h e = h x e
through (Err f) k l a b h e = cc

-- readings one after another: one more
module _ {X : Type 0} (step : X → Reading X) (bytes : List ℕ) where
  ok_value : (x y : X) (p q : ℕ) (r : Result (Found X) DecoderError) → r ≡ Ok (record { value = x; position = p }) → r ≡ Ok (record { value = y; position = q }) → (x ≡ y) × (p ≡ q)
  ok_value x y p q r e f =
      let g : found_of x p ≡ found_of y q = same_found x y p q (sym e ∙ f) in
      (ap (λ (z : Found X). z.value) g, ap (λ (z : Found X). z.position) g)

  steps_more : (n : ℕ) (x y z : X) (p q r : ℕ) → steps step n x bytes p ≡ Ok (record { value = y; position = q }) → step y bytes q ≡ Ok (record { value = z; position = r }) →
      steps step (suc n) x bytes p ≡ Ok (record { value = z; position = r })
  unfolding steps
  steps_more zero x y z p q r first last =
      let same = ok_value x y p q (Ok (record { value = x; position = p })) refl first in
      let s : step x bytes p ≡ Ok (record { value = z; position = r }) = rw (same.0, same.1) last in
      rw s refl
  steps_more (suc n) x y z p q r first last =
      through (step x bytes p) _ _ (found_of y q) (found_of z r) (λ found rest. steps_more n found.value y z found.position q r rest last) first

pub writes_none : {X : Type 0} (step : X → Reading X) (x : X) (a : List ℕ) → Writes a a (steps step 0 x) x
unfolding steps
writes_none step x a = writes_nothing x a

pub writes_steps : {X : Type 0} (step : X → Reading X) (n : ℕ) (x y z : X) (a b c : List ℕ) → Writes a b (steps step n x) y → Writes b c (step y) z → Writes a c (steps step (n + 1) x) z
writes_steps step n x y z a b c u v =
    let m : suc n ≡ n + 1 = omega arith in
    becomes (after u v) (λ bytes p q s. ap (λ k. steps step k x bytes p) (sym m) ∙ steps_more step bytes n x y z p s.0 q s.1 s.2)
