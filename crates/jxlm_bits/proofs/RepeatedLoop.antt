-- Reading fields of one kind one after another, as a loop does.
use Rattle.std.proofs.Common.{◌≡◌, ℕ, suc, ◌-◌, ◌+◌, ◌≤◌, ◌<◌, List, [], ◌∷◌, ◌++◌, Result, Ok, Err, refl, sym, ap, ◌∙◌, append_assoc, arith}
use Rattle.std.proofs.lemmas.List.{append-nil}
use Rattle.jxlm_bits.specs.Decoding.{Found}
use Rattle.jxlm_bits.specs.ErrorKind.{ErrorAt, ◌>>=◌}
use Rattle.jxlm_bits.specs.Grammar.{Grammar, repeated}

module _ {Y : Type 0} where
  -- what was read before, and what is still read
  abbrev pub with_front : List Y → Result (Found (List Y)) ErrorAt → Result (Found (List Y)) ErrorAt
  with_front front r = r >>= (λ f. Ok (record { value = front ++ f.value; position = f.position }))

  regroup : (front : List Y) (y : Y) (r : Result (Found (List Y)) ErrorAt) →
      with_front front (r >>= (λ f. Ok (record { value = y ∷ f.value; position = f.position }))) ≡ with_front (front ++ y ∷ []) r
  regroup front y (Ok f) = ap (λ (ys : List Y). Ok (record { value = ys; position = f.position })) (simp append_assoc)
  regroup front y (Err e) = refl

  -- one more field was read
  pub goes_on : (g : Grammar Y) (bytes : List ℕ) (front : List Y) (count i p : ℕ) (y : Y) (q : ℕ) (total : Result (Found (List Y)) ErrorAt) → i < count →
      g.read bytes p ≡ Ok (record { value = y; position = q }) → with_front front ((repeated (count - i) g).read bytes p) ≡ total →
      with_front (front ++ y ∷ []) ((repeated (count - (i + 1)) g).read bytes q) ≡ total
  goes_on g bytes front count i p y q total lt h so_far =
      let k : count - i ≡ suc (count - (i + 1)) = omega arith in
      let one : with_front front ((repeated (count - i) g).read bytes p) ≡ with_front (front ++ y ∷ []) ((repeated (count - (i + 1)) g).read bytes q) = rw (k, h) (regroup front y ((repeated (count - (i + 1)) g).read bytes q)) in
      sym one ∙ so_far

  -- a field gave an error
  pub stops : (g : Grammar Y) (bytes : List ℕ) (front : List Y) (count i p : ℕ) (e : ErrorAt) (total : Result (Found (List Y)) ErrorAt) → i < count →
      g.read bytes p ≡ Err e → with_front front ((repeated (count - i) g).read bytes p) ≡ total → total ≡ Err e
  stops g bytes front count i p e total lt h so_far =
      let k : count - i ≡ suc (count - (i + 1)) = omega arith in
      let one : with_front front ((repeated (count - i) g).read bytes p) ≡ Err e = rw (k, h) refl in
      sym so_far ∙ one

  -- all fields were read
  pub ends : (g : Grammar Y) (bytes : List ℕ) (front : List Y) (count i p : ℕ) (total : Result (Found (List Y)) ErrorAt) → count ≤ i →
      with_front front ((repeated (count - i) g).read bytes p) ≡ total → total ≡ Ok (record { value = front; position = p })
  ends g bytes front count i p total le so_far =
      let k : count - i ≡ 0 = omega arith in
      let one : with_front front ((repeated (count - i) g).read bytes p) ≡ Ok (record { value = front; position = p }) = rw k (ap (λ (ys : List Y). Ok (record { value = ys; position = p })) (append-nil front)) in
      sym so_far ∙ one
