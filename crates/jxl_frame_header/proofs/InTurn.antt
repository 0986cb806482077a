-- Reading fields one after another, each by the one before it, as a loop does.
use Rattle.std.proofs.Common.{◌≡◌, ℕ, suc, ◌-◌, ◌+◌, ◌<◌, List, [], ◌∷◌, ◌++◌, Option, Some, Result, Ok, Err, sym, ◌∙◌, append_assoc, ap, refl, arith}
use Rattle.jxlm_bits.specs.Decoding.{Found}
use Rattle.jxlm_bits.specs.ErrorKind.{ErrorAt, ◌>>=◌}
use Rattle.jxlm_bits.specs.Grammar.{Grammar}
use Rattle.jxlm_bits.proofs.RepeatedLoop.{with_front}
use Rattle.jxl_frame_header.specs.Passes.{in_turn}

regroup : (front : List ℕ) (y : ℕ) (r : Result (Found (List ℕ)) ErrorAt) →
    with_front front (r >>= (λ f. Ok (record { value = y ∷ f.value; position = f.position }))) ≡ with_front (front ++ y ∷ []) r
regroup front y (Ok f) = ap (λ (ys : List ℕ). Ok (record { value = ys; position = f.position })) (simp append_assoc)
regroup front y (Err e) = refl

-- one more field was read
pub goes_on_after : (field : Option ℕ → Grammar ℕ) (bytes : List ℕ) (front : List ℕ) (before : Option ℕ) (count i p y q : ℕ) (total : Result (Found (List ℕ)) ErrorAt) → i < count →
    (field before).read bytes p ≡ Ok (record { value = y; position = q }) → with_front front ((in_turn (count - i) field before).read bytes p) ≡ total →
    with_front (front ++ y ∷ []) ((in_turn (count - (i + 1)) field (Some y)).read bytes q) ≡ total
goes_on_after field bytes front before count i p y q total lt h so_far =
    let k : count - i ≡ suc (count - (i + 1)) = omega arith in
    let one : with_front front ((in_turn (count - i) field before).read bytes p) ≡ with_front (front ++ y ∷ []) ((in_turn (count - (i + 1)) field (Some y)).read bytes q) =
    rw (k, h) (regroup front y ((in_turn (count - (i + 1)) field (Some y)).read bytes q)) in
    sym one ∙ so_far

-- a field gave an error
pub stops_at : (field : Option ℕ → Grammar ℕ) (bytes : List ℕ) (front : List ℕ) (before : Option ℕ) (count i p : ℕ) (e : ErrorAt) (total : Result (Found (List ℕ)) ErrorAt) → i < count →
    (field before).read bytes p ≡ Err e → with_front front ((in_turn (count - i) field before).read bytes p) ≡ total → total ≡ Err e
stops_at field bytes front before count i p e total lt h so_far =
    let k : count - i ≡ suc (count - (i + 1)) = omega arith in
    let one : with_front front ((in_turn (count - i) field before).read bytes p) ≡ Err e = rw (k, h) refl in
    sym so_far ∙ one
