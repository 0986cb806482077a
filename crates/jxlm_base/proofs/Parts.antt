-- Lists with others written over a part of them.
use Rattle.std.proofs.Common.{◌≡◌, ℕ, ◌+◌, ◌-◌, ◌<◌, ◌≤◌, List, ◌++◌, length, take, drop, ap, ◌∙◌, arith}
use Rattle.std.specs.Prelude.{slice_get}
use Rattle.std.proofs.Math.ListN.{length-append}
use Rattle.std.proofs.lemmas.List.{length-take-le, length-drop}
use Rattle.jxlm_base.specs.Grid.{written}
use Rattle.jxlm_kernels.proofs.Slices.{get-append_left, get-append_right, get-drop, get-take}

-- vs written over xs from index i on
module _ {X : Type 0} where
  abbrev joined : List X → ℕ → List X → List X
  joined xs i vs = take i xs ++ (vs ++ drop (length vs) (drop i xs))

  length-joined : (xs : List X) (i : ℕ) (vs : List X) → i + length vs ≤ length xs → length (joined xs i vs) ≡ length xs
  length-joined xs i vs h =
      let a = length-append (take i xs) (vs ++ drop (length vs) (drop i xs)) in
      let b = length-append vs (drop (length vs) (drop i xs)) in
      let c = length-take-le i xs (omega arith) in
      let d = length-drop (length vs) (drop i xs) in
      let e = length-drop i xs in omega arith

  get-written : (xs : List X) (i : ℕ) (vs : List X) (k : ℕ) → i + length vs ≤ length xs → k < length xs → slice_get (written xs i vs) k ≡ slice_get (joined xs i vs) k
  get-written xs i vs k h p =
      let n = length-joined xs i vs h in
      get-take (length xs) (joined xs i vs ++ drop (length (joined xs i vs)) xs) k p ∙ get-append_left (joined xs i vs) (drop (length (joined xs i vs)) xs) k (omega arith)

  pub get-written_in : (xs : List X) (i : ℕ) (vs : List X) (k : ℕ) → i + length vs ≤ length xs → k < length vs → slice_get (written xs i vs) (i + k) ≡ slice_get vs k
  get-written_in xs i vs k h p =
      let c = length-take-le i xs (omega arith) in
      let e : i + k - length (take i xs) ≡ k = omega arith in
      get-written xs i vs (i + k) h (omega arith) ∙ get-append_right (take i xs) (vs ++ drop (length vs) (drop i xs)) (i + k) (omega arith)
      ∙ ap (slice_get (vs ++ drop (length vs) (drop i xs))) e ∙ get-append_left vs (drop (length vs) (drop i xs)) k p

  pub get-written_before : (xs : List X) (i : ℕ) (vs : List X) (k : ℕ) → i + length vs ≤ length xs → k < i → slice_get (written xs i vs) k ≡ slice_get xs k
  get-written_before xs i vs k h p =
      let c = length-take-le i xs (omega arith) in
      get-written xs i vs k h (omega arith) ∙ get-append_left (take i xs) (vs ++ drop (length vs) (drop i xs)) k (omega arith) ∙ get-take i xs k p

  pub get-written_after : (xs : List X) (i : ℕ) (vs : List X) (k : ℕ) → i + length vs ≤ length xs → i + length vs ≤ k → k < length xs → slice_get (written xs i vs) k ≡ slice_get xs k
  get-written_after xs i vs k h p q =
      let c = length-take-le i xs (omega arith) in
      let rest : List X = drop (length vs) (drop i xs) in
      let e : i + (length vs + (k - length (take i xs) - length vs)) ≡ k = omega arith in
      get-written xs i vs k h q ∙ get-append_right (take i xs) (vs ++ rest) k (omega arith) ∙ get-append_right vs rest (k - length (take i xs)) (omega arith)
      ∙ get-drop (length vs) (drop i xs) (k - length (take i xs) - length vs) ∙ get-drop i xs (length vs + (k - length (take i xs) - length vs)) ∙ ap (slice_get xs) e

  pub length-written : (xs : List X) (i : ℕ) (vs : List X) → i + length vs ≤ length xs → length (written xs i vs) ≡ length xs
  length-written xs i vs h =
      let n = length-joined xs i vs h in
      let m = length-append (joined xs i vs) (drop (length (joined xs i vs)) xs) in
      length-take-le (length xs) (joined xs i vs ++ drop (length (joined xs i vs)) xs) (omega arith)
