-- Elements of parts of lists.
use Rattle.std.proofs.Common.{◌≡◌, ℕ, zero, suc, ◌+◌, ◌-◌, ◌<◌, ◌≤◌, List, [], ◌∷◌, ◌++◌, length, take, drop, refl, ap, ◌∙◌, arith}
use Rattle.std.specs.Prelude.{slice_get, slice_range}

module _ {X : Type 0} where
  pub get-append_left : (xs ys : List X) (k : ℕ) → k < length xs → slice_get (xs ++ ys) k ≡ slice_get xs k
  get-append_left [] ys k h = absurd (omega arith)
  get-append_left (x ∷ xs) ys zero h = refl
  get-append_left (x ∷ xs) ys (suc k) h = get-append_left xs ys k (omega arith)

  pub get-append_right : (xs ys : List X) (k : ℕ) → length xs ≤ k → slice_get (xs ++ ys) k ≡ slice_get ys (k - length xs)
  get-append_right [] ys k h = let e : k ≡ k - length {A = X} [] = omega arith in ap (slice_get ys) e
  get-append_right (x ∷ xs) ys zero h = absurd (omega arith)
  get-append_right (x ∷ xs) ys (suc k) h = let e : k - length xs ≡ suc k - length (x ∷ xs) = omega arith in get-append_right xs ys k (omega arith) ∙ ap (slice_get ys) e

  pub get-drop : (n : ℕ) (xs : List X) (k : ℕ) → slice_get (drop n xs) k ≡ slice_get xs (n + k)
  get-drop zero xs k = let e : k ≡ zero + k = omega arith in ap (slice_get xs) e
  get-drop (suc n) [] k = refl
  get-drop (suc n) (x ∷ xs) k = let e : suc (n + k) ≡ suc n + k = omega arith in get-drop n xs k ∙ ap (slice_get (x ∷ xs)) e

  pub get-take : (n : ℕ) (xs : List X) (k : ℕ) → k < n → slice_get (take n xs) k ≡ slice_get xs k
  get-take zero xs k h = absurd (omega arith)
  get-take (suc n) [] k h = refl
  get-take (suc n) (x ∷ xs) zero h = refl
  get-take (suc n) (x ∷ xs) (suc k) h = get-take n xs k (omega arith)

  -- element k of a part
  pub get-slice_range : (xs : List X) (a b k : ℕ) → k < b - a → slice_get (slice_range xs a b) k ≡ slice_get xs (a + k)
  get-slice_range xs a b k h = get-take (b - a) (drop a xs) k h ∙ get-drop a xs k
