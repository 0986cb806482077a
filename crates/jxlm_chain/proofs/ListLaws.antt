-- Lists with a range replaced, and lists that are related element by element.
use Rattle.std.proofs.Common.{◌≡◌, ℕ, zero, suc, ◌+◌, ◌-◌, ◌≤◌, List, [], ◌∷◌, ◌++◌, length, min, take, drop, sym, refl, ap, ◌∙◌, arith}
use Rattle.std.specs.List.{AllZip}
use Rattle.std.proofs.Math.ListN.{length-take, length-drop, take-append-drop, length-append}
use Rattle.std.proofs.lemmas.List.{append_assoc, drop-drop}
use Rattle.jxlm_transform.specs.ChannelSteps.{range, with_range}

module _ {X : Type 0} where
  pub heads : (x y : X) (xs ys : List X) → ◌≡◌ {A = List X} (x ∷ xs) (y ∷ ys) → x ≡ y
  heads x y xs ys e = cc

  pub tails : (x y : X) (xs ys : List X) → ◌≡◌ {A = List X} (x ∷ xs) (y ∷ ys) → xs ≡ ys
  tails x y xs ys e = cc

  -- lists that are the same have the same fronts of one length, and the same rests
  pub split_same : (us vs xs ys : List X) → length us ≡ length vs → us ++ xs ≡ vs ++ ys → (us ≡ vs) × (xs ≡ ys)
  split_same [] [] xs ys l e = (refl, e)
  split_same [] (v ∷ vs) xs ys l e = absurd (omega arith)
  split_same (u ∷ us) [] xs ys l e = absurd (omega arith)
  split_same (u ∷ us) (v ∷ vs) xs ys l e =
      let rest = split_same us vs xs ys (omega arith) (tails u v (us ++ xs) (vs ++ ys) e) in
      (ap (λ z. z ∷ us) (heads u v (us ++ xs) (vs ++ ys) e) ∙ ap (λ zs. v ∷ zs) rest.0, rest.1)

  pub length-range : (b n : ℕ) (xs : List X) → b + n ≤ length xs → length (range b n xs) ≡ n
  length-range b n xs l = length-take (b + n - b) (drop b xs) ∙ (let d = length-drop b xs in omega arith)

  -- a list is what is before a range, the range, and what is after it
  pub with_own_range : (b n : ℕ) (xs : List X) → with_range b n (range b n xs) xs ≡ xs
  with_own_range b n xs =
      let many : b + n - b ≡ n = omega arith in
      append_assoc (take b xs) (range b n xs) (drop (b + n) xs)
      ∙ ap (λ k. take b xs ++ (take k (drop b xs) ++ drop (b + n) xs)) many
      ∙ ap (λ ys. take b xs ++ (take n (drop b xs) ++ ys)) (sym (drop-drop n b xs))
      ∙ ap (λ ys. take b xs ++ ys) (take-append-drop n (drop b xs)) ∙ take-append-drop b xs

  -- where two lists with replaced ranges are the same, so is each part
  pub with_range_same : (b n : ℕ) (us vs xs ys : List X) → length us ≡ length vs → length xs ≡ length ys → with_range b n us xs ≡ with_range b n vs ys →
      (take b xs ≡ take b ys) × (us ≡ vs) × (drop (b + n) xs ≡ drop (b + n) ys)
  with_range_same b n us vs xs ys l m e =
      let before_it : length (take b xs) ≡ length (take b ys) = length-take b xs ∙ ap (min b) m ∙ sym (length-take b ys) in
      let one = split_same (take b xs ++ us) (take b ys ++ vs) (drop (b + n) xs) (drop (b + n) ys) (length-append (take b xs) us ∙ (omega (arith, length-append (take b ys) vs))) e in
      let two = split_same (take b xs) (take b ys) us vs before_it one.0 in
      (two.0, two.1, one.1)

  -- lists with the same parts are the same
  pub range_decides : (b n : ℕ) (xs ys : List X) → take b xs ≡ take b ys → range b n xs ≡ range b n ys → drop (b + n) xs ≡ drop (b + n) ys → xs ≡ ys
  range_decides b n xs ys p q r =
      sym (with_own_range b n xs) ∙ ap (λ zs. zs ++ range b n xs ++ drop (b + n) xs) p ∙ ap (λ zs. take b ys ++ zs ++ drop (b + n) xs) q
      ∙ ap (λ zs. take b ys ++ range b n ys ++ zs) r ∙ with_own_range b n ys

module _ {A B : Type 0} (R : A → B → Type 0) where
  pub zip_length : (xs : List A) (ys : List B) → AllZip R xs ys → length xs ≡ length ys
  zip_length [] [] h = refl
  zip_length [] (y ∷ ys) h = absurd h
  zip_length (x ∷ xs) [] h = absurd h
  zip_length (x ∷ xs) (y ∷ ys) h = ap suc (zip_length xs ys h.1)

  pub zip_take : (n : ℕ) (xs : List A) (ys : List B) → AllZip R xs ys → AllZip R (take n xs) (take n ys)
  zip_take zero xs ys h = tt
  zip_take (suc n) [] [] h = tt
  zip_take (suc n) [] (y ∷ ys) h = absurd h
  zip_take (suc n) (x ∷ xs) [] h = absurd h
  zip_take (suc n) (x ∷ xs) (y ∷ ys) h = (h.0, zip_take n xs ys h.1)

  pub zip_drop : (n : ℕ) (xs : List A) (ys : List B) → AllZip R xs ys → AllZip R (drop n xs) (drop n ys)
  zip_drop zero xs ys h = h
  zip_drop (suc n) [] [] h = tt
  zip_drop (suc n) [] (y ∷ ys) h = absurd h
  zip_drop (suc n) (x ∷ xs) [] h = absurd h
  zip_drop (suc n) (x ∷ xs) (y ∷ ys) h = zip_drop n xs ys h.1

  pub zip_range : (b n : ℕ) (xs : List A) (ys : List B) → AllZip R xs ys → AllZip R (range b n xs) (range b n ys)
  zip_range b n xs ys h = zip_take (b + n - b) (drop b xs) (drop b ys) (zip_drop b xs ys h)
