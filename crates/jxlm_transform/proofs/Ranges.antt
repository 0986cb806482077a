-- Ranges of lists: what is in them, and what maps make of lists with others instead of them.
use Rattle.std.proofs.Common.{◌≡◌, ℕ, suc, ◌+◌, ◌-◌, ◌<◌, ◌≤◌, List, [], ◌∷◌, ◌++◌, length, refl, sym, ap, ◌∙◌, arith}
use Rattle.std.specs.Prelude.{get_or, map, take, drop, Bool, true, false, if◌then◌else◌}
use Rattle.std.proofs.lemmas.List.{take-map, drop-map, map-append, append_assoc, take-append-drop, drop-drop, get_or-take, get_or-drop, length-take, length-drop}
use Rattle.jxlm_transform.specs.ChannelSteps.{range, with_range, with_halves}
use Rattle.jxlm_transform.specs.declared.transform.SqueezeParams.{SqueezeParams}

-- ---- the elements of a range

module _ {X : Type 0} (begin n : ℕ) (xs : List X) where
  pub range_length : (i : ℕ) → i < length (range begin n xs) → (i < n) × (begin + i < length xs)
  range_length i h =
      let t = length-take (begin + n - begin) (drop begin xs) in
      let r = length-drop begin xs in
      (omega arith, omega arith)

  pub range_at : (i : ℕ) (d : X) → i < n → get_or (range begin n xs) i d ≡ get_or xs (begin + i) d
  range_at i d h = get_or-take (begin + n - begin) (drop begin xs) i d (omega arith) ∙ get_or-drop begin xs i d

  -- a list with what is in its range is that list
  pub with_own : with_range begin n (range begin n xs) xs ≡ xs
  with_own =
      let e : begin + n - begin ≡ n = omega arith in
      append_assoc (take begin xs) (range begin n xs) (drop (begin + n) xs)
      ∙ ap (λ ys. take begin xs ++ ys)
      (ap (λ k. take k (drop begin xs) ++ drop (begin + n) xs) e ∙ ap (λ ys. take n (drop begin xs) ++ ys) (sym (drop-drop n begin xs)) ∙ take-append-drop n (drop begin xs))
      ∙ take-append-drop begin xs

-- ---- maps

module _ {X Y : Type 0} (f : X → Y) where
  pub range_map : (begin n : ℕ) (xs : List X) → range begin n (map f xs) ≡ map f (range begin n xs)
  range_map begin n xs = ap (take (begin + n - begin)) (drop-map f begin xs) ∙ take-map f (begin + n - begin) (drop begin xs)

  pub with_range_map : (begin n : ℕ) (others xs : List X) → map f (with_range begin n others xs) ≡ with_range begin n (map f others) (map f xs)
  with_range_map begin n others xs = simp (map-append, take-map, drop-map)

  pub with_halves_map : (t : SqueezeParams) (averages residuals xs : List X) →
      map f (with_halves t averages residuals xs) ≡ with_halves t (map f averages) (map f residuals) (map f xs)
  with_halves_map t averages residuals xs = placed t.in_place t.begin_c t.num_c
    where
      placed : (c : Bool) (b n : ℕ) →
          map f (if c then with_range b n (averages ++ residuals) xs else with_range b n averages xs ++ residuals)
          ≡ (if c then with_range b n (map f averages ++ map f residuals) (map f xs) else with_range b n (map f averages) (map f xs) ++ map f residuals)
      placed true b n = with_range_map b n (averages ++ residuals) xs ∙ ap (λ ys. with_range b n ys (map f xs)) (map-append f averages residuals)
      placed false b n = map-append f (with_range b n averages xs) residuals ∙ ap (λ ys. ys ++ map f residuals) (with_range_map b n averages xs)

module _ {X Y : Type 0} (f g : X → Y) where
  map_same : (xs : List X) → ((k : ℕ) (d : X) → k < length xs → f (get_or xs k d) ≡ g (get_or xs k d)) → map f xs ≡ map g xs
  map_same [] h = refl
  map_same (x ∷ xs) h = ap (λ y. y ∷ map f xs) (h 0 x (omega arith)) ∙ ap (λ ys. g x ∷ ys) (map_same xs (λ k d l. h (suc k) d (omega arith)))

  -- two maps that agree outside a range
  module _ (begin n : ℕ) (xs : List X) (same : (k : ℕ) (d : X) → k < length xs → (begin ≤ k → k < begin + n → ⊥) → f (get_or xs k d) ≡ g (get_or xs k d)) where
    same_before : take begin (map f xs) ≡ take begin (map g xs)
    same_before =
        take-map f begin xs
        ∙ map_same (take begin xs)
        (λ k d h.
        let long = length-take begin xs in
        let e = get_or-take begin xs k d (omega arith) in
        ap f e ∙ same k d (omega arith) (λ le lt. absurd (omega arith)) ∙ sym (ap g e))
        ∙ sym (take-map g begin xs)

    same_after : drop (begin + n) (map f xs) ≡ drop (begin + n) (map g xs)
    same_after =
        drop-map f (begin + n) xs
        ∙ map_same (drop (begin + n) xs)
        (λ k d h.
        let long = length-drop (begin + n) xs in
        let e = get_or-drop (begin + n) xs k d in
        ap f e ∙ same (begin + n + k) d (omega arith) (λ le lt. absurd (omega arith)) ∙ sym (ap g e))
        ∙ sym (drop-map g (begin + n) xs)

    pub with_range_same : (others : List Y) → with_range begin n others (map f xs) ≡ with_range begin n others (map g xs)
    with_range_same others = ap (λ ys. ys ++ others ++ drop (begin + n) (map f xs)) same_before ∙ ap (λ ys. take begin (map g xs) ++ others ++ ys) same_after

pub map_map_same : {X Y Z V : Type 0} (f : Y → Z) (g : X → Y) (p : V → Z) (q : X → V) (xs : List X) → ((k : ℕ) (d : X) → k < length xs → f (g (get_or xs k d)) ≡ p (q (get_or xs k d))) →
    map f (map g xs) ≡ map p (map q xs)
map_map_same f g p q [] h = refl
map_map_same f g p q (x ∷ xs) h =
    ap (λ y. y ∷ map f (map g xs)) (h 0 x (omega arith)) ∙ ap (λ ys. p (q x) ∷ ys) (map_map_same f g p q xs (λ k d l. h (suc k) d (omega arith)))

-- the same of a squeeze step's range
pub with_halves_same : {X Y : Type 0} (f g : X → Y) (t : SqueezeParams) (xs : List X) →
    ((k : ℕ) (d : X) → k < length xs → (t.begin_c ≤ k → k < t.begin_c + t.num_c → ⊥) → f (get_or xs k d) ≡ g (get_or xs k d)) →
    (averages residuals : List Y) → with_halves t averages residuals (map f xs) ≡ with_halves t averages residuals (map g xs)
with_halves_same {X} {Y} f g t xs same averages residuals = placed t.in_place
  where
    placed : (c : Bool) →
        (if c then with_range t.begin_c t.num_c (averages ++ residuals) (map f xs) else with_range t.begin_c t.num_c averages (map f xs) ++ residuals)
        ≡ (if c then with_range t.begin_c t.num_c (averages ++ residuals) (map g xs) else with_range t.begin_c t.num_c averages (map g xs) ++ residuals)
    placed true = with_range_same f g t.begin_c t.num_c xs same (averages ++ residuals)
    placed false = ap (λ ys. ys ++ residuals) (with_range_same f g t.begin_c t.num_c xs same averages)
