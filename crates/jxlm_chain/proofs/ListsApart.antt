-- Parts of lists: what holds of pairs of their elements, and of two lists element by element.
use Rattle.std.proofs.Common.{◌≡◌, ℕ, zero, suc, ◌+◌, ◌-◌, ◌<◌, ◌≤◌, inl, inr, List, [], ◌∷◌, ◌++◌, length, map, take, drop, get_or, refl, sym, ap, subst, subst₂, arith}
use Rattle.std.specs.List.{All, AllPairs, AllZip}
use Rattle.std.proofs.lemmas.Bool.{cases_lt, cases_eq}
use Rattle.std.proofs.lemmas.List.{get_or-take, get_or-drop, length-take, length-drop, length-append, length-map, get_or_append_left, get_or-append_right, get_or-map}

-- ---- pairs of one list, and of two

module _ {X : Type 0} (R : X → X → Type 0) where
  -- R holds of each element of one list and each of another
  abbrev pub AllCross : List X → List X → Type 0
  AllCross xs ys = (i j : ℕ) (d : X) → i < length xs → j < length ys → R (get_or xs i d) (get_or ys j d)

  pub pairs_take : (n : ℕ) (xs : List X) → AllPairs R xs → AllPairs R (take n xs)
  pairs_take n xs pairs = λ i j d lt in'.
      let long = length-take n xs in
      let jn : j < n = omega (arith, long, in') in
      subst₂ R (sym (get_or-take n xs i d (omega arith))) (sym (get_or-take n xs j d jn)) (pairs i j d lt (omega (arith, long, in')))

  pub pairs_drop : (n : ℕ) (xs : List X) → AllPairs R xs → AllPairs R (drop n xs)
  pairs_drop n xs pairs = λ i j d lt in'.
      let long = length-drop n xs in
      subst₂ R (sym (get_or-drop n xs i d)) (sym (get_or-drop n xs j d)) (pairs (n + i) (n + j) d (omega arith) (omega (arith, long, in')))

  pub cross_take_drop : (m n : ℕ) (xs : List X) → m ≤ n → AllPairs R xs → AllCross (take m xs) (drop n xs)
  cross_take_drop m n xs le pairs = λ i j d a b.
      let longer = length-take m xs in
      let long = length-drop n xs in
      subst₂ R (sym (get_or-take m xs i d (omega (arith, longer, a)))) (sym (get_or-drop n xs j d)) (pairs i (n + j) d (omega (arith, longer, a)) (omega (arith, long, b)))

  pub cross_take_right : (n : ℕ) (xs ys : List X) → AllCross xs ys → AllCross xs (take n ys)
  cross_take_right n xs ys cross = λ i j d a b.
      let long = length-take n ys in
      subst (R (get_or xs i d)) (sym (get_or-take n ys j d (omega (arith, long, b)))) (cross i j d a (omega (arith, long, b)))

  pub cross_turned : (xs ys : List X) → ((x y : X) → R x y → R y x) → AllCross xs ys → AllCross ys xs
  cross_turned xs ys turn cross = λ i j d a b. turn (get_or xs j d) (get_or ys i d) (cross j i d b a)

  pub cross_append_left : (xs ys zs : List X) → AllCross xs zs → AllCross ys zs → AllCross (xs ++ ys) zs
  cross_append_left xs ys zs a b = λ i j d p q.
      let long = length-append xs ys in
      elim (cases_lt i (length xs)) [
        | inl lt ↦ subst (λ x. R x (get_or zs j d)) (sym (get_or_append_left xs ys d i lt)) (a i j d lt q)
        | inr ge ↦ subst (λ x. R x (get_or zs j d)) (sym (get_or-append_right xs ys (length xs) i d refl ge)) (b (i - length xs) j d (omega (arith, long, p)) q)
      ]

  pub cross_append_right : (xs ys zs : List X) → AllCross xs ys → AllCross xs zs → AllCross xs (ys ++ zs)
  cross_append_right xs ys zs a b = λ i j d p q.
      let long = length-append ys zs in
      elim (cases_lt j (length ys)) [
        | inl lt ↦ subst (R (get_or xs i d)) (sym (get_or_append_left ys zs d j lt)) (a i j d p lt)
        | inr ge ↦ subst (R (get_or xs i d)) (sym (get_or-append_right ys zs (length ys) j d refl ge)) (b i (j - length ys) d p (omega (arith, long, q)))
      ]

  pub pairs_append : (xs ys : List X) → AllPairs R xs → AllPairs R ys → AllCross xs ys → AllPairs R (xs ++ ys)
  pairs_append xs ys a b c = λ i j d lt q.
      let long = length-append xs ys in
      elim (cases_lt j (length xs)) [
        | inl jl ↦ subst₂ R (sym (get_or_append_left xs ys d i (omega arith))) (sym (get_or_append_left xs ys d j jl)) (a i j d lt jl)
        | inr jg ↦
            subst (R (get_or (xs ++ ys) i d)) (sym (get_or-append_right xs ys (length xs) j d refl jg))
            (elim (cases_lt i (length xs)) [
              | inl il ↦ subst (λ x. R x (get_or ys (j - length xs) d)) (sym (get_or_append_left xs ys d i il)) (c i (j - length xs) d il (omega (arith, long, q)))
              | inr ig ↦
                  subst (λ x. R x (get_or ys (j - length xs) d)) (sym (get_or-append_right xs ys (length xs) i d refl ig))
                  (b (i - length xs) (j - length xs) d (omega arith) (omega (arith, long, q)))
            ])
      ]

  pub pairs_cons : (x : X) (xs : List X) → All (R x) xs → AllPairs R xs → AllPairs R (x ∷ xs)
  pairs_cons x xs all pairs zero zero d lt h = absurd (omega arith)
  pairs_cons x xs all pairs zero (suc j) d lt h = all j d (omega arith)
  pairs_cons x xs all pairs (suc i) zero d lt h = absurd (omega arith)
  pairs_cons x xs all pairs (suc i) (suc j) d lt h = pairs i j d (omega arith) (omega arith)

  -- parts of the elements
  pub pairs_map : (f : X → X) (xs : List X) → ((x y : X) → R x y → R (f x) (f y)) → AllPairs R xs → AllPairs R (map f xs)
  pairs_map f xs part pairs = λ i j d lt h.
      let long = length-map xs f in
      let jn : j < length xs = omega (arith, long, h) in
      subst₂ R (sym (get_or-map f xs i d d (omega arith))) (sym (get_or-map f xs j d d jn)) (part (get_or xs i d) (get_or xs j d) (pairs i j d lt jn))

  pub cross_map_right : (f : X → X) (xs ys : List X) → ((x y : X) → R x y → R x (f y)) → AllCross xs ys → AllCross xs (map f ys)
  cross_map_right f xs ys part cross = λ i j d a b.
      let long = length-map ys f in
      let jn : j < length ys = omega (arith, long, b) in
      subst (R (get_or xs i d)) (sym (get_or-map f ys j d d jn)) (part (get_or xs i d) (get_or ys j d) (cross i j d a jn))

  pub cross_map_left : (f : X → X) (xs ys : List X) → ((x y : X) → R x y → R (f x) y) → AllCross xs ys → AllCross (map f xs) ys
  cross_map_left f xs ys part cross = λ i j d a b.
      let long = length-map xs f in
      let jn : i < length xs = omega (arith, long, a) in
      subst (λ x. R x (get_or ys j d)) (sym (get_or-map f xs i d d jn)) (part (get_or xs i d) (get_or ys j d) (cross i j d jn b))

  -- two parts of each element
  pub cross_maps : (f g : X → X) (xs : List X) → ((x y : X) → R x y → R y x) → ((x y : X) → R x y → R (f x) (g y)) → ((x : X) → R (f x) (g x)) → AllPairs R xs → AllCross (map f xs) (map g xs)
  cross_maps f g xs turn part own pairs = λ i j d a b.
      let fs = length-map xs f in
      let gs = length-map xs g in
      let ia : i < length xs = omega (arith, fs, a) in
      let jb : j < length xs = omega (arith, gs, b) in
      let two : R (f (get_or xs i d)) (g (get_or xs j d)) = elim (cases_lt i j) [
        | inl lt ↦ part (get_or xs i d) (get_or xs j d) (pairs i j d lt jb)
        | inr ge ↦ elim (cases_eq i j) [
          | inl e ↦ subst (λ k. R (f (get_or xs i d)) (g (get_or xs k d))) e (own (get_or xs i d))
          | inr ne ↦ part (get_or xs i d) (get_or xs j d) (turn (get_or xs j d) (get_or xs i d) (pairs j i d (omega arith) ia))
        ]
      ] in
      subst₂ R (sym (get_or-map f xs i d d ia)) (sym (get_or-map g xs j d d jb)) two

-- ---- two lists element by element

module _ {X Y : Type 0} (R : X → Y → Type 0) where
  pub zip_length : (xs : List X) (ys : List Y) → AllZip R xs ys → length xs ≡ length ys
  zip_length [] [] z = refl
  zip_length [] (y ∷ ys) z = absurd z
  zip_length (x ∷ xs) [] z = absurd z
  zip_length (x ∷ xs) (y ∷ ys) z = ap suc (zip_length xs ys z.1)

  pub zip_append : (xs us : List X) (ys vs : List Y) → AllZip R xs ys → AllZip R us vs → AllZip R (xs ++ us) (ys ++ vs)
  zip_append [] us [] vs z w = w
  zip_append [] us (y ∷ ys) vs z w = absurd z
  zip_append (x ∷ xs) us [] vs z w = absurd z
  zip_append (x ∷ xs) us (y ∷ ys) vs z w = (z.0, zip_append xs us ys vs z.1 w)

  pub zip_take : (n : ℕ) (xs : List X) (ys : List Y) → AllZip R xs ys → AllZip R (take n xs) (take n ys)
  zip_take zero xs ys z = tt
  zip_take (suc n) [] [] z = tt
  zip_take (suc n) [] (y ∷ ys) z = absurd z
  zip_take (suc n) (x ∷ xs) [] z = absurd z
  zip_take (suc n) (x ∷ xs) (y ∷ ys) z = (z.0, zip_take n xs ys z.1)

  pub zip_drop : (n : ℕ) (xs : List X) (ys : List Y) → AllZip R xs ys → AllZip R (drop n xs) (drop n ys)
  zip_drop zero xs ys z = z
  zip_drop (suc n) [] [] z = tt
  zip_drop (suc n) [] (y ∷ ys) z = absurd z
  zip_drop (suc n) (x ∷ xs) [] z = absurd z
  zip_drop (suc n) (x ∷ xs) (y ∷ ys) z = zip_drop n xs ys z.1

  pub zip_at : (xs : List X) (ys : List Y) (i : ℕ) (d : X) (e : Y) → AllZip R xs ys → i < length xs → R (get_or xs i d) (get_or ys i e)
  zip_at [] [] i d e z h = absurd (omega arith)
  zip_at [] (y ∷ ys) i d e z h = absurd z
  zip_at (x ∷ xs) [] i d e z h = absurd z
  zip_at (x ∷ xs) (y ∷ ys) zero d e z h = z.0
  zip_at (x ∷ xs) (y ∷ ys) (suc i) d e z h = zip_at xs ys i d e z.1 (omega arith)

  -- of two lists end to end, and a third
  pub zip_parts : (xs us : List X) (ys : List Y) → AllZip R (xs ++ us) ys → AllZip R us (drop (length xs) ys)
  zip_parts [] us ys z = z
  zip_parts (x ∷ xs) us [] z = absurd z
  zip_parts (x ∷ xs) us (y ∷ ys) z = zip_parts xs us ys z.1

pub zip_map : {X Y U V : Type 0} (R : X → Y → Type 0) (S : U → V → Type 0) (f : X → U) (g : Y → V) (xs : List X) (ys : List Y) → ((x : X) (y : Y) → R x y → S (f x) (g y)) → AllZip R xs ys → AllZip S (map f xs) (map g ys)
zip_map R S f g [] [] part z = tt
zip_map R S f g [] (y ∷ ys) part z = absurd z
zip_map R S f g (x ∷ xs) [] part z = absurd z
zip_map R S f g (x ∷ xs) (y ∷ ys) part z = (part x y z.0, zip_map R S f g xs ys part z.1)
