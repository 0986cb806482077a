-- Lists of parts: that none is there twice, and what is among them.
use Rattle.std.proofs.Common.{◌≡◌, ◌≢◌, ℕ, zero, suc, ◌+◌, ◌<◌, ◌≤◌, ◌⊎◌, inl, inr, Bool, true, false, cond, List, [], ◌∷◌, ◌++◌, map, refl, sym, ap, ◌∙◌, arith}
use Rattle.std.specs.List.{All, AllPairs, filter, range_with_len}
use Rattle.std.specs.Prelude.{Any}
use Rattle.std.proofs.lemmas.List.Elements.{All-nil, All-cons, All-head, All-tail, All-append, All-filter}
use Rattle.std.proofs.lemmas.List.Kept.{AllPairs-cons}
use Rattle.jxlm_groups.specs.declared.part.SectionPart.{SectionPart}
use Rattle.jxl_modular.specs.declared.sections.Section.{Section}

-- ---- no element is there twice

module _ {X : Type 0} where
  abbrev pub Differ : X → List X → Type 0
  Differ x xs = All (λ y. y ≡ x → ⊥) xs

  abbrev pub AllDiffer : List X → Type 0
  AllDiffer [] = Unit {0}
  AllDiffer (x ∷ xs) = Differ x xs × AllDiffer xs

  pub differ_append : (xs ys : List X) → AllDiffer xs → AllDiffer ys → All (λ x. Differ x ys) xs → AllDiffer (xs ++ ys)
  differ_append [] ys p q r = q
  differ_append (x ∷ xs) ys p q r = (
    All-append (λ y. y ≡ x → ⊥) xs ys p.0 (All-head (λ x. Differ x ys) x xs r),
    differ_append xs ys p.1 q (All-tail (λ x. Differ x ys) x xs r),
  )

  filter_one : (p : X → Bool) (b : Bool) (x : X) (xs : List X) → Differ x xs → AllDiffer (filter p xs) → AllDiffer (cond b (x ∷ filter p xs) (filter p xs))
  filter_one p true x xs d a = (All-filter p (λ y. y ≡ x → ⊥) xs d, a)
  filter_one p false x xs d a = a

  pub differ_filter : (p : X → Bool) (xs : List X) → AllDiffer xs → AllDiffer (filter p xs)
  differ_filter p [] a = tt
  differ_filter p (x ∷ xs) a = filter_one p (p x) x xs a.0 (differ_filter p xs a.1)

  module _ (f : ℕ → X) where
    pub each_of_range : (P : X → Type 0) (a n : ℕ) → ((k : ℕ) → a ≤ k → k < a + n → P (f k)) → All P (map f (range_with_len a n))
    each_of_range P a zero h = All-nil P
    each_of_range P a (suc n) h =
        All-cons P (f a) (map f (range_with_len (a + 1) n)) (h a (omega arith) (omega arith))
        (each_of_range P (a + 1) n (λ k low high. h k (omega (arith, low)) (omega (arith, high))))

    pub differ_range : ((j k : ℕ) → f j ≡ f k → j ≡ k) → (a n : ℕ) → AllDiffer (map f (range_with_len a n))
    differ_range one a zero = tt
    differ_range one a (suc n) = (
      each_of_range (λ y. y ≡ f a → ⊥) (a + 1) n (λ k low high same. let is = one k a same in omega (arith, is, low)),
      differ_range one (a + 1) n,
    )

  -- ---- what is among them

  abbrev pub IsAmong : X → List X → Type 0
  IsAmong x [] = ⊥
  IsAmong x (y ∷ ys) = (y ≡ x) ⊎ IsAmong x ys

  pub among_left : (x : X) (xs ys : List X) → IsAmong x xs → IsAmong x (xs ++ ys)
  among_left x [] ys h = absurd h
  among_left x (z ∷ xs) ys (inl h) = inl h
  among_left x (z ∷ xs) ys (inr h) = inr (among_left x xs ys h)

  pub among_right : (x : X) (xs ys : List X) → IsAmong x ys → IsAmong x (xs ++ ys)
  among_right x [] ys h = h
  among_right x (z ∷ xs) ys h = inr (among_right x xs ys h)

  among_more : (x y : X) (b : Bool) (xs : List X) → IsAmong x xs → IsAmong x (cond b (y ∷ xs) xs)
  among_more x y true xs h = inr h
  among_more x y false xs h = h

  among_first : (x y : X) (b : Bool) (xs : List X) → b ≡ true → y ≡ x → IsAmong x (cond b (y ∷ xs) xs)
  among_first x y true xs e is = inl is
  among_first x y false xs e is = cc

  pub among_filter : (p : X → Bool) (x : X) (xs : List X) → p x ≡ true → IsAmong x xs → IsAmong x (filter p xs)
  among_filter p x [] e h = absurd h
  among_filter p x (y ∷ xs) e (inl h) = among_first x y (p y) (filter p xs) (ap p h ∙ e) h
  among_filter p x (y ∷ xs) e (inr h) = among_more x y (p y) (filter p xs) (among_filter p x xs e h)

  pub among_range : (f : ℕ → X) (n k : ℕ) → k < n → IsAmong (f k) (map f (range_with_len 0 n))
  among_range f n k lt = from 0 n k (omega arith) (omega (arith, lt)) where
    from : (a n k : ℕ) → a ≤ k → k < a + n → IsAmong (f k) (map f (range_with_len a n))
    from a zero k low high = absurd (omega (arith, low, high))
    from a (suc n) k low high = elim (first_or_later a k low) [
      | inl is ↦ inl (ap f is)
      | inr later ↦ inr (from (a + 1) n k later (omega (arith, high)))
    ] where
      first_or_later : (a k : ℕ) → a ≤ k → (a ≡ k) ⊎ (a + 1 ≤ k)
      first_or_later zero zero low = inl refl
      first_or_later zero (suc k) low = inr (omega arith)
      first_or_later (suc a) zero low = absurd (omega (arith, low))
      first_or_later (suc a) (suc k) low = elim (first_or_later a k (omega (arith, low))) [ inl e ↦ inl (ap suc e) | inr l ↦ inr (omega (arith, l)) ]

-- ---- of sections

pub any_section : (part : SectionPart) (ss : List Section) → IsAmong part (map (λ s. s.part) ss) → Any (λ s. s.part ≡ part) ss
any_section part [] h = absurd h
any_section part (s ∷ ss) (inl h) = (0, s, omega arith, refl, h)
any_section part (s ∷ ss) (inr h) =
    let (k, t, lt, is, same) = any_section part ss h in
    (suc k, t, omega (arith, lt), is, same)

of_parts : (P : SectionPart → Type 0) (ss : List Section) → All P (map (λ s. s.part) ss) → All (λ s. P s.part) ss
of_parts P [] all = All-nil (λ (s : Section). P s.part)
of_parts P (s ∷ ss) all =
    All-cons (λ (s : Section). P s.part) s ss (All-head P s.part (map (λ s. s.part) ss) all) (of_parts P ss (All-tail P s.part (map (λ s. s.part) ss) all))

pub each_section : (P : SectionPart → Type 0) (ss : List Section) → All P (map (λ s. s.part) ss) → All (λ s. P s.part) ss
each_section = of_parts

pub sections_unlike : (ss : List Section) → AllDiffer (map (λ s. s.part) ss) → AllPairs (λ s t. s.part ≢ t.part) ss
sections_unlike [] a = λ i j d lt within. absurd (omega (arith, within))
sections_unlike (s ∷ ss) a = AllPairs-cons (λ s t. s.part ≢ t.part) s ss (λ k d lt same. of_parts (λ q. q ≡ s.part → ⊥) ss a.0 k d lt (sym same)) (sections_unlike ss a.1)
