-- Where places for a number begin and end.
use Rattle.std.proofs.Common.{◌≡◌, ◌⊎◌, ℕ, ◌+◌, ◌-◌, ◌<◌, ◌≤◌, Bool, true, false, List, length, Option, Some, None, ap, get_or, inl, inr, arith, refl, subst, sym, ◌∙◌}
use Rattle.std.specs.Prelude.{IfNone, IfSome, MatchOption, if◌then◌else◌, is_some, slice_index}
use Rattle.std.specs.Str.{IsCharBoundary, IsUtf8}
use Rattle.std.proofs.lemmas.List.{get_or_past}
use Rattle.std.proofs.lemmas.Bool.{cases_lt}
use Rattle.std.proofs.lemmas.Str.{IsCharBoundary-after_ascii}
use Rattle.std.proofs.lemmas.Grind.{common_steps}
use Rattle.jxl_frame_names.specs.Places.{HasNoPlace, IsOnlyPlace, has_place, is_padded_place, is_plain_place, place_at}
use Rattle.jxl_frame_names.specs.declared.pattern.Place.{Place}

-- what a place that begins at this byte says: where it begins, and the last of its bytes
record IsAt (name : List ℕ) (i : ℕ) (p : Place) : Type 0 where
  start : p.start ≡ i
  some : 1 ≤ p.len
  last : ℕ
  ends : p.start + p.len ≡ last + 1
  is : slice_index name last ≡ 100

place_is : (name : List ℕ) (i : ℕ) (p : Place) → place_at name i ≡ Some p → IsAt name i p
place_is name i p e = by (is_plain_place name i) refl (is_padded_place name i) refl e where
  by : (a : Bool) → is_plain_place name i ≡ a → (b : Bool) → is_padded_place name i ≡ b →
      (if a then Some (record { start = i; len = 2; width = 1 }) else if b then Some (record { start = i; len = 4; width = slice_index name (i + 2) - 48 }) else None) ≡ Some p → IsAt name i p
  by true plain b padded same =
      let s : i ≡ p.start = cc in let l : 2 ≡ p.len = cc in
      record { start = sym s; some = omega arith; last = i + 1; ends = omega arith; is = grind (arith, common_steps) }
  by false plain true padded same =
      let s : i ≡ p.start = cc in let l : 4 ≡ p.len = cc in
      record { start = sym s; some = omega arith; last = i + 3; ends = omega arith; is = grind (arith, common_steps) }
  by false plain false padded same = let bad : ⊥ = cc in absurd bad

-- a byte that is not 0 lies in the name
inside : (name : List ℕ) (i : ℕ) (b : ℕ) → 0 < b → slice_index name i ≡ b → i < length name
inside name i b some is = by (cases_lt i (length name)) where
  by : (i < length name) ⊎ (length name ≤ i) → i < length name
  by (inl h) = h
  by (inr h) = let none : slice_index name i ≡ 0 = get_or_past name i 0 h in absurd (omega arith)

-- a place begins in the name
place_inside : (name : List ℕ) (i : ℕ) → has_place name i ≡ true → i < length name
place_inside name i has = by (place_at name i) refl has where
  by : (o : Option Place) → place_at name i ≡ o → is_some o ≡ true → i < length name
  by (Some p) e h = let at = place_is name i p e in let within = inside name at.last 100 (omega arith) at.is in omega (arith, within, at.ends, at.start, at.some)
  by None e h = let bad : ⊥ = cc in absurd bad

-- it ends there
pub place_within : (name : List ℕ) (p : Place) → IsOnlyPlace name p → p.start + p.len ≤ length name
place_within name p only = let at = place_is name p.start p only.begins in let within = inside name at.last 100 (omega arith) at.is in omega (arith, within, at.ends)

-- and the name may be cut after it
pub cut_after : (name : List ℕ) (p : Place) → IsUtf8 name → IsOnlyPlace name p → IsCharBoundary name (p.start + p.len)
cut_after name p utf8 only =
    let at = place_is name p.start p only.begins in
    subst (λ (n : ℕ). IsCharBoundary name n) (sym at.ends) (IsCharBoundary-after_ascii name at.last utf8 (inside name at.last 100 (omega arith) at.is) (let e = at.is in omega arith))

-- what was found among the bytes before this one
abbrev pub AreBefore : List ℕ → ℕ → Option Place → Type 0
AreBefore name n found = MatchOption found ((i : ℕ) → i < n → place_at name i ≡ None)
    (λ p. (p.start < n) × (place_at name p.start ≡ Some p) × ((i : ℕ) → i < n → has_place name i ≡ true → i ≡ p.start))

-- a second place
pub second : (name : List ℕ) (n : ℕ) (found : Option Place) (p : Place) → AreBefore name n found → is_some found ≡ true → place_at name n ≡ Some p → HasNoPlace name
second name n (Some f) p before some at =
    inr (f.start, n, ap (λ (o : Option Place). is_some o) before.1, ap (λ (o : Option Place). is_some o) at, λ same. let l = before.0 in absurd (omega arith))
second name n None p before some at = let bad : ⊥ = cc in absurd bad

-- the first place
pub first : (name : List ℕ) (n : ℕ) (found : Option Place) (p : Place) → AreBefore name n found → is_some found ≡ false → place_at name n ≡ Some p → AreBefore name (n + 1) (Some p)
first name n (Some f) p before none at = let bad : ⊥ = cc in absurd bad
first name n None p before none at =
    let begins : p.start ≡ n = (place_is name n p at).start in
    (omega arith, subst (λ (k : ℕ). place_at name k ≡ Some p) (sym begins) at, λ i less has. by i less has (cases_lt i n)) where
      by : (i : ℕ) → i < n + 1 → has_place name i ≡ true → (i < n) ⊎ (n ≤ i) → i ≡ p.start
      by i less has (inl h) = let no : place_at name i ≡ None = before i h in let bad : false ≡ true = ap (λ (o : Option Place). is_some o) (sym no) ∙ has in let wrong : ⊥ = cc in absurd wrong
      by i less has (inr h) = let begins : p.start ≡ n = (place_is name n p at).start in omega arith

-- no place at this byte
pub no_more : (name : List ℕ) (n : ℕ) (found : Option Place) → AreBefore name n found → place_at name n ≡ None → AreBefore name (n + 1) found
no_more name n None before none = λ i less. by i less (cases_lt i n) where
  by : (i : ℕ) → i < n + 1 → (i < n) ⊎ (n ≤ i) → place_at name i ≡ None
  by i less (inl h) = before i h
  by i less (inr h) = let same : n ≡ i = omega arith in subst (λ (k : ℕ). place_at name k ≡ None) same none
no_more name n (Some f) before none = (let l = before.0 in omega arith, before.1, λ i less has. by i less has (cases_lt i n)) where
  by : (i : ℕ) → i < n + 1 → has_place name i ≡ true → (i < n) ⊎ (n ≤ i) → i ≡ f.start
  by i less has (inl h) = before.2 i h has
  by i less has (inr h) =
      let same : n ≡ i = omega arith in
      let no : place_at name i ≡ None = subst (λ (k : ℕ). place_at name k ≡ None) same none in
      let bad : false ≡ true = ap (λ (o : Option Place). is_some o) (sym no) ∙ has in let wrong : ⊥ = cc in absurd wrong

-- at the end of the name
module _ (name : List ℕ) (n : ℕ) (ended : length name ≤ n) where
  pub only : (found : Option Place) → AreBefore name n found → IfSome found (IsOnlyPlace name)
  only (Some f) before = record { begins = before.1; alone = λ i has. let within = place_inside name i has in before.2 i (omega arith) has }
  only None before = tt

  pub none : (found : Option Place) → AreBefore name n found → IfNone found (HasNoPlace name)
  none (Some f) before = tt
  none None before = inl (λ i. by i (place_at name i) refl) where
    by : (i : ℕ) (o : Option Place) → place_at name i ≡ o → place_at name i ≡ None
    by i None e = e
    by i (Some p) e =
        let within = place_inside name i (ap (λ (o : Option Place). is_some o) e) in
        before i (omega arith)
