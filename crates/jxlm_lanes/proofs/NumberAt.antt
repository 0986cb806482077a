-- The numbers of a list's elements.
use Rattle.std.proofs.Common.{◌≡◌, ◌≢◌, ℕ, zero, suc, ◌<◌, List, [], ◌∷◌, length, get_or, set, map, Some, ℤ, pos, sym, refl, ap, ◌∙◌, arith}
use Rattle.std.specs.Prelude.{slice_get}
use Rattle.std.specs.Option.{unwrap_or, option_map}
use Rattle.std.proofs.Math.ListN.{length-set}
use Rattle.std.proofs.lemmas.List.{get_or-map, get_or-set_same}
use Rattle.std.proofs.lemmas.Option.{unwrap_or-slice_get, slice_get-map}
use Rattle.jxlm_lanes.specs.Pairs.{number_at}

pub slice_get-set_same : {X : Type 0} (xs : List X) (i : ℕ) (v : X) → i < length xs → slice_get (set xs i v) i ≡ Some v
slice_get-set_same [] i v h = absurd (omega arith)
slice_get-set_same (x ∷ xs) zero v h = refl
slice_get-set_same (x ∷ xs) (suc i) v h = slice_get-set_same xs i v (omega arith)

pub slice_get-set_other : {X : Type 0} (xs : List X) (i j : ℕ) (v : X) → (i ≡ j → ⊥) → slice_get (set xs i v) j ≡ slice_get xs j
slice_get-set_other [] i j v h = refl
slice_get-set_other (x ∷ xs) zero zero v h = absurd (h refl)
slice_get-set_other (x ∷ xs) zero (suc j) v h = refl
slice_get-set_other (x ∷ xs) (suc i) zero v h = refl
slice_get-set_other (x ∷ xs) (suc i) (suc j) v h = slice_get-set_other xs i j v (λ e. h (ap suc e))

module _ {S : Type 0} (f : S → ℤ) where
  -- equal elements have equal numbers
  pub number_same : (xs ys : List S) (i j : ℕ) → slice_get xs i ≡ slice_get ys j → number_at f xs i ≡ number_at f ys j
  number_same xs ys i j e =
      sym (unwrap_or-slice_get (map f xs) i (pos 0)) ∙ ap (λ o. unwrap_or o (pos 0)) (slice_get-map f xs i ∙ ap (option_map f) e ∙ sym (slice_get-map f ys j))
      ∙ unwrap_or-slice_get (map f ys) j (pos 0)

  -- the number of an element that was read
  pub number_read : (xs : List S) (i : ℕ) (v : S) → i < length xs → v ≡ get_or xs i v → number_at f xs i ≡ f v
  number_read xs i v h e = get_or-map f xs i v (pos 0) h ∙ ap f (sym e)

  pub number_set_same : (xs : List S) (i : ℕ) (v : S) → i < length xs → number_at f (set xs i v) i ≡ f v
  number_set_same xs i v h = let n = length-set xs i v in get_or-map f (set xs i v) i v (pos 0) (omega arith) ∙ ap f (get_or-set_same xs i v v h)

  pub number_set_other : (xs : List S) (i j : ℕ) (v : S) → i ≢ j → number_at f (set xs i v) j ≡ number_at f xs j
  number_set_other xs i j v ne = number_same (set xs i v) xs j j (slice_get-set_other xs i j v ne)
