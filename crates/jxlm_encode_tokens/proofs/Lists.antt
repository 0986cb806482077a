-- What holds of each element of a list, as the list grows.
use Rattle.std.proofs.Common.{◌≡◌, ℕ, ◌+◌, ◌-◌, ◌<◌, ◌≤◌, ◌⊎◌, inl, inr, List, ◌++◌, length, map, get_or, sym, ap, ◌∙◌, subst, arith}
use Rattle.std.specs.Prelude.{slice_set}
use Rattle.std.proofs.Math.ListN.{get_or-map}
use Rattle.std.proofs.lemmas.Bool.{cases_lt}
use Rattle.std.proofs.lemmas.List.{get_or-append_right, get_or-set_other, get_or-set_same, get_or_append_left, get_or_default, length-map}

-- an element of a list, and what stands for it
pub mapped_at : {X Y : Type 0} (f : X → Y) (xs : List X) (i : ℕ) (v : X) (d : Y) → v ≡ get_or xs i v → i < length xs → get_or (map f xs) i d ≡ f v
mapped_at f xs i v d is inside =
    let n = length-map xs f in
    get_or_default (map f xs) i d (f v) (omega (arith, n, inside)) ∙ get_or-map f xs i v ∙ ap f (sym is)

module _ {X : Type 0} (P : ℕ → X → Type 0) where
  -- each of the first n elements is what it is to be at its place
  abbrev pub Each : ℕ → List X → Type 0
  Each n xs = (k : ℕ) (d : X) → k < n → P k (get_or xs k d)

  -- one more is written
  pub written : (xs : List X) (x : ℕ) (t : X) → x < length xs → Each x xs → P x t → Each (x + 1) (slice_set xs x t)
  written xs x t inside each here k d less = either (cases_lt k x) where
    either : (k < x) ⊎ (x ≤ k) → P k (get_or (slice_set xs x t) k d)
    either (inl before) = subst (P k) (sym (get_or-set_other xs x k t d (λ same. absurd (omega (arith, before, same))))) (each k d before)
    either (inr from) =
        let same : x ≡ k = omega (arith, from, less) in
        subst (λ n. P n (get_or (slice_set xs x t) n d)) same (subst (P x) (sym (get_or-set_same xs x t d inside)) here)

  -- a list is put after another
  pub joined : (xs ys : List X) (a n : ℕ) → length xs ≡ a → Each a xs → ((k : ℕ) (d : X) → k < n → P (a + k) (get_or ys k d)) → Each (a + n) (xs ++ ys)
  joined xs ys a n long each more k d less = either (cases_lt k a) where
    either : (k < a) ⊎ (a ≤ k) → P k (get_or (xs ++ ys) k d)
    either (inl before) = subst (P k) (sym (get_or_append_left xs ys d k (omega (arith, before, long)))) (each k d before)
    either (inr from) =
        let same : a + (k - a) ≡ k = omega (arith, from) in
        subst (P k) (sym (get_or-append_right xs ys a k d long from))
        (subst (λ j. P j (get_or ys (k - a) d)) same (more (k - a) d (omega (arith, from, less))))
