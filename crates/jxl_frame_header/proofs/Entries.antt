-- A map that is filled in the order of its keys.
use Rattle.std.proofs.Common.{◌≡◌, ℕ, zero, suc, ◌+◌, ◌≤◌, List, [], ◌∷◌, ◌++◌, map, refl, ap, ◌∙◌, sym, arith}
use Rattle.std.specs.BTreeMap.{insert_entry}
use Rattle.std.specs.Cmp.{nat_cmp_is}
use Rattle.std.specs.List.{range_with_len}
use Rattle.std.specs.Ordering.{match_ordering, nat_cmp}
use Rattle.std.specs.declared.cmp.Ordering.{Ordering}
use Rattle.std.specs.declared.cmp.Ordering.TheVariants.{Greater}
use Rattle.std.proofs.lemmas.List.FromFn.{map-range_with_len_more}

module _ {X : Type 0} (f : ℕ → X) where
  abbrev pub entry : ℕ → ℕ × X
  entry p = (p, f p)

  -- a key above all others comes last
  comes_last : (a n k : ℕ) (v : X) → a + n ≤ k → insert_entry nat_cmp (map entry (range_with_len a n)) k v ≡ map entry (range_with_len a n) ++ (k, v) ∷ []
  comes_last a zero k v le = refl
  comes_last a (suc n) k v le =
      let above : Greater ≡ nat_cmp k a = nat_cmp_is k a Greater (omega (arith, le)) in
      let es : List (ℕ × X) = map entry (range_with_len (a + 1) n) in
      ap (λ (o : Ordering). match_ordering o ((k, v) ∷ (a, f a) ∷ es) ((a, v) ∷ es) ((a, f a) ∷ insert_entry nat_cmp es k v)) (sym above)
      ∙ ap (λ (l : List (ℕ × X)). (a, f a) ∷ l) (comes_last (a + 1) n k v (omega (arith, le)))

  -- so n entries become one more
  pub filled : (n : ℕ) → insert_entry nat_cmp (map entry (range_with_len 0 n)) n (f n) ≡ map entry (range_with_len 0 (n + 1))
  filled n = comes_last 0 n n (f n) (omega arith) ∙ sym (map-range_with_len_more entry 0 n n (omega arith))
