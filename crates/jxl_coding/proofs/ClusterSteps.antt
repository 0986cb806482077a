-- One more step of the definitions of clusters that go by number.
use Rattle.std.proofs.Common.{◌≡◌, ℕ, suc, ◌+◌, ◌<◌, ◌++◌, List, [], ◌∷◌, length, take, replicate, max, refl, sym, subst, ◌∙◌, inl, inr, arith, Bool, true, false, ◌&&◌, ◌||◌, ◌==◌, slice_index, slice_index_or, slice_set}
use Rattle.std.specs.List.{list_any}
use Rattle.std.proofs.lemmas.Bool.{cases_eq}
use Rattle.std.proofs.lemmas.Bool.Decides.{nat_tests}
use Rattle.std.proofs.lemmas.List.{get_or-set_same, get_or-set_other, get_or-replicate}
use Rattle.std.proofs.lemmas.List.Folds.{list_any_more}
use Rattle.jxl_coding.specs.Inner.Marks.{AreMarked}
use Rattle.jxl_coding.specs.Clusters.{greatest, are_used, numbers, with_moved, moved_first}

next : (n : ℕ) → suc n ≡ n + 1
next n = omega arith

pub greatest_more : (n : ℕ) (clusters : List ℕ) → greatest (n + 1) clusters ≡ max (greatest n clusters) (slice_index clusters n)
unfolding greatest
greatest_more n clusters = subst (λ (m : ℕ). greatest m clusters ≡ max (greatest n clusters) (slice_index clusters n)) (next n) refl

pub used_more : (n : ℕ) (clusters : List ℕ) → are_used (n + 1) clusters ≡ (are_used n clusters && list_any (λ c. c == n) clusters)
unfolding are_used
used_more n clusters = subst (λ (m : ℕ). are_used m clusters ≡ (are_used n clusters && list_any (λ c. c == n) clusters)) (next n) refl

pub numbers_more : (n : ℕ) → numbers (n + 1) ≡ numbers n ++ n ∷ []
unfolding numbers
numbers_more n = subst (λ (m : ℕ). numbers m ≡ numbers n ++ n ∷ []) (next n) refl

pub moved_more : (n : ℕ) (places : List ℕ) → moved_first (n + 1) places ≡ with_moved (moved_first n places) (slice_index places n)
unfolding moved_first
moved_more n places = subst (λ (m : ℕ). moved_first m places ≡ with_moved (moved_first n places) (slice_index places n)) (next n) refl

pub none_marked : AreMarked (replicate 256 false) []
none_marked = λ c lt. get_or-replicate 256 c false false lt

-- one mark more
pub mark_more : (marks : List Bool) (clusters : List ℕ) (i : ℕ) → length marks ≡ 256 → i < length clusters → slice_index clusters i < 256 →
    AreMarked marks (take i clusters) → AreMarked (slice_set marks (slice_index clusters i) true) (take (i + 1) clusters)
mark_more marks clusters i many within low so_far = λ c lt.
    let more : list_any (λ k. k == c) (take (i + 1) clusters) ≡ (list_any (λ k. k == c) (take i clusters) || (slice_index clusters i == c)) = list_any_more (λ (k : ℕ). k == c) clusters i 0 within in
    elim (cases_eq c (slice_index clusters i)) [
      | inl e ↦
          let t : (slice_index clusters i == c) ≡ true = grind (arith, nat_tests) in
          let set : slice_index_or (slice_set marks (slice_index clusters i) true) c false ≡ true = rw e (get_or-set_same marks (slice_index clusters i) true false (rw many low)) in
          set ∙ sym (more ∙ rw t (or_true (list_any (λ k. k == c) (take i clusters))))
      | inr other ↦
          let t : (slice_index clusters i == c) ≡ false = grind (arith, nat_tests) in
          get_or-set_other marks (slice_index clusters i) c true false other ∙ so_far c lt ∙ sym (more ∙ rw t (or_false (list_any (λ k. k == c) (take i clusters))))
    ]
  where
    or_true : (b : Bool) → (b || true) ≡ true
    or_true true = refl
    or_true false = refl

    or_false : (b : Bool) → (b || false) ≡ b
    or_false true = refl
    or_false false = refl
