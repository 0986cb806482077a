-- Two parts are one exactly where their order says so.
use Rattle.std.proofs.Common.{◌≡◌, ◌==◌, ℕ, Bool, true, false, cond, nat_lt, refl, ap, ◌∙◌, subst, eqb-true}
use Rattle.std.specs.declared.cmp.Ordering.{Ordering}
use Rattle.std.specs.declared.cmp.Ordering.TheVariants.{Less, Equal, Greater}
use Rattle.std.specs.Ordering.{eq_by_cmp, is_eq, nat_cmp, ordering_then}
use Rattle.std.proofs.lemmas.Cmp.{eq_by_cmp_equiv, tied_itself}
use Rattle.jxlm_groups.specs.PartSets.{part_order}
use Rattle.jxlm_groups.specs.Pieces.{SectionPart}
use Rattle.jxlm_groups.specs.declared.part.SectionPart.TheVariants as parts
use Rattle.jxlm_groups.specs.contracts.part.SectionPartOrd.TheImpl.Laws as laws

-- two parts are the same
abbrev pub is_part : SectionPart → SectionPart → Bool
is_part p q = eq_by_cmp part_order p q

never : ◌≡◌ {A = Bool} false true → ⊥
never e = cc

same_number : (j k : ℕ) → is_eq (nat_cmp j k) ≡ true → j ≡ k
same_number j k e = decided (nat_lt j k) (j == k) refl e where
  decided : (a b : Bool) → (j == k) ≡ b → is_eq (cond a Less (cond b Equal Greater)) ≡ true → j ≡ k
  decided true b is e = absurd (never e)
  decided false true is e = eqb-true j k is
  decided false false is e = absurd (never e)

both_equal : (a b : Ordering) → is_eq (ordering_then a b) ≡ true → (is_eq a ≡ true) × (is_eq b ≡ true)
both_equal Less b e = cc
both_equal Equal b e = (refl, e)
both_equal Greater b e = cc

pub one_part : (p q : SectionPart) → is_part p q ≡ true → p ≡ q
one_part parts.Global parts.Global e = refl
one_part parts.Global (parts.Lf k) e = cc
one_part parts.Global (parts.Pass p k) e = cc
one_part (parts.Lf j) parts.Global e = cc
one_part (parts.Lf j) (parts.Lf k) e = ap (λ n. parts.Lf n) (same_number j k e)
one_part (parts.Lf j) (parts.Pass p k) e = cc
one_part (parts.Pass p j) parts.Global e = cc
one_part (parts.Pass p j) (parts.Lf k) e = cc
one_part (parts.Pass p j) (parts.Pass q k) e =
    let b = both_equal (nat_cmp p q) (nat_cmp j k) e in
    ap (λ n. parts.Pass n j) (same_number p q b.0) ∙ ap (λ n. parts.Pass q n) (same_number j k b.1)

pub part_itself : (p q : SectionPart) → p ≡ q → is_part p q ≡ true
part_itself p q e = subst (λ r. is_part p r ≡ true) e (ap is_eq (tied_itself laws.total-law p))

pub part_back : (p q : SectionPart) → is_part p q ≡ is_part q p
part_back p q = (eq_by_cmp_equiv laws.total-law).symm p q
