-- The parts of sections in a set, one after another; and sections of parts that are not one.
use Rattle.std.proofs.Common.{◌≡◌, ◌≢◌, IsTrue, ℕ, zero, suc, ◌+◌, ◌<◌, ◌≤◌, Bool, true, false, ◌||◌, not, cond, List, [], ◌∷◌, ◌++◌, take, length, get_or, refl, sym, ap, ◌∙◌, subst, arith}
use Rattle.std.specs.BTreeSet.{BTreeSet, Updates, contains}
use Rattle.std.specs.List.{All, AllPairs, list_any}
use Rattle.std.proofs.lemmas.Grind.{take_at_read}
use Rattle.std.proofs.lemmas.List.{get_or-take, length-take, take_all}
use Rattle.std.proofs.lemmas.List.Elements.{All-more}
use Rattle.std.proofs.lemmas.List.Folds.{Any-from_list_any, list_any-from_Any, list_any_more}
use Rattle.std.proofs.lemmas.List.Quantifiers.{all_pairs_push}
use Rattle.jxlm_groups.proofs.PartSets.{is_part, one_part, part_back, part_itself}
use Rattle.jxlm_groups.specs.declared.part.SectionPart.{SectionPart}
use Rattle.jxlm_groups.specs.PartSets.{part_order}
use Rattle.jxl_modular.specs.Sections.{Section}
use Rattle.jxl_modular.specs.Inner.SectionParts.{HoldsParts}

-- a set has the parts of these sections, and no other
abbrev pub HoldsAll : BTreeSet SectionPart → List Section → Type 0
HoldsAll set ss = (q : SectionPart) → contains part_order set q ≡ list_any (λ s. is_part q s.part) ss

-- one section more
pub holds_more : (old new : BTreeSet SectionPart) (ss : List Section) (i : ℕ) (s : Section) → i < length ss → s ≡ get_or ss i s →
    HoldsAll old (take i ss) → Updates part_order old new s.part true → HoldsAll new (take (i + 1) ss)
holds_more old new ss i s lt is holds updates q =
    let p : SectionPart = s.part in
    let before : Bool = list_any (λ s. is_part q s.part) (take i ss) in
    updates.0 q ∙ ap (λ t. cond (is_part p q) true t) (holds q) ∙ either (is_part p q) before ∙ ap (λ t. before || t) (part_back p q) ∙
    ap (λ (t : Section). before || is_part q t.part) is ∙ sym (list_any_more (λ (s : Section). is_part q s.part) ss i s lt) where
      either : (a b : Bool) → cond a true b ≡ (b || a)
      either true true = refl
      either true false = refl
      either false true = refl
      either false false = refl

-- so it has exactly the parts of some section
pub holds_any : (set : BTreeSet SectionPart) (ss : List Section) → HoldsAll set ss → HoldsParts set ss
holds_any set ss holds q = (
  λ h.
      let (k, s, lt, is, e) = Any-from_list_any (λ (s : Section). is_part q s.part) ss (sym (holds q) ∙ h) in
      (k, s, lt, is, sym (one_part q s.part e)),
  λ h.
      let (k, s, lt, is, e) = h in
      holds q ∙ list_any-from_Any (λ (s : Section). is_part q s.part) ss (k, s, lt, is, part_itself q s.part (sym e)),
)

-- after the last section
pub holds_last : (set : BTreeSet SectionPart) (ss : List Section) (i : ℕ) → length ss ≤ i → HoldsAll set (take i ss) → HoldsAll set ss
holds_last set ss i le holds = subst (HoldsAll set) (take_all i ss le) holds

-- ---- sections of parts that are not one

-- a part that no earlier section is of
pub unlike_more : (set : BTreeSet SectionPart) (ss : List Section) (i : ℕ) (s : Section) (added : Bool) → i < length ss → s ≡ get_or ss i s → HoldsAll set (take i ss) →
    added ≡ not (contains part_order set s.part) → added ≡ true → AllPairs (λ s t. s.part ≢ t.part) (take i ss) → AllPairs (λ s t. s.part ≢ t.part) (take (i + 1) ss)
unlike_more set ss i s added lt here holds is new_one unlike =
    let absent : contains part_order set s.part ≡ false = not_there (contains part_order set s.part) (sym is ∙ new_one) in
    let more : take (i + 1) ss ≡ take i ss ++ s ∷ [] = (take_at_read ss i s lt).1 ∙ ap (λ t. take i ss ++ t ∷ []) (sym here) in
    subst (AllPairs (λ s t. s.part ≢ t.part)) (sym more) (all_pairs_push (λ s t. s.part ≢ t.part) (take i ss) s unlike (λ k e l same.
    different (sym absent ∙ (holds_any set (take i ss) holds s.part).1 (k, get_or (take i ss) k e, l, at_default (take i ss) k e l, same)))) where
      different : ◌≡◌ {A = Bool} false true → ⊥
      different e = cc

      not_there : (b : Bool) → not b ≡ true → b ≡ false
      not_there true e = cc
      not_there false e = refl

      at_default : (xs : List Section) (k : ℕ) (e : Section) → k < length xs → get_or xs k (get_or xs k e) ≡ get_or xs k e
      at_default [] k e l = absurd (omega (arith, l))
      at_default (x ∷ xs) zero e l = refl
      at_default (x ∷ xs) (suc k) e l = at_default xs k e (omega (arith, l))

-- a part that an earlier section is of
pub not_unlike : (set : BTreeSet SectionPart) (ss : List Section) (i : ℕ) (s : Section) (added : Bool) → i < length ss → s ≡ get_or ss i s → HoldsAll set (take i ss) →
    added ≡ not (contains part_order set s.part) → added ≡ false → AllPairs (λ s t. s.part ≢ t.part) ss → ⊥
not_unlike set ss i s added lt here holds is old_one unlike =
    let (k, t, l, at, same) = (holds_any set (take i ss) holds s.part).0 (there_already (contains part_order set s.part) (sym is ∙ old_one)) in
    let len = length-take i ss in
    let below : k < i = omega (arith, l, len) in
    let there : k < length ss = omega (arith, below, lt) in
    let earlier : get_or ss k s ≡ t = same_get ss k s t there ∙ sym (get_or-take i ss k t below) ∙ at in
    unlike k i s below lt (ap (λ (s : Section). s.part) earlier ∙ same ∙ ap (λ (s : Section). s.part) here) where
      there_already : (b : Bool) → not b ≡ false → b ≡ true
      there_already true e = refl
      there_already false e = cc

      same_get : (xs : List Section) (k : ℕ) (d e : Section) → k < length xs → get_or xs k d ≡ get_or xs k e
      same_get [] k d e l = absurd (omega (arith, l))
      same_get (x ∷ xs) zero d e l = refl
      same_get (x ∷ xs) (suc k) d e l = same_get xs k d e (omega (arith, l))

-- what holds of one section more
pub each_more : (test : SectionPart → Bool) (ss : List Section) (i : ℕ) (s : Section) → i < length ss → s ≡ get_or ss i s → true ≡ test s.part →
    All (λ s. IsTrue (test s.part)) (take i ss) → All (λ s. IsTrue (test s.part)) (take (i + 1) ss)
each_more test ss i s lt here is all = All-more (λ (s : Section). IsTrue (test s.part)) ss i s lt all (subst (λ (s : Section). IsTrue (test s.part)) here (sym is))

-- what holds of each section holds of this one
pub of_each : (test : SectionPart → Bool) (ss : List Section) (i : ℕ) (s : Section) (b : Bool) → i < length ss → s ≡ get_or ss i s → b ≡ test s.part → All (λ s. IsTrue (test s.part)) ss → IsTrue b
of_each test ss i s b lt here is all = is ∙ subst (λ (s : Section). IsTrue (test s.part)) (sym here) (all i s lt)
