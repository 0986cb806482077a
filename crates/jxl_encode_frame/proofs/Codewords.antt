-- How many codewords the codes of groups' own trees may have together.
use Rattle.std.proofs.Common.{◌≡◌, ◌≢◌, List, [], ◌∷◌, refl, arith}
use Rattle.std.specs.Prelude.{sum_by}
use Rattle.std.specs.List.{AllPairs}
use Rattle.std.proofs.lemmas.List.Elements.{All-weaker}
use Rattle.std.proofs.lemmas.List.Kept.{AllPairs-cons}
use Rattle.std.proofs.lemmas.List.Sums.{sum_by-cons}
use Rattle.jxlm_groups.specs.declared.part.SectionPart.{SectionPart}
use Rattle.jxl_lossless.proofs.Order.{Before, Ordered, before_unlike}

-- none of any parts has one
pub sum_none : (qs : List SectionPart) → sum_by (λ q. 0) qs ≡ 0
sum_none [] = refl
sum_none (q ∷ qs) =
    let rest = sum_none qs in
    let sum_is = sum_by-cons (λ (q : SectionPart). 0) q qs in
    omega (arith, rest, sum_is)

-- in the order of their sections each part is listed once
pub each_once : (qs : List SectionPart) → Ordered Before qs → AllPairs (λ p q. p ≢ q) qs
each_once [] a = λ i j d lt within. absurd (omega (arith, within))
each_once (q ∷ qs) a = AllPairs-cons (λ p r. p ≢ r) q qs (All-weaker (Before q) (λ r. q ≢ r) (λ r h. before_unlike q r h) qs a.0) (each_once qs a.1)
