use Rattle.std.proofs.Common.{◌≡◌, ℤ, List, ◌∷◌, refl, sym, rules}
use Rattle.std.proofs.lemmas.Int.{wraps}
use Rattle.jxlm_predictor.proofs.PropertiesLaws.{zero_wraps}
use Rattle.jxlm_predictor.proofs.state.PredictorState.own_properties.Goals as goal

-- lists are the same where their first numbers are, and their rests
same : {a b : ℤ} {xs ys : List ℤ} → a ≡ b → xs ≡ ys → (a ∷ xs) ≡ (b ∷ ys)
same first rest = rw (first, rest) refl

pub returns : goal.returns
returns g c =
    same (sym zero_wraps) (same (sym zero_wraps)
    (same (search (rules, wraps)) (same (search (rules, wraps)) (same (search (rules, wraps)) (same (search (rules, wraps))
    (same (search (rules, wraps)) (same (search (rules, wraps)) (same (search (rules, wraps)) (same (search (rules, wraps))
    (same (search (rules, wraps)) (same (search (rules, wraps)) (same (search (rules, wraps)) (same (search (rules, wraps))
    (same (search (rules, wraps)) (same (search (rules, wraps)) refl)))))))))))))))
