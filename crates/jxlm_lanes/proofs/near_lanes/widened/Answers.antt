use Rattle.std.proofs.Common.{◌≡◌, ◌∙◌, refl, ap, sym, subst, ℤ, List, [], ◌∷◌, map, FitsSigned, to_z, of_z, w16, w32}
use Rattle.std.proofs.lemmas.Int.{to_z-of_z}
use Rattle.std.proofs.lemmas.Simd.{Each1-weaker}
use mir.Syntax.{cast, signed}
use borrow.Table.Row.{s_int}
use borrow.Rule.Simd.Lanes.{act1}
use lib.Lanes.{Each1}
use Rattle.jxlm_lanes.specs.Inner.Lanes.{lane, AreWideEight}
use Rattle.jxlm_lanes.proofs.Each.{fits_wider}
use Rattle.jxlm_lanes.proofs.near_lanes.widened.Goals as goal

same : (xs : List ℤ) → Each1 (FitsSigned w16) xs → map (to_z w32) (map (act1 (cast signed signed w32) (s_int w16) (s_int w32)) (map (of_z w16) xs)) ≡ xs
same [] h = refl
same (x ∷ xs) h =
    ap (λ z. to_z w32 (of_z w32 z) ∷ map (to_z w32) (map (act1 (cast signed signed w32) (s_int w16) (s_int w32)) (map (of_z w16) xs))) (to_z-of_z w16 x h.0)
    ∙ ap (λ z. z ∷ map (to_z w32) (map (act1 (cast signed signed w32) (s_int w16) (s_int w32)) (map (of_z w16) xs))) (to_z-of_z w32 x (fits_wider x h.0))
    ∙ ap (λ l. x ∷ l) (same xs h.1)

pub returns-clause-value : goal.returns-clause-value
returns-clause-value c j lt = ap (λ l. lane l j) (same c.args.v c.requires.fit)

pub returns-clause-eight : goal.returns-clause-eight
returns-clause-eight c =
    subst AreWideEight (sym (same c.args.v c.requires.fit)) (record { len = c.requires.len; fit = Each1-weaker (FitsSigned w16) (FitsSigned w32) fits_wider c.args.v c.requires.fit })
