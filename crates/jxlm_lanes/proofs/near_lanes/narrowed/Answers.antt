use Rattle.std.proofs.Common.{◌≡◌, ◌∙◌, ap, sym, subst, ℕ, ℤ, pos, List, map, FitsSigned, to_z, unsigned_abs, w16, w32, arith, ◌<◌}
use Rattle.std.proofs.lemmas.Int.{to_z-of_z}
use Rattle.std.proofs.lemmas.List.{get_or-map, length-map}
use Rattle.std.proofs.lemmas.Simd.{Each1-get_or, Each1-from_get_or}
use mir.Syntax.{cast, signed}
use borrow.Table.Row.{s_int}
use borrow.Rule.Simd.Lanes.{act1, Asks1}
use lib.Lanes.{Each1}
use Rattle.jxlm_lanes.specs.Inner.Lanes.{lane, AreEight, AreWideEight}
use Rattle.jxlm_lanes.proofs.Each.{Each1-map}
use Rattle.jxlm_lanes.proofs.Near.{brought, brought_is, is_brought, IsBrought}
use Rattle.jxlm_lanes.proofs.near_lanes.narrowed.Goals as goal

abbrev down : ℕ → ℕ
down = act1 (cast signed signed w16) (s_int w32) (s_int w16)

abbrev made : List ℕ → List ℤ
made xs = map (to_z w16) (map down xs)

module _ (v : List ℤ) (wide : AreWideEight v) where
  at : (j : ℕ) → j < 8 → lane (made (map brought v)) j ≡ to_z w32 (brought (lane v j))
  at j lt =
      let e = wide.len in
      let a = length-map v brought in
      let b = length-map (map brought v) down in
      let f : FitsSigned w32 (lane v j) = Each1-get_or (FitsSigned w32) v j (pos 0) (omega arith) wide.fit in
      get_or-map (to_z w16) (map down (map brought v)) j 0 (pos 0) (omega arith)
      ∙ ap (to_z w16) (get_or-map down (map brought v) j 0 0 (omega arith))
      ∙ ap (λ n. to_z w16 (down n)) (get_or-map brought v j (pos 0) 0 (omega arith))
      ∙ to_z-of_z w16 (to_z w32 (brought (lane v j))) (is_brought (lane v j) f).fits

  at_is : (j : ℕ) → j < 8 → IsBrought (lane v j) (lane (made (map brought v)) j)
  at_is j lt =
      let e = wide.len in
      subst (IsBrought (lane v j)) (sym (at j lt)) (is_brought (lane v j) (Each1-get_or (FitsSigned w32) v j (pos 0) (omega arith) wide.fit))

  eight : AreEight (made (map brought v))
  eight =
      let e = wide.len in
      let a = length-map v brought in
      let b = length-map (map brought v) down in
      let n = length-map (map down (map brought v)) (to_z w16) in
      record { len = omega arith; fit = Each1-from_get_or (FitsSigned w16) (made (map brought v)) (pos 0) (λ j lt. (at_is j (omega arith)).fits) }

pub overflow_cast-result : goal.overflow_cast-result
overflow_cast-result c =
    subst (Each1 (Asks1 (cast signed signed w16) (s_int w32))) (sym (brought_is c.args.v c.requires.len))
    (Each1-map (FitsSigned w32) (Asks1 (cast signed signed w16) (s_int w32)) brought (λ (z : ℤ) f. (is_brought z f).fits) c.args.v c.requires.fit)

pub returns-clause-same : goal.returns-clause-same
returns-clause-same c j lt =
    subst (λ l. FitsSigned w16 (lane c.args.v j) → lane (made l) j ≡ lane c.args.v j) (sym (brought_is c.args.v c.requires.len)) (λ h. (at_is c.args.v c.requires j lt).kept h)

pub returns-clause-inside : goal.returns-clause-inside
returns-clause-inside c j lt =
    subst (λ l. unsigned_abs (lane (made l) j) < 32767 → lane c.args.v j ≡ lane (made l) j) (sym (brought_is c.args.v c.requires.len)) (λ h. (at_is c.args.v c.requires j lt).same h)

pub returns-clause-eight : goal.returns-clause-eight
returns-clause-eight c = subst (λ l. AreEight (made l)) (sym (brought_is c.args.v c.requires.len)) (eight c.args.v c.requires)
