use Rattle.std.proofs.Common.{w16, arith, map, of_z, to_z, pos, ℤ, FitsSigned, ap, ◌∙◌, get_or, List, ◌≡◌, ◌<◌, ℕ, length, subst, sym}
use Rattle.std.specs.Int.{int_shr}
use Rattle.std.proofs.lemmas.Simd.{Each1-get_or, length-zip2, get_or-zip2, get_or-replicate, Each1-from_get_or}
use Rattle.std.proofs.lemmas.Int.{to_z-of_z}
use Rattle.std.proofs.lemmas.List.{length-map, get_or-map}
use lib.ListN.{replicate}
use lib.Lanes.{zip2}
use mir.Syntax.{shr, signed}
use borrow.Table.Row.{s_int}
use borrow.Rule.Simd.Lanes.{act2}
use Rattle.jxlm_lanes.specs.Colour.{floor_half}
use Rattle.jxlm_lanes.specs.Inner.Lanes.{lane, AreEight}
use Rattle.jxlm_lanes.proofs.Each.{halved_fits}
use Rattle.jxlm_lanes.proofs.colour_lanes.halves.Goals as goal

module _ (v : List ℤ) (eight : AreEight v) where
  len : length (map (to_z w16) (zip2 (act2 (shr signed) (s_int w16) (s_int w16) (s_int w16)) (map (of_z w16) v) (replicate 8 1))) ≡ 8
  len =
      let e = eight.len in
      let a = length-map v (of_z w16) in
      let d = act2 (shr signed) (s_int w16) (s_int w16) (s_int w16) in
      let n = length-zip2 d (map (of_z w16) v) (replicate 8 1) (omega arith) in
      length-map (zip2 d (map (of_z w16) v) (replicate 8 1)) (to_z w16) ∙ omega arith

  value : (j : ℕ) → j < 8 → lane (map (to_z w16) (zip2 (act2 (shr signed) (s_int w16) (s_int w16) (s_int w16)) (map (of_z w16) v) (replicate 8 1))) j ≡ floor_half (lane v j)
  value j lt =
      let e = eight.len in
      let z = lane v j in
      let f : FitsSigned w16 z = Each1-get_or (FitsSigned w16) v j (pos 0) (omega arith) eight.fit in
      let a = length-map v (of_z w16) in
      let d = act2 (shr signed) (s_int w16) (s_int w16) (s_int w16) in
      let n = length-zip2 d (map (of_z w16) v) (replicate 8 1) (omega arith) in
      get_or-map (to_z w16) (zip2 d (map (of_z w16) v) (replicate 8 1)) j 0 (pos 0) (omega arith)
      ∙ ap (to_z w16) (get_or-zip2 d (map (of_z w16) v) (replicate 8 1) j 0 0 0 (omega arith) lt)
      ∙ ap (λ x. to_z w16 (d (get_or (map (of_z w16) v) j 0) x)) (get_or-replicate 8 j 1 0 lt)
      ∙ ap (λ x. to_z w16 (d x 1)) (get_or-map (of_z w16) v j (pos 0) 0 (omega arith))
      ∙ ap (λ x. to_z w16 (of_z w16 (int_shr x 1))) (to_z-of_z w16 z f)
      ∙ to_z-of_z w16 (floor_half z) (halved_fits z f)

pub returns-clause-value : goal.returns-clause-value
returns-clause-value c j lt = value c.args.a c.requires j lt

pub returns-clause-eight : goal.returns-clause-eight
returns-clause-eight c =
    let n = len c.args.a c.requires in
    let e = c.requires.len in
    record {
      len = n;
      fit = Each1-from_get_or (FitsSigned w16) _ (pos 0) (λ j lt.
          subst (FitsSigned w16) (sym (value c.args.a c.requires j (omega arith))) (halved_fits (lane c.args.a j) (Each1-get_or (FitsSigned w16) c.args.a j (pos 0) (omega arith) c.requires.fit)));
    }
