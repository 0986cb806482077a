use Rattle.std.proofs.Common.{w16, arith, map, of_z, to_z, pos, ◌<ℤ◌, ℤ, FitsSigned, int_div, subst, sym, ap, ◌∙◌, get_or}
use Rattle.std.proofs.lemmas.Simd.{Each2-splat, Each1-get_or, length-zip2, get_or-zip2, get_or-replicate}
use Rattle.std.proofs.lemmas.Int.{quot_fits, to_z-of_z}
use Rattle.std.proofs.lemmas.List.{length-map, get_or-map}
use Rattle.jxlm_lanes.proofs.Each.{Each1-map}
use lib.ListN.{replicate}
use lib.Lanes.{zip2}
use mir.Syntax.{div, signed}
use borrow.Table.Row.{s_int}
use borrow.Rule.Simd.Lanes.{Asks2, act2}
use Rattle.jxlm_lanes.proofs.lanes.half.Goals as goal

pub nonzero_div-result : goal.nonzero_div-result
nonzero_div-result c =
    let two : pos 0 <ℤ pos 2 = omega arith in
    Each2-splat (Asks2 (div signed) (s_int w16) (s_int w16)) (map (of_z w16) c.args.n) 8 2
    (Each1-map (FitsSigned w16) (λ x. Asks2 (div signed) (s_int w16) (s_int w16) x 2) (of_z w16)
    (λ (x : ℤ) fits. (omega arith, subst (λ z. FitsSigned w16 (int_div z (pos 2))) (sym (to_z-of_z w16 x fits)) (quot_fits w16 x (pos 2) fits two))) c.args.n c.requires.fit)

pub returns-clause-value : goal.returns-clause-value
returns-clause-value c j lt =
    let len = c.requires.len in
    let two : pos 0 <ℤ pos 2 = omega arith in
    let z = get_or c.args.n j (pos 0) in
    let f : FitsSigned w16 z = Each1-get_or (FitsSigned w16) c.args.n j (pos 0) (omega arith) c.requires.fit in
    let a = length-map c.args.n (of_z w16) in
    let d = act2 (div signed) (s_int w16) (s_int w16) (s_int w16) in
    let n = length-zip2 d (map (of_z w16) c.args.n) (replicate 8 2) (omega arith) in
    get_or-map (to_z w16) (zip2 d (map (of_z w16) c.args.n) (replicate 8 2)) j 0 (pos 0) (omega arith)
    ∙ ap (to_z w16) (get_or-zip2 d (map (of_z w16) c.args.n) (replicate 8 2) j 0 0 0 (omega arith) lt)
    ∙ ap (λ x. to_z w16 (d (get_or (map (of_z w16) c.args.n) j 0) x)) (get_or-replicate 8 j 2 0 lt)
    ∙ ap (λ x. to_z w16 (d x 2)) (get_or-map (of_z w16) c.args.n j (pos 0) 0 (omega arith))
    ∙ ap (λ x. to_z w16 (of_z w16 (int_div x (pos 2)))) (to_z-of_z w16 z f)
    ∙ to_z-of_z w16 (int_div z (pos 2)) (quot_fits w16 z (pos 2) f two)

pub returns-clause-len : goal.returns-clause-len
returns-clause-len c =
    let len = c.requires.len in
    let a = length-map c.args.n (of_z w16) in
    let d = act2 (div signed) (s_int w16) (s_int w16) (s_int w16) in
    let n = length-zip2 d (map (of_z w16) c.args.n) (replicate 8 2) (omega arith) in
    length-map (zip2 d (map (of_z w16) c.args.n) (replicate 8 2)) (to_z w16) ∙ omega arith
