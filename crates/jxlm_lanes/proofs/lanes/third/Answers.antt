use Rattle.std.proofs.Common.{w16, arith, ap, ◌∙◌, ◌/◌, slice_index}
use Rattle.std.proofs.lemmas.Simd.{Each2-splat, Each1-all, get_or-zip2, length-zip2, get_or-replicate}
use lib.ListN.{replicate}
use mir.Syntax.{div, unsigned}
use borrow.Table.Row.{s_int}
use borrow.Rule.Simd.Lanes.{Asks2, act2}
use Rattle.jxlm_lanes.proofs.lanes.third.Goals as goal

pub nonzero_div-result : goal.nonzero_div-result
nonzero_div-result c = Each2-splat (Asks2 (div unsigned) (s_int w16) (s_int w16)) c.args.n 8 3 (Each1-all (λ x. Asks2 (div unsigned) (s_int w16) (s_int w16) x 3) (λ x. omega arith) c.args.n)

pub returns-clause-value : goal.returns-clause-value
returns-clause-value c j lt =
    get_or-zip2 (act2 (div unsigned) (s_int w16) (s_int w16) (s_int w16)) c.args.n (replicate 8 3) j 0 0 0 (let e = c.requires in omega arith) lt
    ∙ ap (λ d. slice_index c.args.n j / d) (get_or-replicate 8 j 3 0 lt)

pub returns-clause-len : goal.returns-clause-len
returns-clause-len c = length-zip2 (act2 (div unsigned) (s_int w16) (s_int w16) (s_int w16)) c.args.n (replicate 8 3) c.requires ∙ c.requires
