use Rattle.std.proofs.Common.{◌∙◌, ◌<◌, arith, ap, get_or, w16}
use Rattle.std.proofs.lemmas.Simd.{get_or-zip2, length-zip2, get_or-replicate, Each1-get_or, below_from_Fits}
use lib.ListN.{replicate}
use lib.Lanes.{zip2}
use mir.Syntax.{shr, unsigned, wrap_sub}
use borrow.Table.Row.{s_int}
use borrow.Rule.Simd.Lanes.{act2}
use Rattle.jxlm_lanes.proofs.lanes.less_a_fourth.Goals as goal

pub returns-clause-value : goal.returns-clause-value
returns-clause-value c j lt =
    let len = c.requires in
    let xs = c.args.a in
    let x = get_or xs j 0 in
    let down = act2 (shr unsigned) (s_int w16) (s_int w16) (s_int w16) in
    let minus = act2 wrap_sub (s_int w16) (s_int w16) (s_int w16) in
    let n = length-zip2 down xs (replicate 8 2) (omega arith) in
    let small : x < 65536 = Each1-get_or (λ x. x < 65536) xs j 0 (omega arith) (below_from_Fits w16 xs c.fits-a.1) in
    get_or-zip2 minus xs (zip2 down xs (replicate 8 2)) j 0 0 0 (omega arith) (omega arith)
    ∙ ap (minus x) (get_or-zip2 down xs (replicate 8 2) j 0 0 0 (omega arith) lt ∙ ap (down x) (get_or-replicate 8 j 2 0 lt))
    ∙ omega (arith, small)

pub returns-clause-len : goal.returns-clause-len
returns-clause-len c =
    let len = c.requires in
    let down = act2 (shr unsigned) (s_int w16) (s_int w16) (s_int w16) in
    let minus = act2 wrap_sub (s_int w16) (s_int w16) (s_int w16) in
    let n = length-zip2 down c.args.a (replicate 8 2) (omega arith) in
    length-zip2 minus c.args.a (zip2 down c.args.a (replicate 8 2)) (omega arith) ∙ len
