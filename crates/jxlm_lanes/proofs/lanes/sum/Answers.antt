use Rattle.std.proofs.Common.{◌∙◌, ◌<◌, arith, map, ap, get_or, w16, min}
use Rattle.std.proofs.lemmas.Simd.{get_or-zip2, length-zip2, Each1-get_or, below_from_Fits}
use Rattle.std.proofs.lemmas.List.{get_or-map, length-map}
use mir.Syntax.{bit_not, wrap_add}
use borrow.Table.Row.{s_int}
use borrow.Rule.Simd.Lanes.{act1, act2}
use Rattle.jxlm_lanes.proofs.Each.{lesser_at, lesser_len, lessers}
use Rattle.jxlm_lanes.proofs.lanes.sum.Goals as goal

pub returns-clause-value : goal.returns-clause-value
returns-clause-value c j lt =
    let a = c.requires.a_len in
    let b = c.requires.b_len in
    let xs = c.args.a in
    let ys = c.args.b in
    let x = get_or xs j 0 in
    let y = get_or ys j 0 in
    let not = act1 bit_not (s_int w16) (s_int w16) in
    let plus = act2 wrap_add (s_int w16) (s_int w16) (s_int w16) in
    let m = length-map xs not in
    let l = lesser_len ys (map not xs) (omega arith) in
    let small : x < 65536 = Each1-get_or (λ x. x < 65536) xs j 0 (omega arith) (below_from_Fits w16 xs c.fits-a.1) in
    get_or-zip2 plus xs (lessers ys (map not xs)) j 0 0 0 (omega arith) (omega arith)
    ∙ ap (plus x) (lesser_at ys (map not xs) j (omega arith) (omega arith) ∙ ap (min y) (get_or-map not xs j 0 0 (omega arith)))
    ∙ omega (arith, small)

pub returns-clause-len : goal.returns-clause-len
returns-clause-len c =
    let a = c.requires.a_len in
    let b = c.requires.b_len in
    let not = act1 bit_not (s_int w16) (s_int w16) in
    let plus = act2 wrap_add (s_int w16) (s_int w16) (s_int w16) in
    let m = length-map c.args.a not in
    let l = lesser_len c.args.b (map not c.args.a) (omega arith) in
    length-zip2 plus c.args.a (lessers c.args.b (map not c.args.a)) (omega arith) ∙ a
