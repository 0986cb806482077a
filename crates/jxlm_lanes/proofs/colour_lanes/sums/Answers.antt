use Rattle.std.proofs.Common.{◌∙◌, pos, arith, FitsSigned, w16}
use Rattle.std.proofs.lemmas.Int.{wrapping_add_is}
use Rattle.std.proofs.lemmas.Simd.{Each1-get_or}
use mir.Syntax.{wrap_add}
use borrow.Table.Row.{s_int}
use borrow.Rule.Simd.Lanes.{act2}
use Rattle.jxlm_lanes.specs.Inner.Lanes.{lane}
use Rattle.jxlm_lanes.proofs.Each.{lane_of_two, lanes_of_two}
use Rattle.jxlm_lanes.proofs.colour_lanes.sums.Goals as goal

pub returns-clause-value : goal.returns-clause-value
returns-clause-value c j lt =
    let la = c.requires.a.len in
    let lb = c.requires.b.len in
    let fa : FitsSigned w16 (lane c.args.a j) = Each1-get_or (FitsSigned w16) c.args.a j (pos 0) (omega arith) c.requires.a.fit in
    let fb : FitsSigned w16 (lane c.args.b j) = Each1-get_or (FitsSigned w16) c.args.b j (pos 0) (omega arith) c.requires.b.fit in
    lane_of_two w16 (act2 wrap_add (s_int w16) (s_int w16) (s_int w16)) c.args.a c.args.b j (omega arith) (omega arith)
    ∙ wrapping_add_is w16 (lane c.args.a j) (lane c.args.b j) fa fb

pub returns-clause-eight : goal.returns-clause-eight
returns-clause-eight c = lanes_of_two (act2 wrap_add (s_int w16) (s_int w16) (s_int w16)) (λ a b. omega arith) c.args.a c.args.b c.requires.a c.requires.b
