use Rattle.std.proofs.Common.{◌∙◌, arith}
use Rattle.jxlm_lanes.proofs.Each.{lesser_at, lesser_len}
use Rattle.jxlm_lanes.proofs.lanes.lesser.Goals as goal

pub returns-clause-value : goal.returns-clause-value
returns-clause-value c j lt =
    let a = c.requires.a_len in
    let b = c.requires.b_len in lesser_at c.args.a c.args.b j (omega arith) (omega arith)

pub returns-clause-len : goal.returns-clause-len
returns-clause-len c =
    let a = c.requires.a_len in
    let b = c.requires.b_len in lesser_len c.args.a c.args.b (omega arith) ∙ a
