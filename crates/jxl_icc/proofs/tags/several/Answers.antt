use Rattle.std.proofs.Common.{◌∙◌, ◌-◌, rules}
use Rattle.jxl_icc.specs.Inner.States.{listed}
use Rattle.jxl_icc.proofs.Runs.{tags_fails, unless_map}
use Rattle.jxl_icc.proofs.tags.several.Goals as goal

pub returns-in-Err-clause-gives : goal.returns-in-Err-clause-gives
returns-in-Err-clause-gives c =
    let i = c.loop-done.invariant in
    let n = c.args.end - c.args.first.place in
    unless_map c.in-Err.error (λ h. i.rest ∙ tags_fails c.args.bytes.now c.args.end c.args.size n c.loop-done.done
    (listed c.loop-done.before c.loop-done.out.items) c.in-Err.error (search rules) (search rules) (search rules) h) c.in-Err.ensures.gives
