use Rattle.std.proofs.Common.{◌∙◌, ◌-◌, rules}
use Rattle.jxl_icc.specs.Inner.States.{so_far}
use Rattle.jxl_icc.proofs.Runs.{contents_fails, unless_map}
use Rattle.jxl_icc.proofs.decode.contents.Goals as goal

pub returns-in-Err : goal.returns-in-Err
returns-in-Err c =
    let i = c.loop-done.invariant in
    let n = c.args.end - c.args.first.place in
    record {
      gives = unless_map c.in-Err.error (λ h. i.rest ∙ contents_fails c.args.bytes.now c.args.end c.args.size n c.loop-done.done
          (so_far c.loop-done.walk c.loop-done.out.items) c.in-Err.error (search rules) (search rules) h) c.in-Err.ensures.gives;
    }
