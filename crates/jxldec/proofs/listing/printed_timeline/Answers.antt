use Rattle.std.proofs.Common.{inr, subst, sym}
use Rattle.jxldec.specs.Texts.{ListFails}
use Rattle.jxldec_lines.specs.declared.failures.Failure.{Failure}
use Rattle.jxldec.proofs.listing.printed_timeline.Goals as goal

pub returns-else-is_refusal-clause-err : goal.returns-else-is_refusal-clause-err
returns-else-is_refusal-clause-err c =
    subst (λ (f : Failure). ListFails c.args.limits.now c.args.file.now f) (sym c.of_frames.ensures) (inr (c.in_ok-timeline.timeline, c.in_ok-timeline.ensures.ok, c.in-Some.is))
