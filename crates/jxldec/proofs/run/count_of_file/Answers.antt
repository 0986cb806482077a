use Rattle.std.proofs.Common.{◌≡◌, length, rules}
use Rattle.std.proofs.lemmas.Result.{err_from_is_err_and}
use Rattle.jxldec.proofs.run.count_of_file.Goals as goal

pub returns-in_err-timeline-clause-err : goal.returns-in_err-timeline-clause-err
returns-in_err-timeline-clause-err c = λ number asked.
    let p = err_from_is_err_and c.from_residual.result c.from_residual.ensures.1 in
    rw (p.1, p.2) (c.in_err-timeline.ensures.err_of_frames number asked)

pub returns-clause-ok : goal.returns-clause-ok
returns-clause-ok c =
    let count : c.len.result ≡ length c.in_ok-timeline.timeline.durations.items = search rules in
    (c.in_ok-timeline.timeline, c.in_ok-timeline.ensures.ok, count, search rules)
