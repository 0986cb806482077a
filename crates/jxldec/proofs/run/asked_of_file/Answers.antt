use Rattle.std.proofs.Common.{Result, inl, inr, subst}
use Rattle.std.specs.Prelude.{IfErr}
use Rattle.std.proofs.lemmas.Result.{err_from_is_err_and}
use Rattle.jxldec.specs.Texts.{AskedFails}
use Rattle.jxldec.specs.declared.content.Output.{Output}
use Rattle.jxldec_lines.specs.declared.failures.Failure.{Failure}
use Rattle.jxldec.proofs.run.asked_of_file.Goals as goal

pub returns-in_err-metadata-clause-err : goal.returns-in_err-metadata-clause-err
returns-in_err-metadata-clause-err g c =
    let p = err_from_is_err_and c.from_residual.result c.from_residual.ensures.1 in
    rw (p.1, p.2) (inr c.in_err-metadata.ensures.err)

pub returns-in_err-output-clause-err : goal.returns-in_err-output-clause-err
returns-in_err-output-clause-err g c =
    let p = err_from_is_err_and c.from_residual-in_err-output.result c.from_residual-in_err-output.ensures.1 in
    let o = c.args.options.now in
    let file = c.args.file.now in
    let why = subst (λ (r : Result Output Failure). IfErr r (AskedFails o.task o.limits o.format file)) c.in_err-output.was c.output_asked-made.ensures.err in
    rw (p.1, p.2) (inl why)
