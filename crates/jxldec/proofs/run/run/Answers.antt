use Rattle.std.proofs.Common.{◌∙◌, subst, sym}
use Rattle.jxl_command.specs.Streams.{IsReadWhole}
use Rattle.jxldec.specs.Texts.{AreSaved}
use Rattle.jxldec_lines.specs.declared.failures.Lacks.{Lacks}
use Rattle.jxldec.proofs.Saving.{lacks_nothing}
use Rattle.jxldec.proofs.run.run.Goals as goal

pub returns-clause-saved : goal.returns-clause-saved
returns-clause-saved g c = λ zero.
    subst (λ (l : Lacks). IsReadWhole (g.R.Read.remaining c.args.input.now) (g.R.Read.remaining c.carry_out.new.input) (λ file. AreSaved g.F.Write.contents g.F.Flush.is_flushed c.args.options file l c.args.extras.now c.carry_out.new.extras))
    (lacks_nothing c.in-Ok.written.lacks (sym c.has_some.ensures ∙ c.if-has_some.false)) c.in-Ok.ensures.saved
