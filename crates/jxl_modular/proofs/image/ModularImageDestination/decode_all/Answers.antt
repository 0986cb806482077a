use Rattle.std.specs.Prelude.{pos}
use Rattle.std.specs.Option.{option_copied}
use Rattle.std.proofs.Common.{◌≡◌, ◌&&◌, length, refl}
use Rattle.std.proofs.lemmas.Result.{err_from_is_err_and}
use Rattle.jxl_modular.proofs.Hearing.{heard_next}
use Rattle.jxl_modular.proofs.TurnLaws.{falls, same_both, same_here, stays, stops_here, turned_next, turned_none}
use Rattle.jxl_modular.proofs.image.ModularImageDestination.decode_all.Goals as goal
use Rattle.jxl_modular.proofs.image.ModularImageDestination.decode_all.Goals.{then-not-decoded, else-not-decoded}

pub loop-section-init : goal.loop-section-init
loop-section-init g c = record {
  turned = turned_none g.D.Decoder.meaning g.S.Sealed.width g.S.Sealed.to_int (g.S.Sealed.from_int (pos 0)) c.args.self.now c.args.passes.now (option_copied c.args.global) c.args.allow_partial c.args.self.now.store c.args.steps.now;
  same = same_here c.args.self.now;
  told = refl;
}

pub loop-section-preserved : goal.loop-section-preserved
loop-section-preserved g c =
    let is : c.if-not-decoded.whole ≡ (c.loop-section.whole && c.in_ok-decoded.decoded) = elim c.if-not-decoded.branch [
      | then-not-decoded w ↦ falls c.if-not-decoded.whole c.loop-section.whole c.in_ok-decoded.decoded w.whole-is w.if-not-decoded.true
      | else-not-decoded w ↦ stays c.if-not-decoded.whole c.loop-section.whole c.in_ok-decoded.decoded w.whole-is w.if-not-decoded.false
    ] in
    record {
      turned = turned_next g.D.Decoder.meaning g.S.Sealed.width g.S.Sealed.to_int (g.S.Sealed.from_int (pos 0)) c.args.self.now c.args.passes.now (option_copied c.args.global) c.args.allow_partial c.loop-section.self c.loop-section.invariant.same
          c.args.sections.now c.loop-section.section-index c.section-item.result c.section-item.is c.loop-section-test.true c.loop-section.whole c.args.self.now.store c.decode_section.new.self.store c.args.steps.now c.loop-section.steps c.decode_section.new.steps
          c.loop-section.invariant.turned c.in_ok-decoded.decoded c.if-not-decoded.whole is c.in_ok-decoded.ensures.gives;
      same = same_both c.args.self.now c.loop-section.self c.decode_section.new.self c.loop-section.invariant.same c.in_ok-decoded.ensures.same;
      told = heard_next g.P.Progress.section_decoded_gives (length c.args.sections.now) c.loop-section.section-index c.args.progress.now c.loop-section.progress c.section_decoded.new.self c.loop-section.invariant.told
          c.section_decoded.ensures;
    }

pub returns-in_err-decoded-clause-stopped : goal.returns-in_err-decoded-clause-stopped
returns-in_err-decoded-clause-stopped g c =
    let p = err_from_is_err_and c.from_residual.result c.from_residual.ensures.1 in
    rw (p.1, p.2)
    (stops_here g.D.Decoder.meaning g.S.Sealed.width g.S.Sealed.to_int (g.S.Sealed.from_int (pos 0)) c.args.self.now c.args.passes.now (option_copied c.args.global) c.args.allow_partial c.loop-section.self c.loop-section.invariant.same
    c.args.sections.now c.loop-section.section-index c.section-item.result c.section-item.is c.loop-section-test.true c.loop-section.whole c.args.self.now.store c.decode_section.new.self.store c.args.steps.now c.loop-section.steps c.decode_section.new.steps
    c.loop-section.invariant.turned c.in_err-decoded.field-0.0 c.in_err-decoded.ensures.gives)

pub returns-in_err-decoded-clause-same : goal.returns-in_err-decoded-clause-same
returns-in_err-decoded-clause-same g c = same_both c.args.self.now c.loop-section.self c.decode_section.new.self c.loop-section.invariant.same c.in_err-decoded.ensures.same
