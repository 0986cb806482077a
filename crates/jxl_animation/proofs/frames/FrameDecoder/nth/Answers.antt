use Rattle.std.proofs.Common.{◌≡◌, ◌∙◌, ℕ, arith, refl, subst}
use Rattle.std.proofs.lemmas.Result.{err_from_is_err_and}
use Rattle.jxl_animation.specs.Decoders.{bytes_in, image_in, state_of}
use Rattle.jxl_animation.specs.States.{NoPicture, ShowsFrames}
use Rattle.jxl_animation.proofs.Decoders.{ends_before, fails_by, shows_more, shows_nth, whole_next}
use Rattle.jxl_animation.proofs.frames.FrameDecoder.nth.Goals as goal

pub loop-passed-init : goal.loop-passed-init
loop-passed-init c = record { shows = NoPicture; source = refl; ready = c.requires.ready }

pub loop-passed-preserved : goal.loop-passed-preserved
loop-passed-preserved c =
    let l = c.loop-passed.invariant in
    record {
      shows = shows_more c.args.self.now c.loop-passed.self c.next.new.self c.args.steps.now c.loop-passed.steps c.next.new.steps c.loop-passed.passed l.source l.shows c.in_ok-picture.picture c.in-Some._frame c.in-Some.is c.in_ok-picture.ensures.ok;
      source = c.in_ok-picture.ensures.source ∙ l.source;
      ready = c.in_ok-picture.ensures.ready;
    }

pub returns-in_default-clause-ok : goal.returns-in_default-clause-ok
returns-in_default-clause-ok c =
    let l = c.loop-passed.invariant in
    ends_before c.args.self.now c.loop-passed.self c.next.new.self c.args.steps.now c.loop-passed.steps c.next.new.steps c.loop-passed.passed l.source l.shows c.args.number c.in_ok-picture.picture (omega arith) c.in_default.is c.in_ok-picture.ensures.ok

pub returns-in_err-picture-clause-err : goal.returns-in_err-picture-clause-err
returns-in_err-picture-clause-err c =
    let p = err_from_is_err_and c.from_residual.result c.from_residual.ensures.1 in
    let l = c.loop-passed.invariant in
    rw (p.1, p.2) (fails_by c.args.self.now c.loop-passed.self c.next.new.self c.args.steps.now c.loop-passed.steps c.next.new.steps c.loop-passed.passed l.source l.shows c.args.number c.in_err-picture.field-0.0 (omega arith) c.in_err-picture.ensures.err)

pub returns-in_err-last-clause-err : goal.returns-in_err-last-clause-err
returns-in_err-last-clause-err c =
    let p = err_from_is_err_and c.from_residual-in_err-last.result c.from_residual-in_err-last.ensures.1 in
    let l = c.loop-passed.invariant in
    rw (p.1, p.2) (fails_by c.args.self.now c.loop-passed.self c.next-2.new.self c.args.steps.now c.loop-passed.steps c.next-2.new.steps c.loop-passed.passed l.source l.shows c.args.number c.in_err-last.field-0.0 (omega arith) c.in_err-last.ensures.err)

pub returns-clause-ok : goal.returns-clause-ok
returns-clause-ok c =
    let l = c.loop-passed.invariant in
    let o = c.args.self.now in
    let end : c.loop-passed.passed ≡ c.args.number = omega arith in
    let before = subst (λ (k : ℕ). ShowsFrames o.source.limits (bytes_in o.source) (image_in o.source) (state_of o) c.args.steps.now k (state_of c.loop-passed.self) c.loop-passed.steps) end l.shows in
    shows_nth o c.loop-passed.self c.next-2.new.self c.args.steps.now c.loop-passed.steps c.next-2.new.steps c.args.number l.source before c.in_ok-last.last c.in_ok-last.ensures.ok

pub returns-clause-whole : goal.returns-clause-whole
returns-clause-whole c = whole_next c.loop-passed.self c.args.self.now c.in_ok-last.last c.loop-passed.invariant.source c.in_ok-last.ensures.whole
