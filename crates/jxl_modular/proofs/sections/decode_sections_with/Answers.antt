use Rattle.std.specs.Prelude.{pos}
use Rattle.std.specs.Option.{option_copied}
use Rattle.std.proofs.Common.{◌≡◌, ◌&&◌, ◌∙◌, ap, refl, sym}
use Rattle.std.proofs.lemmas.Result.{err_from_is_err_and}
use Rattle.jxlm_groups.specs.Passes.{passes_of}
use Rattle.jxl_modular.specs.Image.{image_grids}
use Rattle.jxl_modular.proofs.SectionLaws.{decoded_if_so}
use Rattle.jxl_modular.proofs.TurnLaws.{leaves, same_both, same_here, stops_at, stops_first, stops_last}
use Rattle.jxl_modular.proofs.sections.decode_sections_with.Goals as goal
use Rattle.jxl_modular.proofs.sections.decode_sections_with.Goals.{then-whole, else-whole}

pub returns-in_err-passes-clause-stopped : goal.returns-in_err-passes-clause-stopped
returns-in_err-passes-clause-stopped g c =
    let p = err_from_is_err_and c.from_residual.result c.from_residual.ensures.1 in
    rw (p.1, p.2)
    (stops_first g.D.Decoder.meaning g.S.Sealed.width g.S.Sealed.to_int (g.S.Sealed.from_int (pos 0)) c.args.image.now (passes_of c.args.pass_shifts.now.entries) (option_copied c.args.global) c.args.allow_partial c.args.sections.now _ c.args.image.now.store c.args.steps.now refl)

pub returns-in_err-passes-clause-same : goal.returns-in_err-passes-clause-same
returns-in_err-passes-clause-same g c = same_here c.args.image.now

pub returns-in_err-complete-clause-stopped : goal.returns-in_err-complete-clause-stopped
returns-in_err-complete-clause-stopped g c =
    let p = err_from_is_err_and c.from_residual-in_err-complete.result c.from_residual-in_err-complete.ensures.1 in
    rw (p.1, p.2)
    (stops_first g.D.Decoder.meaning g.S.Sealed.width g.S.Sealed.to_int (g.S.Sealed.from_int (pos 0)) c.args.image.now (passes_of c.args.pass_shifts.now.entries) (option_copied c.args.global) c.args.allow_partial c.args.sections.now _ c.args.image.now.store c.args.steps.now
    c.in_err-complete.ensures.err)

pub returns-in_err-complete-clause-same : goal.returns-in_err-complete-clause-same
returns-in_err-complete-clause-same g c = same_here c.args.image.now

pub returns-in_err-whole-clause-stopped : goal.returns-in_err-whole-clause-stopped
returns-in_err-whole-clause-stopped g c =
    let p = err_from_is_err_and c.from_residual-in_err-whole.result c.from_residual-in_err-whole.ensures.1 in
    let are : c.deref-2.result.now ≡ passes_of c.args.pass_shifts.now.entries = c.deref-2.ensures.value ∙ c.in_ok-passes.ensures in
    rw (p.1, p.2)
    (stops_at g.D.Decoder.meaning g.S.Sealed.width g.S.Sealed.to_int (g.S.Sealed.from_int (pos 0)) c.args.image.now (passes_of c.args.pass_shifts.now.entries) (option_copied c.args.global) c.args.allow_partial c.args.sections.now _ c.args.image.now.store c.decode_all.new.self.store
    c.args.steps.now c.decode_all.new.steps (rw are at c.in_err-whole.ensures.stopped))

pub returns-in_err-undo_transforms-clause-stopped : goal.returns-in_err-undo_transforms-clause-stopped
returns-in_err-undo_transforms-clause-stopped g c =
    let p = err_from_is_err_and c.from_residual-in_err-undo_transforms.result c.from_residual-in_err-undo_transforms.ensures.1 in
    let are : c.deref-2.result.now ≡ passes_of c.args.pass_shifts.now.entries = c.deref-2.ensures.value ∙ c.in_ok-passes.ensures in
    rw (p.1, p.2, c.in_err-undo_transforms.ensures.unchanged)
    (stops_last g.D.Decoder.meaning g.S.Sealed.width g.S.Sealed.to_int (g.S.Sealed.from_int (pos 0)) c.args.image.now (passes_of c.args.pass_shifts.now.entries) (option_copied c.args.global) c.args.allow_partial c.args.sections.now _ c.in_ok-whole.whole
    c.args.image.now.store c.decode_all.new.self.store c.args.steps.now c.decode_all.new.steps c.in_err-undo_transforms.ensures.err (rw are at c.in_ok-whole.ensures.turned))

pub returns-in_err-undo_transforms-clause-same : goal.returns-in_err-undo_transforms-clause-same
returns-in_err-undo_transforms-clause-same g c = rw c.in_err-undo_transforms.ensures.unchanged c.in_ok-whole.ensures.same

pub returns-clause-left : goal.returns-clause-left
returns-clause-left g c =
    let are : c.deref-2.result.now ≡ passes_of c.args.pass_shifts.now.entries = c.deref-2.ensures.value ∙ c.in_ok-passes.ensures in
    let first : c.deref.result.now ≡ passes_of c.args.pass_shifts.now.entries = c.deref.ensures.value ∙ c.in_ok-passes.ensures in
    let is : c.if-whole.result ≡ (c.in_ok-whole.whole && c.in_ok-complete.complete) = elim c.if-whole.branch [
      | then-whole w ↦ w.result-is ∙ sym (ap (λ b. b && c.in_ok-complete.complete) w.if-whole.true)
      | else-whole w ↦ w.result-is ∙ w.if-whole.false ∙ sym (ap (λ b. b && c.in_ok-complete.complete) w.if-whole.false)
    ] in
    leaves g.D.Decoder.meaning g.S.Sealed.width g.S.Sealed.to_int (g.S.Sealed.from_int (pos 0)) c.args.image.now (passes_of c.args.pass_shifts.now.entries) (option_copied c.args.global) c.args.allow_partial c.args.sections.now c.in_ok-whole.whole c.in_ok-complete.complete
    c.if-whole.result c.decode_all.new.self c.undo_transforms.new.self c.args.steps.now c.decode_all.new.steps is c.in_ok-whole.ensures.same
    c.in_ok-undo_transforms.ensures.same (rw are at c.in_ok-whole.ensures.turned) (rw first at c.in_ok-complete.ensures.ok) c.in_ok-undo_transforms.ensures.only

pub returns-clause-decoded : goal.returns-clause-decoded
returns-clause-decoded g c is =
    decoded_if_so g.D.Decoder.meaning g.S.Sealed.width g.S.Sealed.to_int (g.S.Sealed.from_int (pos 0)) c.args.image.now (passes_of c.args.pass_shifts.now.entries) (option_copied c.args.global) c.args.allow_partial c.args.sections.now
    (image_grids g.S.Sealed.to_int c.undo_transforms.new.self) c.args.steps.now c.decode_all.new.steps c.if-whole.result c.in_ok-complete.ensures.laid c.requires.fit (returns-clause-left g c) is

pub returns-clause-same : goal.returns-clause-same
returns-clause-same g c = same_both c.args.image.now c.decode_all.new.self c.undo_transforms.new.self c.in_ok-whole.ensures.same c.in_ok-undo_transforms.ensures.same
