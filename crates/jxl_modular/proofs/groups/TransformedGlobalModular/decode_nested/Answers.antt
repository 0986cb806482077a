use Rattle.std.specs.Prelude.{pos}
use Rattle.std.specs.Option.{option_copied}
use Rattle.std.proofs.Common.{ap, refl, ◌∙◌}
use Rattle.std.proofs.lemmas.Result.{err_from_is_err_and}
use Rattle.jxlm_bits.specs.Bits.{bytes_of, position_of}
use Rattle.jxlm_bits.specs.ErrorKind.{kind_of}
use Rattle.jxl_modular.proofs.GroupLaws.{nested_refused, nested_same, nested_whole, others_kept}
use Rattle.jxl_modular.proofs.OtherParts.{others_stay}
use Rattle.jxl_modular.proofs.TurnLaws.{same_here}
use Rattle.jxl_modular.proofs.groups.TransformedGlobalModular.decode_nested.Goals as goal

pub returns-in_err-state-clause-gives : goal.returns-in_err-state-clause-gives
returns-in_err-state-clause-gives g c =
    let p = err_from_is_err_and c.from_residual.result c.from_residual.ensures.1 in
    nested_refused g.D.Decoder.meaning g.S.Sealed.width g.S.Sealed.to_int (bytes_of c.args.bits.now) c.args.stream_index
    c.args.self.now c.args.part (position_of c.args.bits.now) (g.S.Sealed.from_int (pos 0)) (option_copied c.args.global) c.args.allow_partial
    c.from_residual.result p.0 c.take.new.self p.1 (ap kind_of p.2) c.in_err-state.ensures.unchanged

pub returns-clause-whole : goal.returns-clause-whole
returns-clause-whole g c =
    nested_whole c.args.self.now c.args.part c.in_ok-state.state c.note.new.self c.decode_nested-result.new.self c.put.new.self c.decode_nested-result.result
    c.in_ok-state.ensures.taken c.put.ensures.put (c.put.ensures.passes ∙ c.take.ensures.passes) c.decode_nested-result.ensures.same.cells c.note.ensures.ok

pub returns-clause-partial : goal.returns-clause-partial
returns-clause-partial g c =
    nested_same c.args.self.now c.args.part c.in_ok-state.state c.note.new.self c.decode_nested-result.new.self c.put.new.self c.decode_nested-result.result
    c.in_ok-state.ensures.taken c.put.ensures.put (c.put.ensures.passes ∙ c.take.ensures.passes) c.decode_nested-result.ensures.same.cells c.note.ensures.err

pub returns-clause-others : goal.returns-clause-others
returns-clause-others g c =
    let passes = c.deref.ensures.value ∙ c.take.ensures.passes in
    others_kept g.S.Sealed.to_int c.args.self.now _ c.args.part (λ other unlike. c.put.ensures.others other unlike ∙ c.in_ok-state.ensures.others other unlike)
    (c.put.ensures.passes ∙ c.take.ensures.passes) c.decode_nested-result.ensures.same.cells
    (others_stay _ c.decode_nested-result.ensures.laid _ g.S.Sealed.to_int _ _ (rw (passes, c.into.ensures) at c.decode_nested-result.ensures.same))

pub returns-in_err-state-clause-others : goal.returns-in_err-state-clause-others
returns-in_err-state-clause-others g c =
    others_kept g.S.Sealed.to_int c.args.self.now _ c.args.part c.in_err-state.ensures.others c.take.ensures.passes (same_here _) (λ other unlike. refl)
