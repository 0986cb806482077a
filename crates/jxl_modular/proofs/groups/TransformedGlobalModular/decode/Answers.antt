use Rattle.std.proofs.Common.{◌<◌, ◌∙◌, refl}
use Rattle.jxlm_bits.specs.Bits.{bytes_of, position_of}
use Rattle.jxlm_samples.specs.Part.{cell_count}
use Rattle.jxl_modular.specs.GroupParts.{channels_of}
use Rattle.jxl_modular.proofs.GroupLaws.{empty_gives, full_gives, not_empty, others_kept}
use Rattle.jxl_modular.proofs.OtherParts.{others_stay}
use Rattle.jxl_modular.proofs.TurnLaws.{same_here}
use Rattle.jxl_modular.proofs.groups.TransformedGlobalModular.decode.Goals as goal

pub returns-then-is_empty-clause-gives : goal.returns-then-is_empty-clause-gives
returns-then-is_empty-clause-gives g c =
    empty_gives g.D.Decoder.meaning g.S.Sealed.width g.S.Sealed.to_int (bytes_of c.args.bits.now) c.args.stream_index
    c.args.self.now c.args.part (position_of c.args.bits.now) c.args.allow_partial (c.is_empty.ensures.0 c.if-is_empty.true)

pub returns-clause-gives : goal.returns-clause-gives
returns-clause-gives g c =
    let some : 0 < cell_count (channels_of c.args.self.now c.args.part) = not_empty c.is_empty.result (cell_count (channels_of c.args.self.now c.args.part)) c.is_empty.ensures c.if-is_empty.false in
    full_gives g.D.Decoder.meaning g.S.Sealed.width g.S.Sealed.to_int (bytes_of c.args.bits.now) c.args.stream_index
    c.args.self.now c.args.part (position_of c.args.bits.now) (position_of c.decode_part-result.new.bits)
    c.in_ok-state.state (record { partial = c.decode_part-result.new.partial; steps = c.decode_part-result.new.steps })
    c.decode_part-result.new.self c.args.allow_partial c.decode_part-result.result c.deref.result.now c.into.result c.put.new.self
    some (c.deref.ensures.value ∙ c.take.ensures.passes) c.into.ensures c.in_ok-state.ensures.taken c.put.ensures.put
    (c.put.ensures.passes ∙ c.take.ensures.passes) c.decode_part-result.ensures.same.cells c.decode_part-result.ensures.gives

pub returns-in_err-state-clause-others : goal.returns-in_err-state-clause-others
returns-in_err-state-clause-others g c =
    others_kept g.S.Sealed.to_int c.args.self.now _ c.args.part c.in_err-state.ensures.others c.take.ensures.passes (same_here _) (λ other unlike. refl)

pub returns-clause-others : goal.returns-clause-others
returns-clause-others g c =
    let passes = c.deref.ensures.value ∙ c.take.ensures.passes in
    others_kept g.S.Sealed.to_int c.args.self.now _ c.args.part (λ other unlike. c.put.ensures.others other unlike ∙ c.in_ok-state.ensures.others other unlike)
    (c.put.ensures.passes ∙ c.take.ensures.passes) c.decode_part-result.ensures.same.cells
    (others_stay _ c.decode_part-result.ensures.laid _ g.S.Sealed.to_int _ _ (rw (passes, c.into.ensures) at c.decode_part-result.ensures.same))
