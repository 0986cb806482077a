use Rattle.jxlm_bits.specs.Bits.{bytes_of, position_of}
use Rattle.jxlm_nested.proofs.NestedFills.{can_fill_kept, shape_decoded}
use Rattle.jxlm_nested.proofs.nested.NestedPart.fill.Goals as goal

pub undo-requires-clause-can : goal.undo-requires-clause-can
undo-requires-clause-can g c κs within =
    can_fill_kept c.args.self.now c.args.store.now c.decode_samples.new.store
    (shape_decoded g.D.Decoder.meaning g.S.Sealed.width g.S.Sealed.to_int (bytes_of c.args.bits.now) c.args.stream.index (position_of c.args.bits.now) c.args.self.now c.args.stream.allow_partial (position_of c.decode_samples.new.bits) c.args.steps.now
    c.decode_samples.new.steps c.args.store.now c.decode_samples.new.store c.in_ok-whole.whole c.in_ok-whole.ensures.gives) c.requires.can
