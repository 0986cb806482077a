use Rattle.std.proofs.Common.{refl}
use Rattle.jxlm_bits.specs.Bits.{bytes_of, position_of}
use Rattle.jxlm_transform.specs.Channels.{infos, regions}
use Rattle.jxlm_samples.specs.Placed.{part_placed}
use Rattle.jxlm_samples.proofs.PartAnswers.{answers, answers_empty, bytes_kept, ends_of, keeps_of, placed_coding, placed_roomy}
use Rattle.jxlm_samples.proofs.Starting.{narrow_widest}
use Rattle.jxlm_samples.proofs.part.PlacedPart.decode.Goals as goal

pub returns-then-not-has_samples-clause-answers : goal.returns-then-not-has_samples-clause-answers
returns-then-not-has_samples-clause-answers g c =
    answers_empty g.D.Decoder.meaning g.S.Sealed.width g.S.Sealed.to_int (bytes_of c.args.bits.now) (part_placed c.args.self.now) (regions c.args.self.now.channels.now) c.args.self.now.config.now.decoder
    c.args.store.now (position_of c.args.bits.now) c.args.partial.now c.args.allow_partial c.args.steps.now c.requires.lies.sizes (λ h. let t = c.if-not-has_samples.ensures.1 h in cc)

pub ready-requires-clause-widest : goal.ready-requires-clause-widest
ready-requires-clause-widest g c κs within = narrow_widest (infos c.args.self.now.channels.now) c.requires.lies.narrow

pub decode_part-decoded-requires-clause-part : goal.decode_part-decoded-requires-clause-part
decode_part-decoded-requires-clause-part g c κs within = record {
  coding = placed_coding c.args.self.now c.args.store.now c.requires.lies c.in_ok-decoder.field-0 c.in_ok-decoder.ensures.ok _ refl refl c.deref.ensures.value refl refl c.max_width.ensures;
  lie = c.requires.lies.lie;
  apart = c.requires.lies.apart;
}

pub decode_part-decoded-requires-clause-rooms : goal.decode_part-decoded-requires-clause-rooms
decode_part-decoded-requires-clause-rooms g c κs within = rw c.deref_mut.ensures.value
    (placed_roomy c.args.self.now c.args.store.now c.requires.lies c.in_ok-decoder.field-0 c.in_ok-decoder.ensures.ok _ refl refl c.deref.ensures.value refl refl c.max_width.ensures)

pub returns-clause-answers : goal.returns-clause-answers
returns-clause-answers g c =
    let ends = rw (c.in_ok-decoder.ensures.ok.decoder_is, c.replace.ensures.value) at (ends_of _ _ _ _ _ _ c.decode_part-decoded.result c.decode_part-decoded.ensures) in
    answers g.D.Decoder.meaning g.S.Sealed.width g.S.Sealed.to_int (bytes_of c.args.bits.now) (part_placed c.args.self.now) (regions c.args.self.now.channels.now) c.args.self.now.config.now.decoder
    c.args.store.now (position_of c.args.bits.now) c.args.partial.now c.decode_part-decoded.new.store (position_of c.decode_part-decoded.new.walk.source.bits) c.args.steps.now c.decode_part-decoded.new.walk.source.steps
    (c.if-not-has_samples.ensures.0 refl) c.args.allow_partial c.answer.new.partial c.decode_part-decoded.result c.answer.result c.answer.ensures ends

pub returns-clause-keeps : goal.returns-clause-keeps
returns-clause-keeps g c = keeps_of _ _ _ _ _ _ c.decode_part-decoded.result c.decode_part-decoded.ensures

pub returns-clause-bytes : goal.returns-clause-bytes
returns-clause-bytes g c = bytes_kept _ _ _ _ _ _ c.decode_part-decoded.result c.decode_part-decoded.ensures
