use Rattle.jxlm_plain.specs.declared.plain.PlainDecoder.{PlainDecoder}
use Rattle.jxlm_samples.specs.declared.part.PlacedPart.{PlacedPart}
use Rattle.jxlm_encode.proofs.Writings.{part_lies}
use Rattle.jxlm_encode.proofs.encode.tokens_in.Goals as goal

pub sample_tokens-requires-clause-lies : goal.sample_tokens-requires-clause-lies
sample_tokens-requires-clause-lies g c κs within =
    let part : PlacedPart PlainDecoder = record { channels = c.deref.result; config = c.args.config; weights = c.default.result; stream_index = 0 } in
    part_lies {D = PlainDecoder} c.args.placed.now c.args.store.now c.requires.lie part c.deref.ensures.value c.default.ensures
