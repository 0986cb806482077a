use Rattle.jxl_encode.proofs.Codestreams.{shown_as_is}
use Rattle.jxl_encode_roundtrip.proofs.roundtrip.encode_and_decode.Goals as goal

pub encode_and_decode_shown-requires-clause-shows : goal.encode_and_decode_shown-requires-clause-shows
encode_and_decode_shown-requires-clause-shows c = shown_as_is c.args.picture.now c.requires.upright
