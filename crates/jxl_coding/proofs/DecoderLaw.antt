-- The meaning of the entropy decoder is lawful.
use Rattle.jxlm_bits.specs.Decoding.{IsLawful}
use Rattle.jxl_coding.specs.Parse.{decoder_at}
use Rattle.jxl_coding.specs.Tokens.{entropy}
use Rattle.jxl_coding.specs.Inner.ParseLaws.{decoder_lawful}

pub entropy_is_lawful : IsLawful (entropy decoder_at)
entropy_is_lawful = decoder_lawful
