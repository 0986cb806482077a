-- Why codes and tokens are refused, by name. The standard asks of a stream that none of these come; the numbers are own.
use Rattle.std.specs.Prelude.{ℕ}
use Rattle.jxlm_bits.specs.declared.decoder.DecoderError.{DecoderError}
use Rattle.jxlm_bits.specs.declared.decoder.DecoderError.TheVariants.{Invalid}
use Rattle.jxl_coding_codes.specs.declared.refusal.Refusal.{Refusal}
use Rattle.jxl_coding_codes.specs.declared.refusal.Refusal.TheVariants.{TokenBits, PrefixAlphabet, SymbolOutside, SymbolTwice, CodewordsOverfull, CodewordsUnderfull, LengthsOverrun, NoCodeword, SymbolsEqual, CountPrecision, CountWidths, CountsOverfull, DistributionAlphabet, ClusterUnused, ClusterTooLarge, MapCopies, CopyTooLong, StateTooSmall, EndState}

-- the number of a refusal
abbrev pub number_of : Refusal → ℕ
number_of TokenBits = 1
number_of PrefixAlphabet = 2
number_of SymbolOutside = 3
number_of SymbolTwice = 4
number_of CodewordsOverfull = 5
number_of CodewordsUnderfull = 6
number_of LengthsOverrun = 7
number_of NoCodeword = 8
number_of SymbolsEqual = 9
number_of CountPrecision = 10
number_of CountWidths = 11
number_of CountsOverfull = 12
number_of DistributionAlphabet = 13
number_of ClusterUnused = 14
number_of ClusterTooLarge = 15
number_of MapCopies = 16
number_of CopyTooLong = 17
number_of StateTooSmall = 18
number_of EndState = 19

-- a refusal, as a decoder's error
abbrev pub refusal_error : Refusal → DecoderError
refusal_error r = Invalid (number_of r)
