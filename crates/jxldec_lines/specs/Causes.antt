-- Errors of headers, of trees and of samples, in words.
use Rattle.std.specs.Prelude.{ℕ, ◌==◌, List, ◌++◌, if◌then◌else◌, codes}
use Rattle.std.specs.Fmt.{decimal}
use Rattle.jxlm_bits.specs.declared.bits.BitstreamError.{BitstreamError}
use Rattle.jxlm_bits.specs.declared.bits.BitstreamError.TheVariants as bitstream
use Rattle.jxlm_bits.specs.declared.decoder.DecoderError.{DecoderError}
use Rattle.jxlm_bits.specs.declared.decoder.DecoderError.TheVariants as decoders
use Rattle.jxlm_bits.specs.declared.error.Error.{Error}
use Rattle.jxlm_bits.specs.declared.error.Error.TheVariants as errors

-- why the entropy decoder refuses its input, by the number of the refusal
unfoldable pub code_text : ℕ → List ℕ
code_text n =
    if n == 1 then codes "an integer configuration that tells more bits of a token than its split has" else
    if n == 2 then codes "a prefix code of more than 32768 symbols" else
    if n == 3 then codes "a symbol outside the alphabet" else
    if n == 4 then codes "a symbol with two codewords" else
    if n == 5 then codes "more codewords than their lengths have room for" else
    if n == 6 then codes "fewer codewords than their lengths have room for" else
    if n == 7 then codes "a run of code lengths past the alphabet" else
    if n == 8 then codes "bits that are no codeword" else
    if n == 9 then codes "a distribution of two symbols that are one" else
    if n == 10 then codes "counts of more than 13 bits" else
    if n == 11 then codes "counts of which none is the widest, or which repeat the widest" else
    if n == 12 then codes "counts that leave nothing to the widest" else
    if n == 13 then codes "a distribution of more symbols than its alphabet has" else
    if n == 14 then codes "a cluster without a context" else
    if n == 15 then codes "a cluster above 255" else
    if n == 16 then codes "copies among the clusters of two contexts" else
    if n == 17 then codes "a copy of 2^32 tokens or more" else
    if n == 18 then codes "a stream that begins below the states of its code" else
    if n == 19 then codes "a stream that does not end in the state of its code" else codes "a code without a name"

-- why an entropy decoder returns no value
unfoldable pub decoder_text : DecoderError → List ℕ
decoder_text decoders.UnexpectedEof = codes "unexpected end of input"
decoder_text (decoders.Invalid number) = code_text number
decoder_text decoders.OutOfMemory = codes "out of memory"

-- an error of a header
unfoldable pub bitstream_text : BitstreamError → List ℕ
bitstream_text bitstream.UnexpectedEof = codes "unexpected end of input"
bitstream_text (bitstream.InvalidEnum name value) = codes "invalid enum value " ++ decimal value ++ codes " for " ++ name.now
bitstream_text (bitstream.ProfileConformance text) = text.now

-- an error of headers, of a tree, of transforms, of tokens or of memory
unfoldable pub error_text : Error → List ℕ
error_text errors.InvalidMaTree = codes "invalid meta-adaptive tree"
error_text errors.GlobalMaTreeNotAvailable = codes "global meta-adaptive tree requested but unavailable"
error_text errors.InvalidRctParams = codes "invalid Rct transform parameters"
error_text errors.InvalidPaletteParams = codes "invalid Palette transform parameters"
error_text errors.InvalidSqueezeParams = codes "invalid Squeeze transform parameters"
error_text (errors.Bitstream error) = codes "bitstream error: " ++ bitstream_text error
error_text (errors.Decoder error) = codes "entropy decoder error: " ++ decoder_text error
error_text (errors.Buffer memory) = codes "out of memory"
