use Rattle.std.proofs.Common.{◌≡◌, ◌∙◌, [], Ok}
use Rattle.std.proofs.lemmas.Result.{err_from_is_err_and}
use Rattle.jxlm_bits.specs.Bits.{bytes_of, position_of}
use Rattle.jxlm_bits.specs.ErrorKind.{kind_of, UnlessMemory}
use Rattle.jxlm_bits.specs.Grammar.{IsErrorAt}
use Rattle.jxl_codestream.specs.Inner.Steps.{decoder}
use Rattle.jxlm_bits.specs.Turns.{chain}
use Rattle.jxl_codestream.specs.Profiles.{one_byte}
use Rattle.jxl_codestream.proofs.ProfileSteps.{encoded_fails}
use Rattle.jxl_codestream.proofs.profile.read_encoded.Goals as goal

pub returns-in_err-encoded-clause-gives : goal.returns-in_err-encoded-clause-gives
returns-in_err-encoded-clause-gives g c =
    let p = err_from_is_err_and c.from_residual-in_err-encoded.result c.from_residual-in_err-encoded.ensures.1 in
    let d = g.D.Decoder.meaning in
    let error = kind_of c.in_err-encoded.field-0.0 in
    let bytes = bytes_of c.args.bits.now in
    let a = position_of c.length_within.new.bits in
    let b = position_of c.decoder.new.bits in
    let q = position_of c.read_bytes.new.bits in
    let second : (decoder d 41).read bytes a ≡ Ok (record { value = c.in_ok-decoder.decoder; position = b }) = rw c.length_within.ensures.bytes at c.in_ok-decoder.ensures.gives in
    let third : UnlessMemory error (IsErrorAt ((chain (one_byte d) c.in_ok-length.length [] c.in_ok-decoder.decoder).read bytes b) error q) =
    rw (c.decoder.ensures.bytes ∙ c.length_within.ensures.bytes) at c.in_err-encoded.ensures.gives in
    rw (p.1, p.2) (encoded_fails d c.args.limit bytes (position_of c.args.bits.now) c.in_ok-length.length a c.in_ok-decoder.decoder b error q c.in_ok-length.ensures.gives second third)
