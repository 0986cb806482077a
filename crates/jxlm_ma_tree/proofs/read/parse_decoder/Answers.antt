use Rattle.std.proofs.Common.{◌≡◌, ◌≢◌, ◌∙◌, ℕ, None, Result, Ok, Err, IfErr, refl, ap, sym, subst}
use Rattle.std.specs.Result.{IsErr, IsErrAnd}
use Rattle.jxlm_bits.specs.Bits.{bytes_of, position_of}
use Rattle.jxlm_bits.specs.Decoding.{Fails, Meaning}
use Rattle.jxlm_bits.specs.ErrorKind.{NoMemory, OfDecoder, kind_of}
use Rattle.jxlm_bits.specs.declared.bits.Bitstream.{Bitstream}
use Rattle.jxlm_bits.specs.declared.decoder.DecoderError.{DecoderError}
use Rattle.jxlm_bits.specs.declared.decoder.DecoderError.TheVariants.{Invalid, OutOfMemory, UnexpectedEof}
use Rattle.jxlm_bits.specs.declared.error.Error.{Error}
use Rattle.jxlm_bits.specs.declared.error.Error.TheVariants.{Decoder}
use Rattle.jxlm_ma_tree.specs.Inner.DraftReading.{DecoderGives}
use Rattle.jxlm_ma_tree.specs.TreeReading.{through}
use Rattle.jxlm_ma_tree.proofs.read.parse_decoder.Goals as goal

-- the decoder's error
failed_with : {S : Type 0} (d : Meaning S) (n : ℕ) (e : DecoderError) (a b : Bitstream) → Fails e (d.parse (bytes_of a) (position_of a) n) → DecoderGives d n (Err (Decoder e)) a b
failed_with d n UnexpectedEof a b given = rw given (record { place = None; refuses = refl; stands = tt })
failed_with d n (Invalid k) a b given = rw given (record { place = None; refuses = refl; stands = tt })
failed_with d n OutOfMemory a b given = tt

fails : {S : Type 0} (d : Meaning S) (n : ℕ) (r : Result S Error) (e : DecoderError) (a b : Bitstream) → IsErr r → IsErrAnd r (λ y. y ≡ Decoder e) → Fails e (d.parse (bytes_of a) (position_of a) n) → DecoderGives d n r a b
fails d n (Ok s) e a b failed same given = cc
fails d n (Err y) e a b failed same given = subst (λ (z : Error). DecoderGives d n (Err z) a b) (sym same) (failed_with d n e a b given)

not_own : {S : Type 0} (r : Result S Error) (e : DecoderError) → IsErrAnd r (λ y. y ≡ Decoder e) → IfErr r (λ y. kind_of y ≢ NoMemory)
not_own (Ok s) e same = tt
not_own (Err y) e same = λ own.
    let kinds : OfDecoder e ≡ NoMemory = ap kind_of (sym same) ∙ own in
    cc

pub returns-in_err-parse-clause-gives : goal.returns-in_err-parse-clause-gives
returns-in_err-parse-clause-gives g c =
    fails g.D.Decoder.meaning c.args.contexts c.from_residual.result c.in_err-parse.field-0.0 c.args.bits.now c.parse.new.bits c.from_residual.ensures.0 c.from_residual.ensures.1 c.in_err-parse.ensures.gives

pub returns-in_err-parse-clause-memory : goal.returns-in_err-parse-clause-memory
returns-in_err-parse-clause-memory g c = not_own c.from_residual.result c.in_err-parse.field-0.0 c.from_residual.ensures.1

pub returns-clause-gives : goal.returns-clause-gives
returns-clause-gives g c = ap (through None) c.in_ok-parse.ensures.gives

pub returns-clause-contexts : goal.returns-clause-contexts
returns-clause-contexts g c = g.met.D.Decoder.lawful.parse_clusters _ _ _ _ c.in_ok-parse.ensures.gives
