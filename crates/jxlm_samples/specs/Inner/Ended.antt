-- How the decode of a part's samples ended, and what is answered.
use Rattle.std.specs.Prelude.{◌≡◌, Bool, true, false, Result, Ok, Err}
use Rattle.jxlm_bits.specs.declared.decoder.DecoderError.{DecoderError}
use Rattle.jxlm_bits.specs.declared.decoder.DecoderError.TheVariants.{UnexpectedEof}
use Rattle.jxlm_bits.specs.declared.error.Error.{Error}
use Rattle.jxlm_bits.specs.declared.error.Error.TheVariants.{Decoder}

-- The part is whole; or it stays as partial as it was, and the error is the answer, but for an end of the input where that
-- is allowed.
abbrev pub IsAnswered : Result (Unit {0}) DecoderError → Bool → Bool → Bool → Result (Unit {0}) Error → Type 0
IsAnswered (Ok u) allow old new (Ok v) = new ≡ false
IsAnswered (Err e) allow old new (Ok v) = (new ≡ old) × (allow ≡ true) × (e ≡ UnexpectedEof)
IsAnswered (Err e) allow old new (Err (Decoder given)) = (new ≡ old) × (given ≡ e) × (e ≡ UnexpectedEof → allow ≡ false)
IsAnswered decoded allow old new result = ⊥
