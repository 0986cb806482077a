-- What the reads of the plain decoder returned, by the mode that they began and ended in.
use Rattle.std.specs.Prelude.{◌≡◌, ℕ, ◌-◌, ◌<◌, ◌⊎◌, List, Result, Ok, Err}
use Rattle.jxlm_bits.specs.Decoding.{Taken, TokensGive}
use Rattle.jxlm_plain.specs.Plain.{PlainState, code_of, last_in, owed_in, plain_read}
use Rattle.jxlm_bits.specs.declared.decoder.DecoderError.{DecoderError}
use Rattle.jxlm_bits.specs.declared.decoder.DecoderError.TheVariants.{UnexpectedEof, Invalid}
use Rattle.jxlm_bits.specs.declared.decoder.RleToken.{RleToken}
use Rattle.jxlm_bits.specs.declared.decoder.RleToken.TheVariants.{Value, Repeat}
use Rattle.jxlm_bits.specs.declared.decoder.TokensError.{TokensError}
use Rattle.jxlm_plain.specs.declared.plain.Code.{Code}
use Rattle.jxlm_plain.specs.declared.plain.Mode.{Mode}
use Rattle.jxlm_plain.specs.declared.plain.Mode.TheVariants.{Runs}

-- a run is never empty
abbrev pub HasTokens : RleToken → Type 0
HasTokens (Value token) = Unit {0}
HasTokens (Repeat n) = 0 < n

-- Tokens of this code were read in mode s at position p, and left mode t and position q, whatever the clusters.
abbrev pub ReadsTokens : Result (Unit {0}) TokensError → List ℕ → List ℕ → Mode → Mode → Code → List ℕ → ℕ → ℕ → Type 0
ReadsTokens r old new s t code bytes p q = (codes : List Code) (clusters : List ℕ) (c m : ℕ) → code ≡ code_of codes c →
    TokensGive {S = PlainState} r old new (record { mode = s; codes = codes; clusters = clusters })
    (record { mode = t; codes = codes; clusters = clusters }) p q (λ u k. plain_read u bytes k c m)

-- an error that a token can have
abbrev pub IsOfTokens : DecoderError → Type 0
IsOfTokens e = (e ≡ UnexpectedEof) ⊎ (e ≡ Invalid 7)

-- Under runs and between them a token was read, or a run of n tokens, and left mode t and position q.
abbrev pub ReadsRun : Result RleToken DecoderError → Mode → Mode → ℕ → ℕ → Result (Taken ℕ Mode) DecoderError → Type 0
ReadsRun (Ok (Value v)) s t p q meaning = (meaning ≡ Ok (record { value = v; state = t; position = q })) × (owed_in t ≡ 0)
ReadsRun (Ok (Repeat n)) s t p q meaning =
    (0 < n) × (meaning ≡ Ok (record { value = last_in s; state = Runs (last_in s) (n - 1); position = q })) × (t ≡ Runs (last_in s) 0)
ReadsRun (Err e) s t p q meaning = (meaning ≡ Err e) × (t ≡ s) × (q ≡ p)
