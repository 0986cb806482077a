-- What the tokens of a plain decoder are, without its steps.
use Rattle.std.specs.Prelude.{◌≡◌, ℕ, ◌+◌, ◌*◌, ◌%◌, ◌<◌, ◌≤◌, List, [], ◌∷◌, length, replicate, Bool, true, false, if◌then◌else◌, ◌==◌, Ok, Err, MatchResult}
use Rattle.jxlm_bits.specs.Bits.{bits_at}
use Rattle.jxlm_bits.specs.Decoding.{Found, Taken, Asked, reads}
use Rattle.jxlm_plain.specs.Plain.{PlainState, code_of, is_runs, owed_in, last_in, plain}
use Rattle.jxlm_bits.specs.declared.decoder.DecoderError.TheVariants.{UnexpectedEof, Invalid}
use Rattle.jxlm_plain.specs.declared.plain.Code.{Code}
use Rattle.jxlm_plain.specs.declared.plain.Code.TheVariants.{Constant, Fixed, Gamma}
use Rattle.jxlm_plain.specs.declared.plain.Mode.{Mode}
use Rattle.jxlm_plain.specs.declared.plain.Mode.TheVariants.{Unsealed, Sealed, Runs}

-- Without runs, a token of a fixed cluster of width b is the number of the b bits at the position, which moves by b;
-- it is an error exactly where the input ends before it.
abbrev pub FixedTokensAreNumbers : Type 0
FixedTokensAreNumbers = (s : PlainState) (bytes : List ℕ) (p c m b : ℕ) → is_runs s.mode ≡ false → code_of s.codes c ≡ Fixed b →
    MatchResult (plain.read s bytes p c m) (λ x. (p + b ≤ 8 * length bytes) × (x.value ≡ bits_at bytes p b) × (x.position ≡ p + b))
    (λ e. (8 * length bytes < p + b) × (e ≡ UnexpectedEof))

-- a sum seals the tokens
abbrev pub is_sealed : Mode → Bool
is_sealed Unsealed = false
is_sealed (Sealed sum) = true
is_sealed (Runs last left) = false

-- what a token adds to the sum: a constant adds nothing
abbrev pub summand_of : Code → ℕ → ℕ
summand_of (Constant constant) token = 0
summand_of (Fixed width) token = token
summand_of Gamma token = token

-- the sum of the fixed tokens among those that were read
abbrev pub fixed_sum : List Code → List Asked → List ℕ → ℕ
fixed_sum codes [] tokens = 0
fixed_sum codes (asked ∷ others) [] = 0
fixed_sum codes (asked ∷ others) (token ∷ tokens) = summand_of (code_of codes asked.cluster) token + fixed_sum codes others tokens

-- Under a seal, which is u(8) where the tokens begin, their end is Ok exactly where the fixed tokens that were read
-- since then sum up to the seal, modulo 256; else it is Invalid(4).
abbrev pub SealsAreSums : Type 0
SealsAreSums = (s : PlainState) (bytes : List ℕ) (p : ℕ) (begun : Found PlainState) (asked : List Asked) (x : Taken (List ℕ) PlainState) → is_sealed s.mode ≡ true →
    plain.begin s bytes p ≡ Ok begun → reads plain begun.value bytes begun.position asked ≡ Ok x →
    plain.finalize x.state ≡ (if fixed_sum s.codes asked x.value % 256 == bits_at bytes p 8 then Ok tt else Err (Invalid 4))

-- Under runs and between them: where u(1) is 1, the next 1 + u(8) reads, of whatever clusters, give the token before;
-- the position moves by these 9 bits, and the decoder is as it was.
abbrev pub RunsRepeat : Type 0
RunsRepeat = (s : PlainState) (bytes : List ℕ) (p : ℕ) (asked : List Asked) → is_runs s.mode ≡ true → owed_in s.mode ≡ 0 → p + 9 ≤ 8 * length bytes →
    bits_at bytes p 1 ≡ 1 → length asked ≡ 1 + bits_at bytes (p + 1) 8 →
    reads plain s bytes p asked ≡ Ok (record { value = replicate (length asked) (last_in s.mode); state = s; position = p + 9 })
