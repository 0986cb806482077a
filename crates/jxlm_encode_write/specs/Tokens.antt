-- Plain decoders of one cluster and their tokens, as bits.
use Rattle.std.specs.Prelude.{ℕ, ◌+◌, ◌-◌, ◌^◌, List, [], ◌∷◌, ◌++◌, replicate}
use Rattle.std.specs.List.{flat_map}
use Rattle.jxlm_bits.specs.Numbers.{floor_log2}
use Rattle.jxlm_plain.specs.Plain.{PlainState}
use Rattle.jxlm_plain.specs.declared.plain.Code.TheVariants.{Fixed, Gamma}
use Rattle.jxlm_plain.specs.declared.plain.Mode.TheVariants.{Unsealed}
use Rattle.jxlm_bit_writer.specs.Written.{digits}

-- the bits of a decoder: no runs, no seal, one cluster, which is that of each context, and of this width
abbrev pub decoder_bits : ℕ → ℕ → List ℕ
decoder_bits contexts width = digits 6 0 ++ flat_map (digits 4) (replicate contexts 0) ++ digits 1 0 ++ digits 6 width

-- tokens of this width, one after another
abbrev pub token_bits : ℕ → List ℕ → List ℕ
token_bits width tokens = flat_map (digits width) tokens

-- the decoder that these bits are
abbrev pub one_cluster : ℕ → ℕ → PlainState
one_cluster contexts width = record { mode = Unsealed; codes = Fixed width ∷ []; clusters = replicate contexts 0 }

-- the bits of a decoder of the second format: no runs, no seal, one gamma cluster, which is that of each context
abbrev pub gamma_decoder_bits : ℕ → List ℕ
gamma_decoder_bits contexts = digits 4 2 ++ digits 6 0 ++ flat_map (digits 4) (replicate contexts 0) ++ digits 2 2

-- the gamma code of a token: n zeros, a one, and the n low digits of one more than the token, which has n + 1 digits
unfoldable pub gamma_bits : ℕ → List ℕ
gamma_bits t = digits (floor_log2 (t + 1)) 0 ++ digits 1 1 ++ digits (floor_log2 (t + 1)) (t + 1 - 2 ^ floor_log2 (t + 1))

-- gamma codes, one after another
abbrev pub gamma_token_bits : List ℕ → List ℕ
gamma_token_bits tokens = flat_map gamma_bits tokens

-- the decoder that these bits are
abbrev pub one_gamma_cluster : ℕ → PlainState
one_gamma_cluster contexts = record { mode = Unsealed; codes = Gamma ∷ []; clusters = replicate contexts 0 }
