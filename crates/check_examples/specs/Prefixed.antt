-- What a decoder of two fields returns. Its state is the cluster of each context; all are cluster 0.
use Rattle.std.specs.Prelude.{ℕ, ◌+◌, ◌*◌, List, length, replicate, false, if◌then◌else◌, nat_lt, None, Result, Ok, Err}
use Rattle.jxl_modular.specs.Bits.{bits_at}
use Rattle.jxl_modular.specs.ErrorKind.{◌>>=◌}
use Rattle.jxl_modular.specs.Decoding.{Found, Taken, Meaning}
use Rattle.jxl_modular.specs.Types.DecoderError.{DecoderError}
use Rattle.jxl_modular.specs.Types.DecoderError.TheVariants.{UnexpectedEof}

-- the number of n bits at p, which must all be there
abbrev pub number_at : List ℕ → ℕ → ℕ → Result (Found ℕ) DecoderError
number_at bytes p n = if nat_lt (8 * length bytes) (p + n) then Err UnexpectedEof else Ok (record { value = bits_at bytes p n; position = p + n })

-- a width of four bits, and then the token of that many bits
abbrev pub token_at : List ℕ → List ℕ → ℕ → Result (Taken ℕ (List ℕ)) DecoderError
token_at s bytes p = do
  width ← number_at bytes p 4
  token ← number_at bytes width.position width.value
  Ok (record { value = token.value; state = s; position = token.position })

abbrev pub prefixed : Meaning (List ℕ)
prefixed = record {
  parse = λ bytes p n. Ok (record { value = replicate n 0; position = p });
  begin = λ s bytes p. Ok (record { value = s; position = p });
  read = λ s bytes p c m. token_at s bytes p;
  finalize = λ s. Ok tt;
  cluster_map = λ s. s;
  single_token = λ s c. None;
  as_rle = λ s. false;
  owed = λ s. 0;
  last = λ s. 0;
  next = λ s. s;
}
