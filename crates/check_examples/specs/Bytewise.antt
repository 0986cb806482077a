-- What a decoder of bytes returns. Its state is the cluster of each context; all are cluster 0.
use Rattle.std.specs.Prelude.{ℕ, ◌+◌, ◌*◌, List, length, replicate, false, if◌then◌else◌, nat_lt, None, Result, Ok, Err}
use Rattle.jxl_modular.specs.Bits.{bits_at}
use Rattle.jxl_modular.specs.Decoding.{Taken, Meaning}
use Rattle.jxl_modular.specs.Types.DecoderError.{DecoderError}
use Rattle.jxl_modular.specs.Types.DecoderError.TheVariants.{UnexpectedEof}

-- the next eight bits, which must all be there
abbrev pub byte_at : List ℕ → List ℕ → ℕ → Result (Taken ℕ (List ℕ)) DecoderError
byte_at s bytes p = if nat_lt (8 * length bytes) (p + 8) then Err UnexpectedEof else Ok (record { value = bits_at bytes p 8; state = s; position = p + 8 })

abbrev pub bytewise : Meaning (List ℕ)
bytewise = record {
  parse = λ bytes p n. Ok (record { value = replicate n 0; position = p });
  begin = λ s bytes p. Ok (record { value = s; position = p });
  read = λ s bytes p c m. byte_at s bytes p;
  finalize = λ s. Ok tt;
  cluster_map = λ s. s;
  single_token = λ s c. None;
  as_rle = λ s. false;
  owed = λ s. 0;
  last = λ s. 0;
  next = λ s. s;
}
