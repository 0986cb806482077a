-- How a gamma token is read: by a look at the next 32 bits.
use Rattle.std.specs.Prelude.{ℕ, ◌+◌, List, if◌then◌else◌, ◌==◌, Result, Ok, Err}
use Rattle.jxlm_bits.specs.Bits.{bits_at}
use Rattle.jxlm_bits.specs.Decoding.{Found}
use Rattle.jxlm_bits.specs.ErrorKind.{◌>>=◌}
use Rattle.jxlm_bits.specs.declared.decoder.DecoderError.{DecoderError}
use Rattle.jxlm_bits.specs.declared.decoder.DecoderError.TheVariants.{Invalid}
use Rattle.jxlm_plain.specs.Plain.{number_at}

-- the next 32 bits, of which those after the end are 0
unfoldable pub next_at : List ℕ → ℕ → ℕ
next_at bytes p = bits_at bytes p 32

-- n zeros and a one are passed
unfoldable pub few_at : List ℕ → ℕ → ℕ → Result (Found ℕ) DecoderError
few_at bytes p n = do
  all ← number_at bytes p (n + 1)
  Ok (record { value = n; position = all.position })

-- 32 zeros are passed, and what comes then decides
unfoldable pub many_at : List ℕ → ℕ → Result (Found ℕ) DecoderError
many_at bytes p = do
  zeros ← number_at bytes p 32
  last ← number_at bytes zeros.position 1
  if last.value == 0 then Err (Invalid 7) else Ok (record { value = 32; position = last.position })
