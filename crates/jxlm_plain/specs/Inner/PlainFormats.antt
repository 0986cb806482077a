-- The two plain formats, told apart by what is asked for.
use Rattle.std.specs.Prelude.{ℕ, ◌+◌, List, Bool, Result, Ok}
use Rattle.jxlm_bits.specs.Decoding.{Found}
use Rattle.jxlm_bits.specs.ErrorKind.{◌>>=◌}
use Rattle.jxlm_bits.specs.declared.decoder.DecoderError.{DecoderError}
use Rattle.jxlm_plain.specs.Plain.{PlainState, number_at, mode_at, items_at, cluster_at, code_at, code2_at, is_runs}
use Rattle.jxlm_plain.specs.declared.plain.Code.{Code}
use Rattle.jxlm_plain.specs.declared.plain.Format.{Format}
use Rattle.jxlm_plain.specs.declared.plain.Format.TheVariants.{First, Second}

-- a code of a format
abbrev pub code_in : Format → List ℕ → Bool → ℕ → Result (Found Code) DecoderError
code_in First bytes runs p = code_at bytes runs p
code_in Second bytes runs p = code2_at bytes runs p

-- all that a format has after its version, if it has one
unfoldable pub machine_at : Format → List ℕ → ℕ → ℕ → Result (Found PlainState) DecoderError
machine_at format bytes p contexts = do
  mode ← mode_at bytes p
  count ← number_at bytes mode.position 4
  clusters ← items_at (cluster_at bytes (1 + count.value)) contexts count.position
  codes ← items_at (code_in format bytes (is_runs mode.value)) (1 + count.value) clusters.position
  Ok (record { value = record { mode = mode.value; codes = codes.value; clusters = clusters.value }; position = codes.position })
