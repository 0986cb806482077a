-- A decoder that has an error where its input says so: a number in front of a plain decoder tells at which call.
use Rattle.std.specs.Prelude.{ℕ, ◌+◌, List, Bool, false, if◌then◌else◌, nat_lt, ◌==◌, ◌&&◌, None, Result, Ok, Err}
use Rattle.jxlm_bits.specs.Decoding.{Found, Taken, Meaning}
use Rattle.jxlm_bits.specs.ErrorKind.{◌>>=◌}
use Rattle.jxlm_bits.specs.declared.decoder.DecoderError.{DecoderError}
use Rattle.jxlm_bits.specs.declared.decoder.DecoderError.TheVariants.{Invalid}
use Rattle.jxlm_plain.specs.Plain.{PlainState, number_at, plain_parse, plain_begin, plain_read, plain_finalize}

-- where the error is; how many tokens were read since begin, where 4 stands for 4 and more; the plain decoder
pub record FaultState : Type 0 where
  pub fault : ℕ
  pub reads : ℕ
  pub plain : PlainState

-- The place of the error as u(3), and a plain decoder, which may have no runs: the bit for them is refused at once.
unfoldable pub fault_parse : List ℕ → ℕ → ℕ → Result (Found FaultState) DecoderError
fault_parse bytes p contexts = do
  fault ← number_at bytes p 3
  runs ← number_at bytes fault.position 1
  if runs.value == 1 then Err (Invalid 3) else (do
    decoder ← plain_parse bytes fault.position contexts
    Ok (record { value = record { fault = fault.value; reads = 0; plain = decoder.value }; position = decoder.position }))

-- 4 is the error of begin
unfoldable pub fault_begin : FaultState → List ℕ → ℕ → Result (Found FaultState) DecoderError
fault_begin s bytes p = if s.fault == 4 then Err (Invalid 77) else (do
  begun ← plain_begin s.plain bytes p
  Ok (record { value = record { fault = s.fault; reads = 0; plain = begun.value }; position = begun.position }))

-- 0 to 3 are the error of that read since begin
abbrev pub is_due : FaultState → Bool
is_due s = nat_lt s.fault 4 && (s.reads == s.fault)

-- one read more
abbrev pub one_more : ℕ → ℕ
one_more reads = if nat_lt reads 4 then reads + 1 else reads

-- the state after a read of the plain decoder
abbrev pub after_read : FaultState → Taken ℕ PlainState → Taken ℕ FaultState
after_read s read = record {
  value = read.value;
  state = record { fault = s.fault; reads = one_more s.reads; plain = read.state };
  position = read.position;
}

unfoldable pub fault_read : FaultState → List ℕ → ℕ → ℕ → ℕ → Result (Taken ℕ FaultState) DecoderError
fault_read s bytes p c m = if is_due s then Err (Invalid 77) else (do
  read ← plain_read s.plain bytes p c m
  Ok (after_read s read))

-- 5 is the error of the end
abbrev pub fault_finalize : FaultState → Result (Unit {0}) DecoderError
fault_finalize s = if s.fault == 5 then Err (Invalid 77) else plain_finalize s.plain

abbrev pub fault_clusters : FaultState → List ℕ
fault_clusters s = s.plain.clusters

-- the decoder with errors; it has no runs, and no single tokens
abbrev pub faulty : Meaning FaultState
faulty = record {
  parse = fault_parse;
  begin = fault_begin;
  read = fault_read;
  finalize = fault_finalize;
  cluster_map = fault_clusters;
  single_token = λ s c. None;
  as_rle = λ s. false;
  owed = λ s. 0;
  last = λ s. 0;
  next = λ s. s;
}
