-- The symbols of a cluster: codewords of a prefix code, or slots of a distribution (ISO/IEC 18181-1, entropy decoding:
-- symbol decoding).
use Rattle.std.specs.Prelude.{ℕ, ◌%◌, List, replicate, Option, Some, None, Result, Ok, slice_index_or}
use Rattle.jxlm_bits.specs.ErrorKind.{◌>>=◌}
use Rattle.jxlm_bits.specs.declared.decoder.DecoderError.{DecoderError}
use Rattle.jxl_coding_codes.specs.PrefixCodes.{codeword_at}
use Rattle.jxl_coding_codes.specs.Ans.{Symbol, slot_of, after_slot, refilled_at}
use Rattle.jxl_coding_codes.specs.declared.ans.Bucket.{Bucket}
use Rattle.jxl_coding.specs.declared.codes.ClusterCode.{ClusterCode}
use Rattle.jxl_coding.specs.declared.codes.Lz77.{Lz77}
use Rattle.jxl_coding.specs.declared.codes.Coder.{Coder}
use Rattle.jxl_coding.specs.declared.codes.Coder.TheVariants.{Prefix, Ans}

-- What parse settles: the cluster of each context, the rule of copies, what the symbols of each cluster are, and how
-- they are coded: how many codewords of each cluster have the lengths 1 to 15, the symbols of these codewords one after
-- another, the buckets of slots, and the sum of the sizes of the alphabets.
pub record Codes : Type 0 where
  pub clusters : List ℕ
  pub lz77 : Option Lz77
  pub cluster_codes : List ClusterCode
  pub coder : Coder
  pub bucket_size : ℕ
  pub symbols : List ℕ
  pub buckets : List Bucket
  pub alphabets : ℕ

-- the code of a cluster
abbrev pub cluster_code : List ClusterCode → ℕ → ClusterCode
cluster_code cluster_codes c = slice_index_or cluster_codes c (record { config = record { split_exponent = 0; msb_in_token = 0; lsb_in_token = 0 }; only = Some 0; start = 0; counts = replicate 15 0 })

-- a symbol of a cluster with more than one: by its codeword, or by the slot that the state leads to
unfoldable pub coded_symbol : Codes → Coder → List ℕ → ℕ → ℕ → List ℕ → ℕ → Result Symbol DecoderError
coded_symbol codes Prefix counts start ans_state bytes p = do
  found ← codeword_at counts codes.symbols 0 start bytes p
  Ok (record { symbol = found.value; ans_state = ans_state; position = found.position })
coded_symbol codes Ans counts start ans_state bytes p =
    refilled_at (slot_of codes.buckets start codes.bucket_size (ans_state % 4096)).symbol (after_slot (slot_of codes.buckets start codes.bucket_size (ans_state % 4096)) ans_state) bytes p

-- The symbol of a cluster. An only symbol takes no bits and leaves the state: its slots are all 4096, each of which leads
-- back to the state that it was in.
unfoldable pub symbol_with : Codes → Option ℕ → ClusterCode → ℕ → List ℕ → ℕ → Result Symbol DecoderError
symbol_with codes (Some only) code ans_state bytes p = Ok (record { symbol = only; ans_state = ans_state; position = p })
symbol_with codes None code ans_state bytes p = coded_symbol codes codes.coder code.counts code.start ans_state bytes p

-- the next symbol of this code
abbrev pub symbol_of : Codes → ClusterCode → ℕ → List ℕ → ℕ → Result Symbol DecoderError
symbol_of codes code ans_state bytes p = symbol_with codes code.only code ans_state bytes p

-- the next symbol of cluster c
abbrev pub symbol_at : Codes → ℕ → ℕ → List ℕ → ℕ → Result Symbol DecoderError
symbol_at codes c ans_state bytes p = symbol_of codes (cluster_code codes.cluster_codes c) ans_state bytes p
