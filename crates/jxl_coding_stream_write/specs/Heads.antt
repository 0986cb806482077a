-- The codes that the head of a decoder can signal (ISO/IEC 18181-1, entropy decoding: decoder initialisation).
use Rattle.std.specs.Prelude.{◌≡◌, ℕ, ◌+◌, ◌^◌, ◌<◌, ◌≤◌, List, [], ◌∷◌, ◌++◌, length, Option, Some, None, Ok}
use Rattle.std.specs.List.{All}
use Rattle.jxl_coding_codes.specs.Distributions.{one_symbol}
use Rattle.jxl_coding_codes.specs.declared.config.IntegerConfig.{IntegerConfig}
use Rattle.jxl_coding.specs.Clusters.{count_of}
use Rattle.jxl_coding.specs.declared.codes.Lz77.{Lz77}
use Rattle.jxl_coding_stream_write.specs.declared.cluster.ClusterWriter.{ClusterWriter}
use Rattle.jxl_coding_stream_write.specs.declared.copies.CopyWriter.{CopyWriter}
use Rattle.jxl_coding_stream_write.specs.declared.stream.StreamWriter.{StreamWriter}
use Rattle.jxlm_bit_writer.specs.declared.token.Token.{Token}

-- a configuration for alphabets of 2^log symbols
abbrev pub FitsConfig : ℕ → IntegerConfig → Type 0
FitsConfig log h = (h.split_exponent ≤ log) × (h.split_exponent ≡ log → h.msb_in_token + h.lsb_in_token ≡ 0)

-- a distribution of an only symbol, or of three symbols and more
abbrev pub FitsCounts : Option ℕ → List ℕ → Type 0
FitsCounts (Some symbol) counts = (symbol < 256) × (counts ≡ one_symbol symbol)
FitsCounts None counts = (3 ≤ length counts) × All (λ c. c < 4096) counts

-- a head can signal the code of this cluster
pub record FitsCluster (log : ℕ) (code : ClusterWriter) : Type 0 where
  pub rule : FitsConfig log code.config
  pub counts : FitsCounts code.only code.slots.counts.items

-- a head can signal these codes: alphabets have 2^5 symbols or more, and each cluster has a context
pub record IsHead (w : StreamWriter) : Type 0 where
  pub logs : 5 ≤ w.log
  pub used : count_of w.clusters.items ≡ Ok (length w.codes.items)
  pub each : All (FitsCluster w.log) w.codes.items

-- a head can signal this rule of copies
pub record FitsRule (rule : Lz77) : Type 0 where
  pub symbol_least : 8 ≤ rule.min_symbol
  pub symbol_most : rule.min_symbol < 8 + 2 ^ 15
  pub length_least : 3 ≤ rule.min_length
  pub length_most : rule.min_length < 9 + 2 ^ 8
  pub config : FitsConfig 8 rule.length_config

-- a head can signal these codes and their rule of copies: each cluster has a context, or is that of the distances
pub record IsCopyHead (w : CopyWriter) : Type 0 where
  pub logs : 5 ≤ w.codes.log
  pub used : count_of (w.codes.clusters.items ++ w.rule.cluster ∷ []) ≡ Ok (length w.codes.codes.items)
  pub each : All (FitsCluster w.codes.log) w.codes.codes.items
  pub rule : FitsRule w.rule

-- a cluster as a token of the decoder of clusters
abbrev pub map_token : ℕ → Token
map_token cluster = record { cluster = 0; value = cluster }
