-- An entropy decoder in the input: the grammar of its codes (ISO/IEC 18181-1, entropy decoding: decoder initialisation).
use Rattle.std.specs.Prelude.{ℕ, ◌+◌, ◌-◌, ◌/◌, ◌^◌, List, [], ◌∷◌, ◌++◌, length, take, replicate, Bool, true, false, if◌then◌else◌, nat_lt, nat_le, ◌==◌, Option, Some, None, Result, Ok, Err, slice_index, slice_index_or}
use Rattle.jxlm_bits.specs.Decoding.{Found}
use Rattle.jxlm_bits.specs.ErrorKind.{◌>>=◌}
use Rattle.jxlm_bits.specs.declared.decoder.DecoderError.{DecoderError}
use Rattle.jxl_coding_codes.specs.Refusals.{refusal_error}
use Rattle.jxl_coding_codes.specs.declared.refusal.Refusal.TheVariants.{DistributionAlphabet, MapCopies, PrefixAlphabet}
use Rattle.jxl_coding_codes.specs.Fields.{number_at, var_len_at}
use Rattle.jxl_coding_codes.specs.Reading.{steps, list_and_one}
use Rattle.jxl_coding_codes.specs.IntegerConfigs.{config_at}
use Rattle.jxl_coding.specs.Symbols.{Codes}
use Rattle.jxl_coding.specs.Copies.{empty_ring}
use Rattle.jxl_coding_codes.specs.PrefixCodes.{Prefix, prefix_at}
use Rattle.jxl_coding_codes.specs.Distributions.{whole, distribution_at}
use Rattle.jxl_coding_codes.specs.Alias.{only_from, buckets_of}
use Rattle.jxl_coding.specs.Clusters.{count_of, plain_clusters_at, coded_clusters_at}
use Rattle.jxl_coding.specs.Tokens.{Entropy, end_state}
use Rattle.jxl_coding_codes.specs.declared.config.IntegerConfig.{IntegerConfig}
use Rattle.jxl_coding.specs.declared.codes.ClusterCode.{ClusterCode}
use Rattle.jxl_coding.specs.declared.codes.Lz77.{Lz77}
use Rattle.jxl_coding_codes.specs.declared.ans.Bucket.{Bucket}
use Rattle.jxl_coding.specs.declared.codes.Coder.{Coder}
use Rattle.jxl_coding.specs.declared.codes.Coder.TheVariants.{Prefix as ByPrefix, Ans as ByAns}

-- the decoder of some codes before any stream
abbrev pub start_of : Codes → Entropy
start_of codes = record { codes = codes; ans_state = end_state; ring = empty_ring; distance = 0; left = 0 }

-- the least symbol of copies
unfoldable pub min_symbol_at : List ℕ → ℕ → Result (Found ℕ) DecoderError
min_symbol_at bytes p = do
  which ← number_at bytes p 2
  if which.value == 0 then Ok (record { value = 224; position = which.position }) else
      if which.value == 1 then Ok (record { value = 512; position = which.position }) else
      if which.value == 2 then Ok (record { value = 4096; position = which.position }) else (do
        more ← number_at bytes which.position 15
        Ok (record { value = 8 + more.value; position = more.position }))

-- the least length of copies
unfoldable pub min_length_at : List ℕ → ℕ → Result (Found ℕ) DecoderError
min_length_at bytes p = do
  which ← number_at bytes p 2
  if which.value == 0 then Ok (record { value = 3; position = which.position }) else
      if which.value == 1 then Ok (record { value = 4; position = which.position }) else
      if which.value == 2 then (do
        more ← number_at bytes which.position 2
        Ok (record { value = 5 + more.value; position = more.position })) else (do
          more ← number_at bytes which.position 8
          Ok (record { value = 9 + more.value; position = more.position }))

-- the rule of copies, if tokens are copied; the cluster of distances is signalled later. Where they must not be, that they are is
-- refused.
unfoldable pub lz77_at : Bool → List ℕ → ℕ → Result (Found (Option Lz77)) DecoderError
lz77_at may bytes p = do
  copies ← number_at bytes p 1
  if copies.value == 0 then Ok (record { value = None; position = copies.position }) else if may then (do
    symbol ← min_symbol_at bytes copies.position
    least ← min_length_at bytes symbol.position
    config ← config_at bytes 8 least.position
    Ok (record { value = Some (record { min_symbol = symbol.value; min_length = least.value; length_config = config.value; cluster = 0 }); position = config.position })) else
      Err (refusal_error MapCopies)

-- the codes of clusters that were read, the symbols and buckets of them all, and the sum of the sizes of their alphabets
pub record Coded : Type 0 where
  pub cluster_codes : List ClusterCode
  pub symbols : List ℕ
  pub buckets : List Bucket
  pub alphabets : ℕ

-- before the first
abbrev pub nothing_coded : Coded
nothing_coded = record { cluster_codes = []; symbols = []; buckets = []; alphabets = 0 }

-- the rule of a cluster
abbrev pub config_of : List IntegerConfig → ℕ → IntegerConfig
config_of configs c = slice_index_or configs c (record { split_exponent = 0; msb_in_token = 0; lsb_in_token = 0 })

-- a cluster that is coded by codewords of an alphabet of this size
abbrev pub with_prefix_code : Coded → IntegerConfig → ℕ → Prefix → Coded
with_prefix_code s config alphabet code = record {
  cluster_codes = s.cluster_codes ++ record { config = config; only = if length code.symbols == 1 then Some (slice_index code.symbols 0) else None; start = length s.symbols; counts = code.counts } ∷ [];
  symbols = s.symbols ++ code.symbols;
  buckets = s.buckets;
  alphabets = s.alphabets + alphabet;
}

-- a cluster that is coded by slots, whose alphabet has as many symbols as buckets
abbrev pub with_distribution : Coded → IntegerConfig → List ℕ → ℕ → Coded
with_distribution s config counts log = record {
  cluster_codes = s.cluster_codes ++ record { config = config; only = only_from 0 counts; start = length s.buckets; counts = replicate 15 0 } ∷ [];
  symbols = s.symbols;
  buckets = s.buckets ++ buckets_of counts log;
  alphabets = s.alphabets + 2 ^ log;
}

-- the next cluster's code, of an alphabet that was signalled; one of more than 2^15 symbols is refused
unfoldable pub prefix_step : List IntegerConfig → List ℕ → Coded → List ℕ → ℕ → Result (Found Coded) DecoderError
prefix_step configs sizes s bytes p =
    if nat_le (2 ^ 15) (slice_index sizes (length s.cluster_codes)) then Err (refusal_error PrefixAlphabet) else (do
      code ← prefix_at (slice_index sizes (length s.cluster_codes) + 1) bytes p
      Ok (record { value = with_prefix_code s (config_of configs (length s.cluster_codes)) (slice_index sizes (length s.cluster_codes) + 1) code.value; position = code.position }))

-- the next cluster's distribution; one of more than 2^log symbols is refused
unfoldable pub distribution_step : List IntegerConfig → ℕ → Coded → List ℕ → ℕ → Result (Found Coded) DecoderError
distribution_step configs log s bytes p = do
  counts ← distribution_at bytes p
  if nat_lt (2 ^ log) (length counts.value) then Err (refusal_error DistributionAlphabet) else
      Ok (record { value = with_distribution s (config_of configs (length s.cluster_codes)) counts.value log; position = counts.position })

-- the codes of these clusters, once each has been read
abbrev pub codes_by : List ℕ → Option Lz77 → Coder → ℕ → Coded → Codes
codes_by clusters lz77 coder bucket_size s =
    record { clusters = clusters; lz77 = lz77; cluster_codes = s.cluster_codes; coder = coder; bucket_size = bucket_size; symbols = s.symbols; buckets = s.buckets; alphabets = s.alphabets }

-- the codes of this number of clusters, by codewords
unfoldable pub prefix_codes_at : List ℕ → Option Lz77 → ℕ → List ℕ → ℕ → Result (Found Codes) DecoderError
prefix_codes_at clusters lz77 n bytes p = do
  configs ← steps (list_and_one (λ all q. config_at all 15 q)) n [] bytes p
  sizes ← steps (list_and_one (λ all q. var_len_at all q true)) n [] bytes configs.position
  all ← steps (prefix_step configs.value sizes.value) n nothing_coded bytes sizes.position
  Ok (record { value = codes_by clusters lz77 ByPrefix 1 all.value; position = all.position })

-- the logarithm of the sizes of alphabets
unfoldable pub log_at : List ℕ → ℕ → Result (Found ℕ) DecoderError
log_at bytes p = do
  more ← number_at bytes p 2
  Ok (record { value = more.value + 5; position = more.position })

-- the codes of this number of clusters, by slots
unfoldable pub ans_codes_at : List ℕ → Option Lz77 → ℕ → List ℕ → ℕ → Result (Found Codes) DecoderError
ans_codes_at clusters lz77 n bytes p = do
  log ← log_at bytes p
  configs ← steps (list_and_one (λ all q. config_at all log.value q)) n [] bytes log.position
  all ← steps (distribution_step configs.value log.value) n nothing_coded bytes configs.position
  Ok (record { value = codes_by clusters lz77 ByAns (whole / 2 ^ log.value) all.value; position = all.position })

-- the codes of this number of clusters
unfoldable pub clusters_codes_at : List ℕ → Option Lz77 → ℕ → List ℕ → ℕ → Result (Found Codes) DecoderError
clusters_codes_at clusters lz77 n bytes p = do
  prefix ← number_at bytes p 1
  if prefix.value == 1 then prefix_codes_at clusters lz77 n bytes prefix.position else ans_codes_at clusters lz77 n bytes prefix.position

-- the last cluster is that of distances, where tokens are copied
abbrev pub with_distances : Option Lz77 → List ℕ → Option Lz77
with_distances None clusters = None
with_distances (Some lz77) clusters = Some (record lz77 { cluster = slice_index clusters (length clusters - 1) })

-- and the others are those of the contexts that were asked for
abbrev pub of_contexts : Option Lz77 → List ℕ → List ℕ
of_contexts None clusters = clusters
of_contexts (Some lz77) clusters = take (length clusters - 1) clusters

-- the codes after the clusters
unfoldable pub codes_at : Option Lz77 → List ℕ → List ℕ → ℕ → Result (Found Codes) DecoderError
codes_at lz77 clusters bytes p = do
  n ← count_of clusters
  clusters_codes_at (of_contexts lz77 clusters) (with_distances lz77 clusters) n bytes p

-- how many contexts there are with that of distances
abbrev pub contexts_with : Option Lz77 → ℕ → ℕ
contexts_with None n = n
contexts_with (Some lz77) n = n + 1

-- The decoder of the clusters of two contexts: of one context, and it copies nothing.
unfoldable pub plain_map_codes_at : List ℕ → ℕ → Result (Found Codes) DecoderError
plain_map_codes_at bytes p = do
  lz77 ← lz77_at false bytes p
  codes_at None (0 ∷ []) bytes lz77.position

-- the clusters of two contexts
unfoldable pub two_clusters_at : List ℕ → ℕ → Result (Found (List ℕ)) DecoderError
two_clusters_at bytes p = do
  plain ← number_at bytes p 1
  if plain.value == 1 then plain_clusters_at 2 bytes plain.position else (do
    moves ← number_at bytes plain.position 1
    codes ← plain_map_codes_at bytes moves.position
    coded_clusters_at (start_of codes.value) (moves.value == 1) 2 bytes codes.position)

-- one cluster for each of at most one context needs no telling
abbrev pub clusters_or_one : (List ℕ → ℕ → Result (Found (List ℕ)) DecoderError) → ℕ → List ℕ → ℕ → Result (Found (List ℕ)) DecoderError
clusters_or_one signalled n bytes p = if nat_lt 1 n then signalled bytes p else Ok (record { value = replicate n 0; position = p })

-- The decoder of the clusters of more contexts: of one context, and it may copy, so that it has two with that of distances.
unfoldable pub lz77_map_codes_at : List ℕ → ℕ → Result (Found Codes) DecoderError
lz77_map_codes_at bytes p = do
  lz77 ← lz77_at true bytes p
  clusters ← clusters_or_one two_clusters_at (contexts_with lz77.value 1) bytes lz77.position
  codes_at lz77.value clusters.value bytes clusters.position

-- the decoder of the clusters of n contexts, which may copy where there are more than two
abbrev pub map_codes_at : ℕ → List ℕ → ℕ → Result (Found Codes) DecoderError
map_codes_at n bytes p = if nat_lt 2 n then lz77_map_codes_at bytes p else plain_map_codes_at bytes p

-- the clusters of n contexts
unfoldable pub clusters_at : ℕ → List ℕ → ℕ → Result (Found (List ℕ)) DecoderError
clusters_at n bytes p = do
  plain ← number_at bytes p 1
  if plain.value == 1 then plain_clusters_at n bytes plain.position else (do
    moves ← number_at bytes plain.position 1
    codes ← map_codes_at n bytes moves.position
    coded_clusters_at (start_of codes.value) (moves.value == 1) n bytes codes.position)

-- the codes of a decoder of n contexts
unfoldable pub decoder_codes_at : ℕ → List ℕ → ℕ → Result (Found Codes) DecoderError
decoder_codes_at n bytes p = do
  lz77 ← lz77_at true bytes p
  clusters ← clusters_or_one (clusters_at (contexts_with lz77.value n)) (contexts_with lz77.value n) bytes lz77.position
  codes_at lz77.value clusters.value bytes clusters.position

-- the decoder of n contexts, before any stream
unfoldable pub decoder_at : List ℕ → ℕ → ℕ → Result (Found Entropy) DecoderError
decoder_at bytes p n = do
  codes ← decoder_codes_at n bytes p
  Ok (record { value = start_of codes.value; position = codes.position })
