-- The clusters of contexts (ISO/IEC 18181-1, entropy decoding: distribution clustering).
use Rattle.std.specs.Prelude.{ℕ, zero, suc, ◌+◌, List, [], ◌∷◌, ◌++◌, length, max, Bool, true, ◌&&◌, if◌then◌else◌, nat_lt, ◌==◌, insert, remove, Result, Ok, Err, slice_index}
use Rattle.std.specs.List.{list_any}
use Rattle.jxlm_bits.specs.Decoding.{Found}
use Rattle.jxlm_bits.specs.ErrorKind.{◌>>=◌}
use Rattle.jxlm_bits.specs.declared.decoder.DecoderError.{DecoderError}
use Rattle.jxl_coding_codes.specs.Refusals.{refusal_error}
use Rattle.jxl_coding_codes.specs.declared.refusal.Refusal.TheVariants.{ClusterTooLarge, ClusterUnused}
use Rattle.jxl_coding_codes.specs.Fields.{number_at}
use Rattle.jxl_coding_codes.specs.Reading.{steps, list_and_one}
use Rattle.jxl_coding.specs.Tokens.{Entropy, read_at, begin_at, end_of}

-- the greatest of the first n clusters
unfoldable pub greatest : ℕ → List ℕ → ℕ
greatest zero clusters = 0
greatest (suc n) clusters = max (greatest n clusters) (slice_index clusters n)

-- each of the first n clusters has a context
unfoldable pub are_used : ℕ → List ℕ → Bool
are_used zero clusters = true
are_used (suc n) clusters = are_used n clusters && list_any (λ c. c == n) clusters

-- how many clusters there are; one without a context before one with one is refused
abbrev pub count_of : List ℕ → Result ℕ DecoderError
count_of clusters =
    if are_used (greatest (length clusters) clusters) clusters then Ok (greatest (length clusters) clusters + 1) else Err (refusal_error ClusterUnused)

-- the first n numbers
unfoldable pub numbers : ℕ → List ℕ
numbers zero = []
numbers (suc n) = numbers n ++ n ∷ []

-- a list of all clusters, and the clusters of some contexts
pub record Moved : Type 0 where
  pub list : List ℕ
  pub clusters : List ℕ

-- a number says at which place in the list its cluster stands, and moves it to the front
abbrev pub with_moved : Moved → ℕ → Moved
with_moved m i = record {
  list = insert (remove m.list i) 0 (slice_index m.list i);
  clusters = m.clusters ++ slice_index m.list i ∷ [];
}

-- the first n of these numbers, each against the list that those before it leave
unfoldable pub moved_first : ℕ → List ℕ → Moved
moved_first zero places = record { list = numbers 256; clusters = [] }
moved_first (suc n) places = with_moved (moved_first n places) (slice_index places n)

-- the clusters that these numbers stand for
abbrev pub clusters_of_places : List ℕ → List ℕ
clusters_of_places places = (moved_first (length places) places).clusters

-- a decoder of the clusters, and those that were read
pub record Listed : Type 0 where
  pub decoder : Entropy
  pub clusters : List ℕ

-- one cluster more: a token of the first context, below 256
unfoldable pub cluster_step : Listed → List ℕ → ℕ → Result (Found Listed) DecoderError
cluster_step s bytes p = do
  token ← read_at s.decoder bytes p (slice_index s.decoder.codes.clusters 0) 0
  if nat_lt token.value 256
      then Ok (record { value = record { decoder = token.state; clusters = s.clusters ++ token.value ∷ [] }; position = token.position })
      else Err (refusal_error ClusterTooLarge)

-- the clusters of n contexts, as tokens of a stream
unfoldable pub stream_clusters_at : Entropy → ℕ → List ℕ → ℕ → Result (Found (List ℕ)) DecoderError
stream_clusters_at decoder n bytes p = do
  begun ← begin_at decoder bytes p
  all ← steps cluster_step n (record { decoder = begun.value; clusters = [] }) bytes begun.position
  ended ← end_of all.value.decoder.codes.coder all.value.decoder.ans_state
  Ok (record { value = all.value.clusters; position = all.position })

-- they may be signalled as places in a list
abbrev pub in_list : Bool → List ℕ → List ℕ
in_list moves clusters = if moves then clusters_of_places clusters else clusters

-- the clusters of n contexts, as tokens of this decoder
unfoldable pub coded_clusters_at : Entropy → Bool → ℕ → List ℕ → ℕ → Result (Found (List ℕ)) DecoderError
coded_clusters_at decoder moves n bytes p = do
  all ← stream_clusters_at decoder n bytes p
  Ok (record { value = in_list moves all.value; position = all.position })

-- the clusters of n contexts, as numbers of a width
unfoldable pub plain_clusters_at : ℕ → List ℕ → ℕ → Result (Found (List ℕ)) DecoderError
plain_clusters_at n bytes p = do
  width ← number_at bytes p 2
  steps (list_and_one (λ all q. number_at all q width.value)) n [] bytes width.position
