-- Images whose trees and samples a decoder reads as streams.
use Rattle.std.specs.Prelude.{◌≡◌, ℕ, ◌+◌, ◌<◌, ℤ, List, length, map, replicate, Ok}
use Rattle.std.specs.Int.{Width}
use Rattle.jxlm_bits.specs.Decoding.{Asked, Found, Meaning}
use Rattle.jxlm_base.specs.Grid.{Grid}
use Rattle.jxlm_bit_writer.specs.ReadStreams.{IsRead}
use Rattle.jxlm_encode_streams.specs.TreeStreams.{in_context, tree_contexts}
use Rattle.jxlm_encode.specs.Encoded.{IsEncodedFor}
use Rattle.jxlm_encode.specs.Prepared.{ArePrepared}
use Rattle.jxlm_samples.specs.Part.{max_width}
use Rattle.jxlm_transform.specs.Transforms.{Transform}
use Rattle.jxlm_encode_write.specs.Headers.{header_bits}
use Rattle.jxlm_encode_write.specs.Nodes.{tree_tokens}
use Rattle.jxlm_encode_write.specs.Trees.{leaves_in}
use Rattle.jxlm_bit_writer.specs.Written.{HasBits}
use Rattle.jxlm_encode_write.specs.declared.tree.EncodeNode.{EncodeNode}

-- a read of a sample: all have cluster 0
abbrev pub of_sample : ℕ → Asked
of_sample widest = record { cluster = 0; multiplier = widest }

-- After the header come a decoder of six contexts, the stream of the tree's tokens, a decoder of its leaves with one
-- cluster, and the stream of the samples' tokens.
pub record AreRead {S : Type 0} (d : Meaning S) (bytes : List ℕ) (start : ℕ) (nodes : List EncodeNode) (widest : ℕ) (tokens : List ℕ) : Type 0 where
  pub own : Found S
  pub own_stands : d.parse bytes start 6 ≡ Ok own
  pub tree_end : ℕ
  pub tree : IsRead d own.value bytes own.position (map (in_context (d.cluster_map own.value)) (tree_contexts nodes)) (tree_tokens nodes) tree_end
  pub leaves : S
  pub samples_at : ℕ
  pub leaves_stand : d.parse bytes tree_end (leaves_in nodes) ≡ Ok (record { value = leaves; position = samples_at })
  pub one_cluster : d.cluster_map leaves ≡ replicate (leaves_in nodes) 0
  pub end : ℕ
  pub samples : 0 < length tokens → IsRead d leaves bytes samples_at (replicate (length tokens) (of_sample widest)) tokens end

-- so an image that is ready is encoded
abbrev pub ReadImageIsEncoded : {S : Type 0} → Meaning S → Type 0
ReadImageIsEncoded {S} d = (ts : List Transform) (nodes : List EncodeNode) (image : List (Grid ℤ)) (w : Width) (tokens bytes : List ℕ) (p : ArePrepared ts nodes image w tokens) →
    HasBits bytes 0 (header_bits ts) → AreRead d bytes (0 + length (header_bits ts)) nodes (max_width p.coded.list.channels) tokens → IsEncodedFor ts nodes image d w bytes
