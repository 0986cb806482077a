-- What was prepared is encoded by its bits, in either format.
use Rattle.std.proofs.Common.{◌≡◌, inl, inr, ℕ, zero, suc, ◌+◌, ◌^◌, ◌<◌, ℤ, List, [], ◌∷◌, ◌++◌, length, refl, arith}
use Rattle.std.specs.List.{All, flat_map}
use Rattle.std.specs.Int.{Width}
use Rattle.jxlm_bits.specs.Decoding.{Meaning}
use Rattle.jxlm_base.specs.Grid.{Grid}
use Rattle.jxlm_header.specs.Opening.{depth_limit, node_limit}
use Rattle.jxlm_tree.specs.Tree.{config_of}
use Rattle.jxlm_tree.specs.TreeStands.{TreeStands}
use Rattle.jxlm_tree.proofs.FlatTrees.{reached_leaf}
use Rattle.jxlm_samples.specs.Coded.{IsCodedToTheEnd, IsCodedWhole}
use Rattle.jxlm_samples.specs.Part.{Part, cell_count}
use Rattle.jxlm_plain.specs.Plain.{plain, plain2}
use Rattle.jxlm_encode_tokens.specs.Laws.{HasOneCluster}
use Rattle.jxlm_encode_tokens.proofs.WrittenCoded.{gamma_written_coded, written_coded}
use Rattle.jxlm_transform.specs.Transforms.{Transform}
use Rattle.jxlm_encode_write.specs.Headers.{header_bits}
use Rattle.jxlm_encode_write.specs.Nodes.{tree_tokens}
use Rattle.jxlm_encode_write.specs.Tokens.{gamma_bits, gamma_token_bits, one_cluster, one_gamma_cluster, token_bits}
use Rattle.jxlm_encode_write.specs.Trees.{gamma_tree_bits, leaves_in, tree_bits}
use Rattle.jxlm_bit_writer.specs.Written.{HasBits, digits}
use Rattle.jxlm_encode_write.specs.declared.tree.EncodeNode.{EncodeNode}
use Rattle.jxlm_bit_writer.proofs.BitLists.{filled_stands, has_first, has_rest}
use Rattle.jxlm_encode_write.proofs.HeaderLaws.{headers_stand}
use Rattle.jxlm_encode_write.proofs.TreeLaws.{gamma_trees_stand, trees_stand}
use Rattle.jxlm_encode.specs.Encoded.{coded_part}
use Rattle.jxlm_encode.specs.Bytes.{AreBytesFor, AreBytesOf, AreBytesOf2, AreWritten, AreWritten2}
use Rattle.jxlm_encode.specs.Prepared.{ArePrepared}
use Rattle.jxlm_encode.proofs.Listings.{IsGivenLeaf, leaves_given}

no_bits : (one : ℕ → List ℕ) (ts : List ℕ) → length ts ≡ 0 → length (flat_map one ts) ≡ 0
no_bits one [] none = refl
no_bits one (t ∷ ts) none = absurd (omega (arith, none))

module _ (ts : List Transform) (nodes : List EncodeNode) (image : List (Grid ℤ)) (w : Width) (tokens bytes : List ℕ) (p : ArePrepared ts nodes image w tokens) where
  abbrev part : Part
  part = coded_part p.coded p.tree

  abbrev header_end : ℕ
  header_end = 0 + length (header_bits ts)

  one_cluster_each : HasOneCluster (coded_part p.coded p.tree)
  one_cluster_each before = (reached_leaf IsGivenLeaf p.tree _ (leaves_given p.tree nodes p.given.listed)).0

  -- by whatever decoder, where the tree and the samples stand for it behind the header
  bytes_for : {V : Type 0} (d : Meaning V) (Written : List ℕ → List ℕ → Type 0) (decoder : V) (rest : List ℕ) (samples_at end : ℕ) → HasBits bytes 0 (header_bits ts ++ rest) →
      TreeStands d bytes (node_limit p.coded.list.channels) depth_limit header_end (config_of p.tree decoder) samples_at → IsCodedToTheEnd d w part bytes decoder samples_at p.samples end →
      (length tokens ≡ 0 → end ≡ samples_at) → Written tokens bytes → AreBytesFor ts nodes image d Written w bytes
  bytes_for d Written decoder rest samples_at end has stands coded none written = record {
    encoded = record {
      coded = p.coded;
      accepted = p.accepted;
      count = p.count;
      tree = p.tree;
      given = p.given;
      decoder = decoder;
      tree_at = header_end;
      header_stands = headers_stand bytes 0 ts p.accepted.few p.accepted.written (has_first bytes 0 (header_bits ts) rest has);
      samples_at = samples_at;
      tree_stands = stands;
      samples = p.samples;
      end = end;
      codes = of_count (cell_count p.coded.list.channels) refl;
      chain = p.chain;
    };
    tokens = tokens;
    are = p.are;
    written = written;
  } where
    of_count : (n : ℕ) → cell_count p.coded.list.channels ≡ n → IsCodedWhole d w part bytes decoder samples_at p.samples end
    of_count zero e =
        let count = p.are.count in
        let cells = p.counted in
        inr (e, none (omega (arith, count, cells, e)))
    of_count (suc n) e = inl (omega (arith, e), coded)

  module _ (own_fits : All (λ t. t < 2 ^ 32) (tree_tokens nodes)) (fits : All (λ t. t < 2 ^ 32) tokens) where
    -- in the first format
    pub bytes_first : AreWritten ts nodes tokens bytes → AreBytesOf ts nodes image w bytes
    bytes_first written =
        let limit = p.given.limit in
        let tree : List ℕ = tree_bits nodes written.own written.width in
        let samples : List ℕ = token_bits written.width tokens in
        let tree_end : ℕ = header_end + length tree in
        let first : HasBits bytes 0 (header_bits ts ++ (tree ++ samples)) = filled_stands bytes (header_bits ts ++ (tree ++ samples)) written.filled in
        let second : HasBits bytes header_end (tree ++ samples) = has_rest bytes 0 (header_bits ts) (tree ++ samples) first in
        let third : HasBits bytes tree_end samples = has_rest bytes header_end tree samples second in
        bytes_for plain (AreWritten ts nodes) (one_cluster (leaves_in nodes) written.width) (tree ++ samples) tree_end (tree_end + length samples) first
        (trees_stand bytes header_end written.own written.width (node_limit p.coded.list.channels) depth_limit p.tree nodes p.given.listed (written.own_least.least 32 own_fits) (written.least.least 32 fits)
        written.own_least.fits (omega (arith, limit)) p.given.limit p.given.within (has_first bytes header_end tree samples second))
        (written_coded w part bytes (leaves_in nodes) written.width tree_end p.samples tokens p.are p.counted written.least.fits one_cluster_each third)
        (λ none. let empty = no_bits (digits written.width) tokens none in omega (arith, empty)) written

    -- in the second
    pub bytes_second : AreWritten2 ts nodes tokens bytes → AreBytesOf2 ts nodes image w bytes
    bytes_second written =
        let limit = p.given.limit in
        let tree : List ℕ = gamma_tree_bits nodes in
        let samples : List ℕ = gamma_token_bits tokens in
        let tree_end : ℕ = header_end + length tree in
        let first : HasBits bytes 0 (header_bits ts ++ (tree ++ samples)) = filled_stands bytes (header_bits ts ++ (tree ++ samples)) written in
        let second : HasBits bytes header_end (tree ++ samples) = has_rest bytes 0 (header_bits ts) (tree ++ samples) first in
        let third : HasBits bytes tree_end samples = has_rest bytes header_end tree samples second in
        bytes_for plain2 (AreWritten2 ts nodes) (one_gamma_cluster (leaves_in nodes)) (tree ++ samples) tree_end (tree_end + length samples) first
        (gamma_trees_stand bytes header_end (node_limit p.coded.list.channels) depth_limit p.tree nodes p.given.listed own_fits
        (omega (arith, limit)) p.given.limit p.given.within (has_first bytes header_end tree samples second))
        (gamma_written_coded w part bytes (leaves_in nodes) tree_end p.samples tokens p.are p.counted fits one_cluster_each third)
        (λ none. let empty = no_bits gamma_bits tokens none in omega (arith, empty)) written
