-- An image whose tree and samples are read as streams is encoded.
use Rattle.std.proofs.Common.{◌≡◌, inl, inr, ℕ, zero, suc, ◌+◌, ℤ, List, length, take, replicate, refl, sym, ap, ◌∙◌, arith}
use Rattle.std.specs.Int.{Width}
use Rattle.std.proofs.lemmas.List.{length-replicate, get_or-replicate}
use Rattle.jxlm_bits.specs.Decoding.{Asked, IsLawful, Meaning}
use Rattle.jxlm_base.specs.Grid.{Grid}
use Rattle.jxlm_encode_streams.specs.Streams.{AsksFor}
use Rattle.jxlm_encode_streams.proofs.ReadStreams.{read_streams_coded}
use Rattle.jxlm_encode_streams.specs.TreeStreams.{clustered_nodes}
use Rattle.jxlm_encode_streams.proofs.ReadTrees.{read_tree_stands, zeros_clustered}
use Rattle.jxlm_header.specs.Opening.{depth_limit, node_limit}
use Rattle.jxlm_tree.specs.Tree.{levels}
use Rattle.jxlm_tree.proofs.FlatTrees.{reached_leaf}
use Rattle.jxlm_samples.specs.Coded.{IsCodedToTheEnd, IsCodedWhole}
use Rattle.jxlm_samples.specs.Part.{Part, cell_count, cells_of, max_width}
use Rattle.jxlm_encode_tokens.specs.Laws.{HasOneCluster}
use Rattle.jxlm_transform.specs.Transforms.{Transform}
use Rattle.jxlm_encode_write.specs.Headers.{header_bits}
use Rattle.jxlm_bit_writer.specs.Written.{HasBits}
use Rattle.jxlm_encode_write.specs.declared.tree.EncodeNode.{EncodeNode}
use Rattle.jxlm_encode_write.proofs.HeaderLaws.{headers_stand}
use Rattle.jxlm_encode.specs.Encoded.{IsEncodedFor, coded_part}
use Rattle.jxlm_encode.specs.Prepared.{ArePrepared}
use Rattle.jxlm_encode.proofs.Listings.{IsGivenLeaf, leaves_given}
use Rattle.jxlm_encode_streams.specs.Images.{AreRead, ReadImageIsEncoded, of_sample}

module _ {S : Type 0} (d : Meaning S) (lawful : IsLawful d) (ts : List Transform) (nodes : List EncodeNode) (image : List (Grid ℤ)) (w : Width) (tokens bytes : List ℕ) (p : ArePrepared ts nodes image w tokens)
    (has : HasBits bytes 0 (header_bits ts)) (r : AreRead d bytes (0 + length (header_bits ts)) nodes (max_width p.coded.list.channels) tokens) where
  abbrev part : Part
  part = coded_part p.coded p.tree

  one_cluster_each : HasOneCluster (coded_part p.coded p.tree)
  one_cluster_each before = (reached_leaf IsGivenLeaf p.tree _ (leaves_given p.tree nodes p.given.listed)).0

  abbrev asked : List Asked
  asked = replicate (length tokens) (of_sample (max_width p.coded.list.channels))

  asks : AsksFor part (cells_of p.samples) asked
  asks = (
    length-replicate (length tokens) _ ∙ p.are.count,
    λ k e lt. get_or-replicate (length tokens) k (of_sample (max_width p.coded.list.channels)) e (let n = p.are.count in omega (arith, n, lt))
        ∙ ap (λ (c : ℕ). record { cluster = c; multiplier = max_width p.coded.list.channels }) (sym (one_cluster_each (take k (cells_of p.samples)))),
  )

  coded : (n : ℕ) → cell_count p.coded.list.channels ≡ suc n → IsCodedToTheEnd d w part bytes r.leaves r.samples_at p.samples r.end
  coded n e =
      read_streams_coded d w part bytes r.leaves r.samples_at r.end p.samples asked tokens p.are p.counted asks
      (r.samples (let a = p.are.count in let b = p.counted in omega (arith, a, b, e)))

  -- an image without cells ends where its samples would begin
  abbrev end_for : ℕ → ℕ
  end_for zero = r.samples_at
  end_for (suc n) = r.end

  codes : (n : ℕ) → cell_count p.coded.list.channels ≡ n → IsCodedWhole d w part bytes r.leaves r.samples_at p.samples (end_for n)
  codes zero e = inr (e, refl)
  codes (suc n) e = inl (omega (arith, e), coded n e)

  encoded : IsEncodedFor ts nodes image d w bytes
  encoded =
      let limit = p.given.limit in
      let listed : levels p.tree ≡ clustered_nodes nodes (d.cluster_map r.leaves) = p.given.listed ∙ sym (ap (clustered_nodes nodes) r.one_cluster ∙ zeros_clustered nodes) in
      record {
        coded = p.coded;
        accepted = p.accepted;
        count = p.count;
        tree = p.tree;
        given = p.given;
        decoder = r.leaves;
        tree_at = 0 + length (header_bits ts);
        header_stands = headers_stand bytes 0 ts p.accepted.few p.accepted.written has;
        samples_at = r.samples_at;
        tree_stands =
            read_tree_stands d lawful bytes (node_limit p.coded.list.channels) depth_limit (0 + length (header_bits ts)) r.tree_end r.samples_at p.tree nodes r.own r.leaves listed r.own_stands r.tree
            r.leaves_stand (omega (arith, limit)) p.given.limit p.given.within;
        samples = p.samples;
        end = end_for (cell_count p.coded.list.channels);
        codes = codes (cell_count p.coded.list.channels) refl;
        chain = p.chain;
      }

pub read_image_encoded : {S : Type 0} (d : Meaning S) → IsLawful d → ReadImageIsEncoded d
read_image_encoded d lawful ts nodes image w tokens bytes p has r = encoded d lawful ts nodes image w tokens bytes p has r
