use Rattle.std.proofs.Common.{◌≡◌, ◌∙◌, ℕ, List, Ok, ap, sym, subst, map, length}
use Rattle.jxlm_bit_writer.specs.declared.token.Token.{Token}
use Rattle.jxl_coding.specs.Clusters.{count_of}
use Rattle.jxl_coding_stream_write.specs.Codes.{codes_of}
use Rattle.jxl_coding_stream_write.proofs.WrittenStreams.{decoded_added}
use Rattle.jxl_encode_tree.specs.Inner.Contexts.{clusters_in}
use Rattle.jxl_encode_tree.proofs.CodedNodes.{contexts_used, nodes_read}
use Rattle.jxl_encode_tree.proofs.nodes.write_nodes.Goals as goal

pub writer_for-requires-clause-used : goal.writer_for-requires-clause-used
writer_for-requires-clause-used c =
    subst (λ (xs : List ℕ). count_of xs ≡ Ok c.count_of.result) (sym c.in_ok-clusters.ensures)
    (subst (λ (n : ℕ). count_of (clusters_in c.args.separate) ≡ Ok n) (sym c.count_of.ensures) (contexts_used c.args.separate))

pub returns : goal.returns
returns c =
    nodes_read c.args.separate c.args.nodes.now c.in_ok-writer.writer c.deref-2.result.now (c.in_ok-writer.ensures.clusters ∙ c.in_ok-clusters.ensures)
    (ap (λ (ts : List Token). map (λ t. t.value) ts) c.deref-2.ensures.value ∙ c.in_ok-tokens.ensures.values)
    (ap (λ (ts : List Token). map (λ t. t.cluster) ts) c.deref-2.ensures.value ∙ c.in_ok-tokens.ensures.clusters) c.args.bits.now c.write_all.new.bits
    (decoded_added (length c.in_ok-writer.writer.clusters.items) (codes_of c.in_ok-writer.writer) c.deref-2.result.now c.args.bits.now c.write_all.new.bits c.in_ok-write_all.ensures)
