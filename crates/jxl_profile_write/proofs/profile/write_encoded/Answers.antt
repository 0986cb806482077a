use Rattle.std.proofs.Common.{◌≡◌, ◌<◌, ◌∙◌, [], List, ℕ, Ok, ap, sym, subst, length, arith}
use Rattle.std.specs.List.{All}
use Rattle.jxlm_bit_writer.specs.declared.token.Token.{Token}
use Rattle.jxl_coding.specs.Clusters.{count_of}
use Rattle.jxl_coding_stream_write.specs.Codes.{codes_of}
use Rattle.jxl_coding_stream_write.proofs.WrittenStreams.{decoded_added}
use Rattle.jxl_profile_write.specs.Inner.Tokens.{cluster_count, clusters_in}
use Rattle.jxl_profile_write.proofs.TokenLists.{clusters_used, tokens_below, tokens_count}
use Rattle.jxl_profile_write.proofs.Written.{encoded_written}
use Rattle.jxl_profile_write.proofs.profile.write_encoded.Goals as goal

pub writer_for-requires-clause-used : goal.writer_for-requires-clause-used
writer_for-requires-clause-used c =
    subst (λ (xs : List ℕ). count_of xs ≡ Ok c.count_of.result) (sym c.in_ok-clusters.ensures)
    (subst (λ (n : ℕ). count_of (clusters_in c.args.separate) ≡ Ok n) (sym c.count_of.ensures) (clusters_used c.args.separate))

pub writer_for-requires-clause-tokens : goal.writer_for-requires-clause-tokens
writer_for-requires-clause-tokens c =
    subst (λ (n : ℕ). All (λ (t : Token). t.cluster < n) c.deref.result.now) (sym c.count_of.ensures)
    (subst (λ (ts : List Token). All (λ (t : Token). t.cluster < cluster_count c.args.separate) ts) (sym (c.deref.ensures.value ∙ c.in_ok-tokens.ensures))
    (tokens_below c.args.separate [] c.args.encoded.now))

pub writer_for-requires-clause-fits : goal.writer_for-requires-clause-fits
writer_for-requires-clause-fits c =
    let n = ap (λ (ts : List Token). length ts) (c.deref.ensures.value ∙ c.in_ok-tokens.ensures) ∙ tokens_count c.args.separate [] c.args.encoded.now in
    let few = c.requires in
    omega (arith, n, few)

pub returns : goal.returns
returns c =
    encoded_written c.args.separate c.args.encoded.now c.in_ok-writer.writer c.deref-2.result.now (c.in_ok-writer.ensures.clusters ∙ c.in_ok-clusters.ensures)
    (c.deref-2.ensures.value ∙ c.in_ok-tokens.ensures) (λ k lt. let f = c.type_inv.encoded k in omega (arith, f)) c.args.bits.now c.write_all.new.bits
    (decoded_added (length c.in_ok-writer.writer.clusters.items) (codes_of c.in_ok-writer.writer) c.deref-2.result.now c.args.bits.now c.write_all.new.bits c.in_ok-write_all.ensures)
