use Rattle.std.proofs.Common.{◌≡◌, ℕ, ◌+◌, List, Ok, length, sym, ◌∙◌, subst}
use Rattle.jxlm_bit_writer.specs.declared.token.Token.{Token}
use Rattle.jxl_coding.specs.Clusters.{count_of}
use Rattle.jxl_coding_stream_write.specs.Codes.{codes_of}
use Rattle.jxl_coding_stream_write.proofs.WrittenStreams.{decoded_added}
use Rattle.jxl_patches_write.specs.Inner.Given.{GiveAll}
use Rattle.jxl_patches_write.proofs.Dictionaries.{clusters_used, dictionary_written}
use Rattle.jxl_patches_write.proofs.dictionary.write_patches.Goals as goal

pub writer_for-requires-clause-used : goal.writer_for-requires-clause-used
writer_for-requires-clause-used c = subst (λ (xs : List ℕ). count_of xs ≡ Ok 7) (sym c.in_ok-clusters.ensures) clusters_used

pub returns : goal.returns
returns c =
    let tokens = c.deref-2.result.now in
    dictionary_written c.args.extra c.args.places.now c.in_ok-writer.writer tokens (c.in_ok-writer.ensures.clusters ∙ c.in_ok-clusters.ensures)
    (subst (λ (ts : List Token). GiveAll (1 + c.args.extra) c.args.places.now ts) (sym c.deref-2.ensures.value) c.in_ok-tokens.ensures.read_as) c.args.bits.now c.write_all.new.bits
    (decoded_added (length c.in_ok-writer.writer.clusters.items) (codes_of c.in_ok-writer.writer) tokens c.args.bits.now c.write_all.new.bits c.in_ok-write_all.ensures)
