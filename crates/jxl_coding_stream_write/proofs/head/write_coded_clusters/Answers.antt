use Rattle.std.proofs.Common.{◌∙◌, ◌<◌, ℕ, List, subst, arith}
use Rattle.std.proofs.lemmas.List.Elements.{All-from_get_or}
use Rattle.jxl_coding_stream_write.specs.Codes.{codes_of}
use Rattle.jxl_coding_stream_write.specs.Streams.{IsStream}
use Rattle.jxlm_bit_writer.specs.declared.token.Token.{Token}
use Rattle.jxl_coding_stream_write.proofs.CodedClusters.{coded_written}
use Rattle.jxl_coding_stream_write.proofs.head.write_coded_clusters.Goals as goal

pub returns : goal.returns
returns c =
    let s = c.in_ok-write_tokens.ensures in
    coded_written c.args.own.now c.args.clusters.now c.args.bits.now c.put.new.self c.write_own_codes.new.bits c.write_tokens.new.bits c.requires.one
    (All-from_get_or (λ (v : ℕ). v < 256) c.args.clusters.now 0 (λ i lt. let f = c.type_inv.clusters i in omega (arith, f))) c.requires.many c.in_ok-put.ensures c.in_ok-write_own_codes.ensures s.0 s.1
    (subst (λ (xs : List Token). IsStream (codes_of c.args.own.now) xs s.0) (c.deref.ensures.value ∙ c.in_ok-tokens.ensures) s.2)
