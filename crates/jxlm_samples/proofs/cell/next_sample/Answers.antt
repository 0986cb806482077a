use Rattle.std.proofs.Common.{Contains, ap, sym, ◌∙◌, rules}
use Rattle.std.proofs.lemmas.Result.{err_from_is_err_and}
use Rattle.jxlm_bits.specs.Bits.{bytes_of, position_of}
use Rattle.jxlm_ma_tree.specs.declared.leaf.Leaf.{Leaf}
use Rattle.jxlm_tree.proofs.FlatTrees.{standing_leaf}
use Rattle.jxlm_samples.specs.Inner.Cells.{source_of}
use Rattle.jxlm_samples.proofs.cell.next_sample.Goals as goal

pub read_varint_with_multiplier_clustered-requires : goal.read_varint_with_multiplier_clustered-requires
read_varint_with_multiplier_clustered-requires g c =
    standing_leaf (λ l. Contains (g.D.Decoder.meaning.cluster_map c.args.source.now.decoder) l.cluster) c.args.tree.now.flat.tree c.leaf_in-leaf.result c.requires.clusters c.leaf_in-leaf.ensures.stands

pub returns-in_err-token : goal.returns-in_err-token
returns-in_err-token g c =
    let d = g.D.Decoder.meaning in
    let old = source_of c.args.source.now c.args.bits.now in
    let p = err_from_is_err_and c.from_residual.result c.from_residual.ensures.1 in
    let known = standing_leaf (λ l. Contains (d.cluster_map old.decoder) l.cluster) c.args.tree.now.flat.tree c.leaf_in-leaf.result c.requires.clusters c.leaf_in-leaf.ensures.stands in
    let gives = c.in_err-token.ensures.gives in
    rw (p.1, p.2) (record {
      error = λ s samples stands. ap (λ (l : Leaf). d.read old.decoder (bytes_of old.bits) (position_of old.bits) l.cluster c.args.widest) (sym (c.leaf_in-leaf.ensures.leaf s samples stands)) ∙ gives.0;
      place_is = gives.2;
      memory = λ is. g.met.D.Decoder.lawful.read_memory old.decoder (bytes_of old.bits) (position_of old.bits) c.leaf_in-leaf.result.cluster c.args.widest known (rw (← is) gives.0);
      bytes = c.in_err-token.ensures.bytes;
      work = c.leaf_in-leaf.ensures.cost;
      more = c.leaf_in-leaf.ensures.more;
    })

pub returns : goal.returns
returns g c =
    let old = source_of c.args.source.now c.args.bits.now in
    let known = standing_leaf (λ l. Contains (g.D.Decoder.meaning.cluster_map old.decoder) l.cluster) c.args.tree.now.flat.tree c.leaf_in-leaf.result c.requires.clusters c.leaf_in-leaf.ensures.stands in
    record {
      reads = λ s samples stands. search rules;
      clusters = (g.met.D.Decoder.lawful.read_keeps old.decoder (bytes_of old.bits) (position_of old.bits) c.leaf_in-leaf.result.cluster c.args.widest _ known c.in_ok-token.ensures.gives).clusters;
      bytes = c.in_ok-token.ensures.bytes;
      work = c.leaf_in-leaf.ensures.cost;
      more = c.leaf_in-leaf.ensures.more;
    }
