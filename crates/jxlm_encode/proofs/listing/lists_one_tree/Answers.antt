use Rattle.std.proofs.Common.{◌+◌, ◌<◌, length, get_or, drop, sym, subst, arith}
use Rattle.std.specs.Prelude.{◌↔◌, pos}
use Rattle.std.proofs.lemmas.List.{get_or_default}
use Rattle.jxlm_encode_write.specs.declared.tree.EncodeNode.{EncodeNode}
use Rattle.jxlm_encode_write.specs.declared.tree.EncodeNode.TheVariants.{Decision}
use Rattle.std.proofs.lemmas.Bool.{false≢true}
use Rattle.jxlm_encode.specs.Inner.Listing.{AreNodesOf}
use Rattle.jxlm_encode.specs.Listing.{ListsOneTree}
use Rattle.jxlm_encode.proofs.Listings.{counted_off, left_bound, none_counted, too_many}
use Rattle.jxlm_encode.proofs.listing.lists_one_tree.Goals as goal

pub loop-node-init : goal.loop-node-init
loop-node-init c = record { few = omega arith; left = none_counted c.args.nodes.now }

pub returns-then-missing-eq0 : goal.returns-then-missing-eq0
returns-then-missing-eq0 c =
    let lt : c.loop-node.node-index < length c.args.nodes.now = omega (arith, c.loop-node-test.true, c.loop-node.auto.node-index-end) in (
      λ e. absurd (false≢true e),
      λ one. absurd (too_many c.args.nodes.now c.loop-node.node-index c.loop-node.missing (ListsOneTree c.args.nodes.now) lt c.if-missing-eq0.true c.loop-node.invariant.left one),
    )

pub loop-node-preserved : goal.loop-node-preserved
loop-node-preserved c =
    let nodes = c.args.nodes.now in
    let i = c.loop-node.node-index in
    let lt : i < length nodes = omega (arith, c.loop-node-test.true, c.loop-node.auto.node-index-end) in
    let x : EncodeNode = get_or nodes i (Decision 0 (pos 0)) in
    let same = c.missing_after-missing.ensures in
    let bound = left_bound x c.loop-node.missing in
    let some : 0 < c.loop-node.missing = omega (arith, c.if-missing-eq0.false) in
    let few = c.loop-node.invariant.few in
    record {
      few = omega (arith, same, bound, few);
      left = subst (λ n. AreNodesOf n (drop (i + 1) nodes) ↔ ListsOneTree nodes) (sym same)
          (counted_off nodes i x c.loop-node.missing (ListsOneTree nodes) lt (get_or_default nodes i (Decision 0 (pos 0)) x lt) some c.loop-node.invariant.left);
    }
