use Rattle.std.proofs.Common.{suc, ◌≡◌, ◌<◌, ◌+◌, ◌-◌, ◌∷◌, ◌++◌, [], length, map, ap, ◌∙◌, arith, rules}
use Rattle.std.proofs.lemmas.List.{length-append, map-append}
use Rattle.jxlm_bits.specs.Bits.{bytes_of, position_of}
use Rattle.jxlm_ma_tree.specs.Inner.DraftReading.{node_of}
use Rattle.jxlm_ma_tree.specs.TreeReading.{children, limit_error, max_nodes}
use Rattle.jxlm_ma_tree.proofs.Accumulated.{node_more, node_fails, no_room, all_read, children_few, drafts_more}
use Rattle.jxlm_ma_tree.proofs.nodes.read_nodes.Goals as goal

pub returns-in_err-check_room-clause-gives : goal.returns-in_err-check_room-clause-gives
returns-in_err-check_room-clause-gives g c =
    let l = c.loop-missing in
    let none : max_nodes c.args.node_limit - length l.nodes.items ≡ 0 = omega (arith, c.in_err-check_room.ensures.err.0) in
    let full = no_room g.D.Decoder.meaning (bytes_of c.args.bits.now) (limit_error c.args.node_limit) (map node_of l.nodes.items) _ l.missing l.decoder (position_of l.bits) none c.loop-missing-test.true in
    let reads = rw (← c.in_err-check_room.ensures.err.1) at (l.invariant.reads ∙ full) in
    search rules

pub returns-in_err-node-clause-gives : goal.returns-in_err-node-clause-gives
returns-in_err-node-clause-gives g c =
    let l = c.loop-missing in
    let some : 0 < max_nodes c.args.node_limit - length l.nodes.items = omega (arith, c.in_ok-check_room.ensures.ok) in
    let node = rw l.invariant.bytes at c.in_err-node.ensures.gives in
    let failed = node_fails g.D.Decoder.meaning (bytes_of c.args.bits.now) (limit_error c.args.node_limit) (map node_of l.nodes.items) _ l.missing l.decoder (position_of l.bits) _ some c.loop-missing-test.true node in
    let reads = l.invariant.reads ∙ failed in
    search rules

pub loop-missing-preserved : goal.loop-missing-preserved
loop-missing-preserved g c =
    let l = c.loop-missing in
    let node = rw l.invariant.bytes at c.in_ok-node.ensures.gives in
    let less = c.in_ok-check_room.ensures.ok in
    let pushed : c.push.new.self.items ≡ l.nodes.items ++ c.in_ok-node.node ∷ [] = search rules in
    let seen : map node_of c.push.new.self.items ≡ map node_of l.nodes.items ++ node_of c.in_ok-node.node ∷ [] = ap (map node_of) pushed ∙ map-append node_of l.nodes.items (c.in_ok-node.node ∷ []) in
    let longer : length c.push.new.self.items ≡ length l.nodes.items + 1 = ap length pushed ∙ length-append l.nodes.items (c.in_ok-node.node ∷ []) in
    let room : max_nodes c.args.node_limit - length l.nodes.items ≡ suc (max_nodes c.args.node_limit - length c.push.new.self.items) = omega (arith, less, longer) in
    let more : l.missing - 1 + c.children.result ≡ l.missing - 1 + children (node_of c.in_ok-node.node) = ap (λ k. l.missing - 1 + k) c.children.ensures in
    let read = node_more g.D.Decoder.meaning (bytes_of c.args.bits.now) (limit_error c.args.node_limit) (map node_of l.nodes.items) _ _ l.missing _ l.decoder c.read_node.new.decoder (position_of l.bits) (position_of c.read_node.new.bits)
    (node_of c.in_ok-node.node) room c.loop-missing-test.true more node in
    record {
      reads = rw seen (l.invariant.reads ∙ read);
      contexts = ap length c.in_ok-node.ensures.clusters ∙ l.invariant.contexts;
      drafts = rw seen (drafts_more (map node_of l.nodes.items) (node_of c.in_ok-node.node) l.invariant.drafts c.in_ok-node.ensures.within);
      room = omega (arith, less, longer);
      few = let few = l.invariant.few in rw c.children.ensures (omega (arith, few, longer, children_few (node_of c.in_ok-node.node)));
      bytes = c.in_ok-node.ensures.bytes ∙ l.invariant.bytes;
    }

pub returns-clause-gives : goal.returns-clause-gives
returns-clause-gives g c =
    let l = c.loop-missing in
    let none : l.missing ≡ 0 = omega (arith, c.loop-missing-test.false) in
    l.invariant.reads ∙ all_read g.D.Decoder.meaning (bytes_of c.args.bits.now) (limit_error c.args.node_limit) (map node_of l.nodes.items) _ l.missing l.decoder (position_of l.bits) none
