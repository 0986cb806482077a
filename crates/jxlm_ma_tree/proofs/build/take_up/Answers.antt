use Rattle.std.proofs.Common.{◌≡◌, ◌≤◌, ◌∷◌, ◌++◌, [], ap, ◌∙◌, arith, rules}
use Rattle.std.proofs.lemmas.List.{map-append}
use Rattle.jxlm_bits.specs.ErrorKind.{kind_of}
use Rattle.jxlm_ma_tree.specs.Inner.Building.{listed_of, trees_in}
use Rattle.jxlm_ma_tree.specs.Inner.Queue.{IsErrorInQueue, deepest, taken_up}
use Rattle.jxlm_ma_tree.specs.Tree.{depth}
use Rattle.jxlm_ma_tree.specs.TreeShape.{shape_of}
use Rattle.jxlm_ma_tree.proofs.Queues.{deepest_after, too_deep_in_queue, still_shallow}
use Rattle.jxlm_ma_tree.proofs.build.take_up.Goals as goal
use Rattle.jxlm_ma_tree.proofs.build.take_up.Goals.{in-Leaf, in-Decision+in_ok-tree-in-Decision}

pub returns-in_err-tree-in-Decision-clause-err : goal.returns-in_err-tree-in-Decision-clause-err
returns-in_err-tree-in-Decision-clause-err c =
    let first = rw c.unwrap-right.ensures at c.pop_front.ensures.items in
    let second = rw c.unwrap-left.ensures at c.pop_front-in-Decision.ensures.items in
    let items = first ∙ ap (λ q. c.unwrap-right.result ∷ q) second in
    let fact : IsErrorInQueue c.args.depth_limit (taken_up (listed_of c.args.node) (trees_in c.args.queue.now.items)) (kind_of c.in_err-tree-in-Decision.field-0.0) =
    rw (c.in-Decision.is, items)
    (too_deep_in_queue c.args.depth_limit _ _ (shape_of c.unwrap-right.result.root) (shape_of c.unwrap-left.result.root) (trees_in c.pop_front-in-Decision.new.self.items) _ c.in_err-tree-in-Decision.ensures.err) in
    search rules

pub returns-clause-shallow : goal.returns-clause-shallow
returns-clause-shallow c =
    let queue : deepest (trees_in c.match-node.queue.items) ≤ c.args.depth_limit =
    elim c.match-node.branch [
      | in-Leaf w ↦ rw w.queue-is c.requires.shallow
      | in-Decision+in_ok-tree-in-Decision w ↦
          let first = rw w.unwrap-right.ensures at w.pop_front.ensures.items in
          let second = rw w.unwrap-left.ensures at w.pop_front-in-Decision.ensures.items in
          rw w.queue-is (deepest_after (λ x. shape_of x.root) c.args.depth_limit c.args.queue.now.items _ _ _ (first ∙ ap (λ q. w.unwrap-right.result ∷ q) second) c.requires.shallow)
    ] in
    let subtree : c.match-node.tree.depth ≤ c.args.depth_limit =
    elim c.match-node.branch [
      | in-Leaf w ↦ rw w.tree-is (rw w.leaf-tree.ensures.depth (omega arith))
      | in-Decision+in_ok-tree-in-Decision w ↦ rw w.tree-is w.in_ok-tree-in-Decision.ensures.depth
    ] in
    let within : depth (shape_of c.match-node.tree.root) ≤ c.args.depth_limit = rw c.match-node.tree.depth_is at subtree in
    let pushed : c.push_back.new.self.items ≡ c.match-node.queue.items ++ c.match-node.tree ∷ [] = search rules in
    rw (pushed, map-append) (still_shallow c.args.depth_limit (trees_in c.match-node.queue.items) (shape_of c.match-node.tree.root) queue within)
