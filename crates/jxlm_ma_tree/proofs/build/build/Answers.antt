use Rattle.std.proofs.Common.{◌≡◌, ◌∷◌, [], length, map, sym, ap, ◌∙◌, arith, rules}
use Rattle.std.proofs.lemmas.List.{length-map, map-append}
use Rattle.jxlm_bits.specs.ErrorKind.{kind_of}
use Rattle.jxlm_ma_tree.specs.Inner.Building.{listed_of, trees_in}
use Rattle.jxlm_ma_tree.specs.Inner.DraftReading.{node_of}
use Rattle.jxlm_ma_tree.specs.Tree.{levels, node_count}
use Rattle.jxlm_ma_tree.specs.TreeReading.{with_clusters}
use Rattle.jxlm_ma_tree.specs.TreeShape.{shape_of}
use Rattle.jxlm_ma_tree.specs.declared.tree.MaTree.{MaTree}
use Rattle.jxlm_ma_tree.proofs.Reading.{tree_of_listing}
use Rattle.jxlm_ma_tree.proofs.Shapes.{count_is, fewer_left, is_taken_up, leaves_are, place_is, some_left, split_at, too_deep_in_tree, whole_taken}
use Rattle.jxlm_ma_tree.proofs.build.build.Goals as goal

pub numbered-node-requires-clause-some : goal.numbered-node-requires-clause-some
numbered-node-requires-clause-some c =
    let last = ap (map node_of) c.in-Some.ensures.items ∙ map-append node_of c.pop.new.self.items (c.in-Some.node ∷ []) in
    some_left (map node_of c.loop-node.nodes.items) (map node_of c.pop.new.self.items) (node_of c.in-Some.node) c.loop-node.unnumbered last c.loop-node.invariant.numbered

pub numbered-node-requires-clause-within : goal.numbered-node-requires-clause-within
numbered-node-requires-clause-within c =
    let i = c.loop-node.invariant in
    fewer_left (map node_of c.args.nodes.items) (map node_of c.loop-node.nodes.items) i.rest c.args.clusters.now c.loop-node.unnumbered i.whole i.numbered c.requires.clusters

pub take_up-requires-clause-enough : goal.take_up-requires-clause-enough
take_up-requires-clause-enough c =
    let i = c.loop-node.invariant in
    let n = node_of c.in-Some.node in
    let front = map node_of c.pop.new.self.items in
    let last = ap (map node_of) c.in-Some.ensures.items ∙ map-append node_of c.pop.new.self.items (c.in-Some.node ∷ []) in
    let t = tree_of_listing c.args.clusters.now (map node_of c.args.nodes.items) c.requires.listing in
    let place = place_is (map node_of c.loop-node.nodes.items) front n c.loop-node.unnumbered c.numbered-node.new.unnumbered last i.numbered c.numbered-node.ensures.left in
    let step = is_taken_up c.args.clusters.now t.0 (map node_of c.args.nodes.items) front i.rest n (listed_of c.numbered-node.result) c.loop-node.unnumbered (trees_in c.loop-node.queue.items) t.1
    (split_at (map node_of c.args.nodes.items) (map node_of c.loop-node.nodes.items) front i.rest n i.whole last) (rw (← place) (c.numbered-node.ensures.node i.rest)) i.taken in
    rw step.taken (search rules)

pub loop-node-preserved : goal.loop-node-preserved
loop-node-preserved c =
    let i = c.loop-node.invariant in
    let n = node_of c.in-Some.node in
    let front = map node_of c.pop.new.self.items in
    let last = ap (map node_of) c.in-Some.ensures.items ∙ map-append node_of c.pop.new.self.items (c.in-Some.node ∷ []) in
    let t = tree_of_listing c.args.clusters.now (map node_of c.args.nodes.items) c.requires.listing in
    let place = place_is (map node_of c.loop-node.nodes.items) front n c.loop-node.unnumbered c.numbered-node.new.unnumbered last i.numbered c.numbered-node.ensures.left in
    let split = split_at (map node_of c.args.nodes.items) (map node_of c.loop-node.nodes.items) front i.rest n i.whole last in
    let step = is_taken_up c.args.clusters.now t.0 (map node_of c.args.nodes.items) front i.rest n (listed_of c.numbered-node.result) c.loop-node.unnumbered (trees_in c.loop-node.queue.items) t.1
    split (rw (← place) (c.numbered-node.ensures.node i.rest)) i.taken in
    record {
      rest = n ∷ i.rest;
      whole = split;
      numbered = place;
      taken = rw place (step.stands ∙ sym step.taken ∙ c.in_ok-take_up.ensures.queue);
      shallow = c.in_ok-take_up.ensures.shallow;
    }

pub returns-in_err-take_up-clause-err : goal.returns-in_err-take_up-clause-err
returns-in_err-take_up-clause-err c =
    let i = c.loop-node.invariant in
    let n = node_of c.in-Some.node in
    let front = map node_of c.pop.new.self.items in
    let last = ap (map node_of) c.in-Some.ensures.items ∙ map-append node_of c.pop.new.self.items (c.in-Some.node ∷ []) in
    let t = tree_of_listing c.args.clusters.now (map node_of c.args.nodes.items) c.requires.listing in
    let place = place_is (map node_of c.loop-node.nodes.items) front n c.loop-node.unnumbered c.numbered-node.new.unnumbered last i.numbered c.numbered-node.ensures.left in
    let split = split_at (map node_of c.args.nodes.items) (map node_of c.loop-node.nodes.items) front i.rest n i.whole last in
    let step = is_taken_up c.args.clusters.now t.0 (map node_of c.args.nodes.items) front i.rest n (listed_of c.numbered-node.result) c.loop-node.unnumbered (trees_in c.loop-node.queue.items) t.1
    split (rw (← place) (c.numbered-node.ensures.node i.rest)) i.taken in
    let fact = too_deep_in_tree c.args.clusters.now c.args.depth_limit t.0 (with_clusters c.args.clusters.now 0 (map node_of c.args.nodes.items)) _ step.queue (kind_of c.in_err-take_up.field-0.0) t.1 step.taken step.shallow
    c.in_err-take_up.ensures.err in
    search rules

pub unwrap-requires : goal.unwrap-requires
unwrap-requires c =
    let i = c.loop-node.invariant in
    let t = tree_of_listing c.args.clusters.now (map node_of c.args.nodes.items) c.requires.listing in
    let trees = whole_taken node_of c.args.clusters.now t.0 (map node_of c.args.nodes.items) c.loop-node.nodes.items i.rest c.loop-node.unnumbered (trees_in c.loop-node.queue.items) t.1
    (λ h. c.in_default.ensures.variant.1 (rw c.loop-node.nodes.ok.0 h)) i.whole i.numbered i.taken in
    let one = ap length trees in
    c.pop_front.ensures.variant.1 (rw c.loop-node.queue.ok.0 (omega (arith, one, length-map c.loop-node.queue.items (λ (x : MaTree). shape_of x.root))))

pub returns-clause-levels : goal.returns-clause-levels
returns-clause-levels c =
    let i = c.loop-node.invariant in
    let t = tree_of_listing c.args.clusters.now (map node_of c.args.nodes.items) c.requires.listing in
    let trees = whole_taken node_of c.args.clusters.now t.0 (map node_of c.args.nodes.items) c.loop-node.nodes.items i.rest c.loop-node.unnumbered (trees_in c.loop-node.queue.items) t.1
    (λ h. c.in_default.ensures.variant.1 (rw c.loop-node.nodes.ok.0 h)) i.whole i.numbered i.taken in
    let is : shape_of c.unwrap.result.root ≡ t.0 = cc (trees, ap trees_in (rw c.unwrap.ensures at c.pop_front.ensures.items)) in
    ap levels is ∙ t.1

pub returns-clause-count : goal.returns-clause-count
returns-clause-count c =
    let i = c.loop-node.invariant in
    let t = tree_of_listing c.args.clusters.now (map node_of c.args.nodes.items) c.requires.listing in
    let trees = whole_taken node_of c.args.clusters.now t.0 (map node_of c.args.nodes.items) c.loop-node.nodes.items i.rest c.loop-node.unnumbered (trees_in c.loop-node.queue.items) t.1
    (λ h. c.in_default.ensures.variant.1 (rw c.loop-node.nodes.ok.0 h)) i.whole i.numbered i.taken in
    let is : shape_of c.unwrap.result.root ≡ t.0 = cc (trees, ap trees_in (rw c.unwrap.ensures at c.pop_front.ensures.items)) in
    ap node_count is ∙ count_is c.args.clusters.now t.0 (map node_of c.args.nodes.items) t.1 ∙ length-map c.args.nodes.items node_of

pub returns-clause-leaves : goal.returns-clause-leaves
returns-clause-leaves c =
    let i = c.loop-node.invariant in
    let t = tree_of_listing c.args.clusters.now (map node_of c.args.nodes.items) c.requires.listing in
    let trees = whole_taken node_of c.args.clusters.now t.0 (map node_of c.args.nodes.items) c.loop-node.nodes.items i.rest c.loop-node.unnumbered (trees_in c.loop-node.queue.items) t.1
    (λ h. c.in_default.ensures.variant.1 (rw c.loop-node.nodes.ok.0 h)) i.whole i.numbered i.taken in
    let is : shape_of c.unwrap.result.root ≡ t.0 = cc (trees, ap trees_in (rw c.unwrap.ensures at c.pop_front.ensures.items)) in
    rw is (leaves_are c.args.clusters.now t.0 (map node_of c.args.nodes.items) t.1 (omega (arith, c.requires.clusters)) c.requires.drafts)
