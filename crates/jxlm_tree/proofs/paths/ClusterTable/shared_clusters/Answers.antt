use Rattle.std.proofs.Common.{◌≡◌, ◌∙◌, ◌+◌, ◌∷◌, ◌++◌, [], ℕ, List, Some, true, false, length, slice_index, sym, ap, subst, arith, rules, below_more}
use Rattle.std.specs.Prelude.{slice_get}
use Rattle.std.proofs.lemmas.List.{get_or_append_left, length-append}
use Rattle.std.proofs.Math.Seq.{get_or-append_seam}
use Rattle.jxlm_tree.specs.ClusterTables.{in_cluster}
use Rattle.jxlm_tree.specs.Inner.Tables.{LeadTo}
use Rattle.jxlm_ma_tree.specs.declared.leaf.Leaf.{Leaf}
use Rattle.jxlm_tree.specs.declared.flat.FlatNode.{FlatNode}
use Rattle.jxlm_tree.specs.declared.flat.FlatNode.TheVariants as node
use Rattle.jxlm_tree.proofs.ClusterTables.{entry-node}
use Rattle.jxlm_tree.proofs.paths.ClusterTable.shared_clusters.Goals as goal
use Rattle.jxlm_tree.proofs.paths.ClusterTable.shared_clusters.Goals.{in_default-via-in-Leaf+else-agree, in_default-via-in_default}

-- one entry more leads to the leaf, in the cluster that came last
lead-more : (nodes : List FlatNode) (entries clusters more : List ℕ) (n : ℕ) (l first : Leaf) → length clusters ≡ n → more ≡ clusters ++ l.cluster ∷ [] → slice_get nodes (slice_index entries n) ≡ Some (node.Leaf l) →
    l ≡ in_cluster l.cluster first → LeadTo nodes entries n first (slice_index clusters) → LeadTo nodes entries (n + 1) first (slice_index more)
lead-more nodes entries clusters more n l first count pushed at_l agrees lead =
    let last : slice_index more n ≡ l.cluster = ap (λ xs. slice_index xs n) pushed ∙ ap (slice_index (clusters ++ l.cluster ∷ [])) (sym count) ∙ get_or-append_seam clusters l.cluster [] 0 in
    below_more (λ j. slice_get nodes (slice_index entries j) ≡ Some (node.Leaf (in_cluster (slice_index more j) first))) n
    (λ j below.
    let kept : slice_index more j ≡ slice_index clusters j = ap (λ xs. slice_index xs j) pushed ∙ get_or_append_left clusters (l.cluster ∷ []) 0 j (omega (arith, below, count)) in
    lead j below ∙ ap (λ k. Some (node.Leaf (in_cluster k first))) (sym kept))
    (at_l ∙ ap (λ (m : Leaf). Some (node.Leaf m)) agrees ∙ ap (λ k. Some (node.Leaf (in_cluster k first))) (sym last))

pub loop-place-preserved : goal.loop-place-preserved
loop-place-preserved c =
    let l = c.loop-place in
    let pushed : c.push.new.self.items ≡ l.clusters.items ++ c.in-Leaf.leaf.cluster ∷ [] = search rules in
    let node_is = entry-node c.args.nodes.now c.args.entries.now l.place-index c.index-nodes-place.result c.loop-place-test.true c.requires.within c.index-nodes-place.is ∙ ap (λ n. Some n) c.in-Leaf.is in
    let agrees = c.agree.ensures.0 c.if-agree.true in
    record {
      count = ap length pushed ∙ length-append l.clusters.items (c.in-Leaf.leaf.cluster ∷ []) ∙ ap (λ n. n + 1) l.invariant.count;
      lead = lead-more c.args.nodes.now c.args.entries.now l.clusters.items c.push.new.self.items l.place-index c.in-Leaf.leaf c.args.first.now l.invariant.count pushed node_is agrees l.invariant.lead;
    }

pub returns-in_default : goal.returns-in_default
returns-in_default c = λ cluster lead.
    let l = c.loop-place in
    let here = entry-node c.args.nodes.now c.args.entries.now l.place-index c.index-nodes-place.result c.loop-place-test.true c.requires.within c.index-nodes-place.is in
    let there = lead l.place-index c.loop-place-test.true in
    let is : c.index-nodes-place.result ≡ node.Leaf (in_cluster (cluster l.place-index) c.args.first.now) = cc in
    elim c.in_default.branch [
      | in_default-via-in-Leaf+else-agree w ↦
          let leaf_is : w.in-Leaf.leaf ≡ in_cluster (cluster l.place-index) c.args.first.now = cc in
          let same = w.agree.ensures.1 (leaf_is ∙ ap (λ k. in_cluster k c.args.first.now) (sym (ap (λ (m : Leaf). m.cluster) leaf_is))) in
          let no : true ≡ false = sym same ∙ w.if-agree.false in
          cc
      | in_default-via-in_default w ↦ w.in_default.not-Leaf (in_cluster (cluster l.place-index) c.args.first.now) is
    ]

pub returns : goal.returns
returns c =
    let l = c.loop-place in
    let end : l.place-index ≡ length c.args.entries.now = omega arith in
    subst (λ n. (length l.clusters.items ≡ n) × LeadTo c.args.nodes.now c.args.entries.now n c.args.first.now (slice_index l.clusters.items)) end (l.invariant.count, l.invariant.lead)
