use Rattle.std.specs.Global.{Vec}
use Rattle.std.proofs.Common.{to_z, of_z, ◌<◌, Some, List, ℕ, length, slice_index, refl, sym, ap, ◌∙◌, subst, w32, SFits, rules, arith}
use Rattle.std.proofs.lemmas.Int.{to_z-of_z}
use Rattle.std.proofs.lemmas.Option.{slice_get_read}
use Rattle.jxlm_tree.specs.ClusterTables.{in_cluster}
use Rattle.jxlm_tree.specs.Inner.Tables.{LeadTo}
use Rattle.jxlm_tree.specs.declared.flat.FlatNode.TheVariants as node
use Rattle.jxlm_tree.proofs.ClusterTables.{first-node, first-within, lead-first, of_none, of_some, one_table, table-leads}
use Rattle.jxlm_tree.proofs.paths.ClusterTable.of.Goals as goal

pub index-requires : goal.index-requires
index-requires c =
    let l = table-leads c.args.nodes.now c.args.root c.in-Table.property c.in-Table.base c.in-Table.entries c.index-nodes-root.result c.requires.sound c.requires.rooted c.index-nodes-root.is c.in-Table.is in
    let some = l.some in
    let is = c.in-Table.entries.len in
    search rules

pub bounds-nodes-index : goal.bounds-nodes-index
bounds-nodes-index c =
    let l = table-leads c.args.nodes.now c.args.root c.in-Table.property c.in-Table.base c.in-Table.entries c.index-nodes-root.result c.requires.sound c.requires.rooted c.index-nodes-root.is c.in-Table.is in
    first-within c.args.nodes.now c.in-Table.entries.items c.index.result.now l c.index.ensures

pub returns-in_default-nodes : goal.returns-in_default-nodes
returns-in_default-nodes c = λ property base entries l cluster at lead.
    let r = table-leads c.args.nodes.now c.args.root c.in-Table.property c.in-Table.base c.in-Table.entries c.index-nodes-root.result c.requires.sound c.requires.rooted c.index-nodes-root.is c.in-Table.is in
    let same = one_table c.args.nodes.now c.args.root c.in-Table.property property c.in-Table.base base c.in-Table.entries entries c.index-nodes-root.result c.requires.rooted c.index-nodes-root.is c.in-Table.is at in
    let mine : LeadTo c.args.nodes.now c.in-Table.entries.items (length c.in-Table.entries.items) l cluster = subst (λ (es : Vec ℕ). LeadTo c.args.nodes.now es.items (length es.items) l cluster) (sym same) lead in
    let here = first-node c.args.nodes.now c.in-Table.entries.items c.index.result.now c.index-nodes-index.result r c.index.ensures c.index-nodes-index.is in
    let there = mine 0 r.some in
    c.in_default-nodes.not-Leaf (in_cluster (cluster 0) l) cc

pub shared_clusters-requires : goal.shared_clusters-requires
shared_clusters-requires c =
    let r = table-leads c.args.nodes.now c.args.root c.in-Table.property c.in-Table.base c.in-Table.entries c.index-nodes-root.result c.requires.sound c.requires.rooted c.index-nodes-root.is c.in-Table.is in
    record { within = subst (λ (es : List ℕ). (j : ℕ) → j < length es → slice_index es j < length c.args.nodes.now) (sym c.deref.ensures.value) r.within }

pub returns-in_default-2 : goal.returns-in_default-2
returns-in_default-2 c = λ property base entries l cluster at lead.
    let r = table-leads c.args.nodes.now c.args.root c.in-Table.property c.in-Table.base c.in-Table.entries c.index-nodes-root.result c.requires.sound c.requires.rooted c.index-nodes-root.is c.in-Table.is in
    let same = one_table c.args.nodes.now c.args.root c.in-Table.property property c.in-Table.base base c.in-Table.entries entries c.index-nodes-root.result c.requires.rooted c.index-nodes-root.is c.in-Table.is at in
    let mine : LeadTo c.args.nodes.now c.in-Table.entries.items (length c.in-Table.entries.items) l cluster = subst (λ (es : Vec ℕ). LeadTo c.args.nodes.now es.items (length es.items) l cluster) (sym same) lead in
    let here = first-node c.args.nodes.now c.in-Table.entries.items c.index.result.now c.index-nodes-index.result r c.index.ensures c.index-nodes-index.is ∙ ap (λ n. Some n) c.in-Leaf.is in
    let first = lead-first c.args.nodes.now c.in-Table.entries.items (length c.in-Table.entries.items) c.in-Leaf.leaf l cluster r.some here mine in
    of_none c.args.nodes.now c.deref.result.now c.in-Leaf.leaf c.in_ok-clusters.field-0 c.in_default-2.is c.in_ok-clusters.ensures cluster
    (subst (λ (es : List ℕ). LeadTo c.args.nodes.now es (length es) c.in-Leaf.leaf cluster) (sym c.deref.ensures.value) first)

pub invariant_of-result : goal.invariant_of-result
invariant_of-result c =
    let r = table-leads c.args.nodes.now c.args.root c.in-Table.property c.in-Table.base c.in-Table.entries c.index-nodes-root.result c.requires.sound c.requires.rooted c.index-nodes-root.is c.in-Table.is in
    let are = of_some c.args.nodes.now c.deref.result.now c.in-Leaf.leaf c.in_ok-clusters.field-0 c.in-Some.clusters c.in-Some.is c.in_ok-clusters.ensures in
    let n = are.0 ∙ ap length c.deref.ensures.value in
    let some = r.some in
    omega arith

pub returns : goal.returns
returns c =
    let are = of_some c.args.nodes.now c.deref.result.now c.in-Leaf.leaf c.in_ok-clusters.field-0 c.in-Some.clusters c.in-Some.is c.in_ok-clusters.ensures in
    let base : SFits w32 c.in-Table.base = search rules in
    record {
      entries = c.in-Table.entries;
      table = slice_get_read c.args.nodes.now (length c.args.nodes.now) c.args.root c.index-nodes-root.result refl c.requires.rooted c.index-nodes-root.is ∙ ap (λ n. Some n) c.in-Table.is ∙ ap (λ b. Some (node.Table c.in-Table.property b c.in-Table.entries)) (sym (to_z-of_z w32 c.in-Table.base base)) ∙ ap (λ p. Some (node.Table p (to_z w32 (of_z w32 c.in-Table.base)) c.in-Table.entries)) (sym (c.new.ensures ∙ c.number.ensures));
      length_is = are.0 ∙ ap length c.deref.ensures.value;
      leads = subst (λ (es : List ℕ). LeadTo c.args.nodes.now es (length es) c.in-Leaf.leaf (slice_index c.in-Some.clusters.items)) c.deref.ensures.value are.1;
    }
