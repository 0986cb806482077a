use Rattle.std.proofs.Common.{◌≡◌, ◌∙◌, ℤ, sym, ap, subst, w32, SFits, rules, arith}
use Rattle.std.proofs.lemmas.Int.{ints, to_z-of_z}
use Rattle.jxlm_tree.specs.ClusterTables.{Clusters, IsTableOf, clusters_of, table_leaf}
use Rattle.jxlm_ma_tree.specs.Tree.{StandsAtLeaf}
use Rattle.jxlm_tree.proofs.ClusterTables.{looked_up, table-reaches}
use Rattle.jxlm_tree.proofs.paths.ClusterTable.leaf_by.Goals as goal

pub returns-clause-leaf : goal.returns-clause-leaf
returns-clause-leaf g c = λ t f of are.
    let x : ℤ = c.property-value.result in
    let s = c.self.inside in
    let table : Clusters = clusters_of s.property s.base s.clusters.items s.leaf in
    let view : table ≡ c.args.self.now = c.self.view_is in
    let value : SFits w32 x = search rules in
    let offset : SFits w32 s.leaf.offset = search rules in
    looked_up table x c.cluster.result _ (c.cluster.ensures.cluster ∙ ap (λ z. (table_leaf c.args.self.now z).cluster) (to_z-of_z w32 x value) ∙ ap (λ u. (table_leaf u x).cluster) (sym view)) (to_z-of_z w32 s.leaf.offset offset)
    ∙ table-reaches t table x f (subst (IsTableOf t) (sym view) of) (record { low = λ k. omega (arith, ints); high = λ k. omega (arith, ints) }) (are s.property x c.property-value.ensures)

pub returns-clause-stands : goal.returns-clause-stands
returns-clause-stands g c = λ t of.
    let x : ℤ = c.property-value.result in
    let s = c.self.inside in
    let table : Clusters = clusters_of s.property s.base s.clusters.items s.leaf in
    let view : table ≡ c.args.self.now = c.self.view_is in
    let value : SFits w32 x = search rules in
    let offset : SFits w32 s.leaf.offset = search rules in
    subst (StandsAtLeaf t.tree) (sym (looked_up table x c.cluster.result _ (c.cluster.ensures.cluster ∙ ap (λ z. (table_leaf c.args.self.now z).cluster) (to_z-of_z w32 x value) ∙ ap (λ u. (table_leaf u x).cluster) (sym view)) (to_z-of_z w32 s.leaf.offset offset)))
    ((subst (IsTableOf t) (sym view) of).stands x (record { low = λ k. omega (arith, ints); high = λ k. omega (arith, ints) }))

pub returns-clause-multiplier : goal.returns-clause-multiplier
returns-clause-multiplier g c = λ t of.
    let s = c.self.inside in
    let view : clusters_of s.property s.base s.clusters.items s.leaf ≡ c.args.self.now = c.self.view_is in
    (subst (IsTableOf t) (sym view) of).multiplier
