use Rattle.std.proofs.Common.{◌≡◌, ◌<◌, ◌∙◌, inr, ap, subst, sym, arith}
use Rattle.jxlm_tree.specs.ClusterTables.{in_cluster}
use Rattle.jxlm_tree.specs.Paths.{IsPlainGradient, TakesGradientTable}
use Rattle.jxlm_tree.specs.Tree.{Shape, StandsAtLeaf, leaf, decision, depth}
use Rattle.jxlm_ma_tree.specs.declared.leaf.Leaf.{Leaf}
use Rattle.jxlm_tree.proofs.FlatTrees.{standing_leaf}
use Rattle.jxlm_tree.proofs.MostSteps.{tabular, tabular-leaf}
use Rattle.jxlm_samples.specs.Reading.{IsLone, ReadsAlone}
use Rattle.jxlm_samples.proofs.coding.read_alone.Goals as goal

-- each leaf of a tree that takes such a table is one that reads alone
plain_standing : (t : Shape Leaf) (l : Leaf) → TakesGradientTable t → StandsAtLeaf t l → IsPlainGradient l
plain_standing t l takes stands =
    let h = tabular 9 t takes.0 in
    let agrees : l ≡ in_cluster l.cluster h.leaf = standing_leaf (λ (m : Leaf). m ≡ in_cluster m.cluster h.leaf) t l h.agree stands in
    let plain : IsPlainGradient h.leaf = subst IsPlainGradient (sym (tabular-leaf 9 t takes.0)) takes.1 in
    (ap (λ (m : Leaf). m.predictor) agrees ∙ plain.0, (ap (λ (m : Leaf). m.offset) agrees ∙ plain.1.0, ap (λ (m : Leaf). m.multiplier) agrees ∙ plain.1.1))

-- a tree whose only leaf needs the state is not read alone
walked : (t : Shape Leaf) (l : Leaf) → StandsAtLeaf t l → (ReadsAlone l → ⊥) → IsLone t → ⊥
walked (leaf k) l is reads lone = reads (subst ReadsAlone (sym is) lone)
walked (decision k value left right) l stands reads takes = reads (inr (plain_standing (decision k value left right) l takes stands))

-- nor is one with decisions that no table serves
decided : (t : Shape Leaf) → 0 < depth t → (TakesGradientTable t → ⊥) → IsLone t → ⊥
decided (leaf l) deep takes lone = absurd (omega (arith, deep))
decided (decision k value left right) deep takes lone = takes lone

pub returns-in-Some-2-clause-none : goal.returns-in-Some-2-clause-none
returns-in-Some-2-clause-none c = λ _.
    walked c.args.flat.now.tree c.in-Some.leaf c.in-Some.ensures.some.stands (λ h. let t = c.reads_alone.ensures.1 h in let f = c.if-reads_alone.false in cc)
