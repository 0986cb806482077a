use Rattle.std.proofs.Common.{◌≡◌, ◌∙◌, ◌++◌, ℕ, ◌-◌, List, length, take, drop, arith, ap, ap₂}
use Rattle.std.specs.Prelude.{◌&&◌, Bool, not}
use Rattle.std.proofs.lemmas.List.{length-replicate}
use Rattle.jxlm_tree.specs.Inner.LeafSets.{leaves_of, rules_out}
use Rattle.jxlm_ma_tree.specs.Pruned.{pruned}
use Rattle.jxlm_ma_tree.specs.TreeShape.{shape_of}
use Rattle.jxlm_tree.specs.SetTables.{stays}
use Rattle.jxlm_ma_tree.specs.declared.leaf.Leaf.{Leaf}
use Rattle.jxlm_tree.proofs.LeafBits.{stays-of-all, written-back}
use Rattle.jxlm_tree.proofs.LeafSets.{are-made, last-stays, some-leaves}
use Rattle.jxlm_tree.proofs.leaf_sets.LeafSets.of.Goals as goal

pub invariant_of-result : goal.invariant_of-result
invariant_of-result c =
    let t = pruned c.args.known.now (shape_of c.args.tree.now) in
    let vec = c.in_ok-sets.sets in
    let whole = c.in_ok-sets.ensures.items_if_clones_equal (λ y is. is) in
    let none = c.new-leaves.ensures.items in
    let count = c.count_leaves-count.ensures in
    let upto = c.if-count-gt-MOST_LEAVES.false in
    let same = c.deref_mut.ensures.value in
    let long : length c.add.new.sets ≡ length vec.items = c.add.auto.sets ∙ ap length same in
    let back : take vec.len (c.add.new.sets ++ drop (length c.add.new.sets) vec.items) ≡ c.add.new.sets = written-back vec.items c.add.new.sets vec.len vec.ok.0 long in
    let all : c.add.new.leaves.items ≡ leaves_of t = c.in_ok-add.ensures.leaves ∙ ap (λ (xs : List Leaf). xs ++ leaves_of t) none in
    let n = ap (λ (xs : List Leaf). length xs) all in
    let some = some-leaves t in
    record {
      sized = ap length back ∙ long ∙ ap length whole ∙ length-replicate {A = ℕ} 14336 18446744073709551615;
      some = omega (arith, n, some);
      few = omega (arith, n, count, upto);
      last = λ f. ap (λ (xs : List ℕ). stays xs f (length c.add.new.leaves.items - 1)) back ∙ last-stays c.add.new.sets t f c.add.new.leaves.items all (omega (arith, n, count, upto))
          (λ i less. c.in_ok-add.ensures.stays f i less
          ∙ ap₂ (λ (b : Bool) (ys : List Leaf). b && not (rules_out (length ys) t f i)) (ap (λ (xs : List ℕ). stays xs f i) same ∙ stays-of-all vec.items f i whole less) none);
    }

pub returns-clause-sets : goal.returns-clause-sets
returns-clause-sets c =
    let t = pruned c.args.known.now (shape_of c.args.tree.now) in
    let vec = c.in_ok-sets.sets in
    let whole = c.in_ok-sets.ensures.items_if_clones_equal (λ y is. is) in
    let count = c.count_leaves-count.ensures in
    let upto = c.if-count-gt-MOST_LEAVES.false in
    let same = c.deref_mut.ensures.value in
    let long : length c.add.new.sets ≡ length vec.items = c.add.auto.sets ∙ ap length same in
    let back : take vec.len (c.add.new.sets ++ drop (length c.add.new.sets) vec.items) ≡ c.add.new.sets = written-back vec.items c.add.new.sets vec.len vec.ok.0 long in
    let deep = c.if-deep-lt-TABLES.false in
    are-made t c.args.deep _ c.deref_mut.result.now c.new-leaves.result.items (λ f i less. ap (λ (xs : List ℕ). stays xs f i) same ∙ stays-of-all vec.items f i whole less) c.new-leaves.ensures.items
    c.in_ok-add.ensures.leaves (omega (arith, count, upto)) (λ f i less. ap (λ (xs : List ℕ). stays xs f i) back ∙ c.in_ok-add.ensures.stays f i less) (omega (arith, deep))
