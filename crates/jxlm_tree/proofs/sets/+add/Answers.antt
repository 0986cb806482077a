use Rattle.std.proofs.Common.{◌≡◌, ◌∙◌, ◌+◌, length, rules, ap, ap₂, sym, SFits, w32, to_z, of_z}
use Rattle.std.proofs.lemmas.Int.{to_z-of_z}
use Rattle.std.proofs.lemmas.List.{length-append}
use Rattle.jxlm_ma_tree.specs.Tree.{decision}
use Rattle.jxlm_tree.specs.Inner.LeafSets.{leaves_of}
use Rattle.jxlm_ma_tree.specs.Pruned.{pruned}
use Rattle.jxlm_ma_tree.specs.TreeShape.{shape_of}
use Rattle.jxlm_ma_tree.specs.declared.tree.MaTreeNode.{MaTreeNode}
use Rattle.jxlm_tree.proofs.LeafSets.{add-both, here-is, room-left}
use Rattle.jxlm_tree.proofs.sets.+add.Goals as goal

pub rule_out-requires-clause-few : goal.rule_out-requires-clause-few
rule_out-requires-clause-few t c =
    let pins = c.args.known.now in
    let p = c.in-Decision.property in
    let v = c.in-Decision.value in
    let a = shape_of c.deref.result.now in
    let b = shape_of c.in-Decision.right.value in
    let l = c.args.leaves.now.items in
    let at : c.len.result ≡ length l + length (leaves_of (pruned pins a)) = c.len.ensures ∙ c.add.new.leaves.ok.0 ∙ ap length c.in_ok-add-in-None.ensures.leaves ∙ length-append l (leaves_of (pruned pins a)) in
    let is : shape_of c.args.tree.now ≡ decision p v a b = ap shape_of c.in-Decision.is ∙ ap (λ (u : MaTreeNode). decision p v (shape_of u) b) (sym c.deref.ensures) in
    room-left pins p v a b (shape_of c.args.tree.now) (length l) c.len.result is (sym c.known_value.ensures ∙ c.in-None.is) at c.requires.few

pub returns-in_ok-add-in-None-2-clause-stays : goal.returns-in_ok-add-in-None-2-clause-stays
returns-in_ok-add-in-None-2-clause-stays t c = λ f i few.
    let pins = c.args.known.now in
    let p = c.in-Decision.property in
    let v = c.in-Decision.value in
    let a = shape_of c.deref.result.now in
    let b = shape_of c.deref-in-None.result.now in
    let l = c.args.leaves.now.items in
    let fits : SFits w32 v = search rules in
    let at : length c.add.new.leaves.items ≡ length l + length (leaves_of (pruned pins a)) = ap length c.in_ok-add-in-None.ensures.leaves ∙ length-append l (leaves_of (pruned pins a)) in
    let is : shape_of c.args.tree.now ≡ decision p v a b = ap shape_of c.in-Decision.is ∙ ap₂ (λ (u w : MaTreeNode). decision p v (shape_of u) (shape_of w)) (sym c.deref.ensures) (sym c.deref-in-None.ensures) in
    let here = here-is v (to_z w32 (of_z w32 v)) (f p) c.len-first.result c.len.result (length l) (length c.add.new.leaves.items) i _ _ (to_z-of_z w32 v fits) (c.len-first.ensures ∙ c.args.leaves.now.ok.0) (c.len.ensures ∙ c.add.new.leaves.ok.0) (c.rule_out.ensures f i few) in
    add-both pins p v a b (shape_of c.args.tree.now) f i (length l) (length c.add.new.leaves.items) _ _ _ _ is (sym c.known_value.ensures ∙ c.in-None.is) at (c.in_ok-add-in-None.ensures.stays f i few) here (c.in_ok-add-in-None-2.ensures.stays f i few)
