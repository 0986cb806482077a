use Rattle.std.proofs.Common.{◌≡◌, None, subst, rules, ◌∙◌, w32, SFits, to_z, of_z}
use Rattle.std.specs.Prelude.{IfSome}
use Rattle.std.proofs.lemmas.Int.{to_z-of_z}
use Rattle.jxlm_tree.specs.FlatTree.{FlatTree}
use Rattle.jxlm_tree.specs.LeafSets.{AreSetsOf}
use Rattle.jxlm_tree.specs.SmallTrees.{TakesSets}
use Rattle.jxlm_tree.proofs.LeafSets.{none-made, sets-made}
use Rattle.jxlm_tree.proofs.flat.FlatMaTree.leaf_sets.Goals as goal

pub returns-clause-sets : goal.returns-clause-sets
returns-clause-sets c =
    let t = c.self.inside in
    let channel_fits : SFits w32 c.read_as_signed.result = search rules in
    let stream_fits : SFits w32 c.read_as_signed-2.result = search rules in
    subst (λ (u : FlatTree). IfSome c.in_ok-of.field-0 (AreSetsOf u)) c.self.view_is
    (sets-made t.tree.value c.deref.result.now c.deref-2.result.now t.channel t.stream_idx t.prev_channels (to_z w32 (of_z w32 c.read_as_signed.result)) (to_z w32 (of_z w32 c.read_as_signed-2.result)) c.in_ok-of.field-0
    c.self.invariant.tree.multipliers c.deref.ensures c.deref-2.ensures (to_z-of_z w32 c.read_as_signed.result channel_fits ∙ c.read_as_signed.ensures) (to_z-of_z w32 c.read_as_signed-2.result stream_fits ∙ c.read_as_signed-2.ensures) c.in_ok-of.ensures.sets)

pub returns-clause-none : goal.returns-clause-none
returns-clause-none c =
    let t = c.self.inside in
    let channel_fits : SFits w32 c.read_as_signed.result = search rules in
    let stream_fits : SFits w32 c.read_as_signed-2.result = search rules in
    subst (λ (u : FlatTree). c.in_ok-of.field-0 ≡ None → TakesSets u → ⊥) c.self.view_is
    (none-made t.tree.value c.deref.result.now c.deref-2.result.now t.channel t.stream_idx t.prev_channels (to_z w32 (of_z w32 c.read_as_signed.result)) (to_z w32 (of_z w32 c.read_as_signed-2.result)) c.in_ok-of.field-0
    c.deref.ensures c.deref-2.ensures (to_z-of_z w32 c.read_as_signed.result channel_fits ∙ c.read_as_signed.ensures) (to_z-of_z w32 c.read_as_signed-2.result stream_fits ∙ c.read_as_signed-2.ensures) c.in_ok-of.ensures.none)
