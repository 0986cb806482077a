use Rattle.std.proofs.Common.{◌∙◌, ap, rules, SFits, w32}
use Rattle.std.specs.Prelude.{neg_ℤ, pos}
use Rattle.std.proofs.lemmas.Int.{to_z-of_z}
use Rattle.jxlm_tree.specs.ClusterTables.{slot}
use Rattle.jxlm_tree.proofs.LeafSets.{ruled-tables}
use Rattle.jxlm_tree.proofs.sets.rule_out.Goals as goal

pub returns : goal.returns
returns c = λ f i few.
    let fits : SFits w32 c.args.value = search rules in
    ruled-tables c.args.sets.now c.take_out.new.sets c.leaves_between-leaves.result c.args.first c.args.end _ c.entry_of-last.result c.args.property c.args.value f i c.requires.range c.requires.table c.requires.sized
    (search rules) (c.entry_of-last.ensures ∙ ap (slot (neg_ℤ (pos 1024)) 2047) (to_z-of_z w32 c.args.value fits)) few c.take_out.ensures (c.leaves_between-leaves.ensures i)
