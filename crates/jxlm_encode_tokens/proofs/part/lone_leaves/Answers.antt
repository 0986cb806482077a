use Rattle.std.proofs.Common.{refl, sym, subst, ◌∙◌}
use Rattle.jxlm_samples.specs.Reading.{LeadsAlone}
use Rattle.jxlm_tree.specs.Paths.{IsGradientTable}
use Rattle.jxlm_encode_tokens.proofs.LeafRows.{lone_of_leaf, lone_of_table}
use Rattle.jxlm_encode_tokens.proofs.part.lone_leaves.Goals as goal

pub returns-in-Leaf : goal.returns-in-Leaf
returns-in-Leaf g c t leads ones = lone_of_leaf g.T.TokenForm.form.clustered t _ (subst (LeadsAlone t) c.in-Leaf.is leads) ones

pub returns-in-Table : goal.returns-in-Table
returns-in-Table g c t leads ones = subst (IsGradientTable t) (sym c.deref.ensures) (subst (LeadsAlone t) c.in-Table.is leads)

pub returns-in-Table-2 : goal.returns-in-Table-2
returns-in-Table-2 g c t leads ones =
    lone_of_table g.T.TokenForm.form.clustered t _ _ (sym c.has_cluster.ensures ∙ c.if-has_cluster.false) (subst (LeadsAlone t) c.in-Table-2.is leads) refl refl refl
