use Rattle.std.proofs.Common.{arith, rules, subst, ◌∙◌, FitsSigned, w32}
use Rattle.std.proofs.lemmas.Int.{to_z-of_z}
use Rattle.jxlm_tree.specs.Paths.{Gives}
use Rattle.jxlm_samples.proofs.leaf.leaf_by_number.Goals as goal

pub returns-in-Clusters : goal.returns-in-Clusters
returns-in-Clusters c =
    let gives = subst (Gives c.args.flat.now) c.in-Clusters.is c.requires in
    let fits : FitsSigned w32 c.args.number = search rules in
    let cost = c.leaf_by.ensures.cost in
    record {
      leaf = c.leaf_by.ensures.leaf c.args.flat.now (λ k. c.args.number) gives (λ k v gives. gives ∙ to_z-of_z w32 c.args.number fits);
      stands = c.leaf_by.ensures.stands c.args.flat.now gives;
      multiplier = c.leaf_by.ensures.multiplier c.args.flat.now gives;
      cost = rw c.in-Clusters.is (omega (arith, cost));
      more = omega (arith, cost);
    }
