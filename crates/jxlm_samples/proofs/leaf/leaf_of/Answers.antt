use Rattle.std.proofs.Common.{true, arith, rules, subst, ◌∙◌, FitsSigned, w32}
use Rattle.std.proofs.lemmas.Int.{to_z-of_z}
use Rattle.jxlm_base.specs.Regions.{store_meanings}
use Rattle.jxlm_tree.specs.Paths.{Gives}
use Rattle.jxlm_predictor.specs.Holding.{store_of, surroundings}
use Rattle.jxlm_predictor.specs.Properties.{place_property}
use Rattle.jxlm_samples.specs.Part.{place_by}
use Rattle.jxlm_samples.proofs.leaf.leaf_of.Goals as goal

pub returns-then-clamped : goal.returns-then-clamped
returns-then-clamped g c =
    let fits : FitsSigned w32 c.clamped_sum.result = search rules in
    let found = rw (to_z-of_z w32 c.clamped_sum.result fits) at c.leaf_by_number.ensures in
    rw c.if-clamped.true (record {
      leaf = λ s samples stands.
          found.leaf ∙ c.requires.sums c.if-clamped.true (λ k. c.clamped_sum.result) (place_by true (surroundings s (store_meanings g.S.Sealed.to_int (store_of c.args.properties.now)) samples)) (c.clamped_sum.ensures s samples stands);
      stands = found.stands;
      multiplier = found.multiplier;
      cost = found.cost;
      more = found.more;
    })

pub returns-in-Clusters : goal.returns-in-Clusters
returns-in-Clusters g c =
    let gives = subst (Gives c.args.flat.now) c.in-Clusters.is c.requires.gives in
    let cost = c.leaf_by.ensures.cost in
    rw c.if-clamped.false (record {
      leaf = λ s samples stands.
          c.leaf_by.ensures.leaf c.args.flat.now (place_property (surroundings s (store_meanings g.S.Sealed.to_int (store_of c.args.properties.now)) samples)) gives (λ k v gives. gives s samples stands);
      stands = c.leaf_by.ensures.stands c.args.flat.now gives;
      multiplier = c.leaf_by.ensures.multiplier c.args.flat.now gives;
      cost = rw c.in-Clusters.is (omega (arith, cost));
      more = omega (arith, cost);
    })
