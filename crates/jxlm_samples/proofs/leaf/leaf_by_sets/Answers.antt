-- The properties that are looked up are those of the cell.
use Rattle.std.proofs.Common.{ℕ, ℤ, arith}
use Rattle.jxlm_base.specs.Regions.{store_meanings}
use Rattle.jxlm_predictor.specs.Holding.{store_of, surroundings}
use Rattle.jxlm_predictor.specs.Properties.{place_property}
use Rattle.jxlm_samples.proofs.leaf.leaf_by_sets.Goals as goal

pub returns : goal.returns
returns g c = λ t are. record {
  leaf = λ s samples stands.
      let f : ℕ → ℤ = place_property (surroundings s (store_meanings g.S.Sealed.to_int (store_of c.args.properties.now)) samples) in
      c.leaf_by.ensures.leaf t f are (λ k few. c.own-own.ensures s samples k stands few);
  stands = c.leaf_by.ensures.stands t are;
  multiplier = c.leaf_by.ensures.multiplier t are;
  cost = let h = c.leaf_by.ensures.cost t are in omega (arith, h);
  more = c.leaf_by.ensures.more;
}
