use Rattle.std.proofs.Common.{◌≡◌, ℕ, ℤ, ◌*◌, ◌<◌, ◌≤◌, ◌^◌, ◌-◌, ◌/◌, pos, ◌*ℤ◌, unsigned_abs, ◌∙◌, refl, arith, to_z, of_z}
use Rattle.std.specs.Int.{w64}
use Rattle.std.specs.Prelude.{sum}
use Rattle.jxlm_weighted.specs.Correcting.{counts_of}
use Rattle.jxlm_weighted.specs.declared.self_correcting.Counts.{Counts}
use Rattle.jxlm_weighted.proofs.Ranges.{weighted}
use Rattle.jxlm_weighted.proofs.Sums.{IsNear, natural_near, scaled_is, scaled_near, sum_fits, sum_near}
use Rattle.jxlm_weighted.proofs.self_correcting.SubPredictions.sum.Goals as goal

-- a sub-prediction times its weight
module _ (v r : ℤ) (below : unsigned_abs v < 2 ^ 37) where
  near : unsigned_abs v ≤ 2 ^ 37
  near = omega (arith, below)

  part : unsigned_abs r ≤ 31 * unsigned_abs (to_z w64 (of_z w64 v)) → IsNear (to_z w64 (of_z w64 r)) r (31 * 2 ^ 37)
  part bound = scaled_near v r (2 ^ 37) near (omega arith) bound

  part_is : (weight : ℕ) → r ≡ to_z w64 (of_z w64 v) *ℤ pos weight → r ≡ v *ℤ pos weight
  part_is weight value = scaled_is v r (2 ^ 37) near (omega arith) weight value

-- half the sum of the weights, less 1
half : (weights : Counts) (n : ℕ) → n ≡ sum (counts_of weights) → sum (counts_of weights) ≤ 31 → IsNear (to_z w64 (n / 2 - 1)) (pos (n / 2 - 1)) 31
half weights n same most = natural_near (n / 2 - 1) 31 (omega (arith, same, most)) (omega arith)

pub overflow_add-result : goal.overflow_add-result
overflow_add-result c =
    let h = half c.args.weights.now c.total.result c.total.ensures c.requires.greatest in
    let t0 = part c.args.self.now.s0 c.scaled.result c.args.self.now.below0 c.scaled.ensures.bound in
    sum_fits _ _ _ _ _ _ h t0 (omega arith)

pub overflow_add-result-2 : goal.overflow_add-result-2
overflow_add-result-2 c =
    let h = half c.args.weights.now c.total.result c.total.ensures c.requires.greatest in
    let t0 = part c.args.self.now.s0 c.scaled.result c.args.self.now.below0 c.scaled.ensures.bound in
    let t1 = part c.args.self.now.s1 c.scaled-2.result c.args.self.now.below1 c.scaled-2.ensures.bound in
    sum_fits _ _ _ _ _ _ (sum_near _ _ _ _ _ _ h t0 (omega arith)) t1 (omega arith)

pub overflow_add-result-3 : goal.overflow_add-result-3
overflow_add-result-3 c =
    let h = half c.args.weights.now c.total.result c.total.ensures c.requires.greatest in
    let t0 = part c.args.self.now.s0 c.scaled.result c.args.self.now.below0 c.scaled.ensures.bound in
    let t1 = part c.args.self.now.s1 c.scaled-2.result c.args.self.now.below1 c.scaled-2.ensures.bound in
    let t2 = part c.args.self.now.s2 c.scaled-3.result c.args.self.now.below2 c.scaled-3.ensures.bound in
    sum_fits _ _ _ _ _ _ (sum_near _ _ _ _ _ _ (sum_near _ _ _ _ _ _ h t0 (omega arith)) t1 (omega arith)) t2 (omega arith)

pub overflow_add-result-4 : goal.overflow_add-result-4
overflow_add-result-4 c =
    let h = half c.args.weights.now c.total.result c.total.ensures c.requires.greatest in
    let t0 = part c.args.self.now.s0 c.scaled.result c.args.self.now.below0 c.scaled.ensures.bound in
    let t1 = part c.args.self.now.s1 c.scaled-2.result c.args.self.now.below1 c.scaled-2.ensures.bound in
    let t2 = part c.args.self.now.s2 c.scaled-3.result c.args.self.now.below2 c.scaled-3.ensures.bound in
    let t3 = part c.args.self.now.s3 c.scaled-4.result c.args.self.now.below3 c.scaled-4.ensures.bound in
    sum_fits _ _ _ _ _ _ (sum_near _ _ _ _ _ _ (sum_near _ _ _ _ _ _ (sum_near _ _ _ _ _ _ h t0 (omega arith)) t1 (omega arith)) t2 (omega arith)) t3 (omega arith)

pub returns-clause-value : goal.returns-clause-value
returns-clause-value c =
    let h = half c.args.weights.now c.total.result c.total.ensures c.requires.greatest in
    let t0 = part c.args.self.now.s0 c.scaled.result c.args.self.now.below0 c.scaled.ensures.bound in
    let t1 = part c.args.self.now.s1 c.scaled-2.result c.args.self.now.below1 c.scaled-2.ensures.bound in
    let t2 = part c.args.self.now.s2 c.scaled-3.result c.args.self.now.below2 c.scaled-3.ensures.bound in
    let t3 = part c.args.self.now.s3 c.scaled-4.result c.args.self.now.below3 c.scaled-4.ensures.bound in
    let s = (sum_near _ _ _ _ _ _ (sum_near _ _ _ _ _ _ (sum_near _ _ _ _ _ _ (sum_near _ _ _ _ _ _ h t0 (omega arith)) t1 (omega arith)) t2 (omega arith)) t3 (omega arith)) in
    s.is ∙ rw (
      c.total.ensures,
      part_is c.args.self.now.s0 c.scaled.result c.args.self.now.below0 c.args.weights.now.s0 c.scaled.ensures.value,
      part_is c.args.self.now.s1 c.scaled-2.result c.args.self.now.below1 c.args.weights.now.s1 c.scaled-2.ensures.value,
      part_is c.args.self.now.s2 c.scaled-3.result c.args.self.now.below2 c.args.weights.now.s2 c.scaled-3.ensures.value,
      part_is c.args.self.now.s3 c.scaled-4.result c.args.self.now.below3 c.args.weights.now.s3 c.scaled-4.ensures.value,
    ) refl

pub returns-clause-bound : goal.returns-clause-bound
returns-clause-bound c =
    let s = c.args.self.now in
    let v = c.args.weights.now in
    rw (returns-clause-value c) (weighted s.s0 s.s1 s.s2 s.s3 v.s0 v.s1 v.s2 v.s3 (s.below0, (s.below1, (s.below2, (s.below3, tt)))) c.requires.greatest)
