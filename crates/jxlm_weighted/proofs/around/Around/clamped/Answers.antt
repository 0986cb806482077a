use Rattle.std.proofs.Common.{◌<◌, ◌^◌, ℤ, pos, ◌*ℤ◌, unsigned_abs, FitsSigned, ◌∙◌, refl, arith, rules, ℕ, Bool, true, false, cond}
use Rattle.std.specs.Int.{w32, w64, int_min, int_max}
use Rattle.std.proofs.lemmas.Int.{to_z-of_z, ints}
use Rattle.std.specs.Int.Signed.{lt_z}
use Rattle.jxlm_bits.specs.Numbers.{clamp}
use Rattle.jxlm_weighted.proofs.around.Around.clamped.Goals as goal

pick : (b : Bool) (x y : ℤ) (m : ℕ) → unsigned_abs x < m → unsigned_abs y < m → unsigned_abs (cond b x y) < m
pick true x y m h k = h
pick false x y m h k = k

max-within : (x y : ℤ) (m : ℕ) → unsigned_abs x < m → unsigned_abs y < m → unsigned_abs (int_max x y) < m
max-within x y m h k = pick (lt_z y x) x y m h k

min-within : (x y : ℤ) (m : ℕ) → unsigned_abs x < m → unsigned_abs y < m → unsigned_abs (int_min x y) < m
min-within x y m h k = pick (lt_z y x) y x m k h

clamped-within : (n w ne z : ℤ) (m : ℕ) → unsigned_abs n < m → unsigned_abs w < m → unsigned_abs ne < m → unsigned_abs z < m → unsigned_abs (clamp (int_min (int_min n w) ne) (int_max (int_max n w) ne) z) < m
clamped-within n w ne z m a b c d =
    max-within (int_min (int_min n w) ne) (int_min z (int_max (int_max n w) ne)) m (min-within (int_min n w) ne m (min-within n w m a b) c)
    (min-within z (int_max (int_max n w) ne) m d (max-within (int_max n w) ne m (max-within n w m a b) c))

eightfold-within : (a : ℤ) → FitsSigned w32 a → unsigned_abs (a *ℤ pos 8) < 2 ^ 40
eightfold-within a f = omega (arith, ints)

pub returns-clause-value : goal.returns-clause-value
returns-clause-value c =
    let f0 : FitsSigned w32 c.args.self.now.w = search rules in
    let f1 : FitsSigned w32 c.args.self.now.ne = search rules in
    let f2 : FitsSigned w32 c.args.self.now.n = search rules in
    let f3 : FitsSigned w64 c.args.self.now.w = omega (arith, ints) in
    let f4 : FitsSigned w64 c.args.self.now.ne = omega (arith, ints) in
    let f5 : FitsSigned w64 c.args.self.now.n = omega (arith, ints) in
    let f6 : FitsSigned w64 (c.args.self.now.w *ℤ pos 8) = omega (arith, ints) in
    let f7 : FitsSigned w64 (c.args.self.now.ne *ℤ pos 8) = omega (arith, ints) in
    let f8 : FitsSigned w64 (c.args.self.now.n *ℤ pos 8) = omega (arith, ints) in
    let r0 : FitsSigned w64 c.min.result = search rules in
    let r1 : FitsSigned w64 c.min-low.result = search rules in
    let r2 : FitsSigned w64 c.max.result = search rules in
    let r3 : FitsSigned w64 c.max-high.result = search rules in
    let r4 : FitsSigned w64 c.min-2.result = search rules in
    let r5 : FitsSigned w64 c.max-2.result = search rules in
    let v : FitsSigned w64 c.args.value = c.ranges.value in
    let e1 = simp to_z-of_z at c.min.ensures.value in
    let e2 = simp to_z-of_z at c.min-low.ensures.value in
    let e3 = simp to_z-of_z at c.max.ensures.value in
    let e4 = simp to_z-of_z at c.max-high.ensures.value in
    let e5 = simp to_z-of_z at c.min-2.ensures.value in
    let e6 = simp to_z-of_z at c.max-2.ensures.value in
    to_z-of_z w64 c.max-2.result r5 ∙ e6 ∙ rw (e5, e4, e3, e2, e1) refl

pub returns-clause-bound : goal.returns-clause-bound
returns-clause-bound c =
    let f0 : FitsSigned w32 c.args.self.now.w = search rules in
    let f1 : FitsSigned w32 c.args.self.now.ne = search rules in
    let f2 : FitsSigned w32 c.args.self.now.n = search rules in
    let w = eightfold-within c.args.self.now.w f0 in
    let ne = eightfold-within c.args.self.now.ne f1 in
    let n = eightfold-within c.args.self.now.n f2 in
    rw (returns-clause-value c) (clamped-within (c.args.self.now.n *ℤ pos 8) (c.args.self.now.w *ℤ pos 8) (c.args.self.now.ne *ℤ pos 8) c.args.value (2 ^ 40) n w ne c.requires)
