-- What a sample of an earlier channel is expected to be, by where it stands.
use Rattle.std.proofs.Common.{◌≡◌, ℕ, suc, ◌+◌, ℤ, List, refl, subst, arith}
use Rattle.std.proofs.lemmas.Int.{clamps, ints}
use Rattle.jxlm_base.specs.Grid.{Grid}
use Rattle.jxlm_bits.specs.Numbers.{clamped_gradient}
use Rattle.jxlm_base.specs.declared.subgrid.Region.{Region}
use Rattle.jxlm_predictor.specs.EarlierRows.{IsRowOf}
use Rattle.jxlm_weighted.specs.Neighbours.{at}
use Rattle.jxlm_predictor.specs.Inner.Expected.{expected_in}
use Rattle.jxlm_predictor.specs.declared.earlier.EarlierRow.{EarlierRow}

-- the clamped gradient of three that are the same
gradient_same : (x : ℤ) → x ≡ clamped_gradient x x x
gradient_same x = omega (arith, ints, clamps)

pub expected_inside : (g : Grid ℤ) (x y p q : ℕ) → x ≡ suc p → y ≡ suc q → clamped_gradient (at g.cells g.width x q) (at g.cells g.width p y) (at g.cells g.width p q) ≡ expected_in g x y
expected_inside g x y p q e f = rw (e, f) refl

pub expected_first_row : (g : Grid ℤ) (x y p : ℕ) → x ≡ suc p → y ≡ 0 → at g.cells g.width p y ≡ expected_in g x y
expected_first_row g x y p e f = rw (e, f) (gradient_same (at g.cells g.width p 0))

pub expected_first_column : (g : Grid ℤ) (x y q : ℕ) → x ≡ 0 → y ≡ suc q → at g.cells g.width 0 q ≡ expected_in g x y
expected_first_column g x y q e f = rw (e, f) (gradient_same (at g.cells g.width 0 q))

-- the row below row q is row y
pub row_below : {S : Type 0} (r : Region) (store : List (Grid S)) (y : ℕ) (e : EarlierRow S) → IsRowOf r store y e → (q : ℕ) → y ≡ q + 1 → IsRowOf r store (q + 1) e
row_below r store y e h q is = subst (λ n. IsRowOf r store n e) is h
