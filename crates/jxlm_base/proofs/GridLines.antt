-- Lines of a grid, and its rows turned to lines.
use Rattle.std.proofs.Common.{◌≡◌, ℕ, zero, ◌+◌, ◌*◌, ◌<◌, ◌≤◌, List, length, ℤ, ap, ◌∙◌, arith}
use Rattle.std.specs.Prelude.{slice_get}
use Rattle.std.proofs.Math.Nat.{mul-le-mul_right, mul_comm}
use Rattle.jxlm_base.specs.Grid.{Grid, at, cell, place, meanings, IsFull}
use Rattle.jxlm_lanes.specs.Pairs.{number_at, line_in}
use Rattle.jxlm_lanes.proofs.NumberAt.{number_same}

-- a line of some columns of a grid ends inside, and its numbers
module _ {S : Type 0} (g : Grid S) (x y k : ℕ) where
  pub grid_line_within : (n h i : ℕ) → IsFull g → x + (k + n) ≤ g.width → y + h ≤ g.height → i < h → y * g.width + x + k + i * g.width + n ≤ length g.cells
  grid_line_within n h i full c r p =
      let m = mul-le-mul_right {m = y + i + 1} {n = g.height} g.width (omega arith) in
      let t = mul_comm g.width g.height in omega (arith, full)

  pub grid_line_numbers : (f : S → ℤ) (i j : ℕ) → number_at f g.cells (y * g.width + x + k + i * g.width + j) ≡ at (meanings f g) (x + (k + j)) (y + i)
  grid_line_numbers f i j = let e : y * g.width + x + k + i * g.width + j ≡ (y + i) * g.width + (x + (k + j)) = omega arith in ap (number_at f g.cells) e

-- the numbers of a row that was turned
pub turned_numbers : {S : Type 0} (f : S → ℤ) (turned : List S) (g : Grid S) (x y k rows n j : ℕ) → j < rows →
    ((i j : ℕ) → i < n → j < rows → slice_get turned (i * rows + j) ≡ cell g (x + i) (y + (k + j))) →
    (i : ℕ) → i < n → line_in f turned 0 rows j i ≡ at (meanings f g) (x + i) (y + (k + j))
turned_numbers f turned g x y k rows n j q all i p =
    let zero : 0 + i * rows + j ≡ i * rows + j = omega arith in
    ap (number_at f turned) zero ∙ number_same f turned g.cells (i * rows + j) (place g (x + i) (y + (k + j))) (all i j p q)
