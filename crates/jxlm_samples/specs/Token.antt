-- The token of a sample (for writing).
use Rattle.std.specs.Prelude.{◌≡◌, ℕ, ◌%◌, ◌^◌, ◌<◌, ℤ, FitsSigned}
use Rattle.std.specs.Int.{w32}
use Rattle.jxlm_ma_tree.specs.declared.leaf.Leaf.{Leaf}
use Rattle.jxlm_samples.specs.Coded.{sample_of}

-- the only token below 2 ^ 32 that stands for a sample of 32 bits, at a leaf and over a prediction
pub record IsTokenOf (leaf : Leaf) (predicted sample : ℤ) (token : ℕ) : Type 0 where
  pub below : token < 2 ^ 32
  pub stands : sample_of w32 leaf predicted token ≡ sample
  pub only : (other : ℕ) → other < 2 ^ 32 → sample_of w32 leaf predicted other ≡ sample → other ≡ token

-- where the leaf's multiplier is odd, each sample of 32 bits has such a token
abbrev pub EachHasToken : Type 0
EachHasToken = (leaf : Leaf) (predicted sample : ℤ) → leaf.multiplier % 2 ≡ 1 →
    FitsSigned w32 sample → (token : ℕ) × IsTokenOf leaf predicted sample token
