-- The tokens of samples, as an encoder writes them (ISO/IEC 18181-1, Modular: decoding of samples).
use Rattle.std.specs.Prelude.{◌≡◌, ℕ, ◌%◌, ◌<◌, ℤ, pos, List, length, map, take, get_or, FitsSigned}
use Rattle.std.specs.Int.{Width}
use Rattle.jxlm_bits.specs.Numbers.{unpack}
use Rattle.jxlm_bit_writer.specs.declared.token.Token.{Token}
use Rattle.jxlm_ma_tree.specs.declared.leaf.Leaf.{Leaf}
use Rattle.jxlm_samples.specs.Coded.{next_prediction, sample_of}
use Rattle.jxlm_samples.specs.Part.{Part, next_leaf}

-- the leaf multiplies tokens by nothing but 1
abbrev pub MultipliesByOne : Leaf → Type 0
MultipliesByOne l = l.multiplier ≡ 1

-- it multiplies them by an odd number
abbrev pub MultipliesByOdd : Leaf → Type 0
MultipliesByOdd l = l.multiplier % 2 ≡ 1

-- the token stands for the sample, at a leaf and over a prediction, and its signed number is one of the sample's width
pub record IsSampleToken (w : Width) (leaf : Leaf) (predicted sample : ℤ) (token : ℕ) : Type 0 where
  pub fits : FitsSigned w (unpack token)
  pub stands : sample_of w leaf predicted token ≡ sample

-- the token stands for cell k of a part, at the leaf and over the prediction that come of the cells before it
abbrev pub IsTokenOfCell : Width → Part → List ℤ → ℕ → ℕ → Type 0
IsTokenOfCell w part cells k token =
    IsSampleToken w (next_leaf part (take k cells)) (next_prediction part (take k cells)) (get_or cells k (pos 0)) token

-- each cell of a part has its token, in the order of the cells
pub record AreTokensOf (w : Width) (part : Part) (cells : List ℤ) (tokens : List ℕ) : Type 0 where
  pub count : length tokens ≡ length cells
  pub each : (k : ℕ) → k < length cells → IsTokenOfCell w part cells k (get_or tokens k 0)

-- the same tokens, each with the cluster of its cell's leaf
pub record AreClusteredTokensOf (w : Width) (part : Part) (cells : List ℤ) (tokens : List Token) : Type 0 where
  pub values : AreTokensOf w part cells (map (λ t. t.value) tokens)
  pub clusters : (k : ℕ) (d : Token) → k < length cells → (get_or tokens k d).cluster ≡ (next_leaf part (take k cells)).cluster
