-- Rows that are read at one leaf, by any predictor but the weighted one, from the rows above and the row so far (ISO/IEC
-- 18181-1, Modular: neighbouring samples, predictors).
use Rattle.std.specs.Prelude.{◌≡◌, ◌≢◌, ℕ, zero, suc, ◌+◌, ◌-◌, ℤ, pos, List, [], length, map, get_or}
use Rattle.std.specs.Int.{Width, w32, int_wrap}
use Rattle.jxlm_bits.specs.Decoding.{Meaning}
use Rattle.jxlm_base.specs.Grid.{Grid, row as grid_row}
use Rattle.jxlm_tree.specs.FlatTree.{FlatTree}
use Rattle.jxlm_tree.specs.Paths.{IsLeafOf}
use Rattle.jxlm_ma_tree.specs.declared.leaf.Leaf.{Leaf}
use Rattle.jxlm_weighted.specs.Neighbours.{Neighbours}
use Rattle.jxlm_predictor.specs.Predictions.{prediction_from}
use Rattle.jxlm_predictor.specs.declared.predictor.Predictor.TheVariants as predictor
use Rattle.jxlm_samples.specs.Coded.{sample_of}
use Rattle.jxlm_samples.specs.RowNeighbours.{north_in, north_west_in, west_in}
use Rattle.jxlm_samples.specs.Rule.{Rule}
use Rattle.jxlm_samples.specs.Inner.Paths.{leaf_rule}
use Rattle.jxlm_samples.specs.declared.one_leaf.Above.{Above}
use Rattle.jxlm_samples.specs.declared.one_leaf.Left.{Left}

-- every walk of the tree leads to this leaf, which needs no weights
pub record IsLeafAlone (t : FlatTree) (l : Leaf) : Type 0 where
  pub only : IsLeafOf t l
  pub weightless : l.predictor ≢ predictor.SelfCorrecting

-- the row two above row y of a grid; above the second row the first one, and none above the first
abbrev pub row_two_above : Grid ℤ → ℕ → List ℤ
row_two_above g zero = []
row_two_above g (suc y) = grid_row g (y - 1)

module _ (above row : List ℤ) where
  -- two to the left; in columns 0 and 1 as west
  abbrev pub west_west_in : ℕ → ℤ
  west_west_in zero = west_in above row zero
  west_west_in (suc zero) = west_in above row 1
  west_west_in (suc (suc x)) = get_or row x (pos 0)

  -- above right; in the first row and in the last column as north
  abbrev pub north_east_in : ℕ → ℤ
  north_east_in x = get_or above (x + 1) (north_in above row x)

  -- these are to the left of column x, and above its left
  pub record IsLeft (x : ℕ) (left : Left) : Type 0 where
    pub west : left.w ≡ west_in above row x
    pub north_west : left.nw ≡ north_west_in above row x
    pub west_west : left.ww ≡ west_west_in x

-- the neighbours in column x of a row, from the two rows above and the cells of the row before it
abbrev pub around_in : List ℤ → List ℤ → List ℤ → ℕ → Neighbours
around_in above two row x = record {
  w = west_in above row x;
  n = north_in above row x;
  nw = north_west_in above row x;
  ne = north_east_in above row x;
  nee = get_or above (x + 2) (north_east_in above row x);
  nn = get_or two x (north_in above row x);
  ww = west_west_in above row x;
}

-- the prediction there where the weighted one is 0, reduced to 32 bits
abbrev pub prediction_in : List ℤ → List ℤ → Leaf → List ℤ → ℤ
prediction_in above two l row = int_wrap w32 (prediction_from (around_in above two row (length row)) (pos 0) l.predictor)

-- the sample of a token over it
abbrev pub leaf_value : Width → Leaf → List ℤ → List ℤ → List ℤ → ℕ → ℤ
leaf_value w l above two row token = sample_of w l (prediction_in above two l row) token

-- cells that are read so
abbrev pub leaf_row_rule : {S : Type 0} → Meaning S → Width → List ℕ → ℕ → Leaf → List ℤ → List ℤ → Rule S
leaf_row_rule d w bytes widest l above two = leaf_rule d w bytes widest (λ row. l) (prediction_in above two l)

-- the same below these rows
module _ {X : Type 0} (to_int : X → ℤ) (w : Width) (l : Leaf) (above : Above X) where
  abbrev pub value_below : List ℤ → ℕ → ℤ
  value_below = leaf_value w l (map to_int above.one.now) (map to_int above.two.now)

  abbrev pub rule_below : {S : Type 0} → Meaning S → List ℕ → ℕ → Rule S
  rule_below d bytes widest = leaf_row_rule d w bytes widest l (map to_int above.one.now) (map to_int above.two.now)
