-- A row that is filled in a grid is a row that was read, where its path has one leaf that predicts by 0 and one token.
use Rattle.std.proofs.Common.{◌≡◌, ℕ, zero, suc, ◌+◌, ◌<◌, ◌⊎◌, inl, inr, List, ◌∷◌, Contains, length, map, Ok, refl, sym, ap, ◌∙◌, ℤ, true, false}
use Rattle.std.specs.Prelude.{Option, replicate}
use Rattle.std.specs.Int.{Width}
use Rattle.std.proofs.lemmas.List.{length-replicate}
use Rattle.jxlm_bits.specs.Decoding.{IsLawful, Meaning}
use Rattle.jxlm_base.specs.Grid.{Grid}
use Rattle.jxlm_base.specs.Outside.{SetsRow}
use Rattle.jxlm_tree.specs.Paths.{Gives, IsLeafOf}
use Rattle.jxlm_ma_tree.specs.declared.leaf.Leaf.{Leaf}
use Rattle.jxlm_tree.specs.declared.paths.Path.{Path}
use Rattle.jxlm_tree.specs.declared.paths.Path.TheVariants as path
use Rattle.jxlm_tree.proofs.FlatTrees.{standing_leaf}
use Rattle.jxlm_samples.specs.Inner.Levels.{IsAtRow, IsOnPath}
use Rattle.jxlm_samples.specs.Inner.Paths.{IsReadable, IsReadableZero, is_walked}
use Rattle.jxlm_samples.specs.Inner.Progress.{WalkGives, moment, place_of}
use Rattle.jxlm_samples.specs.Inner.Rows.{IsOnlySample, RowGives}
use Rattle.jxlm_samples.specs.Lines.{region_on}
use Rattle.jxlm_samples.specs.Part.{clamps}
use Rattle.jxlm_samples.specs.Reading.{FindsClusters, part_of, tree_of}
use Rattle.jxlm_samples.specs.declared.coding.PartCoding.{PartCoding}
use Rattle.jxlm_samples.specs.declared.rows.Line.{Line}
use Rattle.jxlm_samples.specs.declared.source.Walk.{Walk}
use Rattle.jxlm_samples.proofs.Decoding.{is_line, row_below}
use Rattle.jxlm_samples.proofs.RowsAlike.{row_of_zeros}
use Rattle.jxlm_samples.proofs.RowsOn.{row_written}
use Rattle.jxlm_samples.proofs.ZeroCells.{IsZero, fills_row, is_zero}

map_replicate : {X : Type 0} (f : X → ℤ) (n : ℕ) (v : X) → map f (replicate n v) ≡ replicate n (f v)
map_replicate f zero v = refl
map_replicate f (suc n) v = ap (λ xs. f v ∷ xs) (map_replicate f n v)

-- the clusters of the tree's leaves are the decoder's
readable : {D : Type 0} (c : PartCoding D) (i : ℕ) (clusters : List ℕ) (l : Leaf) → FindsClusters c clusters → IsLeafOf (tree_of c i) l → IsReadable clusters l
readable c i clusters l all gives = record { cluster = standing_leaf (λ (k : Leaf). Contains clusters k.cluster) c.config.now.tree l all gives.stands; multiplier = gives.multiplier }

pub readable_zero : {D : Type 0} (c : PartCoding D) (i : ℕ) (clusters : List ℕ) (p : Path) → FindsClusters c clusters → Gives (tree_of c i) p → IsReadableZero clusters p
readable_zero c i clusters (path.Constant l) all gives = readable c i clusters l all gives
readable_zero c i clusters (path.Zero l) all gives = readable c i clusters l all gives
readable_zero c i clusters (path.Gradient l) all gives = tt
readable_zero c i clusters (path.Runs l) all gives = tt
readable_zero c i clusters (path.Clusters t) all gives = tt
readable_zero c i clusters (path.GradientClusters t) all gives = tt
readable_zero c i clusters path.Tree all gives = tt

zero_not_walked : (p : Path) (k : Leaf) → (p ≡ path.Constant k) ⊎ (p ≡ path.Zero k) → is_walked p ≡ false
zero_not_walked p k (inl is) = ap is_walked is
zero_not_walked p k (inr is) = ap is_walked is

module _ {D X : Type 0} (l : Line X D) (d : Meaning D) (law : IsLawful d) (w : Width) (to_int : X → ℤ) (only : Option Leaf) (walk : Walk X D) (at : IsAtRow d l.coding.now walk to_int l.store.now l.path only l.i l.y)
    (below : l.y < (region_on l).height) (clamped : l.clamped ≡ clamps (part_of l.coding.now) l.i) (v : X) (one : IsOnlySample d walk.source.decoder l.path w to_int v) where
  abbrev row : List X
  row = replicate (region_on l).width v

  zero_leaf : IsZero (tree_of l.coding.now l.i) l.path one.leaf
  zero_leaf = is_zero (tree_of l.coding.now l.i) l.path one.leaf one.path_is at.gives at.allows

  row_long : length row ≡ (region_on l).width
  row_long = length-replicate (region_on l).width v

  known : Contains (d.cluster_map walk.source.decoder) one.leaf.cluster
  known = standing_leaf (λ (k : Leaf). Contains (d.cluster_map walk.source.decoder) k.cluster) l.coding.now.config.now.tree one.leaf at.ready.clusters zero_leaf.only.stands

  gives : RowGives l d to_int w row walk.source walk.source (Ok tt)
  gives =
      row_of_zeros l d to_int w (is_line l d to_int walk at below clamped) row row_long walk.source walk.source (Ok tt) one.leaf zero_leaf.only zero_leaf.predicts
      (fills_row d law w one.leaf l.coding.now.widest walk.source one.token known one.single (region_on l).width (map to_int row) (map_replicate to_int (region_on l).width v ∙ ap (replicate (region_on l).width) one.is))

  on_path : IsOnPath l to_int row only walk
  on_path = record {
    within = at.within;
    stands = λ walked none. let no : true ≡ false = sym walked ∙ zero_not_walked l.path one.leaf one.path_is in absurd (cc);
    roomy = at.ready.roomy;
  }

  module _ (new : List (Grid X)) (sets : SetsRow (region_on l) l.y row l.store.now new) where
    pub row_filled : WalkGives l.coding.now d w to_int (place_of (part_of l.coding.now) l.i 0 l.y) (place_of (part_of l.coding.now) l.i 0 (l.y + 1)) (Ok tt) (moment walk.source l.store.now) (moment walk.source new)
    row_filled = row_written l d w to_int at.here below new walk.source row walk.source (Ok tt) (Ok tt) row_long (sets, refl) gives

    pub below_filled : IsAtRow d l.coding.now walk to_int new l.path only l.i (l.y + 1)
    below_filled = row_below l d w to_int row row_long new only walk walk at below (Ok tt) (Ok tt) (sets, refl) gives on_path
