-- Rows that are read at one leaf or from the row above are those of a part whose tree leads there in the channel.
use Rattle.std.proofs.Common.{◌≡◌, ℕ, ◌<◌, ◌≤◌, List, ◌++◌, length, map, Some, Result, Contains, Bool, true, false, refl, subst, sym, ap, ◌∙◌, arith, ℤ, pos}
use Rattle.std.specs.Int.{Width, w32}
use Rattle.std.proofs.lemmas.Int.{SFits-int_wrap, int_wrap_fits, ints}
use Rattle.std.proofs.lemmas.List.{length-map}
use Rattle.jxlm_bits.specs.Bits.{bytes_of}
use Rattle.jxlm_bits.specs.Decoding.{Meaning}
use Rattle.jxlm_base.specs.Grid.{Grid}
use Rattle.jxlm_base.specs.Regions.{grid_of, store_meanings}
use Rattle.jxlm_base.specs.declared.subgrid.Region.{Region}
use Rattle.jxlm_base.proofs.Regions.{IsFull-grid_of}
use Rattle.jxlm_weighted.specs.Neighbours.{column, row as line}
use Rattle.jxlm_predictor.specs.Predictions.{prediction}
use Rattle.jxlm_predictor.specs.Properties.{gradient_at}
use Rattle.jxlm_predictor.specs.declared.predictor.Predictor.TheVariants as predictor
use Rattle.jxlm_tree.specs.ClusterTables.{table_leaf}
use Rattle.jxlm_tree.specs.FlatTree.{leaf_reached}
use Rattle.jxlm_tree.specs.Paths.{IsLeafOf, IsPlainGradient}
use Rattle.jxlm_tree.specs.ShortTrees.{Fits}
use Rattle.jxlm_ma_tree.specs.declared.leaf.Leaf.{Leaf}
use Rattle.jxlm_tree.proofs.FlatTrees.{standing_leaf}
use Rattle.jxlm_transform.specs.Channels.{AreRegionsOf}
use Rattle.jxlm_samples.specs.Coded.{next_prediction, sample_of}
use Rattle.jxlm_samples.specs.Part.{Part, channel, clamps, max_width, next_channel, next_leaf, place_by, samples_of}
use Rattle.jxlm_samples.specs.Progress.{grids_in}
use Rattle.jxlm_samples.specs.Reading.{FindsClusters, cost_of, flat, part_of, regions_of, tree_of}
use Rattle.jxlm_samples.specs.ChannelSettings.{region_at}
use Rattle.jxlm_samples.specs.Inner.LeafRows.{IsLeafAlone, leaf_row_rule, prediction_in, row_two_above}
use Rattle.jxlm_samples.specs.Inner.Paths.{AreGradients, AreLeavesOf, gradient_rule, leaf_by, leaf_rule, row_above, steps_by, zero_rule}
use Rattle.jxlm_samples.specs.Inner.Progress.{preceding_cells}
use Rattle.jxlm_samples.specs.Inner.Rows.{AreAlike, GradientGives, IsLine, ReadsRow, RowGives, row_rule, rule_on}
use Rattle.jxlm_samples.specs.Rule.{Rule}
use Rattle.jxlm_samples.specs.declared.source.Source.{Source}
use Rattle.jxlm_samples.specs.declared.coding.PartCoding.{PartCoding}
use Rattle.jxlm_samples.specs.declared.gradient.Leaves.{Leaves}
use Rattle.jxlm_samples.specs.declared.gradient.Leaves.TheVariants.{One, Table}
use Rattle.jxlm_samples.specs.declared.rows.Line.{Line}
use Rattle.jxlm_samples.specs.declared.rows.RowError.{RowError}
use Rattle.jxlm_samples.proofs.ClampedSums.{by-fit}
use Rattle.jxlm_samples.proofs.NextSample.{SeesRegions, leaf_with, place-fit, seen_with}
use Rattle.jxlm_samples.proofs.RowNeighbours.{gradient_is, prediction_is, property_9_seen, samples, sum_seen, zero_is}
use Rattle.jxlm_samples.proofs.RowReads.{alike_row}
use Rattle.jxlm_samples.proofs.RowSees.{sees_regions}
use Rattle.jxlm_samples.specs.RowNeighbours.{gradient_in, property_9_in}
use Rattle.jxlm_samples.specs.Lines.{region_on}

module _ {S : Type 0} (d : Meaning S) (w : Width) (part : Part) (bytes : List ℕ) (regions : List Region) (ints : List (Grid ℤ)) (i y : ℕ) (sizes : AreRegionsOf part.channels regions) (li : i < length regions)
    (qy : y < (region_at regions i).height) where
  abbrev reg : Region
  reg = region_at regions i

  abbrev own_grid : Grid ℤ
  own_grid = grid_of ints reg

  abbrev here : List ℤ → List ℤ
  here row = preceding_cells part (grids_in regions ints) i 0 y ++ row

  module _ (row : List ℤ) (short : length row < reg.width) where
    abbrev own : List ℤ
    own = samples own_grid (IsFull-grid_of ints reg) y qy row short

    sees : SeesRegions part regions ints i (here row) own
    sees = sees_regions part regions ints i y sizes li qy row short

    -- the properties that the next sample has
    abbrev of_place : ℕ → ℤ
    of_place = place_by (clamps part i) (seen_with part regions ints i (here row) own sees (Some part.weights))

    next_is : next_leaf part (here row) ≡ leaf_reached (flat part.tree part.stream i) of_place
    next_is = sym (leaf_with part regions ints i (here row) own sees)

    predicted_by : (l : Leaf) → next_leaf part (here row) ≡ l → next_prediction part (here row) ≡ prediction (Some part.weights) own reg.width l.predictor
    predicted_by l is =
        ap (λ (k : Leaf). prediction (Some part.weights) (samples_of part.channels (here row) (next_channel part.channels (here row))) (channel part.channels (next_channel part.channels (here row))).width k.predictor) is
        ∙ ap (λ n. prediction (Some part.weights) (samples_of part.channels (here row) n) (channel part.channels n).width l.predictor) sees.stands
        ∙ ap (λ n. prediction (Some part.weights) (samples_of part.channels (here row) i) n l.predictor) (sym sees.wide)
        ∙ ap (λ xs. prediction (Some part.weights) xs reg.width l.predictor) sees.own_is

    -- property 9 as a decision asks for it
    property_by : (b : Bool) → place_by b (seen_with part regions ints i (here row) own sees (Some part.weights)) 9 ≡ property_9_in (row_above own_grid y) row b (length row)
    property_by true = sum_seen own_grid (IsFull-grid_of ints reg) y qy row short (seen_with part regions ints i (here row) own sees (Some part.weights)) refl refl
    property_by false =
        int_wrap_fits w32 (gradient_at own reg.width (column own reg.width) (line own reg.width)) (SFits-int_wrap w32 _)
        ∙ property_9_seen own_grid (IsFull-grid_of ints reg) y qy row short

    property_is : of_place 9 ≡ property_9_in (row_above own_grid y) row (clamps part i) (length row)
    property_is = property_by (clamps part i)

    leads : (leaves : Leaves) → AreLeavesOf (flat part.tree part.stream i) leaves → leaf_reached (flat part.tree part.stream i) of_place ≡ leaf_by leaves (property_9_in (row_above own_grid y) row (clamps part i) (length row))
    leads (One l) to = to.0.leaf of_place
    leads (Table c) to =
        let fit : Fits of_place = by-fit (clamps part i) (seen_with part regions ints i (here row) own sees (Some part.weights)) (place-fit (seen_with part regions ints i (here row) own sees (Some part.weights))) in
        to.0.leaf of_place (record { low = λ k. fit.low c.now.property; high = λ k. fit.high c.now.property }) ∙ ap (table_leaf c.now) (ap of_place to.1.0 ∙ property_is)

  -- a rule whose leaves and predictions are the part's reads the part's rows
  by_leaf : (leaf : List ℤ → Leaf) (predicted : List ℤ → ℤ) →
      ((row : List ℤ) → length row < reg.width → (next_leaf part (here row) ≡ leaf row) × (next_prediction part (here row) ≡ predicted row)) →
      AreAlike (leaf_rule d w bytes (max_width part.channels) leaf predicted) (row_rule d w part bytes regions ints i y) reg.width
  by_leaf leaf predicted same row short =
      let both = same row short in (
        (λ s p. ap (λ (k : Leaf). d.read s bytes p k.cluster (max_width part.channels)) (sym both.0)),
        (λ token. ap (λ z. sample_of w (leaf row) z token) (sym both.1) ∙ ap (λ (k : Leaf). sample_of w k (next_prediction part (here row)) token) (sym both.0)),
      )

  pub zero_rows : (l : Leaf) → IsLeafOf (flat part.tree part.stream i) l → l.predictor ≡ predictor.Zero → AreAlike (zero_rule d w bytes (max_width part.channels) l) (row_rule d w part bytes regions ints i y) reg.width
  zero_rows l only zero = by_leaf (λ row. l) (λ row. pos 0) (λ row short.
      let is = next_is row short ∙ only.leaf _ in
      (is, predicted_by row short l is ∙ ap (prediction (Some part.weights) (own row short) reg.width) zero ∙ zero_is (Some part.weights) (own row short) reg.width))

  pub leaf_rows : (l : Leaf) → IsLeafAlone (flat part.tree part.stream i) l →
      AreAlike (leaf_row_rule d w bytes (max_width part.channels) l (row_above own_grid y) (row_two_above own_grid y)) (row_rule d w part bytes regions ints i y) reg.width
  leaf_rows l alone = by_leaf (λ row. l) (prediction_in (row_above own_grid y) (row_two_above own_grid y) l) (λ row short.
      let is = next_is row short ∙ alone.only.leaf _ in
      (is, predicted_by row short l is ∙ prediction_is own_grid (IsFull-grid_of ints reg) y qy row short (Some part.weights) l alone.weightless))

  plain_by : (leaves : Leaves) → AreLeavesOf (flat part.tree part.stream i) leaves → (x : ℤ) → IsPlainGradient (leaf_by leaves x)
  plain_by (One l) to x = to.1
  plain_by (Table c) to x = to.1.1

  pub gradient_rows : (leaves : Leaves) → AreLeavesOf (flat part.tree part.stream i) leaves →
      AreAlike (gradient_rule d w (clamps part i) bytes (max_width part.channels) leaves (row_above own_grid y)) (row_rule d w part bytes regions ints i y) reg.width
  gradient_rows leaves to =
      by_leaf (λ row. leaf_by leaves (property_9_in (row_above own_grid y) row (clamps part i) (length row))) (λ row. gradient_in (row_above own_grid y) row (length row)) (λ row short.
      let x : ℤ = property_9_in (row_above own_grid y) row (clamps part i) (length row) in
      let is = next_is row short ∙ leads row short leaves to in (
        is,
        predicted_by row short (leaf_by leaves x) is ∙ ap (prediction (Some part.weights) (own row short) reg.width) (plain_by leaves to x).0
            ∙ gradient_is own_grid (IsFull-grid_of ints reg) y qy row short (Some part.weights),
      ))

-- the leaves predict by the gradient, from clusters of the tree
pub are_gradients : {D : Type 0} (c : PartCoding D) (i : ℕ) (clusters : List ℕ) (leaves : Leaves) → FindsClusters c clusters → AreLeavesOf (tree_of c i) leaves → AreGradients clusters leaves
are_gradients c i clusters (One l) all to = record {
  plain = λ x. to.1;
  known = λ x fits. standing_leaf (λ (k : Leaf). Contains clusters k.cluster) c.config.now.tree l all to.0.stands;
}
are_gradients c i clusters (Table t) all to = record {
  plain = λ x. to.1.1;
  known = λ x fits.
      let wide : Fits (λ k. x) = record { low = λ k. omega (arith, ints); high = λ k. omega (arith, ints) } in
      standing_leaf (λ (k : Leaf). Contains clusters k.cluster) c.config.now.tree (table_leaf t.now x) all (to.0.stands x wide);
}

-- What is read so is what the part reads.
module _ {D X : Type 0} (l : Line X D) (d : Meaning D) (to_int : X → ℤ) (w : Width) (is : IsLine l) (row : List X) (long : length row ≡ (region_on l).width) where
  abbrev c : PartCoding D
  c = l.coding.now

  abbrev numbers : List (Grid ℤ)
  numbers = store_meanings to_int l.store.now

  abbrev above : List ℤ
  above = row_above (grid_of numbers (region_on l)) l.y

  abbrev two_above : List ℤ
  two_above = row_two_above (grid_of numbers (region_on l)) l.y

  abbrev R : List ℤ
  R = map to_int row

  -- a rule that reads the part's rows under the maximum width reads those of the line
  on_line : (bytes : List ℕ) (rule : ℕ → Rule D) → AreAlike (rule (max_width (part_of c).channels)) (rule_on l d to_int w bytes) (region_on l).width → AreAlike (rule c.widest) (rule_on l d to_int w bytes) (length R)
  on_line bytes rule alike = rw (is.here.part.coding.widest, length-map row to_int, long) alike

  module _ (old new : Source D) (result : Result (Unit {0}) RowError) where
    pub row_of_zeros : (k : Leaf) → IsLeafOf (tree_of c l.i) k → k.predictor ≡ predictor.Zero → ReadsRow d 0 (zero_rule d w (bytes_of old.bits) c.widest k) R result old new → RowGives l d to_int w row old new result
    row_of_zeros k only zero h =
        alike_row d 0 (cost_of c) (zero_rule d w (bytes_of old.bits) c.widest k) (rule_on l d to_int w (bytes_of old.bits)) R
        (on_line (bytes_of old.bits) (λ m. zero_rule d w (bytes_of old.bits) m k) (zero_rows d w (part_of c) (bytes_of old.bits) (regions_of c) numbers l.i l.y is.here.part.coding.sizes is.here.channel is.below k only zero))
        (omega arith) result old new h

    pub row_of_gradients : (leaves : Leaves) → AreLeavesOf (tree_of c l.i) leaves → steps_by leaves ≤ cost_of c →
        GradientGives d w l.clamped leaves c.widest above R old new result → RowGives l d to_int w row old new result
    row_of_gradients leaves to few h =
        alike_row d (steps_by leaves) (cost_of c) (gradient_rule d w (clamps (part_of c) l.i) (bytes_of old.bits) c.widest leaves above) (rule_on l d to_int w (bytes_of old.bits)) R
        (on_line (bytes_of old.bits) (λ m. gradient_rule d w (clamps (part_of c) l.i) (bytes_of old.bits) m leaves above) (gradient_rows d w (part_of c) (bytes_of old.bits) (regions_of c) numbers l.i l.y is.here.part.coding.sizes is.here.channel is.below leaves to))
        few result old new (rw is.clamped at h)

    pub row_of_leaf : (k : Leaf) → IsLeafAlone (tree_of c l.i) k → ReadsRow d 0 (leaf_row_rule d w (bytes_of old.bits) c.widest k above two_above) R result old new → RowGives l d to_int w row old new result
    row_of_leaf k alone h =
        alike_row d 0 (cost_of c) (leaf_row_rule d w (bytes_of old.bits) c.widest k above two_above) (rule_on l d to_int w (bytes_of old.bits)) R
        (on_line (bytes_of old.bits) (λ m. leaf_row_rule d w (bytes_of old.bits) m k above two_above)
        (leaf_rows d w (part_of c) (bytes_of old.bits) (regions_of c) numbers l.i l.y is.here.part.coding.sizes is.here.channel is.below k alone))
        (omega arith) result old new h
