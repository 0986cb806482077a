use Rattle.std.proofs.Common.{◌∙◌, Contains, List, ℤ, arith, map, subst}
use Rattle.jxlm_bits.specs.Bits.{bytes_of}
use Rattle.jxlm_base.specs.Regions.{grid_of, store_meanings}
use Rattle.jxlm_ma_tree.specs.declared.leaf.Leaf.{Leaf}
use Rattle.jxlm_tree.proofs.FlatTrees.{standing_leaf}
use Rattle.jxlm_samples.specs.Inner.LeafRows.{leaf_row_rule}
use Rattle.jxlm_samples.specs.Inner.Paths.{row_above}
use Rattle.jxlm_samples.specs.Inner.Rows.{ReadsRow}
use Rattle.jxlm_samples.specs.Lines.{region_on}
use Rattle.jxlm_samples.proofs.CellLaws.{narrow_at}
use Rattle.jxlm_samples.proofs.RowsAlike.{row_of_leaf}
use Rattle.jxlm_samples.proofs.one_leaf.read_leaf.Goals as goal

pub leaf_cells-requires-clause-multiplier : goal.leaf_cells-requires-clause-multiplier
leaf_cells-requires-clause-multiplier g c κs within = c.requires.leads.only.multiplier

pub leaf_cells-requires-clause-cluster : goal.leaf_cells-requires-clause-cluster
leaf_cells-requires-clause-cluster g c κs within =
    standing_leaf (λ (k : Leaf). Contains (g.D.Decoder.meaning.cluster_map c.args.source.now.decoder) k.cluster) c.args.line.now.coding.now.config.now.tree c.args.leaf c.requires.clusters c.requires.leads.only.stands

pub leaf_cells-requires-clause-narrow : goal.leaf_cells-requires-clause-narrow
leaf_cells-requires-clause-narrow g c κs within =
    let is = c.requires.line.here in
    let n = (narrow_at c.args.line.now.coding.now is.part.coding c.args.line.now.i is.channel).0 in
    let long = c.requires.long in
    omega (arith, n, long)

pub returns : goal.returns
returns g c =
    let d = g.D.Decoder.meaning in
    let to_int = g.S.Sealed.to_int in
    let w = g.S.Sealed.width in
    let line = c.args.line.now in
    let old = c.args.source.now in
    let new = c.leaf_cells.new.source in
    let above = c.rows_above-above.ensures in
    let reads = λ (one two : List ℤ). ReadsRow d 0 (leaf_row_rule d w (bytes_of old.bits) line.coding.now.widest c.args.leaf one two) (map to_int c.leaf_cells.new.row) c.leaf_cells.result old new in
    row_of_leaf line d to_int w c.requires.line c.leaf_cells.new.row (c.leaf_cells.auto.row ∙ c.requires.long) old new c.leaf_cells.result c.args.leaf c.requires.leads
    (subst (reads (row_above (grid_of (store_meanings to_int line.store.now) (region_on line)) line.y)) above.two
    (subst (λ (one : List ℤ). reads one (map to_int c.rows_above-above.result.two.now)) above.one c.leaf_cells.ensures))
