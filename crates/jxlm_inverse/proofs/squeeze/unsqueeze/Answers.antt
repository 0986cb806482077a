use Rattle.std.proofs.Common.{◌≡◌}
use Rattle.std.specs.Prelude.{get_or}
use Rattle.jxlm_base.specs.Subgrid.{whole}
use Rattle.jxlm_inverse.proofs.SqueezedRegions.{rows_undone, columns_undone, rest_kept}
use Rattle.jxlm_inverse.proofs.squeeze.unsqueeze.Goals as goal

pub returns-then-horizontal-clause-undone : goal.returns-then-horizontal-clause-undone
returns-then-horizontal-clause-undone g c =
    let e = c.squeeze_rows_in.ensures in
    let was : whole c.new-subgrid.result ≡ get_or c.args.store.now c.args.region.buffer c.index-store-region.result = cc in
    rw c.if-horizontal.true
    (rows_undone g.S.Sealed.to_int g.S.Sealed.width c.args.store.now c.args.region c.requires.lies c.index-store-region.result c.new-subgrid.result c.squeeze_rows_in.new.subgrid
    was c.new-subgrid.ensures.at e.kept e.undone e.samples)

pub returns-then-horizontal-clause-keeps : goal.returns-then-horizontal-clause-keeps
returns-then-horizontal-clause-keeps g c =
    let e = c.squeeze_rows_in.ensures in
    let was : whole c.new-subgrid.result ≡ get_or c.args.store.now c.args.region.buffer c.index-store-region.result = cc in
    rest_kept g.S.Sealed.to_int g.S.Sealed.width c.args.store.now c.args.region c.requires.lies c.index-store-region.result c.new-subgrid.result c.squeeze_rows_in.new.subgrid
    was c.new-subgrid.ensures.at e.kept

pub returns-else-horizontal-clause-undone : goal.returns-else-horizontal-clause-undone
returns-else-horizontal-clause-undone g c =
    let e = c.squeeze_columns_in.ensures in
    let was : whole c.new-subgrid.result ≡ get_or c.args.store.now c.args.region.buffer c.index-store-region.result = cc in
    rw c.if-horizontal.false
    (columns_undone g.S.Sealed.to_int g.S.Sealed.width c.args.store.now c.args.region c.requires.lies c.index-store-region.result c.new-subgrid.result c.squeeze_columns_in.new.subgrid
    was c.new-subgrid.ensures.at e.kept e.undone e.samples)

pub returns-else-horizontal-clause-keeps : goal.returns-else-horizontal-clause-keeps
returns-else-horizontal-clause-keeps g c =
    let e = c.squeeze_columns_in.ensures in
    let was : whole c.new-subgrid.result ≡ get_or c.args.store.now c.args.region.buffer c.index-store-region.result = cc in
    rest_kept g.S.Sealed.to_int g.S.Sealed.width c.args.store.now c.args.region c.requires.lies c.index-store-region.result c.new-subgrid.result c.squeeze_columns_in.new.subgrid
    was c.new-subgrid.ensures.at e.kept
