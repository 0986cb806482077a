use Rattle.std.proofs.Common.{[], ◌∷◌, ◌∙◌, sym, arith}
use Rattle.jxlm_base.specs.Outside.{row_of}
use Rattle.jxlm_base.proofs.Outside.{lies_still}
use Rattle.jxlm_encode_transform.proofs.Coded.{codes_row, three_still}
use Rattle.jxlm_encode_transform.proofs.colour.code_row.Goals as goal

pub region_set_row-requires-2 : goal.region_set_row-requires-2
region_set_row-requires-2 g c =
    let three = c.requires.three in
    let height = three.second_height in
    record {
      lies = lies_still (row_of c.args.regions.first c.args.y ∷ []) c.args.store.now c.region_set_row.new.store c.args.regions.second c.region_set_row.ensures.keeps three.second;
      in_rows = omega (arith, height, c.requires.in_rows);
      fits = c.code_rows.ensures.lengths.second_coded ∙ c.region_row.ensures.len ∙ sym three.second_width;
    }

pub region_set_row-requires-3 : goal.region_set_row-requires-3
region_set_row-requires-3 g c =
    let three = three_still c.args.regions.first c.args.regions.second c.args.regions.third (row_of c.args.regions.first c.args.y ∷ []) c.args.store.now c.region_set_row.new.store c.region_set_row.ensures.keeps c.requires.three in
    let height = three.third_height in
    record {
      lies = lies_still (row_of c.args.regions.second c.args.y ∷ []) c.region_set_row.new.store c.region_set_row-2.new.store c.args.regions.third c.region_set_row-2.ensures.keeps three.third;
      in_rows = omega (arith, height, c.requires.in_rows);
      fits = c.code_rows.ensures.lengths.third_coded ∙ c.region_row.ensures.len ∙ sym three.third_width;
    }

pub returns-clause-coded : goal.returns-clause-coded
returns-clause-coded g c =
    codes_row c.args.regions.first c.args.regions.second c.args.regions.third g.S.Sealed.to_int g.S.Sealed.width c.args.kind c.args.y c.args.store.now c.region_set_row.new.store c.region_set_row-2.new.store c.region_set_row-3.new.store
    c.region_row.result.now c.region_row-2.result.now c.region_row-3.result.now c.code_rows.new.a c.code_rows.new.b c.code_rows.new.c c.requires.three c.requires.in_rows
    c.region_row.ensures.len c.region_row.ensures.cells c.region_row-2.ensures.cells c.region_row-3.ensures.cells c.code_rows.ensures.coded c.code_rows.ensures.samples
    c.region_set_row.ensures c.region_set_row-2.ensures c.region_set_row-3.ensures
