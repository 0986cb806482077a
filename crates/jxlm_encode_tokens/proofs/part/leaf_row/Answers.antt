use Rattle.std.proofs.Common.{◌≡◌, ◌-◌, suc, ℕ, [], pos, map, arith, refl, subst}
use Rattle.std.specs.Prelude.{slice_get}
use Rattle.jxlm_base.specs.Regions.{region_cell}
use Rattle.jxlm_samples.specs.RowNeighbours.{gradient_in}
use Rattle.jxlm_encode_tokens.specs.Inner.Walks.{AreLeafTokens}
use Rattle.jxlm_encode_tokens.proofs.Cells.{row_of_region}
use Rattle.jxlm_encode_tokens.proofs.LeafRows.{gradient_tokens, other_predictor, zero_tokens}
use Rattle.jxlm_encode_tokens.proofs.part.leaf_row.Goals as goal

pub zero_row-requires-clause-multiplier : goal.zero_row-requires-clause-multiplier
zero_row-requires-clause-multiplier g c κs within = c.requires.leaf.one

pub gradient_row-requires-clause-multiplier : goal.gradient_row-requires-clause-multiplier
gradient_row-requires-clause-multiplier g c κs within = c.requires.leaf.one

pub gradient_row-requires-in_default-2-clause-multiplier : goal.gradient_row-requires-in_default-2-clause-multiplier
gradient_row-requires-in_default-2-clause-multiplier g c κs within = c.requires.leaf.one

pub returns-in-Zero : goal.returns-in-Zero
returns-in-Zero g c =
    let coding = c.args.coding.now in
    let to_int = g.S.Sealed.to_int in
    let row = c.region_row-row.result.now in
    let has = row_of_region coding c.args.store.now c.args.i c.args.y _ row c.region-region.ensures c.requires.below c.region_row-row.ensures.len c.region_row-row.ensures.cells in
    zero_tokens coding c.requires.here.walked.coding c.args.i c.requires.here.channel to_int c.args.store.now c.args.y row has g.S.Sealed.width g.T.TokenForm.form c.args.leaf c.requires.leaf
    c.in-Zero.is c.zero_row.new.out
    (subst (λ n. AreLeafTokens g.T.TokenForm.form g.S.Sealed.width (λ x. c.args.leaf) (λ x. pos 0) (map to_int row) n c.zero_row.new.out) has.long c.zero_row.ensures)

pub returns-in_default : goal.returns-in_default
returns-in_default g c =
    let coding = c.args.coding.now in
    let to_int = g.S.Sealed.to_int in
    let row = c.region_row-row.result.now in
    let has = row_of_region coding c.args.store.now c.args.i c.args.y _ row c.region-region.ensures c.requires.below c.region_row-row.ensures.len c.region_row-row.ensures.cells in
    gradient_tokens coding c.requires.here.walked.coding c.args.i c.requires.here.channel to_int c.args.store.now c.args.y row has g.S.Sealed.width g.T.TokenForm.form
    [] (λ first. refl) (λ z is. absurd (omega (arith, is, c.if-y-eq0.true))) c.args.leaf c.requires.leaf (other_predictor c.args.leaf c.requires.leaf.predictor c.in_default.not-Zero) c.gradient_row.new.out
    (subst (λ n. AreLeafTokens g.T.TokenForm.form g.S.Sealed.width (λ x. c.args.leaf) (gradient_in [] (map to_int row)) (map to_int row) n c.gradient_row.new.out) has.long c.gradient_row.ensures)

pub returns-in_default-2 : goal.returns-in_default-2
returns-in_default-2 g c =
    let coding = c.args.coding.now in
    let to_int = g.S.Sealed.to_int in
    let store = c.args.store.now in
    let i = c.args.i in
    let row = c.region_row-row.result.now in
    let above = c.region_row.result.now in
    let has = row_of_region coding store i c.args.y _ row c.region-region.ensures c.requires.below c.region_row-row.ensures.len c.region_row-row.ensures.cells in
    let over = λ (z : ℕ) (is : c.args.y ≡ suc z).
    let before : c.args.y - 1 ≡ z = omega (arith, is) in
    row_of_region coding store i z _ above c.region-region.ensures (let b = c.requires.below in omega (arith, b, is)) c.region_row.ensures.len
    (λ x px. subst (λ k. region_cell store c.region-region.result x k ≡ slice_get above x) before (c.region_row.ensures.cells x px)) in
    gradient_tokens coding c.requires.here.walked.coding i c.requires.here.channel to_int store c.args.y row has g.S.Sealed.width g.T.TokenForm.form
    above (λ first. absurd (omega (arith, first, c.if-y-eq0.false))) over c.args.leaf c.requires.leaf (other_predictor c.args.leaf c.requires.leaf.predictor c.in_default-2.not-Zero) c.gradient_row-in_default-2.new.out
    (subst (λ n. AreLeafTokens g.T.TokenForm.form g.S.Sealed.width (λ x. c.args.leaf) (gradient_in (map to_int above) (map to_int row)) (map to_int row) n c.gradient_row-in_default-2.new.out) has.long c.gradient_row-in_default-2.ensures)
