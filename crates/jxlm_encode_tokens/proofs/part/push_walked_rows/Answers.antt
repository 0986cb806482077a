use Rattle.std.proofs.Common.{◌≡◌, ◌+◌, ◌*◌, take, ap, arith, refl, subst}
use Rattle.jxlm_base.specs.Regions.{grid_of, store_meanings}
use Rattle.jxlm_base.specs.declared.subgrid.Region.{Region}
use Rattle.jxlm_samples.specs.ChannelSettings.{StandsAfter, region_at}
use Rattle.jxlm_samples.specs.Part.{cells_before}
use Rattle.jxlm_samples.specs.Reading.{part_of, regions_of}
use Rattle.jxlm_samples.proofs.CellLaws.{roomy_still}
use Rattle.jxlm_samples.proofs.Starting.{after_channel}
use Rattle.jxlm_encode_tokens.specs.Inner.Walks.{AreFirstTokens}
use Rattle.jxlm_encode_tokens.proofs.Cells.{at_row_end, at_row_start, none_yet}
use Rattle.jxlm_encode_tokens.proofs.Pass.{all_rows, no_row, row_added}
use Rattle.jxlm_encode_tokens.proofs.part.push_walked_rows.Goals as goal

pub loop-y-init : goal.loop-y-init
loop-y-init g c =
    let first : 0 ≡ 0 * (region_at (regions_of c.args.coding.now) c.args.i).width = omega arith in
    record {
      long = c.requires.long;
      tokens = no_row c.args.coding.now g.S.Sealed.width g.S.Sealed.to_int c.args.store.now g.T.TokenForm.form c.args.i c.args.tokens.now.items c.requires.before;
      roomy = c.requires.roomy;
      stands = subst (λ n. StandsAfter c.args.coding.now g.S.Sealed.to_int c.args.store.now c.args.i n c.args.walk.now.state) first c.requires.stands;
    }

pub walked_row-requires-clause-line : goal.walked_row-requires-clause-line
walked_row-requires-clause-line g c κs within = record {
  here = c.requires.here;
  below = let is = ap (λ (r : Region). r.height) c.region-y-end.ensures in let end = c.loop-y.auto.y-end in omega (arith, is, end, c.loop-y-test.true);
  columns = c.requires.columns;
  gives = tt;
  clamped = c.clamps-clamped.ensures;
}

pub walked_row-requires-clause-at : goal.walked_row-requires-clause-at
walked_row-requires-clause-at g c κs within = record {
  long = c.loop-y.invariant.long;
  tokens = none_yet c.args.coding.now g.S.Sealed.width g.S.Sealed.to_int c.args.store.now g.T.TokenForm.form c.args.i c.loop-y.y c.loop-y.out;
  stands = at_row_start c.args.coding.now c.args.i g.S.Sealed.to_int c.args.store.now c.loop-y.y c.loop-y.walk.state c.loop-y.invariant.stands;
}

pub loop-y-preserved : goal.loop-y-preserved
loop-y-preserved g c =
    let coding = c.args.coding.now in
    let at = c.walked_row.ensures.at in
    record {
      long = at.long;
      tokens = row_added coding g.S.Sealed.width g.S.Sealed.to_int c.args.store.now g.T.TokenForm.form c.args.i c.loop-y.y c.loop-y.tokens.items c.walked_row.new.out c.extend_from_slice.new.self.items
          at.long c.in_ok-extend_from_slice.ensures.items c.loop-y.invariant.tokens at.tokens;
      roomy = roomy_still coding c.requires.here.walked.coding c.args.i c.requires.here.channel c.loop-y.walk.state c.walked_row.new.walk.state c.walked_row.ensures.room c.loop-y.invariant.roomy;
      stands = at_row_end coding c.args.i g.S.Sealed.to_int c.args.store.now c.loop-y.y _ c.walked_row.new.walk.state refl at.stands;
    }

pub returns-clause-tokens : goal.returns-clause-tokens
returns-clause-tokens g c =
    let coding = c.args.coding.now in
    let all : c.loop-y.y ≡ (region_at (regions_of coding) c.args.i).height = let end = c.loop-y.auto.y-end in let is = ap (λ (r : Region). r.height) c.region-y-end.ensures in omega (arith, end, is, c.loop-y-test.false) in
    all_rows coding g.S.Sealed.width g.S.Sealed.to_int c.args.store.now g.T.TokenForm.form c.requires.here.walked.coding c.args.i c.requires.here.channel c.loop-y.tokens.items
    (subst (λ n. AreFirstTokens coding g.S.Sealed.width g.S.Sealed.to_int c.args.store.now g.T.TokenForm.form (cells_before (part_of coding).channels c.args.i + n * (region_at (regions_of coding) c.args.i).width) c.loop-y.tokens.items)
    all c.loop-y.invariant.tokens)

pub returns-clause-last : goal.returns-clause-last
returns-clause-last g c =
    let coding = c.args.coding.now in
    let reg = region_at (regions_of coding) c.args.i in
    after_channel coding c.args.i c.loop-y.walk.state
    (λ walked. record { before = take (c.loop-y.y * reg.width) (grid_of (store_meanings g.S.Sealed.to_int c.args.store.now) reg).cells; stands = c.loop-y.invariant.stands })
