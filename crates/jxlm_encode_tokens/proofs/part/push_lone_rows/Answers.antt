use Rattle.std.proofs.Common.{◌≡◌, ◌+◌, ◌*◌, ap, arith, subst, ◌∙◌}
use Rattle.jxlm_base.specs.declared.subgrid.Region.{Region}
use Rattle.jxlm_samples.specs.Part.{cells_before}
use Rattle.jxlm_samples.specs.Reading.{part_of, regions_of}
use Rattle.jxlm_samples.specs.ChannelSettings.{region_at}
use Rattle.jxlm_encode_tokens.specs.Inner.Walks.{AreFirstTokens}
use Rattle.jxlm_encode_tokens.proofs.Pass.{all_rows, row_added}
use Rattle.jxlm_encode_tokens.proofs.part.push_lone_rows.Goals as goal

pub loop-y-preserved : goal.loop-y-preserved
loop-y-preserved g c =
    let long = c.lone_row.auto.out ∙ c.loop-y.invariant.long in
    record {
      long = long;
      tokens = row_added c.args.coding.now g.S.Sealed.width g.S.Sealed.to_int c.args.store.now g.T.TokenForm.form c.args.i c.loop-y.y c.loop-y.tokens.items c.lone_row.new.out c.extend_from_slice.new.self.items
          long c.in_ok-extend_from_slice.ensures.items c.loop-y.invariant.tokens c.lone_row.ensures;
    }

pub returns : goal.returns
returns g c =
    let coding = c.args.coding.now in
    let all : c.loop-y.y ≡ (region_at (regions_of coding) c.args.i).height = let end = c.loop-y.auto.y-end in let is = ap (λ (r : Region). r.height) c.region-y-end.ensures in omega (arith, end, is, c.loop-y-test.false) in
    all_rows coding g.S.Sealed.width g.S.Sealed.to_int c.args.store.now g.T.TokenForm.form c.requires.here.walked.coding c.args.i c.requires.here.channel c.loop-y.tokens.items
    (subst (λ n. AreFirstTokens coding g.S.Sealed.width g.S.Sealed.to_int c.args.store.now g.T.TokenForm.form (cells_before (part_of coding).channels c.args.i + n * (region_at (regions_of coding) c.args.i).width) c.loop-y.tokens.items)
    all c.loop-y.invariant.tokens)
