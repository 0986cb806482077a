use Rattle.std.proofs.Common.{◌≡◌, ◌∙◌, ap, arith, refl}
use Rattle.std.proofs.lemmas.Result.{err_from_is_err_and}
use Rattle.jxlm_base.specs.declared.subgrid.Region.{Region}
use Rattle.jxlm_samples.specs.ChannelSettings.{region_at}
use Rattle.jxlm_samples.specs.Reading.{regions_of}
use Rattle.jxlm_samples.proofs.Decoding.{decodes_on, fails_on, none_decoded}
use Rattle.jxlm_samples.proofs.decode.decode_rows.Goals as goal

pub loop-y-init : goal.loop-y-init
loop-y-init g c = record { long = c.requires.long; goes = none_decoded _ _ _ refl; at = c.requires.at }

pub loop-y-preserved : goal.loop-y-preserved
loop-y-preserved g c = record {
  long = c.decode_row.auto.row ∙ c.loop-y.invariant.long;
  goes = decodes_on c.loop-y.invariant.goes c.in_ok-decode_row.ensures.gives;
  at = c.in_ok-decode_row.ensures.at;
}

pub returns-in_err-decode_row-clause-gives : goal.returns-in_err-decode_row-clause-gives
returns-in_err-decode_row-clause-gives g c =
    let p = err_from_is_err_and c.from_residual.result c.from_residual.ensures.1 in
    rw (p.1, p.2) (fails_on c.loop-y.invariant.goes c.in_err-decode_row.ensures.gives)

pub returns : goal.returns
returns g c =
    let all : c.loop-y.y ≡ (region_at (regions_of c.args.rows.now.coding.now) c.args.rows.now.i).height = let end = c.loop-y.auto.y-end in let is = ap (λ (r : Region). r.height) c.region-y-end.ensures in omega (arith, end, is, c.loop-y-test.false) in
    rw (← all) (record { gives = c.loop-y.invariant.goes; at = c.loop-y.invariant.at })
