use Rattle.std.proofs.Common.{◌≡◌, ◌∙◌, arith, ap, length, refl}
use Rattle.std.proofs.lemmas.Result.{err_from_is_err_and}
use Rattle.jxlm_samples.specs.Part.{cell_count, cells_before}
use Rattle.jxlm_samples.specs.Reading.{part_of, regions_of}
use Rattle.jxlm_samples.proofs.Decoding.{decodes_on, fails_on, none_decoded}
use Rattle.jxlm_samples.proofs.Loops.{all_done}
use Rattle.jxlm_samples.proofs.Starting.{as_many_channels}
use Rattle.jxlm_samples.proofs.decode.decode_channels.Goals as goal

pub loop-i-init : goal.loop-i-init
loop-i-init g c = record { goes = none_decoded _ _ _ refl; at = c.requires.at }

pub loop-i-preserved : goal.loop-i-preserved
loop-i-preserved g c = record {
  goes = decodes_on c.loop-i.invariant.goes c.in_ok-decode_channel.ensures.gives;
  at = c.in_ok-decode_channel.ensures.at;
}

pub returns-in_err-decode_channel : goal.returns-in_err-decode_channel
returns-in_err-decode_channel g c =
    let p = err_from_is_err_and c.from_residual.result c.from_residual.ensures.1 in
    rw (p.1, p.2) (fails_on c.loop-i.invariant.goes c.in_err-decode_channel.ensures.gives)

pub returns : goal.returns
returns g c =
    let part = part_of c.args.coding.now in
    let all : c.loop-i.i ≡ length (regions_of c.args.coding.now) = let end = c.loop-i.auto.i-end in let n = as_many_channels c.args.coding.now in omega (arith, end, n, c.loop-i-test.false) in
    let cells : cells_before part.channels c.loop-i.i ≡ cell_count part.channels = ap (cells_before part.channels) all ∙ all_done part (regions_of c.args.coding.now) c.requires.at.part.coding.sizes in
    rw (← cells) c.loop-i.invariant.goes
