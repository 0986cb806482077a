use Rattle.std.proofs.Common.{◌∙◌, ℕ, subst}
use Rattle.std.specs.Global.{Vec}
use Rattle.jxl_encode.specs.Files.{IsCodestreamOf}
use Rattle.jxl_encode.proofs.Told.{kept_coded, told_also}
use Rattle.jxl_encode.proofs.choice.shortest.Goals as goal

pub loop-advice-preserved : goal.loop-advice-preserved
loop-advice-preserved g c =
    let picture = c.args.picture.now in
    let told = subst (λ (n : ℕ). g.P.Progress.way_tried_gives c.loop-advice.progress n c.way_tried.new.self) (c.len.ensures ∙ c.in_ok-bytes.bytes.ok.0) c.way_tried.ensures in
    record {
      coded = kept_coded (λ (v : Vec ℕ). IsCodestreamOf picture v.items) c.loop-advice.best c.in_ok-bytes.bytes c.shorter.result c.loop-advice.invariant.coded c.in_ok-bytes.ensures.coded c.shorter.ensures.one;
      told = told_also picture g.P.Progress.way_tried_gives c.args.progress.now c.loop-advice.best c.loop-advice.progress c.way_tried.new.self c.in_ok-bytes.bytes.items c.shorter.result.items
          c.loop-advice.invariant.told told c.in_ok-bytes.ensures.coded c.shorter.ensures.best c.shorter.ensures.other;
    }
