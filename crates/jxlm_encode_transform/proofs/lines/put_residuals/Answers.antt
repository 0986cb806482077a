use Rattle.std.proofs.Common.{length, arith}
use Rattle.jxlm_lanes.specs.Squeeze.{residual_at}
use Rattle.jxlm_encode_transform.specs.Inner.Lines.{number_in}
use Rattle.jxlm_encode_transform.proofs.Numbers.{put_next}
use Rattle.jxlm_encode_transform.proofs.lines.put_residuals.Goals as goal

pub loop-k-preserved : goal.loop-k-preserved
loop-k-preserved g c =
    let f = g.S.Sealed.to_int in
    let line = c.args.line.now in
    put_next f c.loop-k.residuals c.loop-k.k c.residual_at.result (residual_at g.S.Sealed.width (length line) (number_in f line)) (omega arith) c.residual_at.ensures c.loop-k.invariant
