use Rattle.std.proofs.Common.{◌≡◌, length, arith}
use Rattle.jxlm_lanes.specs.Squeeze.{averages}
use Rattle.jxlm_encode_transform.proofs.Numbers.{squeezed_halves}
use Rattle.jxlm_encode_transform.proofs.lines.squeeze_line.Goals as goal

pub returns-clause-squeezed : goal.returns-clause-squeezed
returns-clause-squeezed g c =
    let len = c.put_averages.ensures.len in
    let front = c.split_at_mut-averages.ensures.front_len in
    let count = c.averages-count.ensures in
    let long : length c.put_averages.new.averages ≡ averages (length c.args.line.now) = omega (arith, len, front, count) in
    squeezed_halves g.S.Sealed.to_int g.S.Sealed.width c.args.line.now c.put_averages.new.averages c.put_residuals.new.residuals long
    c.put_averages.ensures.averages c.put_residuals.ensures.residuals
