use Rattle.std.proofs.Common.{◌∙◌, ◌*◌, ap, arith}
use Rattle.jxlm_encode_transform.proofs.Averaged.{squeezed_lines}
use Rattle.jxlm_encode_transform.proofs.StripSteps.{halves}
use Rattle.jxlm_encode_transform.proofs.squeeze.put_squeezed.Goals as goal

pub overflow_mul-count : goal.overflow_mul-count
overflow_mul-count g c = rw c.averages-lines.ensures (let room = c.requires.room in omega (arith, room, halves c.args.strip.height c.args.strip.width))

pub split_at_mut-averages-requires : goal.split_at_mut-averages-requires
split_at_mut-averages-requires g c = rw c.averages-lines.ensures (let room = c.requires.room in omega (arith, room, halves c.args.strip.height c.args.strip.width))

pub put_averages-requires-clause-room : goal.put_averages-requires-clause-room
put_averages-requires-clause-room g c κs within = c.split_at_mut-averages.ensures.front_len ∙ ap (λ n. n * c.args.strip.width) c.averages-lines.ensures

pub put_residuals-requires-clause-len : goal.put_residuals-requires-clause-len
put_residuals-requires-clause-len g c κs within =
    c.put_averages.ensures.len ∙ c.split_at_mut-averages.ensures.front_len ∙ ap (λ n. n * c.args.strip.width) c.averages-lines.ensures

pub put_residuals-requires-clause-room : goal.put_residuals-requires-clause-room
put_residuals-requires-clause-room g c κs within =
    let back = rw c.averages-lines.ensures at c.split_at_mut-averages.ensures.back_len in
    let room = c.requires.room in
    omega (arith, back, room, halves c.args.strip.height c.args.strip.width)

pub returns-clause-squeezed : goal.returns-clause-squeezed
returns-clause-squeezed g c =
    squeezed_lines g.S.Sealed.to_int g.S.Sealed.width c.args.strip c.args.store.now c.put_averages.new.averages c.put_averages.ensures.averages c.put_residuals.new.residuals
    (c.put_averages.ensures.len ∙ c.split_at_mut-averages.ensures.front_len ∙ ap (λ n. n * c.args.strip.width) c.averages-lines.ensures) c.put_residuals.ensures.residuals
