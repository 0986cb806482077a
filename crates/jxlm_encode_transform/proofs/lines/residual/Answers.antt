use Rattle.std.proofs.Common.{◌∙◌, arith}
use Rattle.jxlm_lanes.specs.Squeeze.{difference}
use Rattle.jxlm_encode_transform.proofs.Reduced.{difference_fits, small32, residual_is}
use Rattle.jxlm_encode_transform.proofs.lines.residual.Goals as goal

pub overflow_sub-from : goal.overflow_sub-from
overflow_sub-from g c =
    let small = c.tendency-around.ensures.small in
    difference_fits c.from.result c.tendency-around.result (small32 c.from.result c.to_i32-4.result (record { sfits = c.to_i32-4.type_inv }) c.from.ensures) (omega (arith, small))

pub returns : goal.returns
returns g c =
    let f = g.S.Sealed.to_int in
    let w = g.S.Sealed.width in
    c.reduced.ensures ∙ residual_is w (difference w (f c.args.a) (f c.args.b)) (f c.args.before) (f c.args.average) (f c.args.next)
    c.to_i32-4.result c.from.result c.tendency-around.result c.to_i32.result c.to_i32-2.result c.to_i32-3.result
    (record { sfits = c.to_i32-4.type_inv }) (record { sfits = c.to_i32.type_inv }) (record { sfits = c.to_i32-2.type_inv }) (record { sfits = c.to_i32-3.type_inv })
    (c.to_i32-4.ensures.value ∙ c.difference-difference.ensures) c.to_i32.ensures.value c.to_i32-2.ensures.value c.to_i32-3.ensures.value
    c.from.ensures c.tendency-around.ensures.value c.tendency-around.ensures.small
