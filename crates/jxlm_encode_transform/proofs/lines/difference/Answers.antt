use Rattle.std.proofs.Common.{◌∙◌}
use Rattle.jxlm_encode_transform.proofs.Reduced.{difference_is}
use Rattle.jxlm_encode_transform.proofs.lines.difference.Goals as goal

pub returns : goal.returns
returns g c =
    c.reduced.ensures ∙ difference_is g.S.Sealed.width (g.S.Sealed.to_int c.args.a) (g.S.Sealed.to_int c.args.b) c.to_i32.result c.to_i32-2.result c.from.result c.from-2.result
    (record { sfits = c.to_i32.type_inv }) (record { sfits = c.to_i32-2.type_inv }) c.to_i32.ensures.value c.from.ensures c.to_i32-2.ensures.value c.from-2.ensures
