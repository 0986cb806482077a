use Rattle.std.proofs.Common.{ap, ◌∙◌}
use Rattle.std.proofs.lemmas.Int.{to_z-of_z}
use Rattle.std.specs.Int.{int_wrap, w32, w64}
use Rattle.jxlm_encode_transform.proofs.lines.reduced.Goals as goal

pub returns : goal.returns
returns g c =
    ap g.S.Sealed.to_int c.from_i32.ensures ∙ g.met.S.Sealed.to_int_from_int _
    ∙ ap (int_wrap g.S.Sealed.width) (to_z-of_z w32 c.reduced_to_i32.result (record { sfits = c.reduced_to_i32.type_inv }) ∙ c.reduced_to_i32.ensures)
    ∙ g.met.S.Sealed.wraps_after_i32 _
    ∙ ap (int_wrap g.S.Sealed.width) (to_z-of_z w64 c.args.value c.ranges.value)
