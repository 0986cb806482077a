use Rattle.std.proofs.Common.{◌∙◌, ap, pos, rules, sym, tests}
use Rattle.std.specs.Int.{int_wrap}
use Rattle.std.proofs.Math.IntN.{+ℤ_idr}
use Rattle.jxlm_samples.proofs.GradientCells.{plain_sample}
use Rattle.jxlm_samples.proofs.zeros.sample_over_zero.Goals as goal

pub returns-then-this-ne0 : goal.returns-then-this-ne0
returns-then-this-ne0 g c =
    let plain = plain_sample g.S.Sealed.width c.args.leaf c.args.token (pos 0) (c.requires.plain (search (rules, tests))) in
    ap g.S.Sealed.to_int c.unpack_signed_u32.ensures ∙ g.met.S.Sealed.to_int_from_int _ ∙ sym (plain ∙ ap (int_wrap g.S.Sealed.width) (+ℤ_idr _))

pub returns-else-this-ne0 : goal.returns-else-this-ne0
returns-else-this-ne0 g c = ap g.S.Sealed.to_int c.sample_from.ensures ∙ g.met.S.Sealed.to_int_from_int _
