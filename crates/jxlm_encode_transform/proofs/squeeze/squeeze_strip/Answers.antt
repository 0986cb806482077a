use Rattle.std.proofs.Common.{◌∙◌, sym, arith}
use Rattle.jxlm_encode_transform.proofs.squeeze.squeeze_strip.Goals as goal

pub returns : goal.returns
returns g c = record {
  each = λ x y p q. sym (c.write_lines.ensures.lines x y p q) ∙ c.put_squeezed.ensures.squeezed x y p q;
  samples = c.put_squeezed.ensures.samples;
  rest = λ x y l p q. absurd (omega (arith, l, p));
  keeps = c.write_lines.ensures.keeps;
}
