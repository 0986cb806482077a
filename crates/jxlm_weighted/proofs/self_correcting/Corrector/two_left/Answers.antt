use Rattle.std.proofs.Common.{◌<◌, ◌-◌, arith}
use Rattle.jxlm_weighted.proofs.self_correcting.Corrector.two_left.Goals as goal

pub returns-else-this-ne0 : goal.returns-else-this-ne0
returns-else-this-ne0 g c = λ header width y samples by. c.left.ensures header width y samples (record {
  same_width = by.same_width;
  same_header = by.same_header;
  keeps = record {
    current_is = λ i lt. let before : i < c.args.x - 1 = lt in by.keeps.current_is i (omega (arith, before));
    previous_is = by.keeps.previous_is;
  };
})
