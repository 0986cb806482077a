use Rattle.std.proofs.Common.{arith}
use Rattle.std.proofs.lemmas.Int.{ints}
use Rattle.jxl_blending.proofs.overlap.Overlap.of_sides.Goals as goal

pub returns-then-start-lt0 : goal.returns-then-start-lt0
returns-then-start-lt0 c = record {
  in_front = λ h. omega (arith, ints);
  in_back = λ h. omega (arith, ints);
  lies = λ k h. omega (arith, ints);
  all = λ i x h l e. (x, omega (arith, ints), omega (arith, ints));
}

pub returns-else-start-lt0 : goal.returns-else-start-lt0
returns-else-start-lt0 c = record {
  in_front = λ h. omega (arith, ints);
  in_back = λ h. omega (arith, ints);
  lies = λ k h. omega (arith, ints);
  all = λ i x h l e. (i, omega (arith, ints), omega (arith, ints));
}
