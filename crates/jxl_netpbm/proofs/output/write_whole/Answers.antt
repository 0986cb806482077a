use Rattle.std.proofs.Common.{◌≤◌, ℕ, List, length, drop, subst, arith, length-drop}
use Rattle.std.proofs.lemmas.List.{take_rest}
use Rattle.jxl_netpbm.proofs.Writing.{wrote_more}
use Rattle.jxl_netpbm.proofs.output.write_whole.Goals as goal

pub loop-at-preserved : goal.loop-at-preserved
loop-at-preserved g c = record {
  within =
      let bound : c.in_ok-at.field-0 ≤ length (drop c.loop-at.at c.args.bytes.now) = subst (λ (xs : List ℕ). c.in_ok-at.field-0 ≤ length xs) (take_rest c.args.bytes.now c.loop-at.at) c.in_ok-at.ensures.bound in
      let left = length-drop c.loop-at.at c.args.bytes.now in
      omega (arith, bound, left, c.loop-at.invariant.within);
  wrote = wrote_more _ _ _ c.args.bytes.now _ c.loop-at.at c.in_ok-at.field-0 c.loop-at.invariant.wrote (take_rest c.args.bytes.now c.loop-at.at) c.in_ok-at.ensures.bytes;
}
