use Rattle.std.proofs.Common.{◌≡◌, ◌≤◌, suc, pos, map}
use Rattle.std.specs.List.{range_with_len}
use Rattle.jxl_frame_header.specs.Passes.{least_shift, passes_of}
use Rattle.jxl_frame_header.proofs.passes.Passes.shifts.Given as goal

abbrev pub invariant-loop-pass : goal.invariant-loop-pass
invariant-loop-pass l = record {
  held : l.held.entries ≡ map (λ p. (p, (pos (least_shift (passes_of l.self) (suc p)), pos (least_shift (passes_of l.self) p)))) (range_with_len 0 l.pass);
  end : l.end ≡ least_shift (passes_of l.self) l.pass;
  small : l.end ≤ 3;
}
