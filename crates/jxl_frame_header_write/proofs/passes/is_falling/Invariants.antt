use Rattle.std.proofs.Common.{◌≡◌, ℕ, take, drop, true}
use Rattle.std.specs.Prelude.{nat_lt}
use Rattle.std.specs.List.{list_all, zip}
use Rattle.jxl_frame_header_write.proofs.passes.is_falling.Given as goal

abbrev pub invariant-loop-place : goal.invariant-loop-place
invariant-loop-place l = list_all (λ (e : ℕ × ℕ). nat_lt e.1 e.0) (take l.place (zip l.values (drop 1 l.values))) ≡ true
