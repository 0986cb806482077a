use Rattle.std.proofs.Common.{◌≤◌, ◌<◌}
use Rattle.std.specs.Prelude.{take}
use Rattle.std.specs.List.{All}
use Rattle.jxlm_encode_write.proofs.Widths.{FitsWith}
use Rattle.jxlm_encode_write.proofs.plain.width_of.Given as goal

abbrev pub invariant-loop-token : goal.invariant-loop-token
invariant-loop-token l = record {
  all : All (λ t. t ≤ l.greatest) (take l.token-index l.tokens);
  fits : FitsWith (take l.token-index l.tokens) l.greatest;
  small : l.greatest < 4294967296;
}
