use Rattle.std.proofs.Common.{◌≡◌}
use Rattle.std.specs.Option.{IfSome}
use Rattle.std.specs.Prelude.{MatchOption}
use Rattle.jxl_encode.specs.Files.{IsCodestreamOf}
use Rattle.jxl_encode.specs.Ways.{IsShortestTried}
use Rattle.jxl_encode.proofs.choice.shortest.Given as goal

abbrev pub invariant-loop-advice : goal.invariant-loop-advice
invariant-loop-advice g l = record {
  coded : IfSome l.best (λ v. IsCodestreamOf l.fn.picture v.items);
  told : MatchOption l.best (l.progress ≡ l.fn.progress)
      (λ v. IsShortestTried l.fn.picture g.P.Progress.way_tried_gives l.fn.progress l.progress v.items);
}
