use Rattle.std.proofs.Common.{◌≡◌, ◌∷◌, ◌++◌, ◌+◌, ◌*◌, ◌≤◌, take}
use Rattle.std.specs.Fmt.{signed_decimal}
use Rattle.std.specs.List.{flat_map}
use Rattle.jxl_netpbm.proofs.decimals.put_samples.Given as goal

abbrev pub invariant-loop-sample : goal.invariant-loop-sample
invariant-loop-sample l = record {
  room : l.end ≤ l.at + l.sample-index * 12 + 11;
  text : take l.end l.bytes ≡ take l.initial.end l.initial.bytes ++ flat_map (λ v. 32 ∷ signed_decimal v) (take l.sample-index l.rest);
}
