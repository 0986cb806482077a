use Rattle.std.proofs.Common.{◌≡◌, ◌+◌, ◌*◌, ◌^◌, min, take, sum_by}
use Rattle.jxlm_header.proofs.opening.node_limit.Given as goal

abbrev pub invariant-loop-channel : goal.invariant-loop-channel
invariant-loop-channel l = l.limit ≡ min (1024 + sum_by (λ p. p.info.width * p.info.height) (take l.channel-index l.channels)) (2 ^ 20)
