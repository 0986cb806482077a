use Rattle.std.proofs.Common.{◌≡◌, ◌++◌, drop, string_bytes}
use Rattle.jxldec_lines.specs.Inner.Kinds.{rest_kinds}
use Rattle.jxldec_lines.proofs.warning.append_kinds.Given as goal

abbrev pub invariant-loop-channel : goal.invariant-loop-channel
invariant-loop-channel l =
    string_bytes l.initial.text ++ rest_kinds l.all l.extra ≡ string_bytes l.text ++ rest_kinds l.passed (drop l.channel-index l.extra)
