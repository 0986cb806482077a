use Rattle.std.proofs.Common.{◌≡◌, ◌++◌, drop, string_bytes}
use Rattle.jxl_info.proofs.KindNames.{rest_kinds}
use Rattle.jxl_info.specs.Channels.{kinds_but}
use Rattle.jxl_info.proofs.channels.append_kinds.Given as goal

abbrev pub invariant-loop-channel : goal.invariant-loop-channel
invariant-loop-channel l =
    string_bytes l.initial.text ++ kinds_but l.grey l.black l.extra ≡ string_bytes l.text ++ rest_kinds l.passed l.grey l.black (drop l.channel-index l.extra)
