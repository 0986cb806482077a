use Rattle.std.proofs.Common.{◌≡◌, ◌++◌, take, string_bytes}
use Rattle.jxl_info.specs.Channels.{extra_lines}
use Rattle.jxl_info.proofs.channels.append_extras.Given as goal

abbrev pub invariant-loop-number : goal.invariant-loop-number
invariant-loop-number l = string_bytes l.text ≡ string_bytes l.initial.text ++ extra_lines (take l.number l.extra)
