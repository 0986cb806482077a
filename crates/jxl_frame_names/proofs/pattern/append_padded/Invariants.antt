use Rattle.std.proofs.Common.{◌≡◌, ◌++◌, ◌-◌, ◌≤◌, length}
use Rattle.std.specs.Prelude.{replicate, string_bytes}
use Rattle.jxl_frame_names.proofs.pattern.append_padded.Given as goal

-- as many zeros as the digits lack so far, and no more than they lack
abbrev pub invariant-loop-filled : goal.invariant-loop-filled
invariant-loop-filled l =
    (string_bytes l.name ≡ string_bytes l.initial.name ++ replicate (l._filled - length l.number) 48) × (l._filled - length l.number ≤ l.width - length l.number)
