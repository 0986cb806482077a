use Rattle.std.proofs.Common.{◌≡◌, ◌++◌, string_bytes}
use Rattle.jxlm_base.specs.Grid.{meanings}
use Rattle.jxl_text.specs.Printing.{rows_text}
use Rattle.jxl_text.proofs.printing.append_channel.Given as goal

abbrev pub invariant-loop-y : goal.invariant-loop-y
invariant-loop-y g l =
    string_bytes l.text ≡ string_bytes l.initial.text ++ rows_text (meanings g.S.Sealed.to_int l.channel) l.y
