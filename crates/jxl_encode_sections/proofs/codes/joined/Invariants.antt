use Rattle.std.proofs.Common.{◌≡◌, ◌++◌, take}
use Rattle.jxl_encode_sections.specs.Inner.Parts.{all_tokens}
use Rattle.jxl_encode_sections.proofs.codes.joined.Given as goal

abbrev pub invariant-loop-part : goal.invariant-loop-part
invariant-loop-part l = l.tokens.items ≡ l.fn.first ++ all_tokens (take l.part-index l.parts)
