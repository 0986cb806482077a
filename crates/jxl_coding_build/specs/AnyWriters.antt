-- Codes by which tokens are written, without copies or with (ISO/IEC 18181-1, entropy decoding).
use Rattle.std.specs.Prelude.{ℕ, ◌<◌, List, length, Some}
use Rattle.std.specs.List.{All}
use Rattle.jxlm_bit_writer.specs.declared.token.Token.{Token}
use Rattle.jxl_coding.specs.Symbols.{Codes}
use Rattle.jxl_coding_build.specs.declared.any.AnyWriter.{AnyWriter}
use Rattle.jxl_coding_build.specs.declared.any.AnyWriter.TheVariants.{Copying, Plain}
use Rattle.jxl_coding_stream_write.specs.Codes.{codes_of, codes_with}
use Rattle.jxl_coding_stream_write.specs.CopiedStreams.{IsBelowCopies}
use Rattle.jxl_coding_stream_write.specs.Heads.{IsCopyHead, IsHead}
use Rattle.jxl_coding_stream_write.specs.Tokens.{HasSlot}

-- the codes of their decoder
abbrev pub codes_in : AnyWriter → Codes
codes_in (Plain w) = codes_of w
codes_in (Copying w) = codes_with (Some w.rule) w.codes

-- a head can signal these codes
abbrev pub HasHead : AnyWriter → Type 0
HasHead (Plain w) = IsHead w
HasHead (Copying w) = IsCopyHead w × (0 < length w.codes.clusters.items)

-- the symbol of each token occurs in its cluster, and is not one of copies
abbrev pub HaveSlots : AnyWriter → List Token → Type 0
HaveSlots (Plain w) tokens = All (HasSlot w.codes.items) tokens
HaveSlots (Copying w) tokens = All (HasSlot w.codes.codes.items) tokens × All (IsBelowCopies w.rule w.codes.codes.items) tokens
