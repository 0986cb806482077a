-- A token that can be written in a cluster (ISO/IEC 18181-1, entropy decoding: integer decoding).
use Rattle.std.specs.Prelude.{ℕ, ◌<◌, List, length, get_or, slice_index}
use Rattle.jxl_coding_write.specs.HybridIntegers.{symbol_of}
use Rattle.jxl_coding_stream_write.specs.declared.cluster.ClusterWriter.{ClusterWriter}
use Rattle.jxlm_bit_writer.specs.declared.token.Token.{Token}

-- the symbol of a number occurs in the cluster
abbrev pub Occurs : ClusterWriter → ℕ → Type 0
Occurs code token = 0 < slice_index code.slots.counts.items (symbol_of code.config token)

-- the symbol of the token occurs in its cluster
abbrev pub HasSlot : List ClusterWriter → Token → Type 0
HasSlot codes token = (token.cluster < length codes) × ((d : ClusterWriter) → Occurs (get_or codes token.cluster d) token.value)
