-- What the first section of a frame begins with, as it was written.
use Rattle.std.proofs.Common.{ℕ, List, Bool, true, false, refl}
use Rattle.jxlm_bits.specs.Grammar.{IsExact, flag}
use Rattle.jxlm_bits.proofs.GrammarLaws.{bind, exact-flag}
use Rattle.jxl_image_header.proofs.HeaderLaws.{exact-bundle_follows, exact-ignored_bytes, exact-when}
use Rattle.jxl_image_header.specs.Fields.{bundle_follows}
use Rattle.jxlm_bit_writer.specs.Writes.{Spells, Writes}
use Rattle.jxlm_bit_writer.proofs.WriteLaws.{after, becomes, spelled_reads}
use Rattle.jxl_codestream.specs.Starts.{section_start}

exact-section_start : IsExact section_start
exact-section_start = bind (exact-bundle_follows true) λ follows. bind (exact-when follows tt (exact-ignored_bytes 6)) λ u. exact-flag

pub start_written : (v : Bool) (a b c : List ℕ) → Spells a b (bundle_follows true) false → Spells b c flag v → Writes a c section_start.read v
start_written v a b c s t = spelled_reads section_start v a c exact-section_start (becomes (after s t) (λ bytes p q h. (false, h.0, h.1, (tt, h.0, (refl, refl), h.2))))
