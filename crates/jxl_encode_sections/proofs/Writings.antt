-- Sections that were written.
use Rattle.std.proofs.Common.{◌≡◌, ◌∙◌, ℕ, ◌+◌, List, [], ◌++◌, length, true, ap, subst}
use Rattle.jxlm_bit_writer.specs.Writes.{Adds, Spells, Writes}
use Rattle.jxlm_bit_writer.specs.Written.{AreFilled, HasBits}
use Rattle.jxlm_bit_writer.specs.declared.token.Token.{Token}
use Rattle.jxlm_bit_writer.proofs.BitLists.{filled_stands}
use Rattle.jxlm_bit_writer.proofs.WriteLaws.{after, becomes}
use Rattle.jxlm_encode_write.specs.declared.tree.EncodeNode.{EncodeNode}
use Rattle.jxlm_header.specs.Header.{file_header}
use Rattle.jxlm_transform.specs.Transforms.{Transform}
use Rattle.jxl_codestream.specs.Starts.{section_start}
use Rattle.jxl_coding.specs.Symbols.{Codes}
use Rattle.jxl_encode_image.specs.Preparations.{shared_header}
use Rattle.jxl_encode_tree.specs.Samples.{AreCoded}
use Rattle.jxl_encode_tree.specs.Trees.{IsWrittenTree}
use Rattle.jxl_encode_sections.specs.Sections.{AreBehindHeader, IsFirstSection}

-- a header, and samples after it
pub part_written : (codes : Codes) (ts : List Transform) (tokens : List Token) (a b c : List ℕ) → Spells a b file_header (shared_header ts) → Adds b c (AreCoded codes tokens) → Adds a c (AreBehindHeader codes ts tokens)
part_written codes ts tokens a b c s t = becomes (after s t) (λ bytes p q h. record { samples_at = h.0; header = h.1; coded = h.2 })

-- the start of the first section, the tree, and the global part
pub first_written : (nodes : List EncodeNode) (codes : Codes) (ts : List Transform) (tokens : List Token) (a b c d : List ℕ) → Writes a b section_start.read true → Adds b c (IsWrittenTree nodes codes) →
    Adds c d (AreBehindHeader codes ts tokens) → Adds a d (IsFirstSection nodes codes ts tokens)
first_written nodes codes ts tokens a b c d s t u =
    becomes (after s (after t u)) (λ bytes p q h. record { tree_at = h.0; start = h.1; tree_end = h.2.0; tree = h.2.1; samples = h.2.2 })

-- what was added to no bits is at the first bit of their bytes
pub at_first : {P : List ℕ → ℕ → ℕ → Type 0} (a b bytes : List ℕ) → a ≡ [] → Adds a b P → AreFilled bytes b → (end : ℕ) × P bytes 0 end
at_first {P} a b bytes none added filled =
    let has : HasBits bytes 0 added.word = filled_stands bytes added.word (subst (AreFilled bytes) (added.added ∙ ap (λ (xs : List ℕ). xs ++ added.word) none) filled) in
    (0 + length added.word, added.holds bytes 0 has)
