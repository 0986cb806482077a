-- A tree whose nodes and whose leaves' decoder were written is read.
use Rattle.std.proofs.Common.{◌≡◌, ◌⊎◌, inl, inr, ℕ, ◌+◌, ◌^◌, ◌≤◌, List, [], ◌∷◌, ◌++◌, length, Err, sym, ap, ◌∙◌, subst, arith}
use Rattle.jxlm_bits.specs.ErrorKind.{kind_of}
use Rattle.jxlm_bits.specs.declared.error.Error.{Error}
use Rattle.jxlm_bit_writer.specs.Writes.{Adds, Writes}
use Rattle.jxlm_bit_writer.specs.Written.{AreFilled, HasBits}
use Rattle.jxlm_bit_writer.proofs.BitLists.{filled_stands}
use Rattle.jxlm_bit_writer.proofs.WriteLaws.{after, becomes}
use Rattle.jxlm_tree.specs.Tree.{Config, Shape, config_of, depth, levels}
use Rattle.jxlm_tree.specs.TreeReading.{IsTreeAt, TreeGives}
use Rattle.jxlm_tree.specs.TreeStands.{OneTreeStands, TreeStands, TreesAreReadExactly}
use Rattle.jxlm_ma_tree.specs.declared.leaf.Leaf.{Leaf}
use Rattle.jxlm_encode_write.specs.Trees.{leaves_in}
use Rattle.jxlm_encode_write.specs.declared.tree.EncodeNode.{EncodeNode}
use Rattle.jxlm_encode_write.specs.declared.tree.EncodeNode.TheVariants as given
use Rattle.jxlm_encode_streams.specs.TreeStreams.{ReadTreeStands, clustered_nodes}
use Rattle.jxlm_encode.specs.Errors.{IsNotMemory}
use Rattle.jxlm_encode.specs.Listing.{ListsOneTree}
use Rattle.jxlm_encode.specs.declared.error.EncodeError.{EncodeError}
use Rattle.jxlm_encode.specs.declared.error.EncodeError.TheVariants.{InvalidTree, OutOfMemory}
use Rattle.jxlm_encode.proofs.Listings.{clustered_counted, clustered_tree}
use Rattle.jxlm_encode.proofs.TreesRead.{standing_accepted, standing_read}
use Rattle.jxl_coding.specs.Parse.{decoder_at, start_of}
use Rattle.jxl_coding.specs.Symbols.{Codes}
use Rattle.jxl_coding.specs.Tokens.{Entropy, entropy}
use Rattle.jxl_encode_tree.specs.Inner.Contexts.{AreNodesRead}
use Rattle.jxl_encode_tree.specs.Inner.Reading.{IsNotRead, IsRead}
use Rattle.jxl_encode_tree.specs.Trees.{IsWrittenTree}

-- no more leaves than nodes
pub few_leaves : (nodes : List EncodeNode) → leaves_in nodes ≤ length nodes
few_leaves [] = omega arith
few_leaves (given.Decision property value ∷ nodes) = let rest = few_leaves nodes in omega (arith, rest)
few_leaves (given.Leaf predictor offset ∷ nodes) = let rest = few_leaves nodes in omega (arith, rest)

-- the nodes and the decoder of the leaves were added
pub tree_written : ReadTreeStands (entropy decoder_at) → TreesAreReadExactly (entropy decoder_at) → (nodes : List EncodeNode) (leaves : Codes) → length nodes ≤ 2 ^ 26 →
    length leaves.clusters ≡ leaves_in nodes → (old mid new : List ℕ) → Adds old mid (AreNodesRead nodes) →
    Writes mid new (λ bytes p. decoder_at bytes p (length leaves.clusters)) (start_of leaves) → Adds old new (IsWrittenTree nodes leaves)
tree_written stand exact nodes leaves few contexts old mid new first last =
    becomes (after first last) (λ bytes p q s node_limit depth_limit t listed count deep.
    let nodes_read = s.1 in
    let parsed = ap (λ (n : ℕ). decoder_at bytes s.0 n) (sym contexts) ∙ s.2 in
    let counted = clustered_counted leaves.clusters t nodes listed in
    let there : TreeStands (entropy decoder_at) bytes node_limit depth_limit p (config_of t (start_of leaves)) q =
    stand bytes node_limit depth_limit p s.0 q t nodes nodes_read.own (start_of leaves) listed nodes_read.parsed nodes_read.read parsed (omega (arith, counted, few)) count deep in
    (exact bytes node_limit depth_limit p (config_of t (start_of leaves)) q).1 there)

-- ---- the bytes of such a tree alone, read

module _ (exact : TreesAreReadExactly (entropy decoder_at)) (alone : OneTreeStands (entropy decoder_at)) (nodes : List EncodeNode) (clusters : List ℕ) (leaves : Codes) (same : leaves.clusters ≡ clusters)
    (limit deepest : ℕ) (few : length nodes ≤ limit + 1) (one : ListsOneTree nodes) (bytes start bits seen : List ℕ) (at_start : ℕ) (none : start ≡ []) (added : Adds start bits (IsWrittenTree nodes leaves))
    (filled : AreFilled bytes bits) (bytes_are : seen ≡ bytes) (zero_is : at_start ≡ 0) where
  has : HasBits bytes 0 added.word
  has = filled_stands bytes added.word (subst (AreFilled bytes) (added.added ∙ ap (λ (xs : List ℕ). xs ++ added.word) none) filled)

  stands : (t : Shape Leaf) (d : ℕ) → levels t ≡ clustered_nodes nodes clusters → depth t ≤ d →
      TreeStands (entropy decoder_at) bytes limit d 0 (config_of t (start_of leaves)) (0 + length added.word)
  stands t d listed deep =
      let counted = clustered_counted clusters t nodes listed in
      let here : levels t ≡ clustered_nodes nodes leaves.clusters = listed ∙ ap (clustered_nodes nodes) (sym same) in
      (exact bytes limit d 0 (config_of t (start_of leaves)) (0 + length added.word)).0 (added.holds bytes 0 has limit d t here (omega (arith, counted, few)) deep)

  -- what was read is the tree of the nodes
  pub written_read : (config : Config Entropy) (q : ℕ) → IsTreeAt (entropy decoder_at) seen limit deepest at_start config q → IsRead nodes clusters deepest config.tree
  written_read config q at =
      let t = clustered_tree clusters nodes one in
      let there : IsTreeAt (entropy decoder_at) bytes limit deepest 0 config q =
      subst (λ (n : ℕ). IsTreeAt (entropy decoder_at) bytes limit deepest n config q) zero_is (subst (λ (bs : List ℕ). IsTreeAt (entropy decoder_at) bs limit deepest at_start config q) bytes_are at) in
      let read = standing_read (entropy decoder_at) exact alone bytes limit deepest (0 + length added.word) (clustered_nodes nodes clusters) (start_of leaves) stands config q t.0 t.1 there in
      record { listed = read.0; within = read.2 }

  -- an error but for memory shows that the tree is too deep
  pub written_refused : (e : Error) (q : ℕ) → TreeGives (entropy decoder_at) seen limit deepest at_start (Err e) q → (result : EncodeError) →
      (result ≡ OutOfMemory) ⊎ ((result ≡ InvalidTree) × IsNotMemory (kind_of e)) → IsNotRead nodes clusters deepest result
  written_refused e q gives result (inl memory) = subst (IsNotRead nodes clusters deepest) (sym memory) tt
  written_refused e q gives result (inr other) =
      let there : TreeGives (entropy decoder_at) bytes limit deepest 0 (Err e) q =
      subst (λ (n : ℕ). TreeGives (entropy decoder_at) bytes limit deepest n (Err e) q) zero_is (subst (λ (bs : List ℕ). TreeGives (entropy decoder_at) bs limit deepest at_start (Err e) q) bytes_are gives) in
      subst (IsNotRead nodes clusters deepest) (sym other.0)
      (λ t is. standing_accepted (entropy decoder_at) exact alone bytes limit deepest (0 + length added.word) (clustered_nodes nodes clusters) (start_of leaves) stands e q there other.1 t is.listed is.within)
