-- The tree that nodes list, read where it was written.
use Rattle.std.proofs.Common.{◌≡◌, ◌⊎◌, inl, inr, ℕ, ◌+◌, ◌^◌, ◌<◌, ◌≤◌, max, List, [], ◌++◌, length, map, Result, Ok, Err, IfOk, sym, ap, ◌∙◌, subst, append_assoc, arith}
use Rattle.std.specs.List.{All}
use Rattle.jxlm_bits.specs.Decoding.{Meaning, Taken}
use Rattle.jxlm_bits.specs.ErrorKind.{ErrorAt, kind_of}
use Rattle.jxlm_bits.specs.Grammar.{IsErrorAt}
use Rattle.jxlm_bits.specs.declared.error.Error.{Error}
use Rattle.jxlm_header.specs.Opening.{depth_limit}
use Rattle.jxlm_tree.specs.Tree.{Config, Node, Shape, config_of, depth, levels, node_count}
use Rattle.jxlm_tree.specs.TreeReading.{IsTooDeep, IsTreeAt, TreeGives, listing_at}
use Rattle.jxlm_tree.specs.TreeStands.{OneTreeStands, TreeStands, TreesAreReadExactly}
use Rattle.jxlm_ma_tree.specs.declared.leaf.Leaf.{Leaf}
use Rattle.jxlm_ma_tree.proofs.Listing.{levels-injective}
use Rattle.jxlm_plain.specs.Plain.{PlainState, plain}
use Rattle.jxlm_encode_write.specs.Nodes.{node_of, tree_tokens}
use Rattle.jxlm_encode_write.specs.Tokens.{decoder_bits, gamma_decoder_bits, gamma_token_bits, one_cluster, token_bits}
use Rattle.jxlm_encode_write.specs.Trees.{gamma_tree_bits, leaves_in, tree_bits}
use Rattle.jxlm_bit_writer.specs.Written.{AreFilled, HasBits}
use Rattle.jxlm_bit_writer.proofs.BitLists.{filled_stands}
use Rattle.jxlm_encode_write.specs.declared.tree.EncodeNode.{EncodeNode}
use Rattle.jxlm_encode_write.proofs.TreeLaws.{trees_stand}
use Rattle.jxlm_encode.specs.Errors.{IsNotMemory}
use Rattle.jxlm_encode.specs.declared.error.EncodeError.{EncodeError}
use Rattle.jxlm_encode.specs.declared.error.EncodeError.TheVariants.{InvalidTree, OutOfMemory}
use Rattle.jxlm_encode.specs.Inner.Listing.{IsNotRead, IsTreeRead}
use Rattle.jxlm_encode.specs.Listing.{ListsOneTree}
use Rattle.jxlm_encode.proofs.Accepted.{unless_so}
use Rattle.jxlm_encode.proofs.Listings.{nodes_counted}

-- ---- a tree that stands at the start of the bytes, as deep as it is, by whatever decoder

module _ {S : Type 0} (m : Meaning S) (exact : TreesAreReadExactly m) (alone : OneTreeStands m) (bytes : List ℕ) (limit deepest end : ℕ) (ns : List (Node Leaf)) (leaves : S)
    (stands : (t : Shape Leaf) (d : ℕ) → levels t ≡ ns → depth t ≤ d → TreeStands m bytes limit d 0 (config_of t leaves) end) where
  -- what is read is that tree
  pub standing_read : (config : Config S) (q : ℕ) (t : Shape Leaf) → levels t ≡ ns → IsTreeAt m bytes limit deepest 0 config q →
      (levels config.tree ≡ ns) × (node_count config.tree ≤ limit + 1) × (depth config.tree ≤ deepest)
  standing_read config q t listed at =
      let read : TreeStands m bytes limit deepest 0 config q = (exact bytes limit deepest 0 config q).0 at in
      let within = read.within in
      let d : ℕ = max deepest (depth t) in
      let wide : TreeStands m bytes limit d 0 config q = record {
        decoder = read.decoder;
        decoder_stands = read.decoder_stands;
        first = read.first;
        begins = read.begins;
        last = read.last;
        nodes = read.nodes;
        ends = read.ends;
        leaves = read.leaves;
        clusters = read.clusters;
        most = read.most;
        limit = read.limit;
        within = omega (arith, within);
      } in
      let same = alone bytes limit d 0 config (config_of t leaves) q _ wide (stands t d listed (omega arith)) in
      (ap (λ (c : Config S). levels c.tree) same.0 ∙ listed, read.limit, within)

  same_listing : (x y : Taken (List (Node Leaf)) S) (r : Result (Taken (List (Node Leaf)) S) ErrorAt) → r ≡ Ok x → r ≡ Ok y → x ≡ y
  same_listing x y r h k = cc

  no_listing : (x : Taken (List (Node Leaf)) S) (e : ErrorAt) (r : Result (Taken (List (Node Leaf)) S) ErrorAt) → r ≡ Ok x → r ≡ Err e → ⊥
  no_listing x e r h k = cc

  -- a tree within the limit of depth is not refused
  pub standing_accepted : (e : Error) (q : ℕ) → TreeGives m bytes limit deepest 0 (Err e) q → IsNotMemory (kind_of e) → (t : Shape Leaf) → levels t ≡ ns → depth t ≤ deepest → ⊥
  standing_accepted e q gives other t listed deep =
      let at : IsTreeAt m bytes limit deepest 0 (config_of t leaves) end = (exact bytes limit deepest 0 (config_of t leaves) end).1 (stands t deepest listed deep) in
      refuted (unless_so (kind_of e) _ other gives) at where
        refuted : IsErrorAt (listing_at m bytes limit 0) (kind_of e) q ⊎ IsTooDeep m bytes limit deepest 0 (kind_of e) q → IsTreeAt m bytes limit deepest 0 (config_of t leaves) end → ⊥
        refuted (inl error) at = no_listing _ _ (listing_at m bytes limit 0) at.reads error.refuses
        refuted (inr beyond) at =
            let one = beyond.reads in
            let other = at.reads in
            let same : levels beyond.config.tree ≡ levels t = ap (λ (x : Taken (List (Node Leaf)) S). x.value) (same_listing _ _ (listing_at m bytes limit 0) one other) in
            let is : beyond.config.tree ≡ t = levels-injective beyond.config.tree t same in
            let deeper = beyond.beyond in
            omega (arith, deeper, deep, ap depth is)

-- ---- the tree that nodes list

module _ (exact : TreesAreReadExactly plain) (alone : OneTreeStands plain) (bytes : List ℕ) (nodes : List EncodeNode) (own limit : ℕ) (most : own ≤ 32) (fits : All (λ v. v < 2 ^ own) (tree_tokens nodes)) (few : length nodes ≤ limit + 1) (limited : limit ≤ 2 ^ 20)
    (has : HasBits bytes 0 (tree_bits nodes own 0)) where
  -- a tree that the nodes list stands, as deep as it is
  stands : (t : Shape Leaf) (d : ℕ) → levels t ≡ map node_of nodes → depth t ≤ d →
      TreeStands plain bytes limit d 0 (config_of t (one_cluster (leaves_in nodes) 0)) (0 + length (tree_bits nodes own 0))
  stands t d listed deep =
      let count = nodes_counted t nodes listed in
      trees_stand bytes 0 own 0 limit d t nodes listed most (omega arith) fits (omega (arith, count, few, limited)) (omega (arith, count, few)) deep has

  -- what is read is that tree
  pub read_is : (config : Config PlainState) (q : ℕ) → ListsOneTree nodes → IsTreeAt plain bytes limit depth_limit 0 config q → IsTreeRead nodes limit config.tree
  read_is config q one at =
      let read = standing_read plain exact alone bytes limit depth_limit (0 + length (tree_bits nodes own 0)) (map node_of nodes) (one_cluster (leaves_in nodes) 0) stands config q one.0 one.1 at in
      record { listed = read.0; count = read.1; within = read.2 }

  -- a tree within the limit of depth is not refused
  pub not_refused : (e : Error) (q : ℕ) → TreeGives plain bytes limit depth_limit 0 (Err e) q → IsNotMemory (kind_of e) → (t : Shape Leaf) → levels t ≡ map node_of nodes → depth t ≤ depth_limit → ⊥
  not_refused =
      standing_accepted plain exact alone bytes limit depth_limit (0 + length (tree_bits nodes own 0)) (map node_of nodes) (one_cluster (leaves_in nodes) 0) stands

-- ---- the bytes of a tree alone

-- what was read is the tree that was written
pub read_back_is : TreesAreReadExactly plain → OneTreeStands plain → (bytes tokens start written seen : List ℕ) (nodes : List EncodeNode) (own limit p : ℕ) → own ≤ 32 → All (λ v. v < 2 ^ own) tokens → tokens ≡ tree_tokens nodes → length nodes ≤ limit + 1 → limit ≤ 2 ^ 20 →
    start ≡ [] → written ≡ start ++ tree_bits nodes own 0 → AreFilled bytes written → seen ≡ bytes → p ≡ 0 → ListsOneTree nodes → (config : Config PlainState) (q : ℕ) → IsTreeAt plain seen limit depth_limit p config q →
    IsTreeRead nodes limit config.tree
read_back_is exact alone bytes tokens start written seen nodes own limit p most fits are few limited none bits filled same first one config q tree =
    let has : HasBits bytes 0 (tree_bits nodes own 0) = filled_stands bytes (tree_bits nodes own 0) (subst (AreFilled bytes) (bits ∙ ap (λ xs. xs ++ tree_bits nodes own 0) none) filled) in
    let there : IsTreeAt plain bytes limit depth_limit 0 config q =
    subst (λ n. IsTreeAt plain bytes limit depth_limit n config q) first (subst (λ bs. IsTreeAt plain bs limit depth_limit p config q) same tree) in
    read_is exact alone bytes nodes own limit most (subst (All (λ v. v < 2 ^ own)) are fits) few limited has config q one there

-- an error but for memory shows that the tree is too deep
pub not_read : TreesAreReadExactly plain → OneTreeStands plain → (bytes tokens start written seen : List ℕ) (nodes : List EncodeNode) (own limit p : ℕ) → own ≤ 32 → All (λ v. v < 2 ^ own) tokens → tokens ≡ tree_tokens nodes → length nodes ≤ limit + 1 → limit ≤ 2 ^ 20 →
    start ≡ [] → written ≡ start ++ tree_bits nodes own 0 → AreFilled bytes written → seen ≡ bytes → p ≡ 0 → (e : Error) (q : ℕ) → TreeGives plain seen limit depth_limit p (Err e) q →
    (result : EncodeError) → (result ≡ OutOfMemory) ⊎ ((result ≡ InvalidTree) × IsNotMemory (kind_of e)) → IsNotRead nodes result
not_read exact alone bytes tokens start written seen nodes own limit p most fits are few limited none bits filled same first e q gives result (inl memory) = subst (IsNotRead nodes) (sym memory) tt
not_read exact alone bytes tokens start written seen nodes own limit p most fits are few limited none bits filled same first e q gives result (inr other) =
    let has : HasBits bytes 0 (tree_bits nodes own 0) = filled_stands bytes (tree_bits nodes own 0) (subst (AreFilled bytes) (bits ∙ ap (λ xs. xs ++ tree_bits nodes own 0) none) filled) in
    let there : TreeGives plain bytes limit depth_limit 0 (Err e) q =
    subst (λ n. TreeGives plain bytes limit depth_limit n (Err e) q) first (subst (λ bs. TreeGives plain bs limit depth_limit p (Err e) q) same gives) in
    subst (IsNotRead nodes) (sym other.0) (λ t listed deep. not_refused exact alone bytes nodes own limit most (subst (All (λ v. v < 2 ^ own)) are fits) few limited has e q there other.1 t listed deep)

-- ---- the bits of a tree

pub tree_written : {U E : Type 0} (r : Result U E) (old a b new tokens : List ℕ) (nodes : List EncodeNode) (own width n : ℕ) → tokens ≡ tree_tokens nodes → n ≡ leaves_in nodes → a ≡ old ++ decoder_bits 6 own →
    b ≡ a ++ token_bits own tokens → IfOk r (λ _. new ≡ b ++ decoder_bits n width) → IfOk r (λ _. new ≡ old ++ tree_bits nodes own width)
tree_written (Err e) old a b new tokens nodes own width n are count first second last = last
tree_written (Ok u) old a b new tokens nodes own width n are count first second last =
    last ∙ ap (λ xs. xs ++ decoder_bits n width) (second ∙ ap (λ xs. xs ++ token_bits own tokens) first)
    ∙ append_assoc (old ++ decoder_bits 6 own) (token_bits own tokens) (decoder_bits n width) ∙ append_assoc old (decoder_bits 6 own) (token_bits own tokens ++ decoder_bits n width)
    ∙ ap (λ ts. old ++ (decoder_bits 6 own ++ (token_bits own ts ++ decoder_bits n width))) are
    ∙ ap (λ k. old ++ (decoder_bits 6 own ++ (token_bits own (tree_tokens nodes) ++ decoder_bits k width))) count

-- in the second format
pub gamma_tree_written : {U E : Type 0} (r : Result U E) (old a b new tokens : List ℕ) (nodes : List EncodeNode) (n : ℕ) → tokens ≡ tree_tokens nodes → n ≡ leaves_in nodes → a ≡ old ++ gamma_decoder_bits 6 →
    b ≡ a ++ gamma_token_bits tokens → IfOk r (λ _. new ≡ b ++ gamma_decoder_bits n) → IfOk r (λ _. new ≡ old ++ gamma_tree_bits nodes)
gamma_tree_written (Err e) old a b new tokens nodes n are count first second last = last
gamma_tree_written (Ok u) old a b new tokens nodes n are count first second last =
    last ∙ ap (λ xs. xs ++ gamma_decoder_bits n) (second ∙ ap (λ xs. xs ++ gamma_token_bits tokens) first)
    ∙ append_assoc (old ++ gamma_decoder_bits 6) (gamma_token_bits tokens) (gamma_decoder_bits n) ∙ append_assoc old (gamma_decoder_bits 6) (gamma_token_bits tokens ++ gamma_decoder_bits n)
    ∙ ap (λ ts. old ++ (gamma_decoder_bits 6 ++ (gamma_token_bits ts ++ gamma_decoder_bits n))) are
    ∙ ap (λ k. old ++ (gamma_decoder_bits 6 ++ (gamma_token_bits (tree_tokens nodes) ++ gamma_decoder_bits k))) count
