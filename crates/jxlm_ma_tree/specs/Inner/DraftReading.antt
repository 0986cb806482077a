-- What the steps of reading a tree return.
use Rattle.std.specs.Prelude.{◌≡◌, ◌⊎◌, ℕ, zero, suc, ◌+◌, ◌<◌, ◌≤◌, ◌^◌, FitsSigned, List, [], ◌∷◌, Bool, nat_lt, slice_index, Some, None, unwrap_or, Result, Ok, Err}
use Rattle.std.specs.Int.{w32}
use Rattle.jxlm_bits.specs.Bits.{bytes_of, position_of}
use Rattle.jxlm_bits.specs.Decoding.{Found, Meaning, Taken}
use Rattle.jxlm_bits.specs.ErrorKind.{NoMemory, ErrorAt, UnlessMemory, kind_of}
use Rattle.jxlm_bits.specs.Grammar.{IsErrorAt}
use Rattle.jxlm_bits.specs.declared.bits.Bitstream.{Bitstream}
use Rattle.jxlm_bits.specs.declared.error.Error.{Error}
use Rattle.jxlm_ma_tree.specs.Tree.{Node, leaf_node, decision_node}
use Rattle.jxlm_ma_tree.specs.TreeReading.{through}
use Rattle.jxlm_ma_tree.specs.declared.leaf.Leaf.{Leaf}
use Rattle.jxlm_ma_tree.specs.declared.nodes.Draft.{Draft}
use Rattle.jxlm_ma_tree.specs.declared.nodes.DraftNode.{DraftNode}
use Rattle.jxlm_ma_tree.specs.declared.nodes.DraftNode.TheVariants as node

-- a single token before each node, other than 0, would make each node a decision
abbrev pub is_endless : {S : Type 0} → Meaning S → S → Bool
is_endless d s = nat_lt 0 (unwrap_or (d.single_token s (slice_index (d.cluster_map s) 1)) 0)

-- a leaf without its cluster, as the definitions have it
abbrev pub draft_of : Draft → Leaf
draft_of x = record { cluster = 0; predictor = x.predictor; offset = x.offset; multiplier = x.multiplier }

-- the same of a node
abbrev pub node_of : DraftNode → Node Leaf
node_of (node.Leaf x) = leaf_node (draft_of x)
node_of (node.Decision property value) = decision_node property value

-- what is known of a leaf that was read
pub record IsDraft (l : Leaf) : Type 0 where
  pub offset : FitsSigned w32 l.offset
  pub least : 1 ≤ l.multiplier
  pub below : l.multiplier < 2 ^ 31

-- it holds of the node, if that is a leaf
abbrev pub IsDraftNode : Node Leaf → Type 0
IsDraftNode (leaf_node l) = IsDraft l
IsDraftNode (decision_node property value) = Unit {0}

-- it holds of each leaf
abbrev pub AllDrafts : List (Node Leaf) → Type 0
AllDrafts [] = Unit {0}
AllDrafts (n ∷ ns) = IsDraftNode n × AllDrafts ns

-- these nodes are those of n trees, the rows of all side by side
abbrev pub ListsTrees : {L : Type 0} → ℕ → List (Node L) → Type 0
ListsTrees zero [] = Unit {0}
ListsTrees zero (n ∷ ns) = ⊥
ListsTrees (suc m) [] = ⊥
ListsTrees (suc m) (leaf_node l ∷ ns) = ListsTrees m ns
ListsTrees (suc m) (decision_node property value ∷ ns) = ListsTrees (m + 2) ns

-- What a step returned, seen by view, with the decoder in state t and the reader at b, is what `step` gives from state s
-- and the reader at a.
abbrev pub StepGives : {X Y S : Type 0} → (X → Y) → Result X Error → S → S → Bitstream → Bitstream → (List ℕ → S → ℕ → Result (Taken Y S) ErrorAt) → Type 0
StepGives view (Ok x) s t a b step = step (bytes_of a) s (position_of a) ≡ Ok (record { value = view x; state = t; position = position_of b })
StepGives view (Err e) s t a b step = step (bytes_of a) s (position_of a) ≡ Err (record { error = kind_of e; position = Some (position_of b) })

-- the same, where memory may run out at any time
abbrev pub StepsGive : {X Y S : Type 0} → (X → Y) → Result X Error → S → S → Bitstream → Bitstream → (List ℕ → S → ℕ → Result (Taken Y S) ErrorAt) → Type 0
StepsGive view (Ok x) s t a b steps = StepGives view (Ok x) s t a b steps
StepsGive view (Err e) s t a b steps = (kind_of e ≡ NoMemory) ⊎ StepGives view (Err e) s t a b steps

-- the same of a whole list, after which no decoder is left
abbrev pub ListGives : {X Y S : Type 0} → (X → Y) → Result X Error → S → Bitstream → Bitstream → (List ℕ → S → ℕ → Result (Found Y) ErrorAt) → Type 0
ListGives view (Ok x) s a b list = list (bytes_of a) s (position_of a) ≡ Ok (record { value = view x; position = position_of b })
ListGives view (Err e) s a b list = (kind_of e ≡ NoMemory) ⊎ IsErrorAt (list (bytes_of a) s (position_of a)) (kind_of e) (position_of b)

-- What reading a decoder of n contexts returned, and where it left the reader, is what the decoder's meaning gives; it
-- may be out of memory at any time.
abbrev pub DecoderGives : {S : Type 0} → Meaning S → ℕ → Result S Error → Bitstream → Bitstream → Type 0
DecoderGives d n (Ok s) a b = through None (d.parse (bytes_of a) (position_of a) n) ≡ Ok (record { value = s; position = position_of b })
DecoderGives d n (Err e) a b = UnlessMemory (kind_of e) (IsErrorAt (through None (d.parse (bytes_of a) (position_of a) n)) (kind_of e) (position_of b))
