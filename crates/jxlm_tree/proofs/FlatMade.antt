-- What is known of the nodes of a whole tree.
use Rattle.std.proofs.Common.{◌≡◌, ◌∙◌, ℕ, ℤ, pos, ◌+ℤ◌, w32, ◌+◌, ◌<◌, ◌≤◌, ◌^◌, Bool, List, [], length, reverse, Result, Ok, IfOk, refl, sym, ap, subst, arith}
use Rattle.std.specs.Int.{int_wrap}
use Rattle.std.specs.List.{list_any}
use Rattle.std.proofs.lemmas.Int.{int_wrap_fits, ints}
use Rattle.std.proofs.lemmas.List.{length-reverse}
use Rattle.jxlm_tree.specs.FlatTree.{HasMultiplier}
use Rattle.jxlm_tree.specs.Inner.Compiled.{IsCompiled, IsLeftAlike}
use Rattle.jxlm_tree.specs.Inner.FlatNodes.{Compiles, most_channels, sees_error}
use Rattle.jxlm_tree.specs.Inner.FlatShapes.{size}
use Rattle.jxlm_ma_tree.specs.Marked.{AreMarks, IsMarked, marked_shape}
use Rattle.jxlm_ma_tree.specs.Pruned.{later, pruned}
use Rattle.jxlm_ma_tree.specs.Tree.{AllLeaves, Shape, leaf, decision, node_count}
use Rattle.jxlm_ma_tree.specs.declared.marks.Known.{Known}
use Rattle.jxlm_ma_tree.specs.declared.marks.Marked.{Marked}
use Rattle.jxlm_ma_tree.specs.declared.marks.Marks.{Marks}
use Rattle.jxlm_tree.specs.declared.flat.FlatNode.{FlatNode}
use Rattle.jxlm_ma_tree.specs.declared.leaf.Leaf.{Leaf}
use Rattle.jxlm_tree.proofs.FlatWalks.{pruned-size}

-- the nodes of a tree, counted either way
pub size-is : (t : Shape Leaf) → size t ≡ node_count t
size-is (leaf l) = refl
size-is (decision p v a b) = let l = size-is a in let r = size-is b in omega arith

pub room : (t : Shape Leaf) (known : Known) (nodes : List FlatNode) → nodes ≡ [] → node_count t ≤ 2 ^ 26 → length (reverse nodes) + size (pruned known t) < 2 ^ 32
room t known nodes none few =
    let empty = ap (λ (ns : List FlatNode). length (reverse ns)) none in
    let s = pruned-size known t in
    let n = size-is t in
    omega arith

-- the same, of a marked tree
pub marked-room : (t : Shape Leaf) (known : Known) (nodes : List FlatNode) (m : Marked) → marked_shape m ≡ pruned known t → nodes ≡ [] → node_count t ≤ 2 ^ 26 →
    length (reverse nodes) + size (marked_shape m) < 2 ^ 32
marked-room t known nodes m same none few =
    let s = ap (λ u. size u) same in
    let r = room t known nodes none few in
    omega arith

pub compiles-as : (old new : List FlatNode) (i : ℕ) (t u : Shape Leaf) → t ≡ u → Compiles old new i t → Compiles old new i u
compiles-as old new i t u same h = subst (λ s. Compiles old new i s) same h

pub marked-of : (m : Marks) → AreMarks m → IsMarked m.tree
marked-of m h = h.marked

-- the value where nothing failed
pub ok_at : {T E : Type 0} (P : T → Type 0) (r : Result T E) (x : T) → r ≡ Ok x → IfOk r P → P x
ok_at P r x e h = subst (λ s. IfOk s P) e h

abbrev pub known_by : ℤ → ℤ → ℕ → Known
known_by channel stream earlier = record { channel = channel; stream = stream; prev_channels = earlier }

-- a channel that decisions do not read as negative, read as a number
reads : (n : ℕ) → n < 2 ^ 31 → int_wrap w32 (pos n) ≡ pos n
reads n few = int_wrap_fits w32 (pos n) (record { sfits = few })

pub later-reads : (channel k : ℕ) → channel + k < 2 ^ 31 → int_wrap w32 (pos channel) +ℤ pos k ≡ int_wrap w32 (pos (channel + k))
later-reads channel k few =
    let one = reads channel (omega arith) in
    let other = reads (channel + k) few in
    grind (arith, ints)

-- the channels for which the same is left of a tree, by their numbers
pub alike-up-to : (t : Shape Leaf) (channel stream earlier most last : ℕ) (z y : ℤ) → z ≡ int_wrap w32 (pos channel) → y ≡ int_wrap w32 (pos stream) →
    ((k : ℕ) → k ≤ most → pruned (later (known_by z y earlier) k) t ≡ pruned (known_by z y earlier) t) →
    last ≤ channel + most → last < 2 ^ 31 → IsLeftAlike t channel stream earlier last
alike-up-to t channel stream earlier most last z y at_channel at_stream same within signed = λ k less.
    let there : z +ℤ pos k ≡ int_wrap w32 (pos (channel + k)) = ap (λ (i : ℤ). i +ℤ pos k) at_channel ∙ later-reads channel k (omega arith) in
    ap (λ (i : ℤ). pruned (known_by i (int_wrap w32 (pos stream)) (earlier + k)) t) (sym there)
    ∙ ap (λ (i : ℤ). pruned (known_by (z +ℤ pos k) i (earlier + k)) t) (sym at_stream)
    ∙ same k (omega arith)
    ∙ ap (λ (i : ℤ). pruned (known_by i y earlier) t) at_channel
    ∙ ap (λ (i : ℤ). pruned (known_by (int_wrap w32 (pos channel)) i earlier) t) at_stream

-- the nodes of a tree, known by the same numbers
pub made_of : (t : Shape Leaf) (channel channel1 stream stream1 : ℤ) (earlier : ℕ) (before nodes : List FlatNode) (root : ℕ) → before ≡ [] → channel1 ≡ channel → stream1 ≡ stream →
    Compiles (reverse before) (reverse nodes) root (pruned (known_by channel1 stream1 earlier) t) →
    Compiles [] (reverse nodes) root (pruned (known_by channel stream earlier) t)
made_of t channel channel1 stream stream1 earlier before nodes root none at_channel at_stream c =
    subst (λ (k : Known). Compiles [] (reverse nodes) root (pruned k t)) (ap (λ (z : ℤ). known_by z stream1 earlier) at_channel ∙ ap (λ (z : ℤ). known_by channel z earlier) at_stream)
    (subst (λ (ns : List FlatNode). Compiles (reverse ns) (reverse nodes) root (pruned (known_by channel1 stream1 earlier) t)) none c)

pub is_compiled : (t : Shape Leaf) (known : Known) (nodes : List FlatNode) (root : ℕ) (needs : Bool) (named : ℕ) → AllLeaves HasMultiplier t → Compiles [] (reverse nodes) root (pruned known t) →
    needs ≡ list_any sees_error nodes → named ≡ most_channels nodes → IsCompiled t known nodes root needs named
is_compiled t known nodes root needs named multipliers c needs_is named_is =
    let l = length-reverse nodes in
    record {
      multipliers = multipliers;
      sound = c.grows.sound tt;
      rooted = let w = c.serves.within in omega arith;
      serves = c.serves;
      tops = c.tops;
      keeps = c.keeps;
      few = let g = c.grows.few in let s = pruned-size known t in omega arith;
      count = let n = c.count in omega arith;
      needs_is = needs_is;
      named_is = named_is;
    }
