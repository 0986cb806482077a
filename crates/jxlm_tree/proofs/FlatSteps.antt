-- One step of a walk by answers, and where it ends.
use Rattle.std.proofs.Common.{◌≡◌, ℕ, ◌+◌, ◌-◌, ◌*◌, ◌/◌, ◌<◌, ◌≤◌, ℤ, pos, Bool, true, false, cond, eqb, ltb, List, [], ◌∷◌, length, get_or, slice_index, reverse, Vec, Global, refl, sym, ap, ◌∙◌, subst, arith, Some, None, inl, inr, ◌⊎◌}
use Rattle.std.specs.Prelude.{int_lt}
use Rattle.std.specs.Int.{w32, int_wrap}
use Rattle.std.proofs.lemmas.Grind.{get_or_default_zero}
use Rattle.std.proofs.lemmas.Int.{ints}
use Rattle.jxlm_tree.specs.FlatTree.{FlatTree, HasMultiplier, PropertiesAre, property_of, flat_tree, leaf_reached}
use Rattle.jxlm_tree.specs.ShortTrees.{CutsWithin, Fits, MeetsOnce, Reaches, TestsOnly}
use Rattle.jxlm_ma_tree.specs.Tree.{Shape, StandsAtLeaf, depth, walk}
use Rattle.jxlm_tree.specs.Inner.Compiled.{IsCompiled, IsCompiledFor, known_at}
use Rattle.jxlm_tree.specs.Inner.FlatNodes.{slot, side_end, Answers, Heard, heard, AreOf, FirstFit, go, says, Reached, onward, reached, IsTable}
use Rattle.jxlm_ma_tree.specs.Pruned.{or_seen, pruned, seen}
use Rattle.jxlm_tree.specs.Inner.Walking.{Ended, Walked}
use Rattle.jxlm_ma_tree.specs.declared.marks.Known.{Known}
use Rattle.jxlm_tree.specs.declared.flat.CompiledTree.{CompiledTree}
use Rattle.jxlm_tree.specs.declared.flat.FlatNode.{FlatNode}
use Rattle.jxlm_tree.specs.declared.flat.FlatNode.TheVariants as node
use Rattle.jxlm_ma_tree.specs.declared.leaf.Leaf.{Leaf}
use Rattle.jxlm_tree.specs.declared.flat.Side.{Side}
use Rattle.jxlm_tree.proofs.FlatLooks.{Read, goes, heard-append, slot-within}
use Rattle.jxlm_tree.proofs.FlatTrees.{standing_leaf, walk_by}
use Rattle.jxlm_tree.proofs.FlatTwo.{near-is_table, same-pruned}
use Rattle.jxlm_ma_tree.proofs.Comparing.{eqb-same, eqb-not}
use Rattle.jxlm_tree.proofs.FlatWalks.{pruned-depth, pruned-once, pruned-stands, pruned-walk}

-- one answer to each question of a node
abbrev pub told : ℤ → ℤ → Answers
told x y = record { first = λ k. x; second = λ k. y }

-- a table's entry, as the code reads it
pub says-table : (p : ℕ) (base base1 x : ℤ) (y : ℤ) (entries : Vec ℕ Global) (len entry place : ℕ) → base1 ≡ base → len ≡ length entries.items → entry ≡ slot base1 (len - 1) x → place ≡ get_or entries.items entry place → 0 < length entries.items →
    says (node.Table p base entries) (told x y) ≡ go place (heard p x ∷ [])
says-table p base base1 x y entries len entry place b l e at_place some =
    let is : slot base (length entries.items - 1) x ≡ entry = sym (e ∙ ap (λ z. slot z (len - 1) x) b ∙ ap (λ n. slot base (n - 1) x) l) in
    let below : entry < length entries.items = subst (λ k. k < length entries.items) is (slot-within base x (length entries.items) some) in
    ap (λ i. go i (heard p x ∷ [])) (ap (slice_index entries.items) is ∙ sym (at_place ∙ get_or_default_zero entries.items entry place below))

-- the end of the side that is chosen
pub says-fused : (p : ℕ) (v v1 x x1 y : ℤ) (l r side : Side) (end : ℕ) → v1 ≡ v → x1 ≡ x → ((int_lt v1 x1 ≡ true) × (side ≡ l)) ⊎ ((int_lt v1 x1 ≡ false) × (side ≡ r)) → end ≡ side_end side y →
    says (node.Fused p v l r) (told x y) ≡ go end (heard p x ∷ heard side.property y ∷ [])
says-fused p v v1 x x1 y l r side end ev ex (inl both) e =
    let test : int_lt v x ≡ true = subst (λ z. int_lt v z ≡ true) ex (subst (λ z. int_lt z x1 ≡ true) ev both.0) in
    rw test (ap (λ (s : Side). go (side_end s y) (heard p x ∷ heard s.property y ∷ [])) (sym both.1) ∙ ap (λ i. go i (heard p x ∷ heard side.property y ∷ [])) (sym e))
says-fused p v v1 x x1 y l r side end ev ex (inr both) e =
    let test : int_lt v x ≡ false = subst (λ z. int_lt v z ≡ false) ex (subst (λ z. int_lt z x1 ≡ false) ev both.0) in
    rw test (ap (λ (s : Side). go (side_end s y) (heard p x ∷ heard s.property y ∷ [])) (sym both.1) ∙ ap (λ i. go i (heard p x ∷ heard side.property y ∷ [])) (sym e))

abbrev instead : ℕ → Answers → (ℕ → Answers) → ℕ → Answers
instead i t a q = cond (eqb q i) t (a q)

module _ {P : Type 0} (gives : P → ℕ → ℤ → Type 0) (properties : P) where
  -- at the root
  pub walked-none : (nodes : List FlatNode) (root now : ℕ) → root < length nodes → Walked gives properties nodes root root now now
  walked-none nodes root now h = record {
    within = h;
    answers = λ i. told (pos 0) (pos 0);
    fit = λ i. record { low = λ k. omega (arith, ints); high = λ k. omega (arith, ints) };
    goes_on = λ a same. record { leaf = refl; looks = refl; heard = λ f are h. h };
  }

  -- one node on
  pub walked-on : (nodes : List FlatNode) (root i j before now : ℕ) (n : FlatNode) (x y : ℤ) (hs : List Heard) → Walked gives properties nodes root i before now → Read nodes i n → j < i →
      says n (told x y) ≡ go j hs → Fits (λ k. x) → ((f : ℕ → ℤ) → PropertiesAre gives properties f → AreOf f hs) → Walked gives properties nodes root j before (now + 1)
  walked-on nodes root i j before now n x y hs w r below e fits are_of = record {
    within = let k = w.within in omega arith;
    answers = instead i (told x y) w.answers;
    fit = λ q. elim (eqb q i) as (λ t. Fits (cond t (told x y) (w.answers q)).first) [ true ↦ fits | false ↦ w.fit q ];
    goes_on = λ a same.
        let at_i : a i ≡ told x y = same i below ∙ ap (λ t. cond t (told x y) (w.answers i)) (eqb-same i) in
        let over = w.goes_on a (λ q h. same q (omega arith) ∙ ap (λ t. cond t (told x y) (w.answers q)) (eqb-not q i (λ is. omega arith))) in
        let g = goes nodes i j hs n a r (ap (says n) at_i ∙ e) in
        record {
          leaf = over.leaf ∙ g.leaf;
          looks = let k = over.looks in let m = g.looks in omega arith;
          heard = λ f are h. over.heard f are (subst (AreOf f) (sym g.heard) (heard-append f hs (reached nodes j a).heard (are_of f are) h));
        };
  }

  pub walked-end : (nodes : List FlatNode) (root i before now : ℕ) (n : FlatNode) (l : Leaf) → Walked gives properties nodes root i before now → Read nodes i n → n ≡ node.Leaf l → Ended gives properties nodes root before (now + 1) l
  walked-end nodes root i before now n l w r is =
      let over = w.goes_on w.answers (λ q h. refl) in
      let at_end : reached nodes i w.answers ≡ record { leaf = l; looks = 1; heard = [] } = r.walks w.answers ∙ ap (λ m. onward (says m (w.answers i)) (λ j. reached nodes j w.answers)) is in
      record {
        answers = w.answers;
        fit = w.fit;
        leaf = over.leaf ∙ ap (λ r. r.leaf) at_end;
        looks = let k = over.looks in let m = ap (λ (r : Reached). r.looks) at_end in omega arith;
        heard = λ f are. over.heard f are (subst (λ (r : Reached). AreOf f r.heard) (sym at_end) tt);
      }

-- properties as decisions ask for them are those that are seen
pub seen-is : (t : Shape Leaf) (channel stream earlier : ℕ) (f : ℕ → ℤ) (k : ℕ) → seen (known_at channel stream earlier) f k ≡ property_of (record { tree = t; channel = channel; stream_idx = stream; prev_channels = earlier }) f k
seen-is t channel stream earlier f k = either (eqb k 0) (eqb k 1) (ltb k (16 + 4 * earlier)) where
  either : (a b c : Bool) → or_seen (cond a (Some (int_wrap w32 (pos channel))) (cond b (Some (int_wrap w32 (pos stream))) (cond c None (Some (pos 0))))) (f k) ≡ cond a (int_wrap w32 (pos channel)) (cond b (int_wrap w32 (pos stream)) (cond c (f k) (pos 0)))
  either true b c = refl
  either false true c = refl
  either false false true = refl
  either false false false = refl

pub walk-pruned : (t : Shape Leaf) (channel stream earlier : ℕ) (f : ℕ → ℤ) →
    walk (pruned (known_at channel stream earlier) t) f ≡ leaf_reached (record { tree = t; channel = channel; stream_idx = stream; prev_channels = earlier }) f
walk-pruned t channel stream earlier f =
    pruned-walk (known_at channel stream earlier) t f
    ∙ walk_by t (seen (known_at channel stream earlier) f) (property_of (record { tree = t; channel = channel; stream_idx = stream; prev_channels = earlier }) f) (seen-is t channel stream earlier f)

-- what the end of a walk tells of the tree
pub record Tells (t : Shape Leaf) (looks : ℕ) (l : Leaf) : Type 0 where
  pub stands : StandsAtLeaf t l
  pub multiplier : HasMultiplier l
  pub most : looks ≤ depth t + 1
  pub half : MeetsOnce t → 2 * looks ≤ depth t + 3
  pub two : (p : ℕ) → 2 ≤ p → p ≤ 15 → TestsOnly p t → CutsWithin 1022 t → Reaches 4 t → looks ≡ 2

pub tells : (t : Shape Leaf) (known : Known) (nodes : List FlatNode) (root : ℕ) (needs : Bool) (named : ℕ) (a : ℕ → Answers) → IsCompiled t known nodes root needs named → FirstFit a →
    Tells t (reached (reverse nodes) root a).looks (reached (reverse nodes) root a).leaf
tells t known nodes root needs named a c fit =
    let l = (reached (reverse nodes) root a).leaf in
    let stands = pruned-stands known t l (c.serves.stands a fit) in
    let few = c.serves.few a fit in
    let shallow = pruned-depth known t in
    record {
      stands = stands;
      multiplier = standing_leaf HasMultiplier t l c.multipliers stands;
      most = let m = few.most in omega arith;
      half = λ once. let m = few.half (pruned-once known t once) in omega arith;
      two = λ p low high only near four.
          let same = same-pruned known p t low high only in
          few.two p (subst (TestsOnly p) (sym same) only) (subst IsTable (sym same) (near-is_table p t only near four));
    }

-- what a walk to its end tells of a tree, its channel and its stream
pub record Went {P : Type 0} (gives : P → ℕ → ℤ → Type 0) (properties : P) (t : FlatTree) (before now : ℕ) (l : Leaf) : Type 0 where
  pub leaf : (f : ℕ → ℤ) → PropertiesAre gives properties f → l ≡ leaf_reached t f
  pub stands : StandsAtLeaf t.tree l
  pub multiplier : HasMultiplier l
  pub cost : now ≤ before + depth t.tree + 1
  pub more : before ≤ now
  pub half : MeetsOnce t.tree → now ≤ before + (depth t.tree + 1) / 2 + 1
  pub two : (p : ℕ) → 2 ≤ p → p ≤ 15 → TestsOnly p t.tree → CutsWithin 1022 t.tree → Reaches 4 t.tree → now ≡ before + 2

pub went : {P : Type 0} (gives : P → ℕ → ℤ → Type 0) (properties : P) (t : Shape Leaf) (channel stream earlier : ℕ) (c d : CompiledTree) (before now : ℕ) (l : Leaf) → c ≡ d → IsCompiledFor t channel stream earlier d →
    Ended gives properties (reverse c.nodes.items) c.root before now l → Went gives properties (flat_tree t channel stream earlier) before now l
went gives properties t channel stream earlier c d before now l same of_tree ended =
    let e : Ended gives properties (reverse d.nodes.items) d.root before now l = subst (λ (u : CompiledTree). Ended gives properties (reverse u.nodes.items) u.root before now l) same ended in
    let at_end = tells t (known_at channel stream earlier) d.nodes.items d.root d.need_self_correcting d.prev_channels_named e.answers of_tree.tree e.fit in
    let k = e.looks in
    record {
      leaf = λ f are. sym e.leaf ∙ of_tree.tree.serves.leads e.answers f e.fit (e.heard f are) ∙ walk-pruned t channel stream earlier f;
      stands = subst (StandsAtLeaf t) e.leaf at_end.stands;
      multiplier = subst HasMultiplier e.leaf at_end.multiplier;
      cost = let m = at_end.most in omega arith;
      more = omega arith;
      half = λ once. let m = at_end.half once in omega arith;
      two = λ p low high only near four. let m = at_end.two p low high only near four in omega arith;
    }
