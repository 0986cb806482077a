-- One step of the walk over a sound list.
use Rattle.std.proofs.Common.{◌≡◌, ℕ, ◌+◌, ◌-◌, ◌<◌, ◌≤◌, min, ℤ, ◌-ℤ◌, Bool, true, false, cond, eqb, List, [], ◌∷◌, ◌++◌, length, get_or, slice_index, reverse, add-one, refl, sym, ap, ◌∙◌, subst, arith, ◌⊎◌, inl, inr}
use Rattle.std.specs.Prelude.{int_lt, unsigned_abs}
use Rattle.std.proofs.lemmas.List.{get_or-reverse, length-reverse}
use Rattle.jxlm_ma_tree.specs.declared.leaf.Leaf.{Leaf}
use Rattle.jxlm_tree.specs.declared.flat.Side.{Side}
use Rattle.jxlm_tree.specs.declared.flat.FlatNode.{FlatNode}
use Rattle.jxlm_tree.specs.declared.flat.FlatNode.TheVariants as node
use Rattle.jxlm_tree.specs.Inner.FlatNodes.{slot, side_end, side_says, Answers, alike, Heard, heard, AreOf, Says, stop, go, says, Reached, onward, reached, nowhere, LeadsBelow, IsSound, NodeLacks, NodesLack}
use Rattle.jxlm_tree.proofs.FlatNodes.{reached-older, reached-newest}

pub slot-within : (base x : ℤ) (n : ℕ) → 0 < n → slot base (n - 1) x < n
slot-within base x n some = elim (int_lt base x) as (λ t. cond t (min (unsigned_abs (x -ℤ base)) (n - 1)) 0 < n) [ true ↦ omega arith | false ↦ some ]

side-below : (k : ℕ) (s : Side) (y : ℤ) → s.above < k → s.rest < k → side_end s y < k
side-below k s y above rest = elim (int_lt s.value y) as (λ t. cond t s.above s.rest < k) [ true ↦ above | false ↦ rest ]

fused-below : (k : ℕ) (t : Bool) (a b : ℕ) (as' bs : List Heard) (j : ℕ) (hs : List Heard) → a < k → b < k → cond t (go a as') (go b bs) ≡ go j hs → j < k
fused-below k true a b as' bs j hs ha hb e = let is : a ≡ j = cc in subst (λ m. m < k) is ha
fused-below k false a b as' bs j hs ha hb e = let is : b ≡ j = cc in subst (λ m. m < k) is hb

pub says-below : (k : ℕ) (n : FlatNode) (x : Answers) (j : ℕ) (hs : List Heard) → LeadsBelow k n → says n x ≡ go j hs → j < k
says-below k (node.Leaf l) x j hs h e = cc
says-below k (node.Table p base entries) x j hs h e =
    let i : slice_index entries.items (slot base (length entries.items - 1) (x.first p)) ≡ j = cc in
    subst (λ m. m < k) i (h.1 (slot base (length entries.items - 1) (x.first p)) (slot-within base (x.first p) (length entries.items) h.0.0))
says-below k (node.Fused p v l r) x j hs h e =
    fused-below k (int_lt v (x.first p)) (side_end l (x.second l.property)) (side_end r (x.second r.property)) _ _ j hs (side-below k l (x.second l.property) h.0.0 h.0.1) (side-below k r (x.second r.property) h.1.0 h.1.1) e

onward-same : (s : Says) (g h : ℕ → Reached) → ((j : ℕ) (hs : List Heard) → s ≡ go j hs → g j ≡ h j) → onward s g ≡ onward s h
onward-same (stop l) g h e = refl
onward-same (go j hs) g h e = ap (λ r. onward (go j hs) (λ i. r)) (e j hs refl)

-- what is read at a place, and where it leads
pub record Read (nodes : List FlatNode) (i : ℕ) (n : FlatNode) : Type 0 where
  pub below : LeadsBelow i n
  pub walks : (a : ℕ → Answers) → reached nodes i a ≡ onward (says n (a i)) (λ j. reached nodes j a)

under : (n m : ℕ) → n < m + 1 → (n < m) ⊎ (n ≡ m)
under n m h = grind arith

read-from_end : (nodes : List FlatNode) (i : ℕ) (d : FlatNode) → i < length nodes → IsSound nodes → Read nodes i (get_or nodes (length nodes - 1 - i) d)
read-from_end [] i d h s = absurd (omega arith)
read-from_end (m ∷ older) i d h s = elim (under i (length older) (omega arith)) [
  | inr last ↦
      let place : length (m ∷ older) - 1 - i ≡ 0 = omega arith in
      let at_end : Read (m ∷ older) (length older) m = record {
        below = s.0;
        walks = λ a. reached-newest m older a ∙ onward-same (says m (a (length older))) (λ j. reached older j a) (λ j. reached (m ∷ older) j a) (λ j hs e. sym (reached-older m older j a (says-below (length older) m (a (length older)) j hs s.0 e)));
      } in
      rw place (subst (λ k. Read (m ∷ older) k m) (sym last) at_end)
  | inl inside ↦
      let r = read-from_end older i d inside s.1 in
      let place : length (m ∷ older) - 1 - i ≡ (length older - 1 - i) + 1 = omega arith in
      let n = get_or older (length older - 1 - i) d in
      let same : get_or (m ∷ older) (length (m ∷ older) - 1 - i) d ≡ n = rw (place, add-one) in
      subst (Read (m ∷ older) i) (sym same) (record {
        below = r.below;
        walks = λ a. reached-older m older i a inside ∙ r.walks a ∙ onward-same (says n (a i)) (λ j. reached older j a) (λ j. reached (m ∷ older) j a) (λ j hs e. sym (reached-older m older j a (let k = says-below i n (a i) j hs r.below e in omega arith)));
      })
]

-- the node at a place of a list whose newest node comes last
pub read-at : (items : List FlatNode) (i : ℕ) (n : FlatNode) → i < length items → n ≡ get_or items i n → IsSound (reverse items) → Read (reverse items) i n
read-at items i n h e s =
    let l = length-reverse items in
    let r = read-from_end (reverse items) i n (omega arith) s in
    let back = get_or-reverse items (length (reverse items) - 1 - i) n (omega arith) in
    let place : length items - 1 - (length (reverse items) - 1 - i) ≡ i = omega arith in
    subst (Read (reverse items) i) (back ∙ ap (λ k. get_or items k n) place ∙ sym e) r

-- one step on
pub record Goes (nodes : List FlatNode) (i j : ℕ) (hs : List Heard) (a : ℕ → Answers) : Type 0 where
  pub leaf : (reached nodes i a).leaf ≡ (reached nodes j a).leaf
  pub looks : (reached nodes i a).looks ≡ (reached nodes j a).looks + 1
  pub heard : (reached nodes i a).heard ≡ hs ++ (reached nodes j a).heard

pub goes : (nodes : List FlatNode) (i j : ℕ) (hs : List Heard) (n : FlatNode) (a : ℕ → Answers) → Read nodes i n → says n (a i) ≡ go j hs → Goes nodes i j hs a
goes nodes i j hs n a r e =
    let w : reached nodes i a ≡ record { leaf = (reached nodes j a).leaf; looks = (reached nodes j a).looks + 1; heard = hs ++ (reached nodes j a).heard } = r.walks a ∙ ap (λ s. onward s (λ k. reached nodes k a)) e in
    record {
      leaf = ap (λ r. r.leaf) w;
      looks = ap (λ (r : Reached). r.looks) w;
      heard = ap (λ (r : Reached). r.heard) w;
    }

pub entry-within : (base1 x1 : ℤ) (n len entry : ℕ) → len ≡ n → entry ≡ slot base1 (len - 1) x1 → 0 < n → entry < n
entry-within base1 x1 n len entry l e some = subst (λ k. k < n) (sym (e ∙ ap (λ m. slot base1 (m - 1) x1) l)) (slot-within base1 x1 n some)

-- both answer alike where `p` names no property
abbrev pub AnswerAlike : (ℕ → Bool) → Answers → Answers → Type 0
AnswerAlike p x y = (k : ℕ) → p k ≡ false → (x.first k ≡ y.first k) × (x.second k ≡ y.second k)

-- a walk does not see the properties that no node tests, and its leaf is none that no node holds
pub record Blind (p : ℕ → Bool) (q : Leaf → Bool) (nodes : List FlatNode) : Type 0 where
  pub same : (i : ℕ) (a b : ℕ → Answers) → ((j : ℕ) → AnswerAlike p (a j) (b j)) → reached nodes i a ≡ reached nodes i b
  pub leaf : (i : ℕ) (a : ℕ → Answers) → q (reached nodes i a).leaf ≡ false

says-same : (p : ℕ → Bool) (q : Leaf → Bool) (n : FlatNode) (x y : Answers) → NodeLacks p q n → AnswerAlike p x y → says n x ≡ says n y
says-same p q (node.Leaf l) x y h e = refl
says-same p q (node.Table k base entries) x y h e = ap (λ z. go (slice_index entries.items (slot base (length entries.items - 1) z)) (heard k z ∷ [])) (e k h).0
says-same p q (node.Fused k v l r) x y h e =
    ap (λ z. cond (int_lt v z) (side_says k z l x.second) (side_says k z r x.second)) (e k h.0).0
    ∙ ap (λ z. cond (int_lt v (y.first k)) (go (side_end l z) (heard k (y.first k) ∷ heard l.property z ∷ [])) (side_says k (y.first k) r x.second)) (e l.property h.1.0).1
    ∙ ap (λ z. cond (int_lt v (y.first k)) (side_says k (y.first k) l y.second) (go (side_end r z) (heard k (y.first k) ∷ heard r.property z ∷ []))) (e r.property h.1.1).1

onward_leaf : (p : ℕ → Bool) (q : Leaf → Bool) (n : FlatNode) (x : Answers) (after : ℕ → Reached) → NodeLacks p q n → ((j : ℕ) → q (after j).leaf ≡ false) → q (onward (says n x) after).leaf ≡ false
onward_leaf p q (node.Leaf l) x after h e = h
onward_leaf p q (node.Table k base entries) x after h e = e (slice_index entries.items (slot base (length entries.items - 1) (x.first k)))
onward_leaf p q (node.Fused k v l r) x after h e =
    elim (int_lt v (x.first k)) as (λ t. q (onward (cond t (side_says k (x.first k) l x.second) (side_says k (x.first k) r x.second)) after).leaf ≡ false) [ true ↦ e (side_end l (x.second l.property)) | false ↦ e (side_end r (x.second r.property)) ]

pub blind : (p : ℕ → Bool) (q : Leaf → Bool) (nodes : List FlatNode) → q nowhere.leaf ≡ false → NodesLack p q nodes → Blind p q nodes
blind p q [] z h = record { same = λ i a b e. refl; leaf = λ i a. z }
blind p q (n ∷ older) z h =
    let old = blind p q older z h.1 in
    record {
      same = λ i a b e. elim (eqb i (length older)) as (λ t. cond t (onward (says n (a i)) (λ j. reached older j a)) (reached older i a) ≡ cond t (onward (says n (b i)) (λ j. reached older j b)) (reached older i b)) [
        | true ↦ onward-same (says n (a i)) (λ j. reached older j a) (λ j. reached older j b) (λ j hs at_j. old.same j a b e) ∙ ap (λ s. onward s (λ j. reached older j b)) (says-same p q n (a i) (b i) h.0 (e i))
        | false ↦ old.same i a b e
      ];
      leaf = λ i a. elim (eqb i (length older)) as (λ t. q (cond t (onward (says n (a i)) (λ j. reached older j a)) (reached older i a)).leaf ≡ false) [
        | true ↦ onward_leaf p q n (a i) (λ j. reached older j a) h.0 (λ j. old.leaf j a)
        | false ↦ old.leaf i a
      ];
    }

onward-some : (s : Says) (g : ℕ → Reached) → 1 ≤ (onward s g).looks
onward-some (stop l) g = omega arith
onward-some (go j hs) g = omega arith

pub reached-some : (nodes : List FlatNode) (i : ℕ) (a : ℕ → Answers) → i < length nodes → 1 ≤ (reached nodes i a).looks
reached-some [] i a h = absurd (omega arith)
reached-some (m ∷ older) i a h = elim (under i (length older) (omega arith)) [
  | inr last ↦ subst (λ k. 1 ≤ (reached (m ∷ older) k a).looks) (sym last) (subst (λ (r : Reached). 1 ≤ r.looks) (sym (reached-newest m older a)) (onward-some (says m (a (length older))) (λ j. reached older j a)))
  | inl inside ↦ subst (λ (r : Reached). 1 ≤ r.looks) (sym (reached-older m older i a inside)) (reached-some older i a inside)
]

-- the answers of f to each question are those of f
pub heard-append : (f : ℕ → ℤ) (hs ks : List Heard) → AreOf f hs → AreOf f ks → AreOf f (hs ++ ks)
heard-append f [] ks h k = k
heard-append f (x ∷ hs) ks h k = (h.0, heard-append f hs ks h.1 k)

onward-of : (f : ℕ → ℤ) (s : Says) (g : ℕ → Reached) → ((j : ℕ) (hs : List Heard) → s ≡ go j hs → AreOf f hs × AreOf f (g j).heard) → AreOf f (onward s g).heard
onward-of f (stop l) g h = tt
onward-of f (go j hs) g h = let both = h j hs refl in heard-append f hs (g j).heard both.0 both.1

answers-of : (f : ℕ → ℤ) (n : FlatNode) (j : ℕ) (hs : List Heard) → says n (alike f) ≡ go j hs → AreOf f hs
answers-of f (node.Leaf l) j hs e = cc
answers-of f (node.Table p base entries) j hs e = let is : (heard p (f p) ∷ []) ≡ hs = cc in subst (AreOf f) is (refl, tt)
answers-of f (node.Fused p v l r) j hs e = either (int_lt v (f p)) l r e where
  either : (t : Bool) (l r : Side) → cond t (side_says p (f p) l f) (side_says p (f p) r f) ≡ go j hs → AreOf f hs
  either true l r e = let is : (heard p (f p) ∷ heard l.property (f l.property) ∷ []) ≡ hs = cc in subst (AreOf f) is (refl, (refl, tt))
  either false l r e = let is : (heard p (f p) ∷ heard r.property (f r.property) ∷ []) ≡ hs = cc in subst (AreOf f) is (refl, (refl, tt))

pub all-of : (f : ℕ → ℤ) (nodes : List FlatNode) (i : ℕ) → AreOf f (reached nodes i (λ j. alike f)).heard
all-of f [] i = tt
all-of f (n ∷ older) i = elim (eqb i (length older)) as (λ t. AreOf f (cond t (onward (says n (alike f)) (λ j. reached older j (λ k. alike f))) (reached older i (λ k. alike f))).heard) [
  | true ↦ onward-of f (says n (alike f)) (λ j. reached older j (λ k. alike f)) (λ j hs e. (answers-of f n j hs e, all-of f older j))
  | false ↦ all-of f older i
]
