-- Nodes that are added. In each list the newest node comes first.
use Rattle.std.proofs.Common.{◌≡◌, ℕ, ◌+◌, ◌-◌, ◌*◌, ◌<◌, ◌≤◌, max, ℤ, pos, ◌+ℤ◌, ◌-ℤ◌, ◌<ℤ◌, ◌≤ℤ◌, Bool, true, false, cond, eqb, List, [], ◌∷◌, length, slice_index, IsSome, Option, Some, None, refl, sym, ap, ◌∙◌, subst, arith, ◌⊎◌, inl, inr, Vec, Global}
use Rattle.std.specs.Prelude.{int_lt}
use Rattle.std.proofs.lemmas.Int.{ints}
use Rattle.std.proofs.lemmas.Bool.{false≢true}
use Rattle.jxlm_ma_tree.specs.declared.leaf.Leaf.{Leaf}
use Rattle.jxlm_tree.specs.declared.flat.Side.{Side}
use Rattle.jxlm_ma_tree.specs.declared.marks.Survey.{Survey}
use Rattle.jxlm_tree.specs.declared.flat.FlatNode.{FlatNode}
use Rattle.jxlm_tree.specs.declared.flat.FlatNode.TheVariants as node
use Rattle.jxlm_ma_tree.specs.Tree.{Shape, StandsAtLeaf, leaf, decision, walk, depth}
use Rattle.jxlm_tree.specs.Inner.FlatShapes.{size, Lacks}
use Rattle.jxlm_tree.specs.ShortTrees.{MeetsOnce, TestsOnly}
use Rattle.jxlm_tree.specs.Inner.Chosen.{chosen, hanging}
use Rattle.jxlm_ma_tree.specs.Cuts.{cuts, surveyed, unsurveyed, tabled, least, greatest}
use Rattle.jxlm_tree.specs.Inner.FlatNodes.{slot, side_end, side_says, Answers, AreOf, says, Reached, onward, reached, LeadsBelow, IsTable, Few, Serves, SideServes, Grows, Compiles, CompilesSide, Fills}
use Rattle.jxlm_ma_tree.proofs.Comparing.{eqb-same, int_lt-tells, eqb_is, eqb-not}
use Rattle.jxlm_tree.proofs.FlatWalks.{eqb-other, chosen-walk, chosen-stands, chosen_root-depth, chosen-one, chosen_above, chosen_not_above}
use Rattle.jxlm_tree.specs.CompiledNodes.{has_table, takes}
use Rattle.jxlm_ma_tree.specs.Marked.{Each}
use Rattle.jxlm_ma_tree.proofs.CutLists.{From}
use Rattle.jxlm_tree.proofs.FlatCounts.{own-fused, own-table, side-fused, side-own, tabled-is, table-below, within-both, within-hanging, within-left, within-narrow, within-right}
use Rattle.jxlm_ma_tree.proofs.CutLists.{Each-map, surveyed-cuts}
use Rattle.jxlm_tree.proofs.FlatTables.{Within, surveyed-within, worth-some, once-not_table, chosen-same, slot-stands, stands-alike, Alike}

-- the two equations of the walk
pub reached-older : (n : FlatNode) (older : List FlatNode) (i : ℕ) (a : ℕ → Answers) → i < length older → reached (n ∷ older) i a ≡ reached older i a
reached-older n older i a h = rw (eqb-other i (length older) h)

pub reached-newest : (n : FlatNode) (older : List FlatNode) (a : ℕ → Answers) → reached (n ∷ older) (length older) a ≡ onward (says n (a (length older))) (λ j. reached older j a)
reached-newest n older a = rw (eqb-same (length older))

-- growing
pub grows-then : (a b c : List FlatNode) (m n k : ℕ) → m + n ≤ k → Grows a b m → Grows b c n → Grows a c k
grows-then a b c m n k fits g h = record {
  longer = let x = g.longer in let y = h.longer in omega arith;
  few = let x = g.few in let y = h.few in omega arith;
  sound = λ s. h.sound (g.sound s);
  same = λ i f below. h.same i f (let x = g.longer in omega arith) ∙ g.same i f below;
}

pub grows-more : (a b : List FlatNode) (m k : ℕ) → m ≤ k → Grows a b m → Grows a b k
grows-more a b m k fits g = record { longer = g.longer; few = let x = g.few in omega arith; sound = g.sound; same = g.same }

pub grows-add : (n : FlatNode) (older : List FlatNode) → LeadsBelow (length older) n → Grows older (n ∷ older) 1
grows-add n older below = record {
  longer = omega arith;
  few = omega arith;
  sound = λ s. (below, s);
  same = λ i f h. reached-older n older i f h;
}

-- what served goes on serving
pub serves-later : (a b : List FlatNode) (k i : ℕ) (t : Shape Leaf) → Grows a b k → Serves a i t → Serves b i t
serves-later a b k i t g s = record {
  within = let x = g.longer in let y = s.within in omega arith;
  leads = λ w f fits are. ap (λ r. r.leaf) (g.same i w s.within) ∙ s.leads w f fits (subst (λ (r : Reached). AreOf f r.heard) (g.same i w s.within) are);
  stands = λ w fits. subst (λ (r : Reached). StandsAtLeaf t r.leaf) (sym (g.same i w s.within)) (s.stands w fits);
  few = λ w fits. subst (λ (r : Reached). Few t r.looks) (sym (g.same i w s.within)) (s.few w fits);
}

pub side_serves-later : (a b : List FlatNode) (k : ℕ) (s : Side) (t : Shape Leaf) → Grows a b k → SideServes a s t → SideServes b s t
side_serves-later a b k s t g h =
    let at_end : (y : ℤ) (w : ℕ → Answers) → reached b (side_end s y) w ≡ reached a (side_end s y) w =
    λ y w. elim (int_lt s.value y) as (λ t. reached b (cond t s.above s.rest) w ≡ reached a (cond t s.above s.rest) w) [ true ↦ g.same s.above w h.above | false ↦ g.same s.rest w h.rest ] in
    record {
      above = let x = g.longer in let y = h.above in omega arith;
      rest = let x = g.longer in let y = h.rest in omega arith;
      leads = λ y w f fits is are. ap (λ r. r.leaf) (at_end y w) ∙ h.leads y w f fits is (subst (λ (r : Reached). AreOf f r.heard) (at_end y w) are);
      stands = λ y w fits. subst (λ (r : Reached). StandsAtLeaf t r.leaf) (sym (at_end y w)) (h.stands y w fits);
      most = λ y w fits. subst (λ (r : Reached). r.looks ≤ depth t + 1) (sym (at_end y w)) (h.most y w fits);
      half = λ y w fits once. subst (λ (r : Reached). 2 * r.looks ≤ depth t + 2) (sym (at_end y w)) (h.half y w fits once);
    }

no-table : (t : Shape Leaf) → (IsTable t → ⊥) → has_table t ≡ false
no-table t none = none-true (has_table t) (λ h. none (tabled-is t ∙ h)) where
  none-true : (b : Bool) → (b ≡ true → ⊥) → b ≡ false
  none-true true h = absurd (h refl)
  none-true false h = refl

-- a fused node
few-fused : (p : ℕ) (v : ℤ) (a b : Shape Leaf) (n : ℕ) → (IsTable (decision p v a b) → ⊥) → n ≤ max (depth a) (depth b) + 1 → (MeetsOnce (decision p v a b) → 2 * n ≤ max (depth a) (depth b) + 2) → Few (decision p v a b) (n + 1)
few-fused p v a b n none h k = record {
  most = omega arith;
  half = λ once. let x = k once in omega arith;
  two = λ q only table. absurd (none table);
  one = λ zero. absurd (omega arith);
}

-- the side that is chosen leads on
fused-leads : (t : Bool) (p : ℕ) (x : ℤ) (l r : Side) (second f : ℕ → ℤ) (after : ℕ → Reached) (to_l to_r : Leaf) →
    (second l.property ≡ f l.property → AreOf f (after (side_end l (second l.property))).heard → (after (side_end l (second l.property))).leaf ≡ to_l) →
    (second r.property ≡ f r.property → AreOf f (after (side_end r (second r.property))).heard → (after (side_end r (second r.property))).leaf ≡ to_r) →
    AreOf f (onward (cond t (side_says p x l second) (side_says p x r second)) after).heard →
    (x ≡ f p) × ((onward (cond t (side_says p x l second) (side_says p x r second)) after).leaf ≡ cond t to_l to_r)
fused-leads true p x l r second f after to_l to_r hl hr are = (are.0, hl are.1.0 are.1.1)
fused-leads false p x l r second f after to_l to_r hl hr are = (are.0, hr are.1.0 are.1.1)

-- what holds of each side's end
fused-end : (P : Leaf → ℕ → Type 0) (t : Bool) (p : ℕ) (x : ℤ) (l r : Side) (second : ℕ → ℤ) (after : ℕ → Reached) →
    P (after (side_end l (second l.property))).leaf ((after (side_end l (second l.property))).looks + 1) →
    P (after (side_end r (second r.property))).leaf ((after (side_end r (second r.property))).looks + 1) →
    P (onward (cond t (side_says p x l second) (side_says p x r second)) after).leaf (onward (cond t (side_says p x l second) (side_says p x r second)) after).looks
fused-end P true p x l r second after hl hr = hl
fused-end P false p x l r second after hl hr = hr

side-most : (a b n : ℕ) → n ≤ a + 1 → n ≤ max a b + 1
side-most a b n h = omega arith

side-half : (a b n : ℕ) → 2 * n ≤ a + 2 → 2 * n ≤ max a b + 2
side-half a b n h = omega arith

pub serves-fused : (p : ℕ) (v : ℤ) (a b : Shape Leaf) (l r : Side) (older : List FlatNode) → (IsTable (decision p v a b) → ⊥) → SideServes older l a → SideServes older r b →
    Serves (node.Fused p v l r ∷ older) (length older) (decision p v a b)
serves-fused p v a b l r older none sl sr = record {
  within = omega arith;
  leads = λ w f fits are.
      let at_node = w (length older) in
      let x : ℤ = at_node.first p in
      let newest = reached-newest (node.Fused p v l r) older w in
      let both = fused-leads (int_lt v x) p x l r at_node.second f (λ j. reached older j w) (walk a f) (walk b f)
      (λ is h. sl.leads (at_node.second l.property) w f fits is h)
      (λ is h. sr.leads (at_node.second r.property) w f fits is h)
      (subst (λ (r : Reached). AreOf f r.heard) newest are) in
      ap (λ x. x.leaf) newest ∙ both.1 ∙ ap (λ z. cond (int_lt v z) (walk a f) (walk b f)) both.0;
  stands = λ w fits.
      let at_node = w (length older) in
      subst (λ (x : Reached). StandsAtLeaf (decision p v a b) x.leaf) (sym (reached-newest (node.Fused p v l r) older w))
      (fused-end (λ m n. StandsAtLeaf a m ⊎ StandsAtLeaf b m) (int_lt v (at_node.first p)) p (at_node.first p) l r at_node.second (λ j. reached older j w)
      (inl (sl.stands (at_node.second l.property) w fits))
      (inr (sr.stands (at_node.second r.property) w fits)));
  few = λ w fits.
      let at_node = w (length older) in
      let y : ℤ = at_node.second l.property in
      let z : ℤ = at_node.second r.property in
      subst (λ (x : Reached). Few (decision p v a b) x.looks) (sym (reached-newest (node.Fused p v l r) older w))
      (fused-end (λ m n. Few (decision p v a b) n) (int_lt v (at_node.first p)) p (at_node.first p) l r at_node.second (λ j. reached older j w)
      (few-fused p v a b _ none (side-most (depth a) (depth b) _ (sl.most y w fits)) (λ once. side-half (depth a) (depth b) _ (sl.half y w fits once.1.0)))
      (few-fused p v a b _ none (let m = sr.most z w fits in omega arith) (λ once. let m = sr.half z w fits once.1.1 in omega arith)));
}

pub compiles-fused : (p : ℕ) (v : ℤ) (a b : Shape Leaf) (l r : Side) (old mid older : List FlatNode) → (IsTable (decision p v a b) → ⊥) → CompilesSide p old mid l a → CompilesSide p mid older r b →
    Compiles old (node.Fused p v l r ∷ older) (length older) (decision p v a b)
compiles-fused p v a b l r old mid older none cl cr =
    let sl = side_serves-later mid older (size b) l a cr.grows cl.serves in
    record {
      grows = grows-then old older (node.Fused p v l r ∷ older) (size a + size b) 1 (size a + size b + 1) (omega arith)
          (grows-then old mid older (size a) (size b) (size a + size b) (omega arith) cl.grows cr.grows)
          (grows-add (node.Fused p v l r) older ((sl.above, sl.rest), (cr.serves.above, cr.serves.rest)));
      serves = serves-fused p v a b l r older none sl cr.serves;
      tops = record { node = node.Fused p v l r; older = older; newest = refl; place = refl; table = λ h. absurd (none h) };
      keeps = record {
        keeps = λ p' q zero h olds.
            ((h.0, (cl.tests p' q h.0 h.1.0, cr.tests p' q h.0 h.1.1)), cr.keeps.keeps p' q zero h.1.1 (cl.keeps.keeps p' q zero h.1.0 olds));
      };
      count = let l = cl.count in let r = cr.count in let e = own-fused p v a b (no-table (decision p v a b) none) in omega arith;
    }

-- a side that is itself a decision
pub side-split : (k p : ℕ) (v : ℤ) (a b : Shape Leaf) (i j : ℕ) (old mid new : List FlatNode) → (IsTable (decision p v a b) → ⊥) → Compiles old mid i a → Compiles mid new j b →
    CompilesSide k old new (record { property = p; value = v; above = i; rest = j }) (decision p v a b)
side-split k p v a b i j old mid new none ca cb =
    let sa = serves-later mid new (size b) i a cb.grows ca.serves in
    let sb = cb.serves in
    record {
      grows = grows-then old mid new (size a) (size b) (size a + size b + 1) (omega arith) ca.grows cb.grows;
      keeps = record { keeps = λ p' q zero h olds. cb.keeps.keeps p' q zero h.1.1 (ca.keeps.keeps p' q zero h.1.0 olds) };
      tests = λ p' q zero h. h.0;
      count = let l = ca.count in let r = cb.count in let e = side-fused p v a b (no-table (decision p v a b) none) in omega arith;
      serves = record {
        above = sa.within;
        rest = sb.within;
        leads = λ y w f fits is are.
            elim (int_lt v y) as (λ t. AreOf f (reached new (cond t i j) w).heard → (reached new (cond t i j) w).leaf ≡ cond t (walk a f) (walk b f)) [ true ↦ sa.leads w f fits | false ↦ sb.leads w f fits ] are
            ∙ ap (λ z. cond (int_lt v z) (walk a f) (walk b f)) is;
        stands = λ y w fits. elim (int_lt v y) as (λ t. StandsAtLeaf a (reached new (cond t i j) w).leaf ⊎ StandsAtLeaf b (reached new (cond t i j) w).leaf) [ true ↦ inl (sa.stands w fits) | false ↦ inr (sb.stands w fits) ];
        most = λ y w fits. elim (int_lt v y) as (λ t. (reached new (cond t i j) w).looks ≤ max (depth a) (depth b) + 1 + 1) [ true ↦ (let m = (sa.few w fits).most in omega arith) | false ↦ (let m = (sb.few w fits).most in omega arith) ];
        half = λ y w fits once. elim (int_lt v y) as (λ t. 2 * (reached new (cond t i j) w).looks ≤ max (depth a) (depth b) + 1 + 2) [ true ↦ (let m = (sa.few w fits).half once.1.0 in omega arith) | false ↦ (let m = (sb.few w fits).half once.1.1 in omega arith) ];
      };
    }

not_both : (o : Option Survey) → o ≡ None → IsSome o → ⊥
not_both None e h = false≢true h
not_both (Some x) e h = cc

-- a side that is a leaf or a table
pub side-shared : (k : ℕ) (t : Shape Leaf) (i : ℕ) (old new : List FlatNode) → (depth t ≡ 0) ⊎ IsTable t → Compiles old new i t → CompilesSide k old new (record { property = k; value = pos 0; above = i; rest = i }) t
side-shared k t i old new kind c =
    let s = c.serves in
    record {
      grows = c.grows;
      keeps = c.keeps;
      tests = λ p' q zero h. zero;
      count = let n = c.count in let e = side-own t (elim kind [ inl end ↦ inl end | inr table ↦ inr (sym (tabled-is t) ∙ table) ]) in omega arith;
      serves = record {
        above = s.within;
        rest = s.within;
        leads = λ y w f fits is are. elim (int_lt (pos 0) y) as (λ b. AreOf f (reached new (cond b i i) w).heard → (reached new (cond b i i) w).leaf ≡ walk t f) [ true ↦ s.leads w f fits | false ↦ s.leads w f fits ] are;
        stands = λ y w fits. elim (int_lt (pos 0) y) as (λ b. StandsAtLeaf t (reached new (cond b i i) w).leaf) [ true ↦ s.stands w fits | false ↦ s.stands w fits ];
        most = λ y w fits. elim (int_lt (pos 0) y) as (λ b. (reached new (cond b i i) w).looks ≤ depth t + 1) [ true ↦ (s.few w fits).most | false ↦ (s.few w fits).most ];
        half = λ y w fits once.
            let least : 2 * (reached new i w).looks ≤ depth t + 2 = elim kind [
              | inl end ↦ let m = (s.few w fits).one end in omega arith
              | inr table ↦ absurd (not_both (tabled t) (once-not_table t once) table)
            ] in
            elim (int_lt (pos 0) y) as (λ b. 2 * (reached new (cond b i i) w).looks ≤ depth t + 2) [ true ↦ least | false ↦ least ];
      };
    }

-- entries
pub hanging-few : (p : ℕ) (t : Shape Leaf) → hanging p t ≤ size t
hanging-few p (leaf l) = omega arith
hanging-few p (decision q v a b) =
    let l = hanging-few p a in
    let r = hanging-few p b in
    elim (eqb q p) as (λ e. cond e (hanging p a + hanging p b) (size a + size b + 1) ≤ size a + size b + 1) [ true ↦ omega arith | false ↦ omega arith ]

pub hanging-at : (p : ℕ) (v : ℤ) (a b : Shape Leaf) → hanging p (decision p v a b) ≡ hanging p a + hanging p b
hanging-at p v a b = rw (eqb-same p)

pub hanging-other : (p : ℕ) (t : Shape Leaf) → ((x : ℤ) → chosen p x t ≡ t) → hanging p t ≡ size t
hanging-other p (leaf l) h = refl
hanging-other p (decision q v a b) h = elim (eqb_is q p) [
  | inr differs ↦ rw (eqb-not q p differs)
  | inl is ↦ absurd (
      let k : depth (chosen p v (decision p v a b)) + 1 ≤ depth (decision p v a b) = chosen_root-depth p v v a b in
      let e : depth (chosen p v (decision p v a b)) ≡ depth (decision p v a b) = subst (λ n. depth (chosen p v (decision n v a b)) ≡ depth (decision n v a b)) is (ap depth (h v)) in
      omega arith)
]

-- a tree that hangs from the decisions: one node, for all entries of the range
pub fill-end : (p : ℕ) (low high : ℤ) (t : Shape Leaf) (i : ℕ) (old new : List FlatNode) (before after : List ℕ) → ((x : ℤ) → chosen p x t ≡ t) → low ≤ℤ high → Compiles old new i t →
    pos (length after) ≡ (pos (length before) +ℤ ((high -ℤ low) +ℤ pos 1)) →
    ((k : ℕ) → k < length before → slice_index after k ≡ slice_index before k) →
    ((k : ℕ) → length before ≤ k → k < length after → slice_index after k ≡ i) →
    Fills old new before after p low high t
fill-end p low high t i old new before after same order c longer kept news = record {
  grows = grows-more old new (size t) (hanging p t) (let h = hanging-other p t same in omega arith) c.grows;
  keeps = c.keeps;
  count = let n = c.count in let e = within-hanging p low high t same order in omega arith;
  longer = longer;
  kept = kept;
  each = λ k x lx xh place.
      let e : slice_index after k ≡ i = news k (omega (arith, ints)) (omega (arith, ints)) in
      subst (λ j. Serves new j (chosen p x t)) (sym e) (subst (λ u. Serves new i u) (sym (same x)) c.serves);
}

-- a decision that splits nothing in the range
pub fill-one : (p : ℕ) (low high : ℤ) (t u : Shape Leaf) (old new : List FlatNode) (before after : List ℕ) → hanging p u ≤ hanging p t → ((p' : ℕ → Bool) (q : Leaf → Bool) → Lacks p' q t → Lacks p' q u) → ((x : ℤ) → low ≤ℤ x → x ≤ℤ high → chosen p x t ≡ chosen p x u) →
    (takes t).within p low high ≡ (takes u).within p low high → Fills old new before after p low high u → Fills old new before after p low high t
fill-one p low high t u old new before after fewer part same alike h = record {
  count = let n = h.count in omega arith;
  keeps = record { keeps = λ p' q zero l olds. h.keeps.keeps p' q zero (part p' q l) olds };
  grows = grows-more old new (hanging p u) (hanging p t) fewer h.grows;
  longer = h.longer;
  kept = h.kept;
  each = λ k x lx xh place. subst (λ w. Serves new (slice_index after k) w) (sym (same x lx xh)) (h.each k x lx xh place);
}

pub fill-left : (p : ℕ) (low high v : ℤ) (a b : Shape Leaf) (old new : List FlatNode) (before after : List ℕ) → v <ℤ low → Fills old new before after p low high a → Fills old new before after p low high (decision p v a b)
fill-left p low high v a b old new before after h f =
    fill-one p low high (decision p v a b) a old new before after (let e = hanging-at p v a b in omega arith) (λ p' q l. l.1.0) (λ x lx xh. chosen_above p x v a b (omega (arith, ints))) (within-left p low high v a b h) f

pub fill-right : (p : ℕ) (low high v : ℤ) (a b : Shape Leaf) (old new : List FlatNode) (before after : List ℕ) → high ≤ℤ v → Fills old new before after p low high b → Fills old new before after p low high (decision p v a b)
fill-right p low high v a b old new before after h f =
    fill-one p low high (decision p v a b) b old new before after (let e = hanging-at p v a b in omega arith) (λ p' q l. l.1.1) (λ x lx xh. chosen_not_above p x v a b (omega (arith, ints))) (within-right p low high v a b h) f

-- a decision that splits the range: first the entries up to its cut, then the others
pub fill-both : (p : ℕ) (low high v : ℤ) (a b : Shape Leaf) (old mid new : List FlatNode) (before middle after : List ℕ) → low ≤ℤ v → v <ℤ high →
    Fills old mid before middle p low v b → Fills mid new middle after p (v +ℤ pos 1) high a → Fills old new before after p low high (decision p v a b)
fill-both p low high v a b old mid new before middle after lv vh fb fa = record {
  keeps = record { keeps = λ p' q zero l olds. fa.keeps.keeps p' q zero l.1.0 (fb.keeps.keeps p' q zero l.1.1 olds) };
  grows = grows-then old mid new (hanging p b) (hanging p a) (hanging p (decision p v a b)) (let e = hanging-at p v a b in omega arith) fb.grows fa.grows;
  count = let l = fb.count in let r = fa.count in let e = within-both p low high v a b lv vh in omega arith;
  longer = let l = fb.longer in let r = fa.longer in omega (arith, ints);
  kept = λ k h. fa.kept k (let l = fb.longer in omega (arith, ints)) ∙ fb.kept k h;
  each = λ k x lx xh place. elim (int_lt-tells v x) [
    | inl over ↦
        let above_v = over.1 in
        let l = fb.longer in
        subst (λ w. Serves new (slice_index after k) w) (sym (chosen_above p x v a b over.1))
        (fa.each k x (omega (arith, ints)) xh (omega (arith, ints)))
    | inr under ↦
        let not_above_v = under.1 in
        let l = fb.longer in
        let e : slice_index after k ≡ slice_index middle k = fa.kept k (omega (arith, ints)) in
        subst (λ j. Serves new j (chosen p x (decision p v a b))) (sym e)
        (subst (λ w. Serves new (slice_index middle k) w) (sym (chosen_not_above p x v a b under.1))
        (serves-later mid new (hanging p a) (slice_index middle k) (chosen p x b) fa.grows (fb.each k x lx under.1 place)))
  ];
}

-- a table
ordered : (s : Survey) (xs : List ℤ) → 0 < length xs → Each (Within s) xs → s.least ≤ℤ s.greatest
ordered s [] some h = absurd (omega arith)
ordered s (x ∷ xs) some h = let k = h.0 in omega (arith, ints)

few-table : (p : ℕ) (v y : ℤ) (a b : Shape Leaf) (n : ℕ) → IsTable (decision p v a b) → Few (chosen p y (decision p v a b)) n → Few (decision p v a b) (n + 1)
few-table p v y a b n table h = record {
  most = let m = h.most in let d = chosen_root-depth p y v a b in omega arith;
  half = λ once. absurd (not_both (tabled (decision p v a b)) (once-not_table (decision p v a b) once) table);
  two = λ q only tabled'.
      let ends : depth (chosen p y (decision p v a b)) ≡ 0 = chosen-one p y (decision p v a b) (subst (λ k. TestsOnly k (decision p v a b)) (sym only.0) only) in
      let one = h.one ends in omega arith;
  one = λ zero. absurd (omega arith);
}

some-is : {A : Type 0} (o : Option A) (x : A) → o ≡ Some x → IsSome o
some-is None x e = cc
some-is (Some y) x e = refl

pub record TableFacts (p : ℕ) (v : ℤ) (a b : Shape Leaf) (s : Survey) : Type 0 where
  pub order : s.least ≤ℤ s.greatest
  pub spread : s.greatest ≤ℤ (s.least +ℤ pos 1022)
  pub inside : Each (Within s) (cuts p least greatest (decision p v a b))

pub table-facts : (p : ℕ) (v : ℤ) (a b : Shape Leaf) (s : Survey) → tabled (decision p v a b) ≡ Some s → TableFacts p v a b s
table-facts p v a b s e =
    let cs = cuts p least greatest (decision p v a b) in
    let w = worth-some (surveyed unsurveyed cs) s e in
    let inside : Each (Within s) cs = subst (λ r. Each (Within r) cs) w.0 (surveyed-within unsurveyed cs) in
    let count = surveyed-cuts unsurveyed cs in
    record {
      order = ordered s cs (let k = w.1 in omega arith) inside;
      spread = subst (λ (r : Survey). r.greatest ≤ℤ (r.least +ℤ pos 1022)) w.0 w.2;
      inside = inside;
    }

-- the entry for x leads to what x chooses
pub table-entry : (p : ℕ) (v : ℤ) (a b : Shape Leaf) (s : Survey) (old new : List FlatNode) (entries : List ℕ) (x : ℤ) → TableFacts p v a b s →
    least ≤ℤ s.least → s.greatest ≤ℤ greatest → least ≤ℤ x → x ≤ℤ greatest →
    Fills old new [] entries p s.least (s.greatest +ℤ pos 1) (decision p v a b) →
    (y : ℤ) × (Serves new (slice_index entries (slot s.least (length entries - 1) x)) (chosen p y (decision p v a b)) × (chosen p y (decision p v a b) ≡ chosen p x (decision p v a b)))
table-entry p v a b s old new entries x facts sl sg lx xg h =
    let order = facts.order in
    let longer : pos (length entries) ≡ (pos 0 +ℤ (((s.greatest +ℤ pos 1) -ℤ s.least) +ℤ pos 1)) = h.longer in
    let st = slot-stands s.least (s.greatest +ℤ pos 1) x (length entries - 1) (omega (arith, ints)) (omega (arith, ints)) in
    let between = st.between in
    let ly : least ≤ℤ st.y = let k = st.low_y in omega (arith, ints) in
    let yg : st.y ≤ℤ greatest = grind (arith, ints) in (
      st.y,
      (
        h.each (slot s.least (length entries - 1) x) st.y st.low_y st.y_high st.place,
        sym (chosen-same p least greatest x st.y (decision p v a b) lx xg ly yg
            (Each-map (Within s) (Alike x st.y) (λ c inside. stands-alike s.least (s.greatest +ℤ pos 1) x c (slot s.least (length entries - 1) x) st inside.0 (let k = inside.1 in omega (arith, ints))) (cuts p least greatest (decision p v a b)) facts.inside)),
      ),
    )

pub hanging-some : (p : ℕ) (t : Shape Leaf) → 0 < hanging p t
hanging-some p (leaf l) = omega arith
hanging-some p (decision q v a b) =
    let l = hanging-some p a in
    elim (eqb q p) as (λ e. 0 < cond e (hanging p a + hanging p b) (size a + size b + 1)) [ true ↦ omega arith | false ↦ omega arith ]

pub compiles-table : (p : ℕ) (v : ℤ) (a b : Shape Leaf) (s : Survey) (old new : List FlatNode) (entries : Vec ℕ Global) → tabled (decision p v a b) ≡ Some s →
    least ≤ℤ s.least → s.greatest ≤ℤ greatest →
    Fills old new [] entries.items p s.least (s.greatest +ℤ pos 1) (decision p v a b) →
    Compiles old (node.Table p s.least entries ∷ new) (length new) (decision p v a b)
compiles-table p v a b s old new entries e sl sg h =
    let t : Shape Leaf = decision p v a b in
    let facts = table-facts p v a b s e in
    let order = facts.order in
    let spread = facts.spread in
    let longer : pos (length entries.items) ≡ (pos 0 +ℤ (((s.greatest +ℤ pos 1) -ℤ s.least) +ℤ pos 1)) = h.longer in
    let below : (j : ℕ) → j < length entries.items → slice_index entries.items j < length new =
    λ j in'. (h.each j (s.least +ℤ pos j) (omega (arith, ints)) (omega (arith, ints)) (omega (arith, ints))).within in
    let leads_below : LeadsBelow (length new) (node.Table p s.least entries) = ((omega (arith, ints), omega (arith, ints)), below) in
    let table : IsTable t = some-is (tabled t) s e in
    record {
      grows = grows-then old new (node.Table p s.least entries ∷ new) (hanging p t) 1 (size t)
          (let l = hanging-few p a in let r = hanging-few p b in let k = hanging-at p v a b in omega arith)
          h.grows (grows-add (node.Table p s.least entries) new leads_below);
      keeps = record { keeps = λ p' q zero l olds. (l.0, h.keeps.keeps p' q zero l olds) };
      count =
          let n = h.count in
          let own = own-table p v a b (sym (tabled-is t) ∙ table) in
          let last = table-below p v a b s e in
          let all_cuts : Each (From s.least (s.greatest +ℤ pos 1)) (cuts p least greatest t) =
          Each-map (Within s) (From s.least (s.greatest +ℤ pos 1)) (λ c inside. (inside.0, (let k = inside.1 in omega (arith, ints)))) (cuts p least greatest t) facts.inside in
          let same = within-narrow p least greatest s.least (s.greatest +ℤ pos 1) t sl (omega (arith, ints)) (omega (arith, ints)) all_cuts in
          omega arith;
      tops = record { node = node.Table p s.least entries; older = new; newest = refl; place = refl; table = λ is. (eqb-same p, λ j in'. h.each j (s.least +ℤ pos j) (omega (arith, ints)) (omega (arith, ints)) (omega (arith, ints))) };
      serves = record {
        within = omega arith;
        leads = λ w f fits are.
            let x : ℤ = (w (length new)).first p in
            let low = (fits (length new)).low p in
            let high = (fits (length new)).high p in
            let at_x = table-entry p v a b s old new entries.items x facts sl sg (omega (arith, ints)) (omega (arith, ints)) h in
            let newest = reached-newest (node.Table p s.least entries) new w in
            let heard = subst (λ (r : Reached). AreOf f r.heard) newest are in
            ap (λ r. r.leaf) newest
            ∙ at_x.1.0.leads w f fits heard.1
            ∙ ap (λ u. walk u f) at_x.1.1
            ∙ ap (λ z. walk (chosen p z t) f) heard.0
            ∙ chosen-walk p t f;
        stands = λ w fits.
            let x : ℤ = (w (length new)).first p in
            let low = (fits (length new)).low p in
            let high = (fits (length new)).high p in
            let at_x = table-entry p v a b s old new entries.items x facts sl sg (omega (arith, ints)) (omega (arith, ints)) h in
            subst (λ (r : Reached). StandsAtLeaf t r.leaf) (sym (reached-newest (node.Table p s.least entries) new w))
            (chosen-stands p at_x.0 t _ (at_x.1.0.stands w fits));
        few = λ w fits.
            let x : ℤ = (w (length new)).first p in
            let low = (fits (length new)).low p in
            let high = (fits (length new)).high p in
            let at_x = table-entry p v a b s old new entries.items x facts sl sg (omega (arith, ints)) (omega (arith, ints)) h in
            subst (λ (r : Reached). Few t r.looks) (sym (reached-newest (node.Table p s.least entries) new w))
            (few-table p v at_x.0 a b _ table (at_x.1.0.few w fits));
      };
    }
