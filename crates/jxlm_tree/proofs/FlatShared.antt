-- The nodes of a whole tree serve every channel that has the earlier channels that it names.
use Rattle.std.proofs.Common.{◌≡◌, ℕ, ◌+◌, ◌*◌, ◌<◌, ◌≤◌, ◌∙◌, ◌||◌, ◌^◌, reverse, ℤ, Bool, true, false, ltb, [], Option, None, inl, inr, refl, sym, ap, subst, arith}
use Rattle.std.proofs.lemmas.Bool.Decides.{leb_tells, nat_tests}
use Rattle.jxlm_tree.specs.CompiledNodes.{takes}
use Rattle.jxlm_ma_tree.specs.EarlierChannels.{earlier_named}
use Rattle.jxlm_ma_tree.specs.Tree.{Shape, leaf, decision}
use Rattle.jxlm_tree.specs.Inner.Compiled.{IsCompiled, IsCompiledFor, ServesAnywhere, known_at}
use Rattle.jxlm_tree.specs.Inner.FlatNodes.{Keeps, Serves, Tops, channels_of}
use Rattle.jxlm_ma_tree.specs.Pruned.{known, known_side, pruned, side_of, taken, tests_place}
use Rattle.jxlm_ma_tree.specs.TakenAlike.{goes_alike, taken_alike}
use Rattle.jxlm_ma_tree.specs.declared.marks.Known.{Known}
use Rattle.jxlm_tree.specs.declared.flat.CompiledTree.{CompiledTree}
use Rattle.jxlm_ma_tree.specs.declared.leaf.Leaf.{Leaf}
use Rattle.jxlm_tree.proofs.FlatAsks.{within}
use Rattle.jxlm_tree.proofs.FlatNeeds.{or-left, or-right}
use Rattle.jxlm_tree.proofs.MostSteps.{and-both}

-- nothing is known of a property of the cell
unknown : (pins : Known) (p : ℕ) → ltb p 2 ≡ false → p < 16 + 4 * pins.prev_channels → known pins p ≡ None
unknown pins p own few = grind (arith, nat_tests)

-- so nothing is decided beforehand
pub unpruned : (pins : Known) (t : Shape Leaf) → tests_place t ≡ false → earlier_named t ≤ pins.prev_channels → pruned pins t ≡ t
unpruned pins (leaf l) own few = refl
unpruned pins (decision p v a b) own few =
    let below = or-right (ltb p 2) (tests_place a || tests_place b) own in
    let near : channels_of p ≤ pins.prev_channels = omega (arith, few) in
    let none : known pins p ≡ None = unknown pins p (or-left (ltb p 2) (tests_place a || tests_place b) own) (within p pins.prev_channels near) in
    ap (λ o. taken o p v (pruned pins a) (pruned pins b)) none
    ∙ ap (λ x. decision p v x (pruned pins b)) (unpruned pins a (or-left (tests_place a) (tests_place b) below) (omega (arith, few)))
    ∙ ap (λ x. decision p v a x) (unpruned pins b (or-right (tests_place a) (tests_place b) below) (omega (arith, few)))

-- nodes that serve a channel serve another one for which the same is left of the tree
pub serves-alike : (t : Shape Leaf) (c : CompiledTree) (one other : Known) → pruned one t ≡ pruned other t →
    IsCompiled t one c.nodes.items c.root c.need_self_correcting c.prev_channels_named →
    IsCompiled t other c.nodes.items c.root c.need_self_correcting c.prev_channels_named
serves-alike t c one other same d = record {
  multipliers = d.multipliers;
  sound = d.sound;
  rooted = d.rooted;
  serves = subst (Serves (reverse c.nodes.items) c.root) same d.serves;
  tops = subst (Tops (reverse c.nodes.items) c.root) same d.tops;
  keeps = subst (Keeps [] (reverse c.nodes.items)) same d.keeps;
  few = d.few;
  count = d.count ∙ ap (λ u. (takes u).own) same;
  needs_is = d.needs_is;
  named_is = d.named_is;
}

-- they serve later channels, up to the last one for which the same is left
pub serves-later : (t : Shape Leaf) (c : CompiledTree) (channel stream earlier m : ℕ) → IsCompiledFor t channel stream earlier c → channel + m ≤ c.last_alike →
    IsCompiledFor t (channel + m) stream (earlier + m) c
serves-later t c channel stream earlier m s within =
    let same = s.alike m within in
    record {
      tree = serves-alike t c (known_at channel stream earlier) (known_at (channel + m) stream (earlier + m)) (sym same) s.tree;
      table = s.table;
      alike = λ k less.
          ap (λ i. pruned (known_at i stream (earlier + m + k)) t) (let e : channel + m + k ≡ channel + (m + k) = omega arith in e)
          ∙ ap (λ i. pruned (known_at (channel + (m + k)) stream i) t) (let e : earlier + m + k ≡ earlier + (m + k) = omega arith in e)
          ∙ s.alike (m + k) (omega (arith, less)) ∙ sym same;
      ends = λ k e few.
          let i : channel + (m + k) ≡ channel + m + k = omega arith in
          let j : earlier + (m + k) ≡ earlier + m + k = omega arith in
          subst (λ (n : ℕ). taken_alike (known_side (known_at (channel + m + k) stream n)) (known_side (known_at (channel + m + k + 1) stream (n + 1))) t ≡ false) j
          (subst (λ (n : ℕ). taken_alike (known_side (known_at n stream (earlier + (m + k)))) (known_side (known_at (n + 1) stream (earlier + (m + k) + 1))) t ≡ false) i
          (s.ends (m + k) (omega (arith, e)) few));
      reaches = λ few. within;
    }

-- so they serve the next one
pub serves-next : (t : Shape Leaf) (c : CompiledTree) (channel stream earlier : ℕ) → IsCompiledFor t channel stream earlier c → channel < c.last_alike →
    IsCompiledFor t (channel + 1) stream (earlier + 1) c
serves-next t c channel stream earlier s more = serves-later t c channel stream earlier 1 s (omega (arith, more))

-- so each channel takes what is known alike: nothing is
alike-open : (f g : ℕ → ℤ → Option Bool) (t : Shape Leaf) (pins : Known) → f ≡ known_side pins → tests_place t ≡ false → earlier_named t ≤ pins.prev_channels → taken_alike f g t ≡ true
alike-open f g (leaf l) pins is own few = refl
alike-open f g (decision p v a b) pins is own few =
    let below = or-right (ltb p 2) (tests_place a || tests_place b) own in
    let near : channels_of p ≤ pins.prev_channels = omega (arith, few) in
    let none : known pins p ≡ None = unknown pins p (or-left (ltb p 2) (tests_place a || tests_place b) own) (within p pins.prev_channels near) in
    ap (λ (h : ℕ → ℤ → Option Bool). goes_alike (h p v) (g p v) (taken_alike f g a) (taken_alike f g b)) is
    ∙ ap (λ o. goes_alike (side_of o v) (g p v) (taken_alike f g a) (taken_alike f g b)) none
    ∙ and-both (taken_alike f g a) (taken_alike f g b) (alike-open f g a pins is (or-left (tests_place a) (tests_place b) below) (omega (arith, few))) (alike-open f g b pins is (or-right (tests_place a) (tests_place b) below) (omega (arith, few)))

clash : (b : Bool) → b ≡ true → b ≡ false → ⊥
clash true e d = cc
clash false e d = cc

-- and there is no last channel but that of the greatest number
never-ends : (t : Shape Leaf) (c : CompiledTree) → ServesAnywhere t c → c.last_alike + 1 < 2 ^ 31 → ⊥
never-ends t c s few =
    let n = earlier_named t in
    clash _ (alike-open (known_side (known_at (0 + c.last_alike) 0 (n + c.last_alike))) _ t (known_at (0 + c.last_alike) 0 (n + c.last_alike)) refl s.no_place (omega arith))
    (s.compiled.ends c.last_alike (omega arith) few)

pub serves-here : (t : Shape Leaf) (c : CompiledTree) (channel stream earlier : ℕ) → ServesAnywhere t c → earlier_named t ≤ earlier → IsCompiledFor t channel stream earlier c
serves-here t c channel stream earlier s there =
    let same : pruned (known_at 0 0 (earlier_named t)) t ≡ pruned (known_at channel stream earlier) t =
    unpruned (known_at 0 0 (earlier_named t)) t s.no_place (omega arith) ∙ sym (unpruned (known_at channel stream earlier) t s.no_place there) in
    record {
      tree = serves-alike t c (known_at 0 0 (earlier_named t)) (known_at channel stream earlier) same s.compiled.tree;
      table = s.compiled.table;
      alike = λ k less.
          unpruned (known_at (channel + k) stream (earlier + k)) t s.no_place (omega (arith, there)) ∙ sym (unpruned (known_at channel stream earlier) t s.no_place there);
      ends = λ k e few. absurd (never-ends t c s few);
      reaches = λ few. elim (leb_tells channel c.last_alike) [
        | inl h ↦ h.1
        | inr h ↦ absurd (never-ends t c s (let i = h.1 in omega (arith, few)))
      ];
    }
