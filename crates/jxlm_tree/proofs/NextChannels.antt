-- For how many channels all known decisions are taken alike.
use Rattle.std.proofs.Common.{◌≡◌, ◌∙◌, ℕ, ℤ, pos, ◌+ℤ◌, w32, ◌+◌, ◌*◌, ◌<◌, ◌≤◌, ◌^◌, Bool, true, false, cond, eqb, ltb, Option, Some, None, refl, ap, subst, arith}
use Rattle.std.specs.Prelude.{int_lt, not, ◌||◌}
use Rattle.std.specs.Int.{int_wrap}
use Rattle.jxlm_tree.specs.FlatTree.{FlatTree, flat_tree}
use Rattle.jxlm_ma_tree.specs.TakenAlike.{goes_alike, taken_alike}
use Rattle.jxlm_tree.specs.NextChannel.{next, next_alike, side}
use Rattle.jxlm_ma_tree.specs.Tree.{Shape, leaf, decision}
use Rattle.jxlm_tree.specs.Inner.Compiled.{EndsAlike, known_at}
use Rattle.jxlm_ma_tree.specs.Pruned.{EndsAt, known_side, later, side_of}
use Rattle.jxlm_ma_tree.specs.declared.marks.Known.{Known}
use Rattle.jxlm_ma_tree.specs.declared.leaf.Leaf.{Leaf}
use Rattle.jxlm_tree.proofs.FlatMade.{known_by, later-reads}

-- ---- the channels by their numbers

later-at : (channel stream earlier k : ℕ) (z y : ℤ) → z ≡ int_wrap w32 (pos channel) → y ≡ int_wrap w32 (pos stream) → channel + k < 2 ^ 31 →
    later (known_by z y earlier) k ≡ known_at (channel + k) stream (earlier + k)
later-at channel stream earlier k z y at_channel at_stream few =
    let there : z +ℤ pos k ≡ int_wrap w32 (pos (channel + k)) = ap (λ (i : ℤ). i +ℤ pos k) at_channel ∙ later-reads channel k few in
    ap (λ (i : ℤ). known_by i y (earlier + k)) there ∙ ap (λ (i : ℤ). known_by (int_wrap w32 (pos (channel + k))) i (earlier + k)) at_stream

pub ends-by : (t : Shape Leaf) (channel stream earlier most last : ℕ) (z y : ℤ) → z ≡ int_wrap w32 (pos channel) → y ≡ int_wrap w32 (pos stream) →
    EndsAt (known_by z y earlier) t most → (last + 1 < 2 ^ 31 → last ≡ channel + most) → EndsAlike t channel stream earlier last
ends-by t channel stream earlier most last z y at_channel at_stream ends is = λ k e few.
    let l = is few in
    let same : most ≡ k = omega (arith, e, l) in
    let one = later-at channel stream earlier k z y at_channel at_stream (omega (arith, e, few)) in
    let two = later-at channel stream earlier (k + 1) z y at_channel at_stream (omega (arith, e, few)) in
    let i : channel + (k + 1) ≡ channel + k + 1 = omega arith in
    let j : earlier + (k + 1) ≡ earlier + k + 1 = omega arith in
    let after : later (known_by z y earlier) (k + 1) ≡ known_at (channel + k + 1) stream (earlier + k + 1) =
    two ∙ ap (λ (n : ℕ). known_at n stream (earlier + (k + 1))) i ∙ ap (λ (n : ℕ). known_at (channel + k + 1) stream n) j in
    let at_k = subst (EndsAt (known_by z y earlier) t) same ends (omega (arith, e, few)) in
    subst (λ (p : Known). taken_alike (known_side p) (known_side (known_at (channel + k + 1) stream (earlier + k + 1))) t ≡ false) one
    (subst (λ (p : Known). taken_alike (known_side (later (known_by z y earlier) k)) (known_side p) t ≡ false) after at_k)

-- ---- what a caller sees

sides : (a b c : Bool) (x y v : ℤ) → cond (a || (b || not c)) (Some (int_lt v (cond a x (cond b y (cond c (pos 0) (pos 0)))))) None ≡ side_of (cond a (Some x) (cond b (Some y) (cond c None (Some (pos 0))))) v
sides true b c x y v = refl
sides false true c x y v = refl
sides false false true x y v = refl
sides false false false x y v = refl

side-is : (t : FlatTree) (p : ℕ) (v : ℤ) → side t p v ≡ known_side (known_at t.channel t.stream_idx t.prev_channels) p v
side-is t p v = sides (eqb p 0) (eqb p 1) (ltb p (16 + 4 * t.prev_channels)) (int_wrap w32 (pos t.channel)) (int_wrap w32 (pos t.stream_idx)) v

pub alike-is : (f g h i : ℕ → ℤ → Option Bool) (t : Shape Leaf) → ((p : ℕ) (v : ℤ) → f p v ≡ h p v) → ((p : ℕ) (v : ℤ) → g p v ≡ i p v) → taken_alike f g t ≡ taken_alike h i t
alike-is f g h i (leaf l) e d = refl
alike-is f g h i (decision p v a b) e d =
    ap (λ (x : Option Bool). goes_alike x (g p v) (taken_alike f g a) (taken_alike f g b)) (e p v)
    ∙ ap (λ (x : Option Bool). goes_alike (h p v) x (taken_alike f g a) (taken_alike f g b)) (d p v)
    ∙ ap (λ (x : Bool). goes_alike (h p v) (i p v) x (taken_alike f g b)) (alike-is f g h i a e d)
    ∙ ap (λ (x : Bool). goes_alike (h p v) (i p v) (taken_alike h i a) x) (alike-is f g h i b e d)

-- what is true is not false
clash : (b : Bool) → b ≡ true → b ≡ false → ⊥
clash true e d = cc
clash false e d = cc

-- the nodes serve the next channel, where it takes all known decisions alike
pub goes-on : (t : Shape Leaf) (channel stream earlier last : ℕ) → EndsAlike t channel stream earlier last → (channel < 2 ^ 31 → channel ≤ last) → channel + 1 < 2 ^ 31 →
    next_alike (flat_tree t channel stream earlier) ≡ true → last ≤ channel → ⊥
goes-on t channel stream earlier last ends reaches few alike low =
    let r = reaches (omega (arith, few)) in
    let here = flat_tree t channel stream earlier in
    let e = ends 0 (omega (arith, r, low)) (omega (arith, r, low, few)) in
    let same = alike-is (side here) (side (next here)) (known_side (known_at channel stream earlier)) (known_side (known_at (channel + 1) stream (earlier + 1))) t (side-is here) (side-is (next here)) in
    let i : channel + 0 ≡ channel = omega arith in
    let j : earlier + 0 ≡ earlier = omega arith in
    clash (next_alike here) alike
    (same ∙ subst (λ (n : ℕ). taken_alike (known_side (known_at channel stream n)) (known_side (known_at (channel + 1) stream (n + 1))) t ≡ false) j
    (subst (λ (n : ℕ). taken_alike (known_side (known_at n stream (earlier + 0))) (known_side (known_at (n + 1) stream (earlier + 0 + 1))) t ≡ false) i e))
