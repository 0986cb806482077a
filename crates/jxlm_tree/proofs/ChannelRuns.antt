-- Nodes of a tree that does not ask for the stream serve a run of channels of every stream.
use Rattle.std.proofs.Common.{◌≡◌, ℕ, ℤ, ◌+◌, ◌*◌, ◌-◌, ◌≤◌, ◌∙◌, ◌||◌, pos, w32, Bool, true, false, cond, eqb, ltb, Option, Some, None, refl, ap, subst, arith}
use Rattle.std.specs.Int.{int_wrap}
use Rattle.jxlm_ma_tree.specs.Pruned.{known, known_side, pruned, side_of, taken}
use Rattle.jxlm_ma_tree.specs.TakenAlike.{goes_alike, taken_alike}
use Rattle.jxlm_ma_tree.specs.Tree.{Shape, leaf, decision}
use Rattle.jxlm_ma_tree.specs.declared.leaf.Leaf.{Leaf}
use Rattle.jxlm_tree.specs.Inner.Compiled.{IsCompiledFor, known_at}
use Rattle.jxlm_tree.specs.Inner.Streams.{asks_stream}
use Rattle.jxlm_tree.specs.declared.flat.CompiledTree.{CompiledTree}
use Rattle.jxlm_tree.proofs.FlatNeeds.{or-left, or-right}
use Rattle.jxlm_tree.proofs.FlatShared.{serves-alike, serves-later}

-- what is not of the stream is known alike for every stream
pick : (a b : Bool) (x y z w : Option ℤ) → b ≡ false → cond a x (cond b y w) ≡ cond a x (cond b z w)
pick true b x y z w e = refl
pick false true x y z w e = cc
pick false false x y z w e = refl

known-alike : (channel one other earlier p : ℕ) → eqb p 1 ≡ false → known (known_at channel one earlier) p ≡ known (known_at channel other earlier) p
known-alike channel one other earlier p e =
    pick (eqb p 0) (eqb p 1) (Some (int_wrap w32 (pos channel))) (Some (int_wrap w32 (pos one))) (Some (int_wrap w32 (pos other))) (cond (ltb p (16 + 4 * earlier)) None (Some (pos 0))) e

-- so the same is left of the tree
left-alike : (channel one other earlier : ℕ) (t : Shape Leaf) → asks_stream t ≡ false → pruned (known_at channel one earlier) t ≡ pruned (known_at channel other earlier) t
left-alike channel one other earlier (leaf l) none = refl
left-alike channel one other earlier (decision p v a b) none =
    let below = or-right (eqb p 1) (asks_stream a || asks_stream b) none in
    ap (λ o. taken o p v (pruned (known_at channel one earlier) a) (pruned (known_at channel one earlier) b)) (known-alike channel one other earlier p (or-left (eqb p 1) (asks_stream a || asks_stream b) none))
    ∙ ap (λ x. taken (known (known_at channel other earlier) p) p v x (pruned (known_at channel one earlier) b)) (left-alike channel one other earlier a (or-left (asks_stream a) (asks_stream b) below))
    ∙ ap (λ x. taken (known (known_at channel other earlier) p) p v (pruned (known_at channel other earlier) a) x) (left-alike channel one other earlier b (or-right (asks_stream a) (asks_stream b) below))

-- and two channels take decisions alike in every stream where they do in one
both-alike : (f g h i : ℕ → ℤ → Option Bool) (t : Shape Leaf) → asks_stream t ≡ false → ((p : ℕ) (v : ℤ) → eqb p 1 ≡ false → f p v ≡ h p v) → ((p : ℕ) (v : ℤ) → eqb p 1 ≡ false → g p v ≡ i p v) → taken_alike f g t ≡ taken_alike h i t
both-alike f g h i (leaf l) none e d = refl
both-alike f g h i (decision p v a b) none e d =
    let own = or-left (eqb p 1) (asks_stream a || asks_stream b) none in
    let below = or-right (eqb p 1) (asks_stream a || asks_stream b) none in
    ap (λ (x : Option Bool). goes_alike x (g p v) (taken_alike f g a) (taken_alike f g b)) (e p v own)
    ∙ ap (λ (x : Option Bool). goes_alike (h p v) x (taken_alike f g a) (taken_alike f g b)) (d p v own)
    ∙ ap (λ (x : Bool). goes_alike (h p v) (i p v) x (taken_alike f g b)) (both-alike f g h i a (or-left (asks_stream a) (asks_stream b) below) e d)
    ∙ ap (λ (x : Bool). goes_alike (h p v) (i p v) (taken_alike h i a) x) (both-alike f g h i b (or-right (asks_stream a) (asks_stream b) below) e d)

sides-alike : (channel one other earlier p : ℕ) (v : ℤ) → eqb p 1 ≡ false → known_side (known_at channel one earlier) p v ≡ known_side (known_at channel other earlier) p v
sides-alike channel one other earlier p v e = ap (λ o. side_of o v) (known-alike channel one other earlier p e)

-- nodes for a channel of one stream serve it in every stream
every-stream : (t : Shape Leaf) (c : CompiledTree) (channel one stream earlier : ℕ) → asks_stream t ≡ false → IsCompiledFor t channel one earlier c → IsCompiledFor t channel stream earlier c
every-stream t c channel one stream earlier none s = record {
  tree = serves-alike t c (known_at channel one earlier) (known_at channel stream earlier) (left-alike channel one stream earlier t none) s.tree;
  table = s.table;
  alike = λ k less. left-alike (channel + k) stream one (earlier + k) t none ∙ s.alike k less ∙ left-alike channel one stream earlier t none;
  ends = λ k e few.
      both-alike (known_side (known_at (channel + k) stream (earlier + k))) (known_side (known_at (channel + k + 1) stream (earlier + k + 1)))
      (known_side (known_at (channel + k) one (earlier + k))) (known_side (known_at (channel + k + 1) one (earlier + k + 1))) t none
      (λ p v own. sides-alike (channel + k) stream one (earlier + k) p v own) (λ p v own. sides-alike (channel + k + 1) stream one (earlier + k + 1) p v own)
      ∙ s.ends k e few;
  reaches = s.reaches;
}

-- nodes for a channel with all earlier ones serve the later ones of its run in every stream
pub serves-run : (t : Shape Leaf) (c : CompiledTree) (start channel stream : ℕ) → asks_stream t ≡ false → IsCompiledFor t start 0 start c → start ≤ channel → channel ≤ c.last_alike → IsCompiledFor t channel stream channel c
serves-run t c start channel stream none s from upto =
    let there : start + (channel - start) ≡ channel = omega (arith, from) in
    every-stream t c channel 0 stream channel none
    (subst (λ n. IsCompiledFor t n 0 n c) there (serves-later t c start 0 start (channel - start) s (omega (arith, from, upto))))
