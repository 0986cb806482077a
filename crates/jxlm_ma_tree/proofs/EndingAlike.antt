-- For how many channels all known decisions are taken alike.
use Rattle.std.proofs.Common.{◌≡◌, ◌∙◌, ℕ, ℤ, ◌+◌, ◌<◌, ◌≤◌, ◌^◌, min, Bool, true, false, Option, Some, None, refl, sym, ap, subst, arith, inl, inr}
use Rattle.std.specs.Prelude.{int_lt, not, ◌&&◌}
use Rattle.std.proofs.lemmas.Bool.Decides.{leb_tells}
use Rattle.jxlm_ma_tree.specs.TakenAlike.{goes_alike, taken_alike}
use Rattle.jxlm_ma_tree.specs.Tree.{Shape, decision}
use Rattle.jxlm_ma_tree.specs.Pruned.{EndsAt, known, known_side, later, side_of}
use Rattle.jxlm_ma_tree.specs.declared.marks.Known.{Known}
use Rattle.jxlm_ma_tree.specs.declared.leaf.Leaf.{Leaf}

and-false : (a : Bool) → (a && false) ≡ false
and-false true = refl
and-false false = refl

-- where a side ends, the decision ends
go-left : (y : Option Bool) (r : Bool) → goes_alike (Some true) y false r ≡ false
go-left None r = refl
go-left (Some y) r = and-false y

go-right : (y : Option Bool) (l : Bool) → goes_alike (Some false) y l false ≡ false
go-right None l = refl
go-right (Some y) l = and-false (not y)

abbrev Steady : Known → ℕ → ℤ → ℕ → Type 0
Steady pins p v here = (k : ℕ) → k ≤ here → known_side (later pins k) p v ≡ known_side pins p v

abbrev EndsHere : Known → ℕ → ℤ → ℕ → Type 0
EndsHere pins p v here =
    here + 1 < 2 ^ 32 → (left right : Bool) → goes_alike (known_side (later pins here) p v) (known_side (later pins (here + 1)) p v) left right ≡ false

ends-here : (pins : Known) (p : ℕ) (v : ℤ) (a b : Shape Leaf) (here n : ℕ) → EndsHere pins p v here → n ≡ here → EndsAt pins (decision p v a b) n
ends-here pins p v a b here n ends e = λ few.
    subst (λ (m : ℕ). taken_alike (known_side (later pins m)) (known_side (later pins (m + 1))) (decision p v a b) ≡ false) (sym e) (ends (omega (arith, few, e)) _ _)

-- a decision that is open, or goes to one side, with what ends on a side
abbrev Sided : Known → ℕ → Shape Leaf → Bool
Sided pins n t = taken_alike (known_side (later pins n)) (known_side (later pins (n + 1))) t

ends-side : (pins : Known) (p : ℕ) (v : ℤ) (a b : Shape Leaf) (here n : ℕ) (x : Option Bool) → Steady pins p v here → known_side pins p v ≡ x → n ≤ here →
    (n + 1 < 2 ^ 32 → (y : Option Bool) → goes_alike x y (Sided pins n a) (Sided pins n b) ≡ false) → EndsAt pins (decision p v a b) n
ends-side pins p v a b here n x steady is less below = λ few.
    ap (λ (o : Option Bool). goes_alike o (known_side (later pins (n + 1)) p v) (Sided pins n a) (Sided pins n b)) (steady n less ∙ is) ∙ below few (known_side (later pins (n + 1)) p v)

ends-open-left : (pins : Known) (p : ℕ) (v : ℤ) (a b : Shape Leaf) (here n : ℕ) → Steady pins p v here → known pins p ≡ None → n ≤ here → EndsAt pins a n →
    EndsAt pins (decision p v a b) n
ends-open-left pins p v a b here n steady none less ends =
    ends-side pins p v a b here n None steady (ap (λ o. side_of o v) none) less (λ few y. ap (λ (l : Bool). l && Sided pins n b) (ends few))

ends-open-right : (pins : Known) (p : ℕ) (v : ℤ) (a b : Shape Leaf) (here n : ℕ) → Steady pins p v here → known pins p ≡ None → n ≤ here → EndsAt pins b n →
    EndsAt pins (decision p v a b) n
ends-open-right pins p v a b here n steady none less ends =
    ends-side pins p v a b here n None steady (ap (λ o. side_of o v) none) less
    (λ few y. ap (λ (r : Bool). Sided pins n a && r) (ends few) ∙ and-false (Sided pins n a))

-- the decision is open, and each side ends
pub ends-open : (pins : Known) (p : ℕ) (v : ℤ) (a b : Shape Leaf) (here l r : ℕ) → Steady pins p v here → EndsHere pins p v here → known pins p ≡ None →
    EndsAt pins a l → EndsAt pins b r → EndsAt pins (decision p v a b) (min here (min l r))
ends-open pins p v a b here l r steady ends none left right = elim (leb_tells here (min l r)) [
  | inl h ↦ ends-here pins p v a b here (min here (min l r)) ends (let i = h.1 in omega arith)
  | inr h ↦ elim (leb_tells l r) [
    | inl k ↦
        let e : min here (min l r) ≡ l = (let i = h.1 in let j = k.1 in omega arith) in
        ends-open-left pins p v a b here (min here (min l r)) steady none (omega arith) (subst (EndsAt pins a) (sym e) left)
    | inr k ↦
        let e : min here (min l r) ≡ r = (let i = h.1 in let j = k.1 in omega arith) in
        ends-open-right pins p v a b here (min here (min l r)) steady none (omega arith) (subst (EndsAt pins b) (sym e) right)
  ]
]

-- the decision is taken to the left, or to the right, and that side ends
pub ends-left : (pins : Known) (p : ℕ) (v x : ℤ) (a b : Shape Leaf) (here l : ℕ) → Steady pins p v here → EndsHere pins p v here → known pins p ≡ Some x → int_lt v x ≡ true →
    EndsAt pins a l → EndsAt pins (decision p v a b) (min here l)
ends-left pins p v x a b here l steady ends is goes left = elim (leb_tells here l) [
  | inl h ↦ ends-here pins p v a b here (min here l) ends (let i = h.1 in omega arith)
  | inr h ↦
      let e : min here l ≡ l = (let i = h.1 in omega arith) in
      ends-side pins p v a b here (min here l) (Some true) steady (ap (λ o. side_of o v) is ∙ ap (λ (g : Bool). Some g) goes) (omega arith)
      (λ few y. ap (λ (z : Bool). goes_alike (Some true) y z (Sided pins (min here l) b)) (subst (EndsAt pins a) (sym e) left few) ∙ go-left y (Sided pins (min here l) b))
]

pub ends-right : (pins : Known) (p : ℕ) (v x : ℤ) (a b : Shape Leaf) (here r : ℕ) → Steady pins p v here → EndsHere pins p v here → known pins p ≡ Some x → int_lt v x ≡ false →
    EndsAt pins b r → EndsAt pins (decision p v a b) (min here r)
ends-right pins p v x a b here r steady ends is goes right = elim (leb_tells here r) [
  | inl h ↦ ends-here pins p v a b here (min here r) ends (let i = h.1 in omega arith)
  | inr h ↦
      let e : min here r ≡ r = (let i = h.1 in omega arith) in
      ends-side pins p v a b here (min here r) (Some false) steady (ap (λ o. side_of o v) is ∙ ap (λ (g : Bool). Some g) goes) (omega arith)
      (λ few y. ap (λ (z : Bool). goes_alike (Some false) y (Sided pins (min here r) a) z) (subst (EndsAt pins b) (sym e) right few) ∙ go-right y (Sided pins (min here r) a))
]
