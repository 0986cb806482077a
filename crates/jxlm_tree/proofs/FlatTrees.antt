-- What a walk depends on.
use Rattle.std.proofs.Common.{◌⊎◌, ◌≡◌, ℕ, ◌+◌, ◌*◌, ◌<◌, ◌≤◌, ℤ, pos, Bool, true, false, ◌==◌, nat_lt, int_lt, if◌then◌else◌, refl, sym, ap, subst, inl, inr, arith}
use Rattle.std.specs.Int.{w32, int_wrap}
use Rattle.std.specs.Prelude.{◌-◌, ◌/◌, length, None, slice_get}
use Rattle.std.proofs.lemmas.Bool.{cases_lt}
use Rattle.std.proofs.lemmas.Bool.Decides.{nat_tests}
use Rattle.std.proofs.lemmas.Option.{slice_get_past}
use Rattle.jxlm_predictor.specs.Properties.{Surroundings, place_property, property}
use Rattle.jxlm_tree.specs.FlatTree.{FlatTree, property_of, leaf_reached}
use Rattle.jxlm_ma_tree.specs.Tree.{AllLeaves, Shape, StandsAtLeaf, leaf, decision, walk}

-- what holds of each leaf holds of the one that is reached
pub reached_leaf : {L : Type 0} (P : L → Type 0) (t : Shape L) (f : ℕ → ℤ) → AllLeaves P t → P (walk t f)
reached_leaf P (leaf l) f h = h
reached_leaf {L = L} P (decision k value left right) f h = either (int_lt value (f k)) (walk left f) (walk right f) (reached_leaf P left f h.0) (reached_leaf P right f h.1) where
  either : (b : Bool) (x y : L) → P x → P y → P (if b then x else y)
  either true x y h k = h
  either false x y h k = k

pub standing_leaf : {L : Type 0} (P : L → Type 0) (t : Shape L) (x : L) → AllLeaves P t → StandsAtLeaf t x → P x
standing_leaf P (leaf l) x h is = subst P (sym is) h
standing_leaf P (decision k value left right) x h (inl is) = standing_leaf P left x h.0 is
standing_leaf P (decision k value left right) x h (inr is) = standing_leaf P right x h.1 is

-- what follows at each leaf
pub each_leaf : {L : Type 0} {P Q : L → Type 0} → ((l : L) → P l → Q l) → (t : Shape L) → AllLeaves P t → AllLeaves Q t
each_leaf f (leaf l) h = f l h
each_leaf f (decision k value left right) h = (each_leaf f left h.0, each_leaf f right h.1)

-- ---- the properties of the definitions

-- an earlier channel that is not there has no property but 0
beyond : (s : Surroundings) (k n : ℕ) → length s.earlier ≤ n → 16 + 4 * n ≤ k → place_property s k ≡ pos 0
unfolding int_wrap
beyond s k n h below =
    let not_first : nat_lt k 2 ≡ false = grind (arith, nat_tests) in
    let not_own : nat_lt k 16 ≡ false = grind (arith, nat_tests) in
    let none : slice_get s.earlier ((k - 16) / 4) ≡ None = slice_get_past s.earlier ((k - 16) / 4) (omega arith) in
    rw (not_first, not_own, none) refl

seen_is : (s : Surroundings) (k n : ℕ) → length s.earlier ≤ n → (if nat_lt k (16 + 4 * n) then place_property s k else pos 0) ≡ place_property s k
seen_is s k n h = either (cases_lt k (16 + 4 * n)) where
  either : (k < 16 + 4 * n) ⊎ (16 + 4 * n ≤ k) → (if nat_lt k (16 + 4 * n) then place_property s k else pos 0) ≡ place_property s k
  either (inl inside) = let is : nat_lt k (16 + 4 * n) ≡ true = grind (arith, nat_tests) in rw is refl
  either (inr past) = let is : nat_lt k (16 + 4 * n) ≡ false = grind (arith, nat_tests) in rw is (sym (beyond s k n h past))

pub asked_is : (t : FlatTree) (s : Surroundings) (k : ℕ) → length s.earlier ≤ t.prev_channels → property_of t (place_property s) k ≡ property t.channel t.stream_idx s k
asked_is t s k h = ap (λ (v : ℤ). if k == 0 then int_wrap w32 (pos t.channel) else if k == 1 then int_wrap w32 (pos t.stream_idx) else v) (seen_is s k t.prev_channels h)

pub walk_by : {L : Type 0} (t : Shape L) (f g : ℕ → ℤ) → ((k : ℕ) → f k ≡ g k) → walk t f ≡ walk t g
walk_by (leaf l) f g same = refl
walk_by (decision k value left right) f g same = rw (same k, walk_by left f g same, walk_by right f g same) refl

-- where all earlier channels may be asked for, the walk is by the properties of the definitions
pub walks_by_properties : (t : FlatTree) (s : Surroundings) → length s.earlier ≤ t.prev_channels → leaf_reached t (place_property s) ≡ walk t.tree (property t.channel t.stream_idx s)
walks_by_properties t s h = walk_by t.tree (property_of t (place_property s)) (property t.channel t.stream_idx s) (λ k. asked_is t s k h)
