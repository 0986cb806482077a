-- Sides that are halved until they are at most 8.
use Rattle.std.proofs.Common.{◌≡◌, ℕ, zero, suc, ◌+◌, ◌<◌, ◌≤◌, Bool, true, false, List, [], ◌∷◌, ◌++◌, refl, sym, ap, ◌∙◌, append_assoc, arith}
use Rattle.std.specs.Prelude.{nat_lt, ◌||◌, if◌then◌else◌}
use Rattle.std.specs.Int.{div_ceil}
use Rattle.std.proofs.lemmas.Bool.{le-ltb}
use borrow.Author.Tests.{ltb-true}
use Rattle.jxlm_transform.specs.ChannelSteps.{halvings_up_to, halvings, in_turn}
use Rattle.jxlm_transform.specs.declared.transform.SqueezeParams.{SqueezeParams}

smaller : (side : ℕ) → 8 < side → div_ceil side 2 < side
smaller side h = omega arith

small : (side : ℕ) → side ≤ 8 → nat_lt 8 side ≡ false
small side h = le-ltb 8 side h

once : (side x y : ℕ) (b : Bool) → nat_lt 8 side ≡ b → (8 < side → x ≡ y) → (if b then 1 + x else 0) ≡ (if b then 1 + y else 0)
once side x y true t same = ap (λ m. 1 + m) (same (ltb-true 8 side t))
once side x y false t same = refl

-- the bound on the count does not matter
fuel : (n k side : ℕ) → side ≤ n → side ≤ k → halvings_up_to n side ≡ halvings_up_to k side
fuel zero zero side h i = refl
fuel zero (suc k) side h i = rw (small side (omega arith)) refl
fuel (suc n) zero side h i = rw (small side (omega arith)) refl
fuel (suc n) (suc k) side h i =
    once side (halvings_up_to n (div_ceil side 2)) (halvings_up_to k (div_ceil side 2)) (nat_lt 8 side) refl
    (λ above. let lt = smaller side above in fuel n k (div_ceil side 2) (omega arith) (omega arith))

-- a side above 8 is halved once more often than its half
pub more : (side : ℕ) → nat_lt 8 side ≡ true → halvings side ≡ suc (halvings (div_ceil side 2))
more zero t = cc
more (suc k) t =
    let lt = smaller (suc k) (ltb-true 8 (suc k) t) in
    let one : (m : ℕ) → 1 + m ≡ suc m = λ (m : ℕ). omega arith in
    rw (t, one, fuel k (div_ceil (suc k) 2) (div_ceil (suc k) 2) (omega arith) (omega arith)) refl

-- one that is at most 8 is not halved
pub none : (side : ℕ) → nat_lt 8 side ≡ false → halvings side ≡ 0
none zero t = refl
none (suc k) t = rw t refl

-- the steps in turn, begun with one across and one down
turn : (w h : ℕ) (step : Bool → SqueezeParams) (b d : Bool) → nat_lt 8 w ≡ b → nat_lt 8 h ≡ d → b || d ≡ true →
    in_turn (halvings w) (halvings h) step ≡
    (if b then step true ∷ [] else []) ++ ((if d then step false ∷ [] else []) ++ in_turn (halvings (if b then div_ceil w 2 else w)) (halvings (if d then div_ceil h 2 else h)) step)
turn w h step true true p q some = rw (more w p, more h q) refl
turn w h step true false p q some = rw (more w p, none h q) refl
turn w h step false true p q some = rw (none w p, more h q) refl
turn w h step false false p q some = cc

-- what one round of a loop adds
pub round : (w h v u : ℕ) (step : Bool → SqueezeParams) (xs ys zs total : List SqueezeParams) → nat_lt 8 w || nat_lt 8 h ≡ true →
    v ≡ (if nat_lt 8 w then div_ceil w 2 else w) → u ≡ (if nat_lt 8 h then div_ceil h 2 else h) →
    ys ≡ xs ++ (if nat_lt 8 w then step true ∷ [] else []) → zs ≡ ys ++ (if nat_lt 8 h then step false ∷ [] else []) →
    xs ++ in_turn (halvings w) (halvings h) step ≡ total → zs ++ in_turn (halvings v) (halvings u) step ≡ total
round w h v u step xs ys zs total some across down first second so_far =
    let next = turn w h step (nat_lt 8 w) (nat_lt 8 h) refl refl some in
    rw (second, first, across, down) (simp append_assoc (sym (ap (λ (rest : List SqueezeParams). xs ++ rest) next) ∙ so_far))
