-- How many numbers were not taken.
use Rattle.std.proofs.Common.{◌≡◌, ℕ, zero, suc, ◌+◌, ◌<◌, ◌≤◌, Bool, true, false, List, [], ◌∷◌, ◌++◌, refl, sym, ap, ◌∙◌, ◌⊎◌, inl, inr, arith}
use Rattle.std.specs.Prelude.{if◌then◌else◌, ◌||◌, ◌==◌}
use Rattle.std.proofs.lemmas.Bool.{eqb-true, eqb-false}
use Rattle.std.proofs.lemmas.List.Folds.{list_any-append}
use Rattle.jxlm_bits.proofs.Cases.{less_or_same}
use Rattle.jxl_codestream.specs.Inner.Free.{free_below, is_taken}

pub free_step : (taken : List ℕ) (v : ℕ) (b : Bool) → is_taken taken v ≡ b → free_below taken (suc v) ≡ free_below taken v + (if b then 0 else 1)
unfolding free_below
free_step taken v b h = rw h refl

pub free_none : (taken : List ℕ) → free_below taken 0 ≡ 0
unfolding free_below
free_none taken = refl

pub free_all : (x : ℕ) → free_below [] x ≡ x
unfolding free_below
free_all zero = refl
free_all (suc x) = let h = free_all x in omega arith

-- counts grow
grows_once : (taken : List ℕ) (v : ℕ) (b : Bool) → is_taken taken v ≡ b → free_below taken v ≤ free_below taken (suc v)
grows_once taken v b h = let e = free_step taken v b h in omega (arith, e)

up_by_one : (taken : List ℕ) (x y : ℕ) → (x ≤ y → free_below taken x ≤ free_below taken y) → (x < suc y) ⊎ (x ≡ suc y) → free_below taken x ≤ free_below taken (suc y)
up_by_one taken x y so_far (inl lt) =
    let before = so_far (omega (arith, lt)) in
    let once = grows_once taken y (is_taken taken y) refl in
    omega (arith, before, once)
up_by_one taken x y so_far (inr same) = rw same (omega arith)

pub free_up_to : (taken : List ℕ) (x y : ℕ) → x ≤ y → free_below taken x ≤ free_below taken y
free_up_to taken x zero h = let e : x ≡ 0 = omega (arith, h) in rw e (omega arith)
free_up_to taken x (suc y) h = up_by_one taken x y (free_up_to taken x y) (less_or_same x (suc y) (omega (arith, h)))

-- and by one at least where a number was not taken
pub free_over : (taken : List ℕ) (v y : ℕ) → is_taken taken v ≡ false → v < y → free_below taken v < free_below taken y
free_over taken v y h lt =
    let e = free_step taken v false h in
    let m = free_up_to taken (suc v) y (omega (arith, lt)) in
    omega (arith, e, m)

one_more : (taken : List ℕ) (v w : ℕ) → is_taken (taken ++ v ∷ []) w ≡ (is_taken taken w || (v == w))
one_more taken v w = list_any-append (λ u. u == w) taken (v ∷ []) ∙ ap (λ (b : Bool). is_taken taken w || b) (or_false (v == w))
  where
    or_false : (b : Bool) → (b || false) ≡ b
    or_false true = refl
    or_false false = refl

other_same : (a b : Bool) → b ≡ false → (a || b) ≡ a
other_same true b h = refl
other_same false b h = h

not_equal : (v w : ℕ) (b : Bool) → (v == w) ≡ b → (v ≡ w → ⊥) → b ≡ false
not_equal v w true h n = absurd (n (eqb-true v w h))
not_equal v w false h n = refl

-- taking a number takes no other
pub other_taken : (taken : List ℕ) (v w : ℕ) → (v ≡ w → ⊥) → is_taken (taken ++ v ∷ []) w ≡ is_taken taken w
other_taken taken v w n = one_more taken v w ∙ other_same (is_taken taken w) (v == w) (not_equal v w (v == w) refl n)

itself : (v : ℕ) (b : Bool) → (v == v) ≡ b → b ≡ true
itself v true h = refl
itself v false h = absurd (eqb-false v v h refl)

pub equals_itself : (v : ℕ) → (v == v) ≡ true
equals_itself v = itself v (v == v) refl

or_true : (a b : Bool) → b ≡ true → (a || b) ≡ true
or_true true b h = refl
or_true false b h = h

pub now_taken : (taken : List ℕ) (v : ℕ) → is_taken (taken ++ v ∷ []) v ≡ true
now_taken taken v = one_more taken v v ∙ or_true (is_taken taken v) (v == v) (itself v (v == v) refl)

-- up to the number that is taken nothing changes
pub free_same : (taken : List ℕ) (v x : ℕ) → x ≤ v → free_below (taken ++ v ∷ []) x ≡ free_below taken x
free_same taken v zero h = free_none (taken ++ v ∷ []) ∙ sym (free_none taken)
free_same taken v (suc x) h =
    let n : v ≡ x → ⊥ = λ e. omega (arith, e, h) in
    let before = free_same taken v x (omega (arith, h)) in
    let a = free_step (taken ++ v ∷ []) x (is_taken taken x) (other_taken taken v x n) in
    let b = free_step taken x (is_taken taken x) refl in
    omega (arith, before, a, b)

-- after it there is one less
after_by_one : (taken : List ℕ) (v y : ℕ) → is_taken taken v ≡ false → (v < y → free_below (taken ++ v ∷ []) y + 1 ≡ free_below taken y) → (v < y) ⊎ (v ≡ y) →
    free_below (taken ++ v ∷ []) (suc y) + 1 ≡ free_below taken (suc y)
after_by_one taken v y h so_far (inl lt) =
    let n : v ≡ y → ⊥ = λ e. omega (arith, e, lt) in
    let before = so_far lt in
    let a = free_step (taken ++ v ∷ []) y (is_taken taken y) (other_taken taken v y n) in
    let b = free_step taken y (is_taken taken y) refl in
    omega (arith, before, a, b)
after_by_one taken v y h so_far (inr same) =
    let before = free_same taken v v (omega arith) in
    let a = free_step (taken ++ v ∷ []) v true (now_taken taken v) in
    let b = free_step taken v false h in
    rw (← same) (omega (arith, before, a, b))

pub free_after : (taken : List ℕ) (v y : ℕ) → is_taken taken v ≡ false → v < y → free_below (taken ++ v ∷ []) y + 1 ≡ free_below taken y
free_after taken v zero h lt = absurd (omega (arith, lt))
free_after taken v (suc y) h lt = after_by_one taken v y h (free_after taken v y h) (less_or_same v y lt)

-- a number with as many before it as a digit says, and more than that many up to it, was not taken
pub is_found : (taken : List ℕ) (v rest digit : ℕ) (b : Bool) → is_taken taken v ≡ b → free_below taken v + rest ≡ digit → digit < free_below taken (suc v) →
    (b ≡ false) × (free_below taken v ≡ digit)
is_found taken v rest digit true h e lt = let s = free_step taken v true h in absurd (omega (arith, s, e, lt))
is_found taken v rest digit false h e lt = let s = free_step taken v false h in (refl, omega (arith, s, e, lt))

-- where none is left below n, each number below n was taken
pub none_left : (taken : List ℕ) (n v : ℕ) (b : Bool) → is_taken taken v ≡ b → free_below taken n ≡ 0 → v < n → b ≡ true
none_left taken n v true h e lt = refl
none_left taken n v false h e lt = let m = free_over taken v n h lt in absurd (omega (arith, m, e))
