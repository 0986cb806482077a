-- The width of tokens.
use Rattle.std.proofs.Common.{◌≡◌, ◌⊎◌, inl, inr, subst, ℕ, zero, suc, ◌+◌, ◌-◌, ◌^◌, ◌<◌, ◌≤◌, List, length, take, get_or, sym, ap, ◌∙◌, arith}
use Rattle.std.specs.List.{All}
use Rattle.std.specs.Int.{w32, leading_zeros}
use Rattle.std.proofs.lemmas.Grind.{take_at_read}
use Rattle.std.proofs.lemmas.List.Elements.{All-push}
use Rattle.std.proofs.lemmas.Bool.{cases_lt}
use Rattle.std.proofs.lemmas.Nat.{leading_length, pow_pos}
use Rattle.std.proofs.lemmas.List.{get_or-take, length-take-le}
use Rattle.std.proofs.Math.Nat.{pow-suc}
use Rattle.std.proofs.Math.Seq.{take-length}

pub step_all : (ts : List ℕ) (i g h : ℕ) → i < length ts → All (λ t. t ≤ g) (take i ts) → g ≤ h → get_or ts i 0 ≤ h → All (λ t. t ≤ h) (take (i + 1) ts)
step_all ts i g h lt all more own =
    rw ((take_at_read ts i 0 lt).1) (All-push (λ t. t ≤ h) (take i ts) (get_or ts i 0) (λ k d b. let a = all k d b in omega (arith, a, more)) own)

pub all_fit : (ts : List ℕ) (i g : ℕ) → i ≡ length ts → All (λ t. t ≤ g) (take i ts) → g < 2 ^ 32 → All (λ t. t < 2 ^ (32 - leading_zeros w32 g)) ts
all_fit ts i g e all small =
    let m = leading_length 32 g small in
    let n : 32 - leading_zeros w32 g ≡ m.0 = (let k = m.1 in omega (arith, k)) in
    let whole : All (λ t. t ≤ g) ts = subst (λ xs. All (λ t. t ≤ g) xs) (ap (λ j. take j ts) e ∙ take-length ts) all in
    λ k d b. rw n (let a = whole k d b in let c = m.2 in omega (arith, a, c))

-- the greatest of some tokens fits where they all do
abbrev pub FitsWith : List ℕ → ℕ → Type 0
FitsWith ts g = (n : ℕ) → All (λ t. t < 2 ^ n) ts → g < 2 ^ n

pub none_fits : (ts : List ℕ) → FitsWith (take 0 ts) 0
none_fits ts n all = pow_pos n

-- what holds of the first i + 1 holds of the first i, and of element i
module _ (P : ℕ → Type 0) (ts : List ℕ) (i : ℕ) (lt : i < length ts) (all : All P (take (i + 1) ts)) where
  long : length (take (i + 1) ts) ≡ i + 1
  long = length-take-le (i + 1) ts (omega (arith, lt))

  first_of : All P (take i ts)
  first_of k d b =
      let short : length (take i ts) ≡ i = length-take-le i ts (omega (arith, lt)) in
      let l = long in
      let inside : k < i = omega (arith, b, short) in
      subst P (get_or-take (i + 1) ts k d (omega (arith, inside)) ∙ sym (get_or-take i ts k d inside)) (all k d (omega (arith, l, inside)))

  last_of : P (get_or ts i 0)
  last_of = let l = long in subst P (get_or-take (i + 1) ts i 0 (omega arith)) (all i 0 (omega (arith, l)))

pub step_fits : (ts : List ℕ) (i g h : ℕ) → i < length ts → FitsWith (take i ts) g → (h ≡ g) ⊎ (h ≡ get_or ts i 0) → FitsWith (take (i + 1) ts) h
step_fits ts i g h lt was (inl e) n all = let small = was n (first_of (λ t. t < 2 ^ n) ts i lt all) in omega (arith, e, small)
step_fits ts i g h lt was (inr e) n all = let small = last_of (λ t. t < 2 ^ n) ts i lt all in omega (arith, e, small)

-- a digit more is twice as much
grows : (n k : ℕ) → 2 ^ suc n ≤ 2 ^ (suc n + k)
grows n zero = let e : suc n + 0 ≡ suc n = omega arith in rw e (omega arith)
grows n (suc k) =
    let e : suc n + suc k ≡ suc (suc n + k) = omega arith in
    let p = pow-suc 2 (suc n + k) in
    let q = grows n k in
    rw e (omega (arith, p, q))

pub is_least : (ts : List ℕ) (i g : ℕ) → i ≡ length ts → FitsWith (take i ts) g → g < 2 ^ 32 → (n : ℕ) → All (λ t. t < 2 ^ n) ts → 32 - leading_zeros w32 g ≤ n
is_least ts i g e fits small n all =
    let m = leading_length 32 g small in
    let whole : take i ts ≡ ts = ap (λ j. take j ts) e ∙ take-length ts in
    let less : g < 2 ^ n = fits n (subst (λ xs. All (λ t. t < 2 ^ n) xs) (sym whole) all) in
    let sum = m.1 in
    elim (cases_lt n m.0) [
      | inr ge ↦ omega (arith, sum, ge)
      | inl lt ↦
          let apart : suc n + (m.0 - suc n) ≡ m.0 = omega (arith, lt) in
          let high : 2 ^ suc n ≤ 2 ^ m.0 = subst (λ k. 2 ^ suc n ≤ 2 ^ k) apart (grows n (m.0 - suc n)) in
          let next = pow-suc 2 n in
          let top = m.3 in
          absurd (omega (arith, high, next, top, less))
    ]
