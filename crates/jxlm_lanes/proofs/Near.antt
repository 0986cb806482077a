-- Numbers of 32 bits that are brought into 16.
use Rattle.std.proofs.Common.{◌≡◌, ◌∙◌, refl, ap, sym, subst, ℕ, zero, suc, ◌<◌, ℤ, pos, negsuc, Bool, true, false, cond, List, [], ◌∷◌, map, length, unsigned_abs, int_lt, FitsSigned, to_z, of_z, w16, w32, arith}
use Rattle.std.proofs.lemmas.Int.{ints, to_z-of_z}
use Rattle.std.proofs.lemmas.List.{length-map}
use Rattle.std.proofs.lemmas.Simd.{map-map}
use lib.ListN.{replicate}
use lib.Lanes.{zip2, sel_l, top}
use mir.Syntax.{mask, lt, signed}
use borrow.Table.Row.{s_int}
use borrow.Rule.Simd.Lanes.{act2}

abbrev pub below : ℕ → ℕ → ℕ
below = act2 (mask (lt signed)) (s_int w32) (s_int w32) (s_int w32)

top_of : (t : Bool) → top 31 (cond t 4294967295 0) ≡ t
top_of true = refl
top_of false = refl

-- a vector where it is not below k, else k; and where it is below k, else k
at_least : (k n : ℕ) (xs : List ℕ) → length xs ≡ n → sel_l (map (top 31) (zip2 below xs (replicate n k))) (replicate n k) xs ≡ map (λ x. cond (top 31 (below x k)) k x) xs
at_least k zero [] e = refl
at_least k (suc n) [] e = absurd (omega arith)
at_least k zero (x ∷ xs) e = absurd (omega arith)
at_least k (suc n) (x ∷ xs) e = ap (λ l. cond (top 31 (below x k)) k x ∷ l) (at_least k n xs (omega arith))

at_most : (k n : ℕ) (xs : List ℕ) → length xs ≡ n → sel_l (map (top 31) (zip2 below xs (replicate n k))) xs (replicate n k) ≡ map (λ x. cond (top 31 (below x k)) x k) xs
at_most k zero [] e = refl
at_most k (suc n) [] e = absurd (omega arith)
at_most k zero (x ∷ xs) e = absurd (omega arith)
at_most k (suc n) (x ∷ xs) e = ap (λ l. cond (top 31 (below x k)) x k ∷ l) (at_most k n xs (omega arith))

-- a number of 32 bits brought between the least and the greatest of 16, as bits
abbrev raised : ℕ → ℕ
raised x = cond (top 31 (below x 4294934528)) 4294934528 x

abbrev pub brought : ℤ → ℕ
brought z = cond (top 31 (below (raised (of_z w32 z)) 32767)) (raised (of_z w32 z)) 32767

abbrev raised_list : List ℕ → List ℕ
raised_list xs = sel_l (map (top 31) (zip2 below xs (replicate 8 4294934528))) (replicate 8 4294934528) xs

abbrev pub brought_list : List ℕ → List ℕ
brought_list xs = sel_l (map (top 31) (zip2 below (raised_list xs) (replicate 8 32767))) (raised_list xs) (replicate 8 32767)

pub brought_is : (v : List ℤ) → length v ≡ 8 → brought_list (map (of_z w32) v) ≡ map brought v
brought_is v e =
    let xs : List ℕ = map (of_z w32) v in
    let lx : length xs ≡ 8 = length-map v (of_z w32) ∙ e in
    let one : raised_list xs ≡ map raised xs = at_least 4294934528 8 xs lx in
    ap (λ l. sel_l (map (top 31) (zip2 below l (replicate 8 32767))) l (replicate 8 32767)) one
    ∙ at_most 32767 8 (map raised xs) (length-map xs raised ∙ lx)
    ∙ ap (map (λ x. cond (top 31 (below x 32767)) x 32767)) (map-map raised (of_z w32) v)
    ∙ map-map (λ x. cond (top 31 (below x 32767)) x 32767) (λ z. raised (of_z w32 z)) v

-- it fits 16 bits, and is the number itself where it is neither the least nor the greatest
pub record IsBrought (z n : ℤ) : Type 0 where
  pub fits : FitsSigned w16 n
  pub same : unsigned_abs n < 32767 → z ≡ n
  pub kept : FitsSigned w16 z → n ≡ z

by_high : (z : ℤ) → FitsSigned w32 z → (t : Bool) → int_lt z (pos 32767) ≡ t → int_lt z (negsuc 32767) ≡ false → IsBrought z (to_z w32 (cond t (of_z w32 z) 32767))
by_high z f true e low =
    subst (IsBrought z) (sym (to_z-of_z w32 z f)) (record { fits = omega (arith, ints, e, low); same = λ h. refl; kept = λ h. refl })
by_high z f false e low = record { fits = omega (arith, ints); same = λ h. absurd (omega (arith, ints, h)); kept = λ h. omega (arith, ints, e, h) }

by_low : (z : ℤ) → FitsSigned w32 z → (t : Bool) → int_lt z (negsuc 32767) ≡ t →
    let x : ℕ = cond t 4294934528 (of_z w32 z) in IsBrought z (to_z w32 (cond (int_lt (to_z w32 x) (pos 32767)) x 32767))
by_low z f true e = record { fits = omega (arith, ints); same = λ h. absurd (omega (arith, ints, h)); kept = λ h. absurd (omega (arith, ints, e, h)) }
by_low z f false e =
    subst (λ y. IsBrought z (to_z w32 (cond (int_lt y (pos 32767)) (of_z w32 z) 32767))) (sym (to_z-of_z w32 z f)) (by_high z f (int_lt z (pos 32767)) refl e)

pub is_brought : (z : ℤ) → FitsSigned w32 z → IsBrought z (to_z w32 (brought z))
is_brought z f =
    let low : top 31 (below (of_z w32 z) 4294934528) ≡ int_lt z (negsuc 32767) =
    top_of (int_lt (to_z w32 (of_z w32 z)) (negsuc 32767)) ∙ ap (λ y. int_lt y (negsuc 32767)) (to_z-of_z w32 z f) in
    let r : ℕ = cond (int_lt z (negsuc 32767)) 4294934528 (of_z w32 z) in
    let is : brought z ≡ cond (int_lt (to_z w32 r) (pos 32767)) r 32767 =
    ap (λ t. let x : ℕ = cond t 4294934528 (of_z w32 z) in cond (top 31 (below x 32767)) x 32767) low
    ∙ ap (λ t. cond t r 32767) (top_of (int_lt (to_z w32 r) (pos 32767))) in
    subst (λ n. IsBrought z (to_z w32 n)) (sym is) (by_low z f (int_lt z (negsuc 32767)) refl)
