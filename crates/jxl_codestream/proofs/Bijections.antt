-- Orders by their Lehmer codes: each number stands at one place, and the code tells all of them.
use Rattle.std.proofs.Common.{◌≡◌, ℕ, zero, suc, ◌+◌, ◌<◌, ◌≤◌, Bool, true, false, List, [], ◌∷◌, ◌++◌, length, take, get_or, refl, sym, ◌∙◌, ◌⊎◌, inl, inr, arith}
use Rattle.std.specs.Prelude.{slice_index, slice_index_or, ◌==◌}
use Rattle.std.proofs.Math.Seq.{take-suc, take-length, take-append_seam}
use Rattle.std.proofs.lemmas.List.{length-take-le, length-append, take-append-le, get_or-take, get_or_push, get_or_past}
use Rattle.std.proofs.Math.ListN.{get_or-append}
use Rattle.std.proofs.lemmas.List.Folds.{list_any_at}
use Rattle.std.proofs.lemmas.Bool.{eqb-true, eqb-false, cases_lt}
use Rattle.jxlm_bits.proofs.Cases.{trichotomy, less_or_same}
use Rattle.jxl_codestream.proofs.Free.{free_all, free_over, free_after, free_up_to, none_left, other_taken, equals_itself}
use Rattle.jxl_codestream.proofs.Lefts.{leads_to, stands_at}
use Rattle.jxl_codestream.specs.Orders.{IsOrder, IsBijection}
use Rattle.jxl_codestream.specs.Inner.Free.{free_below, is_taken, IsNext}
use Rattle.jxl_codestream.specs.Inner.Counts.{AreDigits, IsBegun}

-- this number of are left after the first i
pub left_after : (code : List ℕ) (n : ℕ) (order : List ℕ) → IsBegun code n order → (i : ℕ) → i ≤ length order → free_below (take i order) n + i ≡ n
left_after code n order o zero h = let e = free_all n in omega (arith, e)
left_after code n order o (suc i) h =
    let before = left_after code n order o i (omega (arith, h)) in
    let within : i < length order = omega (arith, h) in
    let next = o.each i within in
    let taken = take-suc order i 0 within in
    let less = free_after (take i order) (slice_index order i) n next.free next.below in
    rw taken (omega (arith, before, less))

-- each number of an order is the one that its digit leads to
pub next_at : (code : List ℕ) (n : ℕ) (order : List ℕ) → IsOrder code n order → (i : ℕ) → i < n → IsNext n (take i order) (slice_index_or code i 0) (slice_index order i)
next_at code n order o i h = leads_to n (take i order) (slice_index_or code i 0) (slice_index order i) (o.each i h)

begun : (code : List ℕ) (n : ℕ) (order : List ℕ) → IsOrder code n order → IsBegun code n order
begun code n order o = record { each = λ i h. next_at code n order o i (omega (arith, h, o.length)) }

-- a number that is among the first this number of stands at one of these places
abbrev StandsBelow : List ℕ → ℕ → ℕ → Type 0
StandsBelow order v i = (j : ℕ) × (j < i) × (slice_index order j ≡ v)

at_last : (order : List ℕ) (v i : ℕ) → i < length order → (is_taken (take i order) v ≡ true → StandsBelow order v i) → is_taken (take (suc i) order) v ≡ true →
    (b : Bool) → (slice_index order i == v) ≡ b → StandsBelow order v (suc i)
at_last order v i within so_far t true e = (i, omega arith, eqb-true (slice_index order i) v e)
at_last order v i within so_far t false e =
    let differ : slice_index order i ≡ v → ⊥ = λ s. eqb-false (slice_index order i) v e s in
    let longer : is_taken (take i order ++ slice_index order i ∷ []) v ≡ true = rw (take-suc order i 0 within) at t in
    let shorter : is_taken (take i order) v ≡ true = sym (other_taken (take i order) (slice_index order i) v differ) ∙ longer in
    let before = so_far shorter in
    (before.0, omega (arith, before.1), before.2)

no_true : ◌≡◌ {A = Bool} false true → ⊥
no_true e = cc

place_of : (order : List ℕ) (v i : ℕ) → i ≤ length order → is_taken (take i order) v ≡ true → StandsBelow order v i
place_of order v zero h t = absurd (no_true t)
place_of order v (suc i) h t = at_last order v i (omega (arith, h)) (place_of order v i (omega (arith, h))) t (slice_index order i == v) refl

-- a number that stands before place j is taken there
pub stands_before : (order : List ℕ) (i j : ℕ) → i < j → j ≤ length order → is_taken (take j order) (slice_index order i) ≡ true
stands_before order i j lt h =
    let same : get_or (take j order) i 0 ≡ get_or order i 0 = get_or-take j order i 0 lt in
    let long : length (take j order) ≡ j = length-take-le j order h in
    list_any_at (λ w. w == slice_index order i) (take j order) i 0 (omega (arith, lt, long)) (rw same (equals_itself (slice_index order i)))

-- a number stands at one place alone
first_only : (code : List ℕ) (n : ℕ) (order : List ℕ) → IsOrder code n order → (i j : ℕ) → i < j → j < n → slice_index order i ≡ slice_index order j → ⊥
first_only code n order o i j lt h same =
    let taken = stands_before order i j lt (omega (arith, h, o.length)) in
    let free = (next_at code n order o j h).free in
    no_true (sym free ∙ (rw same at taken))

pub is_bijection : (code : List ℕ) (n : ℕ) (order : List ℕ) → IsOrder code n order → IsBijection n order
is_bijection code n order o = record {
  somewhere = λ v h.
      let left = left_after code n order (begun code n order o) n (omega (arith, o.length)) in
      let taken = none_left (take n order) n v (is_taken (take n order) v) refl (omega (arith, left)) h in
      place_of order v n (omega (arith, o.length)) taken;
  once = λ i j a b e. same_place i j a b e (trichotomy i j);
}
  where
    same_place : (i j : ℕ) → i < n → j < n → slice_index order i ≡ slice_index order j → (i < j) ⊎ ((i ≡ j) ⊎ (j < i)) → i ≡ j
    same_place i j a b e (inl lt) = absurd (first_only code n order o i j lt b e)
    same_place i j a b e (inr (inl same)) = same
    same_place i j a b e (inr (inr lt)) = absurd (first_only code n order o j i lt a (sym e))

-- what a digit leads to is one number
one_next : (n : ℕ) (taken : List ℕ) (digit v w : ℕ) → IsNext n taken digit v → IsNext n taken digit w → v ≡ w
one_next n taken digit v w a b = equal v w a b (trichotomy v w)
  where
    equal : (v w : ℕ) → IsNext n taken digit v → IsNext n taken digit w → (v < w) ⊎ ((v ≡ w) ⊎ (w < v)) → v ≡ w
    equal v w a b (inl lt) = let m = free_over taken v w a.free lt in absurd (omega (arith, m, a.passes, b.passes))
    equal v w a b (inr (inl same)) = same
    equal v w a b (inr (inr lt)) = let m = free_over taken w v b.free lt in absurd (omega (arith, m, a.passes, b.passes))

same_first : (code : List ℕ) (n : ℕ) (x y : List ℕ) → IsOrder code n x → IsOrder code n y → (i : ℕ) → i ≤ n → take i x ≡ take i y
same_first code n x y a b zero h = refl
same_first code n x y a b (suc i) h =
    let before = same_first code n x y a b i (omega (arith, h)) in
    let lt : i < n = omega (arith, h) in
    let tx = take-suc x i 0 (omega (arith, lt, a.length)) in
    let ty = take-suc y i 0 (omega (arith, lt, b.length)) in
    let same = one_next n (take i x) (slice_index_or code i 0) (slice_index x i) (slice_index y i) (next_at code n x a i lt) (rw before (next_at code n y b i lt)) in
    tx ∙ rw (before, same) (sym ty)

-- a code tells one order
pub one_order : (code : List ℕ) (n : ℕ) (x y : List ℕ) → IsOrder code n x → IsOrder code n y → x ≡ y
one_order code n x y a b =
    let whole = same_first code n x y a b n (omega arith) in
    let tx = take-length x in
    let ty = take-length y in
    let ex : take n x ≡ x = rw a.length at tx in
    let ey : take n y ≡ y = rw b.length at ty in
    sym ex ∙ whole ∙ ey

-- One number more of an order.
module _ (code : List ℕ) (n : ℕ) (order : List ℕ) (begun : IsBegun code n order) where
  left : free_below order n + length order ≡ n
  left = let t = take-length order in let h = left_after code n order begun (length order) (omega arith) in rw t at h

  -- a digit leads to a number
  pub digit_leads : (m digit : ℕ) → n ≤ m → digit + length order < n → digit < free_below order m
  digit_leads m digit le h = let l = left in let more = free_up_to order n m le in omega (arith, l, more, h)

  -- which is below n
  pub leads_below : (m digit v : ℕ) → digit + length order < n → IsNext m order digit v → IsNext n order digit v
  leads_below m digit v h next = record { below = within (cases_lt v n); free = next.free; passes = next.passes }
    where
      within : (v < n) ⊎ (n ≤ v) → v < n
      within (inl lt) = lt
      within (inr le) = let l = left in let more = free_up_to order n v le in absurd (omega (arith, l, more, h, next.passes))

  module _ (v : ℕ) (next : IsNext n order (slice_index_or code (length order) 0) v) where
    at_place : (i : ℕ) → (i < length order) ⊎ (i ≡ length order) → IsNext n (take i (order ++ v ∷ [])) (slice_index_or code i 0) (slice_index (order ++ v ∷ []) i)
    at_place i (inl lt) = rw (take-append-le i order (v ∷ []) (omega (arith, lt)), get_or-append order (v ∷ []) 0 i lt) (begun.each i lt)
    at_place i (inr same) = rw (same, take-append_seam order (v ∷ []), get_or_push order v 0 (length order) refl) next

    pub begun_more : IsBegun code n (order ++ v ∷ [])
    begun_more = record { each = λ i h. at_place i (less_or_same i (length order) (omega (arith, h, length-append order (v ∷ [])))) }

pub begun_none : (code : List ℕ) (n : ℕ) → IsBegun code n []
begun_none code n = record { each = λ i h. absurd (omega (arith, h)) }

pub begun_whole : (code : List ℕ) (n : ℕ) (order : List ℕ) → length order ≡ n → IsBegun code n order → IsOrder code n order
begun_whole code n order long begun = record {
  length = long;
  each = λ i h. stands_at n (take i order) (slice_index_or code i 0) (slice_index order i) (begun.each i (omega (arith, h, long)));
}

digit_at : (code : List ℕ) (n v : ℕ) → AreDigits code n → v + length code < n → (i : ℕ) → (i < length code) ⊎ (i ≡ length code) → slice_index (code ++ v ∷ []) i + i < n
digit_at code n v valid h i (inl lt) = rw (get_or-append code (v ∷ []) 0 i lt) (valid i lt)
digit_at code n v valid h i (inr same) = rw (same, get_or_push code v 0 (length code) refl) h

-- one digit more
pub digits_more : (code : List ℕ) (n v : ℕ) → AreDigits code n → v + length code < n → AreDigits (code ++ v ∷ []) n
digits_more code n v valid h = λ i lt. digit_at code n v valid h i (less_or_same i (length code) (omega (arith, lt, length-append code (v ∷ []))))

-- a digit leads to a number that is left, also one that the code does not have
fits_at : (code : List ℕ) (n i : ℕ) → AreDigits code n → i < n → (i < length code) ⊎ (length code ≤ i) → slice_index_or code i 0 + i < n
fits_at code n i valid lt (inl within) = valid i within
fits_at code n i valid lt (inr past) = rw (get_or_past code i 0 past) (omega (arith, lt))

pub digit_fits : (code : List ℕ) (n i : ℕ) → AreDigits code n → i < n → slice_index_or code i 0 + i < n
digit_fits code n i valid lt = fits_at code n i valid lt (cases_lt i (length code))
