-- The numbers that are left, in their order: the one at the place of a digit is the one that the digit leads to.
use Rattle.std.proofs.Common.{◌≡◌, ℕ, zero, suc, ◌+◌, ◌<◌, Bool, true, false, List, [], ◌∷◌, ◌++◌, length, Option, Some, None, refl, sym, ap, ◌∙◌, ◌⊎◌, inl, inr, arith}
use Rattle.std.specs.Prelude.{not, slice_get, if◌then◌else◌}
use Rattle.std.specs.List.{filter, range_with_len}
use Rattle.std.proofs.lemmas.List.{length-append, append-nil}
use Rattle.std.proofs.lemmas.List.Elements.{filter-append}
use Rattle.jxlm_bits.proofs.Cases.{less_or_same}
use Rattle.jxl_codestream.proofs.Free.{free_none, free_step}
use Rattle.jxl_codestream.specs.Orders.{left_of}
use Rattle.jxl_codestream.specs.Inner.Free.{IsNext, free_below, is_taken}

counting : (a n j : ℕ) → a + n ≡ j → range_with_len a (suc n) ≡ range_with_len a n ++ j ∷ []
counting a zero j e = let same : a ≡ j = omega (arith, e) in ap (λ k. k ∷ []) same
counting a (suc n) j e = ap (λ l. a ∷ l) (counting (a + 1) n j (omega (arith, e)))

abbrev last_of : ℕ → Bool → List ℕ
last_of n taken = if taken then [] else n ∷ []

last_kept : (taken : List ℕ) (n : ℕ) (b : Bool) → is_taken taken n ≡ b → filter (λ v. not (is_taken taken v)) (n ∷ []) ≡ last_of n b
last_kept taken n true h = rw h refl
last_kept taken n false h = rw h refl

left_more : (taken : List ℕ) (n : ℕ) (b : Bool) → is_taken taken n ≡ b → left_of (suc n) taken ≡ left_of n taken ++ last_of n b
left_more taken n b h =
    ap (filter (λ v. not (is_taken taken v))) (counting 0 n n (omega arith))
    ∙ filter-append (λ v. not (is_taken taken v)) (range_with_len 0 n) (n ∷ [])
    ∙ ap (λ l. left_of n taken ++ l) (last_kept taken n b h)

-- as many are left as were not taken
count_more : (taken : List ℕ) (n : ℕ) (b : Bool) → is_taken taken n ≡ b → length (left_of n taken) ≡ free_below taken n → length (left_of (suc n) taken) ≡ free_below taken (suc n)
count_more taken n true h before =
    let long = ap length (left_more taken n true h) ∙ length-append (left_of n taken) [] in
    let step = free_step taken n true h in
    omega (arith, long, step, before)
count_more taken n false h before =
    let long = ap length (left_more taken n false h) ∙ length-append (left_of n taken) (n ∷ []) in
    let step = free_step taken n false h in
    omega (arith, long, step, before)

left_count : (taken : List ℕ) (n : ℕ) → length (left_of n taken) ≡ free_below taken n
left_count taken zero = sym (free_none taken)
left_count taken (suc n) = count_more taken n (is_taken taken n) refl (left_count taken n)

nothing : (v : ℕ) → ◌≡◌ {A = Option ℕ} None (Some v) → ⊥
nothing v e = cc

get_left : (xs ys : List ℕ) (i v : ℕ) → slice_get xs i ≡ Some v → slice_get (xs ++ ys) i ≡ Some v
get_left [] ys i v e = absurd (nothing v e)
get_left (x ∷ xs) ys zero v e = e
get_left (x ∷ xs) ys (suc i) v e = get_left xs ys i v e

get_last : (xs : List ℕ) (v i : ℕ) → i ≡ length xs → slice_get (xs ++ v ∷ []) i ≡ Some v
get_last [] v i e = rw e refl
get_last (x ∷ xs) v zero e = absurd (omega (arith, e))
get_last (x ∷ xs) v (suc i) e = get_last xs v i (omega (arith, e))

-- what stands in a list with one element more: in the list, or it is that one
abbrev AtLast : List ℕ → ℕ → ℕ → ℕ → Type 0
AtLast xs x i v = (slice_get xs i ≡ Some v) ⊎ ((i ≡ length xs) × (x ≡ v))

one_on : (y : ℕ) (xs : List ℕ) (x i v : ℕ) → AtLast xs x i v → AtLast (y ∷ xs) x (suc i) v
one_on y xs x i v (inl h) = inl h
one_on y xs x i v (inr h) = inr (ap suc h.0, h.1)

get_cases : (xs : List ℕ) (x i v : ℕ) → slice_get (xs ++ x ∷ []) i ≡ Some v → AtLast xs x i v
get_cases [] x zero v e = let same : x ≡ v = cc in inr (refl, same)
get_cases [] x (suc i) v e = absurd (nothing v e)
get_cases (y ∷ xs) x zero v e = inl e
get_cases (y ∷ xs) x (suc i) v e = one_on y xs x i v (get_cases xs x i v e)

stands_by : (n : ℕ) (taken : List ℕ) (digit v : ℕ) → IsNext (suc n) taken digit v → (v < n → slice_get (left_of n taken) digit ≡ Some v) → (v < n) ⊎ (v ≡ n) →
    slice_get (left_of (suc n) taken) digit ≡ Some v
stands_by n taken digit v next so_far (inl lt) =
    rw (left_more taken n (is_taken taken n) refl) (get_left (left_of n taken) (last_of n (is_taken taken n)) digit v (so_far lt))
stands_by n taken digit v next so_far (inr same) =
    let free : is_taken taken n ≡ false = rw same at next.free in
    let count : free_below taken n ≡ digit = rw same at next.passes in
    let all = left_count taken n in
    rw (left_more taken n false free, same) (get_last (left_of n taken) n digit (omega (arith, count, all)))

pub stands_at : (n : ℕ) (taken : List ℕ) (digit v : ℕ) → IsNext n taken digit v → slice_get (left_of n taken) digit ≡ Some v
stands_at zero taken digit v next = absurd (omega (arith, next.below))
stands_at (suc n) taken digit v next =
    stands_by n taken digit v next (λ lt. stands_at n taken digit v (record { below = lt; free = next.free; passes = next.passes })) (less_or_same v n next.below)

one_below : (n : ℕ) (taken : List ℕ) (digit v : ℕ) → IsNext n taken digit v → IsNext (suc n) taken digit v
one_below n taken digit v next = let lt = next.below in record { below = omega (arith, lt); free = next.free; passes = next.passes }

at_last : (n : ℕ) (taken : List ℕ) (digit v : ℕ) → is_taken taken n ≡ false → (slice_get (left_of n taken) digit ≡ Some v → IsNext n taken digit v) → AtLast (left_of n taken) n digit v →
    IsNext (suc n) taken digit v
at_last n taken digit v free so_far (inl h) = one_below n taken digit v (so_far h)
at_last n taken digit v free so_far (inr h) =
    let count = left_count taken n in
    rw (← h.1) (record { below = omega arith; free = free; passes = omega (arith, count, h.0) })

leads_by : (n : ℕ) (taken : List ℕ) (digit v : ℕ) (b : Bool) → is_taken taken n ≡ b → (slice_get (left_of n taken) digit ≡ Some v → IsNext n taken digit v) →
    slice_get (left_of (suc n) taken) digit ≡ Some v → IsNext (suc n) taken digit v
leads_by n taken digit v true h so_far e =
    let here : slice_get (left_of n taken) digit ≡ Some v = rw (left_more taken n true h, append-nil (left_of n taken)) at e in
    one_below n taken digit v (so_far here)
leads_by n taken digit v false h so_far e =
    at_last n taken digit v h so_far (get_cases (left_of n taken) n digit v (rw (left_more taken n false h) at e))

pub leads_to : (n : ℕ) (taken : List ℕ) (digit v : ℕ) → slice_get (left_of n taken) digit ≡ Some v → IsNext n taken digit v
leads_to zero taken digit v e = absurd (nothing v e)
leads_to (suc n) taken digit v e = leads_by n taken digit v (is_taken taken n) refl (leads_to n taken digit v) e
