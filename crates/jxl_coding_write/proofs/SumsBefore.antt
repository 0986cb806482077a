-- The slots of one symbol after another: where each symbol's begin, by the counts before it.
use Rattle.std.proofs.Common.{◌≡◌, ℕ, ◌+◌, ◌<◌, ◌≤◌, inl, inr, List, length, take, slice_index, ap, subst, arith}
use Rattle.std.specs.List.{sum, All}
use Rattle.std.proofs.lemmas.Bool.{cases_lt}
use Rattle.std.proofs.lemmas.List.{take-take, get_or_past}
use Rattle.std.proofs.lemmas.List.Elements.{All-from_get_or}
use Rattle.std.proofs.lemmas.List.Sums.{sum_by_more, sum_by-take-le}

-- the slots of the symbols before one
abbrev pub before : List ℕ → ℕ → ℕ
before counts symbol = sum (take symbol counts)

next : (counts : List ℕ) (s : ℕ) → s < length counts → before counts (s + 1) ≡ before counts s + slice_index counts s
next counts s lt = sum_by_more (λ (x : ℕ). x) counts s 0 lt

grows : (counts : List ℕ) (a b : ℕ) → a ≤ b → before counts a ≤ before counts b
grows counts a b le =
    let h : sum (take a (take b counts)) ≤ sum (take b counts) = sum_by-take-le (λ (x : ℕ). x) (take b counts) a in
    subst (λ (xs : List ℕ). sum xs ≤ sum (take b counts)) (take-take a b counts le) h

pub at_most : (counts : List ℕ) (a : ℕ) → before counts a ≤ sum counts
at_most counts a = sum_by-take-le (λ (x : ℕ). x) counts a

-- a symbol that occurs is one of the list
pub occurs : (counts : List ℕ) (s n : ℕ) → n < slice_index counts s → s < length counts
occurs counts s n lt =
    elim (cases_lt s (length counts)) [
      | inl below ↦ below
      | inr past ↦ let z : slice_index counts s ≡ 0 = get_or_past counts s 0 past in absurd (omega (arith, z, lt))
    ]

pub inside : (counts : List ℕ) (s n : ℕ) → n < slice_index counts s → before counts s + n < before counts (s + 1)
inside counts s n lt = let e = next counts s (occurs counts s n lt) in omega (arith, e, lt)

-- each slot is among all
pub within : (counts : List ℕ) (s n : ℕ) → n < slice_index counts s → before counts s + n < sum counts
within counts s n lt =
    let a = inside counts s n lt in
    let b = at_most counts (s + 1) in
    omega (arith, a, b)

-- no count is more than all
pub each_at_most : (counts : List ℕ) (s : ℕ) → slice_index counts s ≤ sum counts
each_at_most counts s =
    elim (cases_lt s (length counts)) [
      | inl below ↦ let e = next counts s below in let b = at_most counts (s + 1) in omega (arith, e, b)
      | inr past ↦ let z : slice_index counts s ≡ 0 = get_or_past counts s 0 past in omega (arith, z)
    ]

pub all_at_most : (counts : List ℕ) → All (λ count. count ≤ sum counts) counts
all_at_most counts = All-from_get_or (λ (count : ℕ). count ≤ sum counts) counts 0 (λ s lt. each_at_most counts s)

-- the same slot is the same symbol's
pub record Same (s t n m : ℕ) : Type 0 where
  pub symbols : s ≡ t
  pub numbers : n ≡ m

apart : (counts : List ℕ) (s t n m : ℕ) → n < slice_index counts s → s < t → before counts s + n < before counts t + m
apart counts s t n m lt less =
    let a = inside counts s n lt in
    let b = grows counts (s + 1) t (omega (arith, less)) in
    omega (arith, a, b)

pub same : (counts : List ℕ) (s t n m : ℕ) → n < slice_index counts s → m < slice_index counts t → before counts s + n ≡ before counts t + m → Same s t n m
same counts s t n m lt less e =
    elim (cases_lt s t) [
      | inl below ↦ let a = apart counts s t n m lt below in absurd (omega (arith, a, e))
      | inr above ↦ elim (cases_lt t s) [
        | inl under ↦ let a = apart counts t s m n less under in absurd (omega (arith, a, e))
        | inr over ↦
            let k : s ≡ t = omega (arith, above, over) in
            let b : before counts s ≡ before counts t = ap (λ (x : ℕ). before counts x) k in
            record { symbols = k; numbers = omega (arith, b, e) }
      ]
    ]

-- where one symbol occurs each time, no other occurs
pub alone : (counts : List ℕ) (s t : ℕ) → sum counts ≡ 4096 → slice_index counts s ≡ 4096 → 0 < slice_index counts t → t ≡ s
alone counts s t total all some =
    elim (cases_lt s t) [
      | inl below ↦
          let a = inside counts s 4095 (omega (arith, all)) in
          let b = grows counts (s + 1) t (omega (arith, below)) in
          let c = within counts t 0 some in
          absurd (omega (arith, a, b, c, total))
      | inr above ↦ elim (cases_lt t s) [
        | inl under ↦
            let a = inside counts t 0 some in
            let b = grows counts (t + 1) s (omega (arith, under)) in
            let c = within counts s 4095 (omega (arith, all)) in
            absurd (omega (arith, a, b, c, total))
        | inr over ↦ omega (arith, above, over)
      ]
    ]
