-- Numbers of the stream, as the reader finds them.
use Rattle.std.proofs.Common.{◌≡◌, ℕ, zero, suc, ◌+◌, ◌-◌, ◌*◌, ◌/◌, ◌%◌, ◌^◌, ◌<◌, ◌≤◌, List, [], ◌∷◌, ◌++◌, length, drop, get_or, Ok, inl, inr, refl, sym, ap, subst, ◌∙◌, arith, append_assoc}
use Rattle.std.specs.Prelude.{slice_index}
use Rattle.std.proofs.lemmas.Bool.{cases_lt, lt-ltb, le-ltb, lt-leb}
use Rattle.std.proofs.lemmas.List.{drop-drop, drop_at, get_or-drop, length-drop, length-append}
use Rattle.std.proofs.Math.Nat.{pow-suc, div-lt_iff_lt-mul, div-add-mod}
use Rattle.jxl_icc.specs.Numbers.{number_from, number_within}
use Rattle.jxl_icc_write.specs.Inner.Streams.{number_bytes}

-- the byte that is first from p on, and what follows it
pub byte_at : (bytes : List ℕ) (p b : ℕ) (rest : List ℕ) → drop p bytes ≡ b ∷ rest → slice_index bytes p ≡ b
byte_at bytes p b rest e =
    let n : p ≡ p + 0 = omega arith in
    ap (λ (i : ℕ). get_or bytes i 0) n ∙ sym (get_or-drop p bytes 0 0) ∙ ap (λ (xs : List ℕ). get_or xs 0 0) e

pub rest_at : (bytes : List ℕ) (p : ℕ) (xs rest : List ℕ) → drop p bytes ≡ xs ++ rest → drop (p + length xs) bytes ≡ rest
rest_at bytes p xs rest e = sym (drop-drop (length xs) p bytes) ∙ ap (drop (length xs)) e ∙ drop_at xs rest (length xs) refl

pub next_at : (bytes : List ℕ) (p b : ℕ) (rest : List ℕ) → drop p bytes ≡ b ∷ rest → drop (p + 1) bytes ≡ rest
next_at bytes p b rest e = rest_at bytes p (b ∷ []) rest e

-- these bytes are there
pub inside_at : (bytes : List ℕ) (p : ℕ) (xs rest : List ℕ) → p ≤ length bytes → drop p bytes ≡ xs ++ rest → p + length xs + length rest ≡ length bytes
inside_at bytes p xs rest le e =
    let l = length-drop p bytes in
    let m = length-append xs rest in
    let n = ap length e in
    omega (arith, l, m, n, le)

-- a number below 128 is one byte
pub bytes_below : (more v : ℕ) → v < 128 → number_bytes more v ≡ v ∷ []
unfolding number_bytes
bytes_below zero v lt = refl
bytes_below (suc more) v lt = rw (lt-ltb v 128 lt) refl

bytes_from : (more v : ℕ) → 128 ≤ v → number_bytes (suc more) v ≡ (128 + v % 128) ∷ number_bytes more (v / 128)
unfolding number_bytes
bytes_from more v le = rw (le-ltb v 128 le) refl

-- the first byte of another, and the others
bytes_above : (more v : ℕ) → 128 ≤ v → v < 128 ^ (more + 1) → number_bytes more v ≡ (128 + v % 128) ∷ number_bytes (more - 1) (v / 128)
bytes_above zero v le lt = absurd (omega (arith, le, lt))
bytes_above (suc more) v le lt = let e : more ≡ suc more - 1 = omega arith in bytes_from more v le ∙ ap (λ (n : ℕ). (128 + v % 128) ∷ number_bytes n (v / 128)) e

pub pushed_one : (out new : List ℕ) (more v : ℕ) → new ≡ out ++ v ∷ [] → v < 128 → new ≡ out ++ number_bytes more v
pushed_one out new more v e lt = e ∙ ap (λ (xs : List ℕ). out ++ xs) (sym (bytes_below more v lt))

pub pushed_more : (out mid new : List ℕ) (more v : ℕ) → mid ≡ out ++ (128 + v % 128) ∷ [] → new ≡ mid ++ number_bytes (more - 1) (v / 128) → 128 ≤ v → v < 128 ^ (more + 1) → new ≡ out ++ number_bytes more v
pushed_more out mid new more v first others le lt =
    others ∙ ap (λ (xs : List ℕ). xs ++ number_bytes (more - 1) (v / 128)) first ∙ append_assoc out ((128 + v % 128) ∷ []) (number_bytes (more - 1) (v / 128))
    ∙ ap (λ (xs : List ℕ). out ++ xs) (sym (bytes_above more v le lt))

quotient_below : (v more : ℕ) → v < 128 ^ suc (suc more) → v / 128 < 128 ^ suc more
quotient_below v more lt = (div-lt_iff_lt-mul {k = 128} {x = v} {y = 128 ^ suc more} (omega arith)).1 (subst (λ (n : ℕ). v < n) (pow-suc 128 (suc more)) lt)

low_back : (v : ℕ) → 128 + v % 128 - 128 + 128 * (v / 128) ≡ v
low_back v = let d = div-add-mod v 128 in omega (arith, d)

-- one byte is read as a number
pub one_there : (v most : ℕ) (bytes : List ℕ) (end p : ℕ) (rest : List ℕ) → v < 128 → drop p bytes ≡ v ∷ rest → p + 1 ≤ end → number_within bytes end (suc most) p ≡ Ok (record { value = v; after = p + 1 })
unfolding number_within
one_there v most bytes end p rest small e room = rw (lt-leb end p (omega (arith, room)), byte_at bytes p v rest e, lt-ltb v 128 small) refl

-- the first byte of another number is read before the others
more_there : (v most : ℕ) (bytes : List ℕ) (end p : ℕ) (rest : List ℕ) (after : ℕ) → drop p bytes ≡ (128 + v % 128) ∷ rest → p + 1 ≤ end → number_within bytes end most (p + 1) ≡ Ok (record { value = v / 128; after = after }) →
    number_within bytes end (suc most) p ≡ Ok (record { value = v; after = after })
unfolding number_within
more_there v most bytes end p rest after e room high =
    let first : 128 ≤ 128 + v % 128 = omega arith in
    rw (lt-leb end p (omega (arith, room)), byte_at bytes p (128 + v % 128) rest e, le-ltb (128 + v % 128) 128 first, high, low_back v) refl

-- the reader finds a number where its bytes are
number_there : (more v most : ℕ) → v < 128 ^ suc more → more < most → (bytes : List ℕ) (end p : ℕ) (rest : List ℕ) → drop p bytes ≡ number_bytes more v ++ rest → p + length (number_bytes more v) ≤ end →
    number_within bytes end most p ≡ Ok (record { value = v; after = p + length (number_bytes more v) })
number_there more v zero lt few bytes end p rest e le = absurd (omega (arith, few))
number_there zero v (suc most) lt few bytes end p rest e le =
    let small : v < 128 = omega (arith, lt) in
    let one = bytes_below zero v small in
    subst (λ (xs : List ℕ). number_within bytes end (suc most) p ≡ Ok (record { value = v; after = p + length xs })) (sym one)
    (one_there v most bytes end p rest small (e ∙ ap (λ (xs : List ℕ). xs ++ rest) one) (subst (λ (xs : List ℕ). p + length xs ≤ end) one le))
number_there (suc more) v (suc most) lt few bytes end p rest e le =
    elim (cases_lt v 128) [
      | inl small ↦
          let one = bytes_below (suc more) v small in
          subst (λ (xs : List ℕ). number_within bytes end (suc most) p ≡ Ok (record { value = v; after = p + length xs })) (sym one)
          (one_there v most bytes end p rest small (e ∙ ap (λ (xs : List ℕ). xs ++ rest) one) (subst (λ (xs : List ℕ). p + length xs ≤ end) one le))
      | inr large ↦
          let all = bytes_from more v large in
          let here : drop p bytes ≡ (128 + v % 128) ∷ (number_bytes more (v / 128) ++ rest) = e ∙ ap (λ (xs : List ℕ). xs ++ rest) all in
          let room : p + suc (length (number_bytes more (v / 128))) ≤ end = subst (λ (xs : List ℕ). p + length xs ≤ end) all le in
          let high = number_there more (v / 128) most (quotient_below v more lt) (omega (arith, few)) bytes end (p + 1) rest (next_at bytes p (128 + v % 128) (number_bytes more (v / 128) ++ rest) here) (omega (arith, room)) in
          let after : p + 1 + length (number_bytes more (v / 128)) ≡ p + suc (length (number_bytes more (v / 128))) = omega arith in
          subst (λ (xs : List ℕ). number_within bytes end (suc most) p ≡ Ok (record { value = v; after = p + length xs })) (sym all)
          (subst (λ (n : ℕ). number_within bytes end (suc most) p ≡ Ok (record { value = v; after = n })) after
          (more_there v most bytes end p (number_bytes more (v / 128) ++ rest) (p + 1 + length (number_bytes more (v / 128))) here (omega (arith, room)) high))
    ]

pub found_there : (more v : ℕ) → v < 128 ^ suc more → more < 9 → (bytes : List ℕ) (end p : ℕ) (rest : List ℕ) → drop p bytes ≡ number_bytes more v ++ rest → p + length (number_bytes more v) ≤ end →
    number_from bytes end p ≡ Ok (record { value = v; after = p + length (number_bytes more v) })
unfolding number_from
found_there more v lt few bytes end p rest e le = number_there more v 9 lt few bytes end p rest e le

pub zero_there : (bytes : List ℕ) (end p : ℕ) (rest : List ℕ) → drop p bytes ≡ 0 ∷ rest → p + 1 ≤ end → number_from bytes end p ≡ Ok (record { value = 0; after = p + 1 })
unfolding number_from
zero_there bytes end p rest e le = one_there 0 8 bytes end p rest (omega arith) e le

-- a number has at most one byte more
pub few_bytes : (more v : ℕ) → length (number_bytes more v) ≤ suc more
unfolding number_bytes
few_bytes zero v = omega arith
few_bytes (suc more) v = elim (cases_lt v 128) [
  | inl small ↦ let one = ap length (bytes_below (suc more) v small) in omega (arith, one)
  | inr large ↦ let all = ap length (bytes_from more v large) in let rest = few_bytes more (v / 128) in omega (arith, all, rest)
]
