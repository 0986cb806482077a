-- The colours of a palette's indices, as the code finds them.
use Rattle.std.proofs.Common.{◌≡◌, ℕ, suc, zero, ◌+◌, ◌-◌, ◌*◌, ◌/◌, ◌%◌, ◌^◌, ◌<◌, ◌≤◌, ℤ, pos, negsuc, refl, sym, ap, ◌∙◌, arith, List, [], ◌∷◌, length, Bool, true, false, ◌&&◌, FitsSigned, to_z, of_z}
use Rattle.std.specs.Prelude.{get_or, unsigned_abs, nat_le, if◌then◌else◌, min, ◌==◌, neg_ℤ, ◌*ℤ◌, ◌-ℤ◌}
use Rattle.std.proofs.Math.Nat.{pow-le-pow_right, div-eq_of_lt}
use Rattle.std.proofs.lemmas.Nat.{mul-le}
use Rattle.std.proofs.Math.Pow.{pow_mono}
use Rattle.std.specs.Int.{w16, w64}
use Rattle.std.specs.Int.Signed.{lt_z}
use Rattle.std.proofs.lemmas.Bool.Decides.{nat_tests}
use Rattle.std.proofs.lemmas.List.{get_or_past}
use Rattle.std.proofs.lemmas.Int.{to_z-of_z, fits_signed_from_abs, fits_signed_mul, unsigned_abs-mul, ints}
use Rattle.jxlm_base.specs.Grid.{Grid, at}
use Rattle.jxlm_transform.specs.declared.transform.Palette.{Palette}
use Rattle.jxlm_inverse.specs.Palette.{colour_after, colour_index, colour_of, deltas, listed_difference, implicit_colour}

-- a number below a power has no digit there
pub no_digit : (b c n j : ℕ) → 0 < b → n ≤ c → j < b ^ n → j / b ^ c % b ≡ 0
no_digit b c n j some l h =
    let grows : b ^ n ≤ b ^ c = pow-le-pow_right some l in
    let none : j / b ^ c ≡ 0 = div-eq_of_lt (omega (arith, grows)) in
    ap (λ q. q % b) none ∙ omega arith

-- ---- the table of differences

-- at most three entries a row
abbrev are_short : List (List ℤ) → Bool
are_short [] = true
are_short (r ∷ rs) = nat_le (length r) 3 && are_short rs

short : (rs : List (List ℤ)) (i : ℕ) → are_short rs ≡ true → length (get_or rs i []) ≤ 3
short [] i h = omega arith
short (r ∷ rs) zero h = grind (arith, nat_tests)
short (r ∷ rs) (suc i) h = short rs i (grind (arith, nat_tests))

no_fourth : (i c : ℕ) → 3 ≤ c → get_or (get_or deltas i []) c (pos 0) ≡ pos 0
unfolding deltas
no_fourth i c h = get_or_past (get_or deltas i []) c (pos 0) (let s = short deltas i refl in omega (arith, s))

-- each entry is at most 144, with either sign
abbrev are_small : List ℤ → Bool
are_small [] = true
are_small (x ∷ xs) = nat_le (unsigned_abs x) 144 && are_small xs

abbrev all_small : List (List ℤ) → Bool
all_small [] = true
all_small (r ∷ rs) = are_small r && all_small rs

small_entry : (xs : List ℤ) (c : ℕ) → are_small xs ≡ true → unsigned_abs (get_or xs c (pos 0)) ≤ 144
small_entry [] c h = omega arith
small_entry (x ∷ xs) zero h = grind (arith, nat_tests)
small_entry (x ∷ xs) (suc c) h = small_entry xs c (grind (arith, nat_tests))

small_row : (rs : List (List ℤ)) (i : ℕ) → all_small rs ≡ true → are_small (get_or rs i []) ≡ true
small_row [] i h = refl
small_row (r ∷ rs) zero h = grind (arith, nat_tests)
small_row (r ∷ rs) (suc i) h = small_row rs i (grind (arith, nat_tests))

pub small : (i c : ℕ) → unsigned_abs (get_or (get_or deltas i []) c (pos 0)) ≤ 144
unfolding deltas
small i c = small_entry (get_or deltas i []) c (small_row deltas i refl)

-- an entry, read from 16 bits into 64
pub entry_read : (i c : ℕ) → to_z w64 (of_z w64 (to_z w16 (of_z w16 (get_or (get_or deltas i []) c (pos 0))))) ≡ get_or (get_or deltas i []) c (pos 0)
entry_read i c =
    let d : ℤ = get_or (get_or deltas i []) c (pos 0) in
    let s = small i c in
    let narrow : FitsSigned w16 d = fits_signed_from_abs w16 d (omega arith) in
    let wide : FitsSigned w64 d = fits_signed_from_abs w64 d (omega arith) in
    ap (λ z. to_z w64 (of_z w64 z)) (to_z-of_z w16 d narrow) ∙ to_z-of_z w64 d wide

-- with its sign
pub listed_even : (k c : ℕ) → k % 143 % 2 ≡ 0 → neg_ℤ (get_or (get_or deltas ((k % 143 + 1) / 2) []) c (pos 0)) ≡ listed_difference k c
unfolding listed_difference
listed_even k c h = rw h refl

pub listed_odd : (k c : ℕ) → 1 ≤ k % 143 % 2 → get_or (get_or deltas ((k % 143 + 1) / 2) []) c (pos 0) ≡ listed_difference k c
unfolding listed_difference
listed_odd k c h = let one : k % 143 % 2 ≡ 1 = omega arith in rw one refl

-- with the other sign
pub minus_read : (d : ℤ) → unsigned_abs d ≤ 144 → to_z w64 (of_z w64 (pos 0 -ℤ d)) ≡ neg_ℤ d
minus_read d h =
    let fits : FitsSigned w64 (pos 0 -ℤ d) = fits_signed_from_abs w64 (pos 0 -ℤ d) (omega (arith, ints)) in
    to_z-of_z w64 (pos 0 -ℤ d) fits ∙ omega (arith, ints)

either : (b : Bool) (x : ℤ) → (if b then x else x) ≡ x
either true x = refl
either false x = refl

nothing : (n : ℕ) → pos 0 *ℤ pos n ≡ pos 0
nothing n = omega (arith, ints)

listed_none : (k c : ℕ) → 3 ≤ c → listed_difference k c ≡ pos 0
unfolding listed_difference
listed_none k c h = rw (no_fourth ((k % 143 + 1) / 2) c h) (either (k % 143 % 2 == 0) (pos 0))

pub difference_none : (depth k c : ℕ) → 3 ≤ c → pos 0 ≡ listed_difference k c *ℤ pos (2 ^ (min depth 24 - 8))
difference_none depth k c h = sym (ap (λ d. d *ℤ pos (2 ^ (min depth 24 - 8))) (listed_none k c h) ∙ nothing (2 ^ (min depth 24 - 8)))

-- a product of a difference and a step
pub product_size : (a b : ℤ) → unsigned_abs a ≤ 144 → unsigned_abs b ≤ 65536 → unsigned_abs (to_z w64 (of_z w64 (to_z w64 (of_z w64 a) *ℤ to_z w64 (of_z w64 b)))) < 16777216
product_size a b h l =
    let fa : FitsSigned w64 a = fits_signed_from_abs w64 a (omega arith) in
    let fb : FitsSigned w64 b = fits_signed_from_abs w64 b (omega arith) in
    let fp : FitsSigned w64 (a *ℤ b) = fits_signed_mul w64 a b 144 65536 h l (omega arith) in
    let size : unsigned_abs a * unsigned_abs b ≤ 144 * 65536 = mul-le (unsigned_abs a) (unsigned_abs b) 144 65536 h l in
    let whole : unsigned_abs (a *ℤ b) < 16777216 = omega (arith, unsigned_abs-mul a b, size) in
    rw (to_z-of_z w64 a fa, to_z-of_z w64 b fb, to_z-of_z w64 (a *ℤ b) fp) whole

-- ---- colours by index

true_is_not_false : true ≡ false → ⊥
true_is_not_false h = cc

module _ (depth : ℕ) (t : Palette) (table : Grid ℤ) (c : ℕ) where
  pub colour_negative : (index : ℤ) (k : ℕ) → lt_z index (pos 0) ≡ true → k ≡ unsigned_abs index - 1 → listed_difference k c *ℤ pos (2 ^ (min depth 24 - 8)) ≡ colour_of depth t table index c
  unfolding colour_of
  colour_negative (pos i) k h e = let below : i < 0 = grind (arith, nat_tests) in absurd (omega arith)
  colour_negative (negsuc i) k h e = let same : k ≡ i = omega arith in ap (λ j. listed_difference j c *ℤ pos (2 ^ (min depth 24 - 8))) same

  pub colour_listed : (index : ℤ) (n : ℕ) → lt_z index (pos 0) ≡ false → n ≡ unsigned_abs index → n < t.nb_colours → at table n c ≡ colour_of depth t table index c
  unfolding colour_of
  colour_listed (pos i) n h e l = let same : n ≡ i = omega arith in ap (λ j. at table j c) same ∙ grind (arith, nat_tests)
  colour_listed (negsuc i) n h e l = absurd (true_is_not_false h)

  pub colour_implicit : (index : ℤ) (n : ℕ) → lt_z index (pos 0) ≡ false → n ≡ unsigned_abs index → t.nb_colours ≤ n → pos (colour_after depth t (n - t.nb_colours) c) ≡ colour_of depth t table index c
  unfolding colour_of
  colour_implicit (pos i) n h e l = let same : n ≡ i = omega arith in ap (λ j. pos (colour_after depth t (j - t.nb_colours) c)) same ∙ grind (arith, nat_tests)
  colour_implicit (negsuc i) n h e l = absurd (true_is_not_false h)

-- ---- the index whose colour is taken

module _ (t : Palette) where
  pub index_kept : (i : ℤ) → t.clamps_indices ≡ false → i ≡ colour_index t i
  unfolding colour_index
  index_kept (pos i) e = rw e refl
  index_kept (negsuc k) e = rw e refl

  pub index_first : (i : ℤ) → t.clamps_indices ≡ true → lt_z i (pos 0) ≡ true → pos 0 ≡ colour_index t i
  unfolding colour_index
  index_first (pos i) e h = let below : i < 0 = grind (arith, nat_tests) in absurd (omega arith)
  index_first (negsuc k) e h = rw e refl

  pub index_listed : (i : ℤ) (n : ℕ) → lt_z i (pos 0) ≡ false → n ≡ unsigned_abs i → n < t.nb_colours → i ≡ colour_index t i
  unfolding colour_index
  index_listed (pos i) n h e l = let same : n ≡ i = omega arith in grind (arith, nat_tests)
  index_listed (negsuc k) n h e l = absurd (true_is_not_false h)

  pub index_last : (i : ℤ) (n : ℕ) → t.clamps_indices ≡ true → lt_z i (pos 0) ≡ false → n ≡ unsigned_abs i → t.nb_colours ≤ n → pos t.nb_colours -ℤ pos 1 ≡ colour_index t i
  unfolding colour_index
  index_last (pos i) n f h e l = let same : n ≡ i = omega arith in rw f (grind (arith, nat_tests))
  index_last (negsuc k) n f h e l = absurd (true_is_not_false h)

-- ---- implicit colours

pub implicit_first : (depth j c : ℕ) → j < 64 → (j / 4 ^ c % 4) * (2 ^ depth - 1) / 4 + 2 ^ (depth - 3) ≡ implicit_colour depth j c
unfolding implicit_colour
implicit_first depth j c h = grind (arith, nat_tests)

pub implicit_second : (depth j c : ℕ) → 64 ≤ j → ((j - 64) / 5 ^ c % 5) * (2 ^ depth - 1) / 4 ≡ implicit_colour depth j c
unfolding implicit_colour
implicit_second depth j c h = grind (arith, nat_tests)

pub depth_power : (d : ℕ) → d ≤ 32 → 2 ^ d ≤ 4294967296
depth_power d h = pow_mono h

pub eighth_power : (d : ℕ) → d ≤ 29 → 2 ^ d ≤ 536870912
eighth_power d h = pow_mono h
