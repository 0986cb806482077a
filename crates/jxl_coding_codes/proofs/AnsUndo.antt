-- Reading a symbol undoes writing it.
use Rattle.std.specs.Prelude.{◌≡◌, ℕ, ◌+◌, ◌*◌, ◌/◌, ◌%◌, ◌^◌, ◌<◌, ◌≤◌, List, Bool, true, false, cond, nat_le, nat_lt, Ok}
use Rattle.std.proofs.Common.{refl, ◌∙◌, arith}
use Rattle.std.proofs.lemmas.Bool.{leb-true, leb-false}
use Rattle.std.proofs.lemmas.Bool.Decides.{nat_tests}
use Rattle.std.proofs.lemmas.Nat.{le-div}
use Rattle.std.proofs.Math.Nat.{mod-eq_of_lt, mul_comm, div-lt_iff_lt-mul}
use Rattle.jxl_coding_codes.specs.Fields.{number_at}
use Rattle.jxl_coding_codes.specs.Ans.{Slot, after_slot, refilled_at}
use Rattle.jxl_coding_codes.specs.Writing.{IsSlotFor, WordStands, is_large, reduced_state, written_state}

-- a state whose last 12 bits are a slot
high : (slot many : ℕ) → slot < 4096 → (many * 4096 + slot) / 4096 ≡ many
high slot many lt = omega arith

pub last : (slot many : ℕ) → slot < 4096 → (many * 4096 + slot) % 4096 ≡ slot
last slot many lt = omega arith

whole_of : (state count : ℕ) → 0 < count → count * (state / count) + state % count ≡ state
whole_of state count some = omega arith

small : (a b n : ℕ) → a + b < n → (a % n + b) % n ≡ a + b
small a b n lt = let e : a % n ≡ a = mod-eq_of_lt (omega arith) in rw e (mod-eq_of_lt lt)

pub back : (slot : Slot) (state : ℕ) → 0 < slot.count → state < 2 ^ 32 → slot.number ≡ state % slot.count → (place : ℕ) → place < 4096 →
    after_slot slot (state / slot.count * 4096 + place) ≡ state
back slot state some lt e place within =
    let whole = whole_of state slot.count some in
    rw (high place (state / slot.count) within, e) (small (slot.count * (state / slot.count)) (state % slot.count) (2 ^ 32) (omega (arith, whole)) ∙ whole)

module _ (slot : Slot) (place state : ℕ) (h : IsSlotFor slot place state) where
  -- the state that is written from is of 32 bits, and each symbol leaves it 4 to 20 bits above the slot
  abbrev InRange : ℕ → Type 0
  InRange s = (16 * slot.count ≤ s) × (s < slot.count * 2 ^ 20)

  in_range : (t : Bool) → nat_le (slot.count * 2 ^ 20) state ≡ t → InRange (cond t (state / 2 ^ 16) state)
  in_range true e =
      let le : slot.count * 2 ^ 20 ≤ state = leb-true (slot.count * 2 ^ 20) state e in
      let most = h.below in
      let some = h.some in
      (omega (arith, le), omega (arith, most, some))
  in_range false e =
      let lt : state < slot.count * 2 ^ 20 = leb-false (slot.count * 2 ^ 20) state e in
      let least = h.least in
      let few = h.most in
      (omega (arith, least, few), lt)

  pub fits : (2 ^ 16 ≤ written_state slot place state) × (written_state slot place state < 2 ^ 32)
  fits =
      let r : InRange (reduced_state slot state) = in_range (is_large slot state) refl in
      let low : 16 ≤ reduced_state slot state / slot.count = le-div 16 (reduced_state slot state) slot.count h.some r.0 in
      let most : reduced_state slot state / slot.count < 2 ^ 20 = (div-lt_iff_lt-mul h.some).1 (rw (← (mul_comm slot.count (2 ^ 20))) r.1) in
      let within = h.place_below in
      (omega (arith, low), omega (arith, most, within))

  pub slot_is : written_state slot place state % 4096 ≡ place
  slot_is = last place (reduced_state slot state / slot.count) h.place_below

  abbrev end_at : Bool → ℕ → ℕ
  end_at t p = cond t (p + 16) p

  less : (t : Bool) → cond t (state / 2 ^ 16) state < 2 ^ 32
  less true = let b = h.below in omega (arith, b)
  less false = h.below

  refills : (t : Bool) → nat_le (slot.count * 2 ^ 20) state ≡ t → (bytes : List ℕ) (p : ℕ) → (t ≡ true → number_at bytes p 16 ≡ Ok (record { value = state % 2 ^ 16; position = p + 16 })) →
      refilled_at slot.symbol (cond t (state / 2 ^ 16) state) bytes p ≡ Ok (record { symbol = slot.symbol; ans_state = state; position = end_at t p })
  refills true e bytes p stands =
      let b = h.below in
      let lt : nat_lt (state / 2 ^ 16) (2 ^ 16) ≡ true = let l : state / 2 ^ 16 < 2 ^ 16 = omega (arith, b) in grind (arith, nat_tests) in
      let whole : state / 2 ^ 16 * 2 ^ 16 + state % 2 ^ 16 ≡ state = omega arith in
      rw (lt, stands refl, whole) refl
  refills false e bytes p stands =
      let least = h.least in
      let lt : nat_lt state (2 ^ 16) ≡ false = grind (arith, nat_tests) in
      rw lt refl

  pub undoes : (bytes : List ℕ) (p : ℕ) → WordStands slot state bytes p →
      refilled_at slot.symbol (after_slot slot (written_state slot place state)) bytes p ≡ Ok (record { symbol = slot.symbol; ans_state = state; position = end_at (is_large slot state) p })
  undoes bytes p stands =
      rw (back slot (reduced_state slot state) h.some (less (is_large slot state)) h.number_is place h.place_below) (refills (is_large slot state) refl bytes p stands)
