-- A symbol that is written_state by its slot is read.
use Rattle.std.proofs.Common.{◌≡◌, ℕ, ◌+◌, ◌*◌, ◌/◌, ◌%◌, ◌^◌, ◌<◌, ◌≤◌, List, Bool, true, false, cond, Ok, refl, sym, ap, ◌∙◌, subst, inl, inr, arith}
use Rattle.std.specs.List.{sum}
use Rattle.std.proofs.lemmas.Bool.{cases_lt, false≢true, le-leb, lt-leb}
use Rattle.std.proofs.lemmas.Nat.{div_below}
use Rattle.std.proofs.Math.Nat.{mul_comm}
use Rattle.std.specs.Prelude.{nat_le, slice_index}
use Rattle.jxlm_bit_writer.specs.Written.{digits, HasBits}
use Rattle.jxl_coding_codes.specs.Alias.{buckets_of}
use Rattle.jxl_coding_codes.specs.Ans.{Slot, after_slot, refilled_at}
use Rattle.jxl_coding_codes.specs.Distributions.{whole}
use Rattle.jxl_coding_codes.specs.Slots.{slot_at}
use Rattle.jxl_coding_codes.specs.Writing.{IsSlotFor, WordStands, is_large, reduced_state}
use Rattle.jxl_coding_codes.proofs.AnsUndo.{fits, slot_is, undoes}
use Rattle.jxl_coding_write.specs.Places.{IsPlaceOf, IsReduced, Leads}
use Rattle.jxl_coding_write.proofs.NumberReads.{number_read}
use Rattle.jxl_coding_write.proofs.SumsBefore.{each_at_most}

mod_small : (state : ℕ) → state % 2 ^ 16 < 2 ^ 16
mod_small state = omega arith

-- how many bits are written_state of a state
abbrev pub word_count : Bool → ℕ
word_count t = cond t 16 0

word_stands : (slot : Slot) (state count value : ℕ) (t : Bool) → nat_le (slot.count * 2 ^ 20) state ≡ t → count ≡ word_count t → (t ≡ true → value ≡ state % 2 ^ 16) →
    (bytes : List ℕ) (p : ℕ) → HasBits bytes p (digits count value) → WordStands slot state bytes p
word_stands slot state count value true e c v bytes p has large =
    let h : HasBits bytes p (digits 16 (state % 2 ^ 16)) = subst (λ (x : ℕ). HasBits bytes p (digits 16 x)) (v refl) (subst (λ (n : ℕ). HasBits bytes p (digits n value)) c has) in
    number_read bytes p 16 (state % 2 ^ 16) (mod_small state) h
word_stands slot state count value false e c v bytes p has large = cc

ends : (t : Bool) (p count : ℕ) → count ≡ word_count t → cond t (p + 16) p ≡ p + count
ends true p count c = omega (arith, c)
ends false p count c = omega (arith, c)

module _ (counts : List ℕ) (log symbol state : ℕ) (total : sum counts ≡ 4096) (occurs : 0 < slice_index counts symbol) (least : 2 ^ 16 ≤ state) (below : state < 2 ^ 32)
    (number place count value : ℕ) (is_place : IsPlaceOf counts log symbol number place) where
  abbrev slot : Slot
  slot = record { symbol = symbol; number = number; count = slice_index counts symbol }

  module _ (number_is : number ≡ reduced_state slot state % slice_index counts symbol) (count_is : count ≡ word_count (is_large slot state)) (value_is : is_large slot state ≡ true → value ≡ state % 2 ^ 16) where
    is_slot : IsSlotFor slot place state
    is_slot = record {
      some = occurs;
      most = let m = each_at_most counts symbol in omega (arith, m, total);
      least = least;
      below = below;
      place_below = is_place.below;
      number_is = number_is;
    }

    abbrev state_before : ℕ
    state_before = reduced_state slot state / slice_index counts symbol * 4096 + place

    pub leads : Leads (buckets_of counts log) (whole / 2 ^ log) symbol state_before state count value
    leads = record {
      least = (fits slot place state is_slot).0;
      below = (fits slot place state is_slot).1;
      reads = λ bytes p has.
          let e : state_before % 4096 ≡ place = slot_is slot place state is_slot in
          let s : slot_at (buckets_of counts log) (whole / 2 ^ log) (state_before % 4096) ≡ slot = ap (λ (x : ℕ). slot_at (buckets_of counts log) (whole / 2 ^ log) x) e ∙ is_place.stands in
          ap (λ (x : Slot). refilled_at x.symbol (after_slot x state_before) bytes p) s
          ∙ undoes slot place state is_slot bytes p (word_stands slot state count value (is_large slot state) refl count_is value_is bytes p has)
          ∙ ap (λ (q : ℕ). Ok (record { symbol = symbol; ans_state = state; position = q })) (ends (is_large slot state) p count count_is);
    }

pub written_leads : (counts : List ℕ) (log symbol state : ℕ) → sum counts ≡ 4096 → 0 < slice_index counts symbol → 2 ^ 16 ≤ state → state < 2 ^ 32 →
    (n r place count value : ℕ) → n ≡ slice_index counts symbol → r ≡ cond (nat_le (n * 2 ^ 20) state) (state / 2 ^ 16) state → count ≡ word_count (nat_le (n * 2 ^ 20) state) →
    (nat_le (n * 2 ^ 20) state ≡ true → value ≡ state % 2 ^ 16) → IsPlaceOf counts log symbol (r % n) place →
    Leads (buckets_of counts log) (whole / 2 ^ log) symbol (r / n * 4096 + place) state count value
written_leads counts log symbol state total occurs least below n r place count value e f g h is =
    let f' : r ≡ cond (nat_le (slice_index counts symbol * 2 ^ 20) state) (state / 2 ^ 16) state = subst (λ (x : ℕ). r ≡ cond (nat_le (x * 2 ^ 20) state) (state / 2 ^ 16) state) e f in
    let g' : count ≡ word_count (nat_le (slice_index counts symbol * 2 ^ 20) state) = subst (λ (x : ℕ). count ≡ word_count (nat_le (x * 2 ^ 20) state)) e g in
    let h' : nat_le (slice_index counts symbol * 2 ^ 20) state ≡ true → value ≡ state % 2 ^ 16 = subst (λ (x : ℕ). nat_le (x * 2 ^ 20) state ≡ true → value ≡ state % 2 ^ 16) e h in
    let is' : IsPlaceOf counts log symbol (r % slice_index counts symbol) place = subst (λ (x : ℕ). IsPlaceOf counts log symbol (r % x) place) e is in
    let number_is : r % slice_index counts symbol ≡ cond (nat_le (slice_index counts symbol * 2 ^ 20) state) (state / 2 ^ 16) state % slice_index counts symbol = ap (λ (x : ℕ). x % slice_index counts symbol) f' in
    let all : Leads (buckets_of counts log) (whole / 2 ^ log) symbol (cond (nat_le (slice_index counts symbol * 2 ^ 20) state) (state / 2 ^ 16) state / slice_index counts symbol * 4096 + place) state count value =
    leads counts log symbol state total occurs least below (r % slice_index counts symbol) place count value is' number_is g' h' in
    subst (λ (x : ℕ). Leads (buckets_of counts log) (whole / 2 ^ log) symbol (r / x * 4096 + place) state count value) (sym e)
    (subst (λ (x : ℕ). Leads (buckets_of counts log) (whole / 2 ^ log) symbol (x / slice_index counts symbol * 4096 + place) state count value) (sym f') all)

-- a state that is small enough for its symbol keeps its bits
kept_leads : (counts : List ℕ) (log symbol state : ℕ) → sum counts ≡ 4096 → 0 < slice_index counts symbol → 2 ^ 16 ≤ state → state < 2 ^ 32 →
    (n before place : ℕ) → n ≡ slice_index counts symbol → state / 1048576 < n → IsPlaceOf counts log symbol (state % n) place → before ≡ state / n * 4096 + place →
    Leads (buckets_of counts log) (whole / 2 ^ log) symbol before state 0 0
kept_leads counts log symbol state total occurs least below n before place e few is b =
    let t : nat_le (n * 2 ^ 20) state ≡ false = lt-leb (n * 2 ^ 20) state (omega (arith, few)) in
    subst (λ (x : ℕ). Leads (buckets_of counts log) (whole / 2 ^ log) symbol x state 0 0) (sym b)
    (written_leads counts log symbol state total occurs least below n state place 0 0 e
    (sym (ap (λ (x : Bool). cond x (state / 2 ^ 16) state) t)) (sym (ap word_count t)) (λ large. absurd (false≢true (sym t ∙ large))) is)

-- the last 16 bits of a larger one are written
reduced_leads : (counts : List ℕ) (log symbol state : ℕ) → sum counts ≡ 4096 → 0 < slice_index counts symbol → 2 ^ 16 ≤ state → state < 2 ^ 32 →
    (n before place : ℕ) → n ≡ slice_index counts symbol → n ≤ state / 1048576 → IsPlaceOf counts log symbol (state / 65536 % n) place → before ≡ state / 65536 / n * 4096 + place →
    Leads (buckets_of counts log) (whole / 2 ^ log) symbol before state 16 (state % 65536)
reduced_leads counts log symbol state total occurs least below n before place e many is b =
    let t : nat_le (n * 2 ^ 20) state ≡ true = le-leb (n * 2 ^ 20) state (omega (arith, many)) in
    subst (λ (x : ℕ). Leads (buckets_of counts log) (whole / 2 ^ log) symbol x state 16 (state % 65536)) (sym b)
    (written_leads counts log symbol state total occurs least below n (state / 65536) place 16 (state % 65536) e
    (sym (ap (λ (x : Bool). cond x (state / 2 ^ 16) state) t)) (sym (ap word_count t)) (λ large. refl) is)

-- either way
pub leads_by : (counts : List ℕ) (log symbol state : ℕ) → sum counts ≡ 4096 → 0 < slice_index counts symbol → 2 ^ 16 ≤ state → state < 2 ^ 32 →
    (n before place reduced count value : ℕ) → n ≡ slice_index counts symbol → IsReduced n state reduced count value → IsPlaceOf counts log symbol (reduced % n) place → before ≡ reduced / n * 4096 + place →
    Leads (buckets_of counts log) (whole / 2 ^ log) symbol before state count value
leads_by counts log symbol state total occurs least below n before place reduced count value e is place_is b =
    elim (cases_lt state (n * 2 ^ 20)) [
      | inl few ↦
          let k = is.keeps few in
          same 0 0 k.1 k.2
          (kept_leads counts log symbol state total occurs least below n before place e (omega (arith, few))
          (subst (λ (r : ℕ). IsPlaceOf counts log symbol (r % n) place) k.0 place_is) (b ∙ ap (λ (r : ℕ). r / n * 4096 + place) k.0))
      | inr many ↦
          let g = is.gives many in
          same 16 (state % 65536) g.1 g.2
          (reduced_leads counts log symbol state total occurs least below n before place e (omega (arith, many))
          (subst (λ (r : ℕ). IsPlaceOf counts log symbol (r % n) place) g.0 place_is) (b ∙ ap (λ (r : ℕ). r / n * 4096 + place) g.0))
    ]
  where
    same : (k v : ℕ) → count ≡ k → value ≡ v → Leads (buckets_of counts log) (whole / 2 ^ log) symbol before state k v → Leads (buckets_of counts log) (whole / 2 ^ log) symbol before state count value
    same k v x y l =
        subst (λ (j : ℕ). Leads (buckets_of counts log) (whole / 2 ^ log) symbol before state j value) (sym x)
        (subst (λ (j : ℕ). Leads (buckets_of counts log) (whole / 2 ^ log) symbol before state k j) (sym y) l)

-- the state that is written_state is a number of 32 bits
pub written_fits : (r n place : ℕ) → 0 < n → r < n * 2 ^ 20 → place < 4096 → r / n * 4096 + place < 2 ^ 32
written_fits r n place some small lt =
    let q : r / n < 2 ^ 20 = div_below r n (2 ^ 20) some (subst (λ (x : ℕ). r < x) (mul_comm n (2 ^ 20)) small) in
    omega (arith, q, lt)
