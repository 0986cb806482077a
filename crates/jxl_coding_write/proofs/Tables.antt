-- A list of all slots, by symbol and number, as it is filled.
use Rattle.std.proofs.Common.{◌≡◌, ◌≢◌, ℕ, ◌+◌, ◌/◌, ◌^◌, ◌<◌, ◌≤◌, List, length, get_or, slice_index, slice_set, set, sym, ap, ◌∙◌, subst, arith, below_more}
use Rattle.std.specs.List.{sum}
use Rattle.std.proofs.lemmas.List.{get_or-set_same, get_or-set_other}
use Rattle.jxl_coding_codes.specs.Alias.{buckets_of}
use Rattle.jxl_coding_codes.specs.Ans.{Slot, slot_of, slot_seen}
use Rattle.jxl_coding_codes.specs.declared.ans.Slot as declared
use Rattle.jxl_coding_codes.specs.Distributions.{whole}
use Rattle.jxl_coding_codes.specs.Slots.{slot_at, AreSlotsOf}
use Rattle.jxl_coding_codes.specs.declared.ans.Bucket.{Bucket}
use Rattle.jxl_coding_write.specs.Places.{IsPlaceOf, HavePlaces, AreWithin}
use Rattle.jxl_coding_write.proofs.SumsBefore.{before, within, occurs, same, Same}

abbrev slot_by : ℕ → ℕ → ℕ → Slot
slot_by symbol number count = record { symbol = symbol; number = number; count = count }

slots_same : (s t n m c d : ℕ) → s ≡ t → n ≡ m → c ≡ d → slot_by s n c ≡ slot_by t m d
slots_same s t n m c d e f g = ap (λ (x : ℕ). slot_by x n c) e ∙ ap (λ (x : ℕ). slot_by t x c) f ∙ ap (λ (x : ℕ). slot_by t m x) g

module _ (counts : List ℕ) (log : ℕ) (total : sum counts ≡ 4096) (slots : AreSlotsOf counts (buckets_of counts log) (whole / 2 ^ log)) where
  abbrev pub at : ℕ → Slot
  at place = slot_at (buckets_of counts log) (whole / 2 ^ log) place

  -- where a slot stands in the list
  abbrev pub index_of : ℕ → ℕ
  index_of place = before counts (at place).symbol + (at place).number

  number_below : (place : ℕ) → place < 4096 → (at place).number < slice_index counts (at place).symbol
  number_below place lt = let w = slots.within place lt in subst (λ (n : ℕ). (at place).number < n) w.1 w.0

  pub symbol_within : (place : ℕ) → place < 4096 → (at place).symbol < length counts
  symbol_within place lt = occurs counts (at place).symbol (at place).number (number_below place lt)

  pub index_within : (place : ℕ) → place < 4096 → index_of place < 4096
  index_within place lt =
      let w = within counts (at place).symbol (at place).number (number_below place lt) in
      omega (arith, w, total)

  one_slot : (a b : ℕ) → a < 4096 → b < 4096 → Same (at a).symbol (at b).symbol (at a).number (at b).number → at a ≡ at b
  one_slot a b lt less h =
      let x = (slots.within a lt).1 in
      let y = (slots.within b less).1 in
      let c : slice_index counts (at a).symbol ≡ slice_index counts (at b).symbol = ap (λ (s : ℕ). slice_index counts s) h.symbols in
      let s = h.symbols in
      let n = h.numbers in
      let k : (at a).count ≡ (at b).count = x ∙ c ∙ sym y in
      slots_same (at a).symbol (at b).symbol (at a).number (at b).number (at a).count (at b).count s n k

  -- no two slots stand at one place
  pub index_once : (a b : ℕ) → a < 4096 → b < 4096 → index_of a ≡ index_of b → a ≡ b
  index_once a b lt less e =
      slots.once a b lt less
      (one_slot a b lt less (same counts (at a).symbol (at b).symbol (at a).number (at b).number (number_below a lt) (number_below b less) e))

  -- those below one stand where they belong
  abbrev pub Filled : List ℕ → ℕ → Type 0
  Filled places n = (k : ℕ) → k < n → slice_index places (index_of k) ≡ k

  pub filled_more : (places : List ℕ) (n : ℕ) → length places ≡ 4096 → n < 4096 → Filled places n → Filled (slice_set places (index_of n) n) (n + 1)
  filled_more places n many lt so_far =
      let inside : index_of n < length places = let w = index_within n lt in omega (arith, w, many) in
      below_more (λ k. slice_index (slice_set places (index_of n) n) (index_of k) ≡ k) n
      (λ k less. get_or-set_other places (index_of n) (index_of k) n 0 (other k less) ∙ so_far k less)
      (get_or-set_same places (index_of n) n 0 inside)
    where
      other : (k : ℕ) → k < n → index_of k ≢ index_of n
      other k less e = let same_place : k ≡ n = index_once k n (omega (arith, less, lt)) lt e in omega (arith, less, same_place)

  -- a slot that was read, of these buckets
  module _ (place : ℕ) (lt : place < 4096) (s : declared.Slot) (bs : List Bucket) (size : ℕ) (seen : slot_seen s ≡ slot_of bs 0 size place) (size_is : size ≡ whole / 2 ^ log)
      (filled_by : bs ≡ buckets_of counts log) (starts : List ℕ) (as_many : length starts ≡ length counts) (started : (k : ℕ) → k < length counts → slice_index starts k ≡ before counts k) where
    is_at : slot_seen s ≡ at place
    is_at = seen ∙ ap (λ (b : List Bucket). slot_of b 0 size place) filled_by ∙ ap (λ (z : ℕ). slot_of (buckets_of counts log) 0 z place) size_is

    symbol_is : s.symbol ≡ (at place).symbol
    symbol_is = ap (λ (x : Slot). x.symbol) is_at

    number_is : s.number ≡ (at place).number
    number_is = ap (λ (x : Slot). x.number) is_at

    pub symbol_in : s.symbol < length starts
    symbol_in = let w = symbol_within place lt in let e = symbol_is in omega (arith, w, e, as_many)

    pub entry_is : get_or starts s.symbol 0 + s.number ≡ index_of place
    entry_is =
        let w = symbol_within place lt in
        let e = symbol_is in
        let n = number_is in
        let a : get_or starts s.symbol 0 ≡ before counts s.symbol = started s.symbol (omega (arith, w, e)) in
        let b : before counts s.symbol ≡ before counts (at place).symbol = ap (λ (x : ℕ). before counts x) e in
        omega (arith, a, b, n)

    pub entry_within : get_or starts s.symbol 0 + s.number < 4096
    entry_within = let e = entry_is in let w = index_within place lt in omega (arith, e, w)

    -- one more stands where it belongs
    pub filled_entry : (places : List ℕ) → length places ≡ 4096 → Filled places place → Filled (set places (get_or starts s.symbol 0 + s.number) place) (place + 1)
    filled_entry places many so_far = subst (λ (i : ℕ). Filled (set places i place) (place + 1)) (sym entry_is) (filled_more places place many lt so_far)

  -- all stand where they belong
  module _ (starts places : List ℕ) (n : ℕ) (all : 4096 ≤ n) (many : length places ≡ 4096) (as_many : length starts ≡ length counts)
      (started : (k : ℕ) → k < length counts → slice_index starts k ≡ before counts k) (filled : Filled places n) where
    below_all : (place : ℕ) → place < 4096 → place < n
    below_all place lt = omega (arith, lt, all)

    start_is : (symbol number : ℕ) → number < slice_index counts symbol → slice_index starts symbol ≡ before counts symbol
    start_is symbol number lt = started symbol (occurs counts symbol number lt)

    pub are_within : AreWithin counts starts places
    are_within = record {
      many = as_many;
      each = λ symbol number lt.
          let w = within counts symbol number lt in
          let s = start_is symbol number lt in
          omega (arith, w, s, many, total);
    }

    pub have_places : HavePlaces counts log starts places
    have_places symbol number lt =
        let found = slots.all symbol number lt in
        let place : ℕ = found.0 in
        let stands : at place ≡ record { symbol = symbol; number = number; count = slice_index counts symbol } = found.1.1 in
        let i : index_of place ≡ slice_index starts symbol + number =
        ap (λ (x : Slot). before counts x.symbol + x.number) stands ∙ ap (λ (x : ℕ). x + number) (sym (start_is symbol number lt)) in
        let is : slice_index places (slice_index starts symbol + number) ≡ place = ap (λ (x : ℕ). slice_index places x) (sym i) ∙ filled place (below_all place found.1.0) in
        subst (IsPlaceOf counts log symbol number) (sym is) (record { below = found.1.0; stands = stands })
