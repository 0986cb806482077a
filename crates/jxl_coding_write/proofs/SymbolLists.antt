-- The slots of symbols, as lists of counts and of starts.
use Rattle.std.proofs.Common.{◌≡◌, ℕ, ◌+◌, ◌<◌, ◌≤◌, List, [], ◌∷◌, ◌++◌, length, map, get_or, take, slice_index, sym, ap, ◌∙◌, arith, below_more}
use Rattle.std.specs.List.{sum}
use Rattle.std.proofs.lemmas.List.{length-map, get_or-map, get_or_append_left, get_or_push, length-take-le, map_push, take_more, take_all}
use Rattle.jxl_coding_write.proofs.SumsBefore.{occurs}
use Rattle.jxl_coding_write.specs.declared.slot_table.SymbolSlots.{SymbolSlots}

abbrev pub counts_in : List SymbolSlots → List ℕ
counts_in symbols = map (λ (s : SymbolSlots). s.count) symbols

abbrev pub starts_in : List SymbolSlots → List ℕ
starts_in symbols = map (λ (s : SymbolSlots). s.start) symbols

module _ (counts : List ℕ) (symbols new : List SymbolSlots) (s : SymbolSlots) (i : ℕ) (lt : i < length counts) (pushed : new ≡ symbols ++ s ∷ []) (so_far : counts_in symbols ≡ take i counts) where
  pub counts_pushed : s.count ≡ get_or counts i 0 → counts_in new ≡ take (i + 1) counts
  counts_pushed e =
      ap counts_in pushed
      ∙ map_push (λ (x : SymbolSlots). x.count) symbols s
      ∙ ap (λ (xs : List ℕ). xs ++ s.count ∷ []) so_far
      ∙ ap (λ (c : ℕ). take i counts ++ c ∷ []) e
      ∙ sym (take_more counts i 0 lt)

  many : length (starts_in symbols) ≡ i
  many =
      let a = length-map symbols (λ (x : SymbolSlots). x.start) in
      let b = length-map symbols (λ (x : SymbolSlots). x.count) in
      let c = ap length so_far in
      let d = length-take-le i counts (omega (arith, lt)) in
      omega (arith, a, b, c, d)

  starts_are : starts_in new ≡ starts_in symbols ++ s.start ∷ []
  starts_are = ap starts_in pushed ∙ map_push (λ (x : SymbolSlots). x.start) symbols s

  pub starts_pushed : s.start ≡ sum (take i counts) → ((k : ℕ) → k < i → slice_index (starts_in symbols) k ≡ sum (take k counts)) → (k : ℕ) → k < i + 1 → slice_index (starts_in new) k ≡ sum (take k counts)
  starts_pushed e each =
      below_more (λ (k : ℕ). slice_index (starts_in new) k ≡ sum (take k counts)) i
      (λ k below.
      let m = many in
      ap (λ (xs : List ℕ). slice_index xs k) starts_are ∙ get_or_append_left (starts_in symbols) (s.start ∷ []) 0 k (omega (arith, m, below)) ∙ each k below)
      (ap (λ (xs : List ℕ). slice_index xs i) starts_are ∙ get_or_push (starts_in symbols) s.start 0 i many ∙ e)

pub counts_all : (counts : List ℕ) (symbols : List SymbolSlots) (i : ℕ) → length counts ≤ i → counts_in symbols ≡ take i counts → counts_in symbols ≡ counts
counts_all counts symbols i le e = e ∙ take_all i counts le

-- as many symbols as counts
pub as_many : (counts : List ℕ) (symbols : List SymbolSlots) → counts_in symbols ≡ counts → length symbols ≡ length counts
as_many counts symbols e = sym (length-map symbols (λ (x : SymbolSlots). x.count)) ∙ ap length e

pub starts_many : (counts : List ℕ) (symbols : List SymbolSlots) → length symbols ≡ length counts → length (starts_in symbols) ≡ length counts
starts_many counts symbols e = length-map symbols (λ (x : SymbolSlots). x.start) ∙ e

-- an entry that was read
module _ (symbols : List SymbolSlots) (k : ℕ) (s : SymbolSlots) (lt : k < length symbols) (is : s ≡ get_or symbols k s) where
  pub start_read : s.start ≡ slice_index (starts_in symbols) k
  start_read = ap (λ (x : SymbolSlots). x.start) is ∙ sym (get_or-map (λ (x : SymbolSlots). x.start) symbols k s 0 lt)

  pub count_read : (counts : List ℕ) → counts_in symbols ≡ counts → s.count ≡ slice_index counts k
  count_read counts e = ap (λ (x : SymbolSlots). x.count) is ∙ sym (get_or-map (λ (x : SymbolSlots). x.count) symbols k s 0 lt) ∙ ap (λ (xs : List ℕ). slice_index xs k) e

pub symbol_inside : (counts : List ℕ) (symbols : List SymbolSlots) (symbol : ℕ) → counts_in symbols ≡ counts → 0 < slice_index counts symbol → symbol < length symbols
symbol_inside counts symbols symbol e some =
    let o = occurs counts symbol 0 some in
    let m = as_many counts symbols e in
    omega (arith, o, m)

pub start_at : (symbols : List SymbolSlots) (k : ℕ) (d : SymbolSlots) → k < length symbols → (get_or symbols k d).start ≡ get_or (starts_in symbols) k 0
start_at symbols k d lt = sym (get_or-map (λ (x : SymbolSlots). x.start) symbols k d 0 lt)
