-- Sections one behind another.
use Rattle.std.proofs.Common.{◌≡◌, ℕ, ◌+◌, ◌<◌, List, [], ◌∷◌, ◌++◌, length, get_or, map, ◌⊎◌, inl, inr, sym, ◌∙◌, arith}
use Rattle.std.specs.Prelude.{slice_index}
use Rattle.std.proofs.lemmas.List.{get_or_push, get_or-map, length-map, ext_get_or}
use Rattle.std.proofs.Math.ListN.{get_or-append}
use Rattle.jxl_codestream.proofs.Bijections.{next_at}
use Rattle.jxlm_bits.proofs.Cases.{less_or_same}
use Rattle.jxl_codestream.specs.Orders.{IsOrder}
use Rattle.jxl_codestream.specs.Tocs.{IsToc}
use Rattle.jxl_codestream.specs.Inner.Entries.{AreEntries, entry_at}
use Rattle.jxl_codestream.specs.declared.toc.TocEntry.{TocEntry}

module _ (sizes : List ℕ) (start i : ℕ) (entries : List TocEntry) (long : length entries ≡ i)
    (each : (k : ℕ) (d : TocEntry) → k < i → get_or entries k d ≡ entry_at start sizes k) where
  stands : (k : ℕ) (d : TocEntry) → (k < i) ⊎ (k ≡ i) → get_or (entries ++ entry_at start sizes i ∷ []) k d ≡ entry_at start sizes k
  stands k d (inl lt) = rw (get_or-append entries (entry_at start sizes i ∷ []) d k (omega (arith, lt, long))) (each k d lt)
  stands k d (inr same) = rw same (get_or_push entries (entry_at start sizes i) d i long)

  -- one section more
  pub stand_more : (k : ℕ) (d : TocEntry) → k < i + 1 → get_or (entries ++ entry_at start sizes i ∷ []) k d ≡ entry_at start sizes k
  stand_more k d lt = stands k d (less_or_same k i (omega (arith, lt)))

-- sections in an order of places are those of a table
pub in_order : (code sizes : List ℕ) (start : ℕ) (stand entries : List TocEntry) (order : List ℕ) → AreEntries start sizes stand → IsOrder code (length sizes) order →
    length entries ≡ length order → ((i : ℕ) (d : TocEntry) → i < length order → get_or entries i d ≡ get_or stand (slice_index order i) d) →
    IsToc (record { code = code; sizes = sizes; start = start }) entries
in_order code sizes start stand entries order stands is_order long same = record {
  order = order;
  is_order = is_order;
  entries_are =
      let d : TocEntry = entry_at start sizes 0 in
      let f : ℕ → TocEntry = entry_at start sizes in
      ext_get_or d entries (map f order) (long ∙ sym (length-map order f)) λ k lt.
      let within : k < length order = omega (arith, lt, long) in
      let next = next_at code (length sizes) order is_order k (omega (arith, within, is_order.length)) in
      same k d within ∙ stands.each (slice_index order k) d (omega (arith, next.below, stands.count)) ∙ sym (get_or-map f order k 0 d within);
}
