use Rattle.std.proofs.Common.{◌+◌, ◌∙◌, ℕ, sym, subst, arith}
use Rattle.std.specs.Prelude.{set}
use Rattle.std.proofs.lemmas.List.{length-set, length-map}
use Rattle.jxl_coding_codes.proofs.BucketSlots.{alias_slots}
use Rattle.jxl_coding_write.specs.declared.slot_table.SymbolSlots.{SymbolSlots}
use Rattle.jxl_coding_write.proofs.SymbolLists.{starts_in, starts_many, start_at}
use Rattle.jxl_coding_write.proofs.Tables.{symbol_in, entry_within, filled_entry, are_within, have_places, Filled}
use Rattle.jxl_coding_write.proofs.slot_table.places_of.Goals as goal

pub bounds-symbols-slot : goal.bounds-symbols-slot
bounds-symbols-slot c =
    let i = symbol_in c.args.counts.now c.args.log c.requires.whole (alias_slots c.args.counts.now c.args.log c.requires.log c.requires.short c.requires.whole) c.loop-place.place c.loop-place-test.true
    c.slot_of-slot.result c.deref.result.now _ c.slot_of-slot.ensures c.bucket_shift_of-shift.ensures.size (c.deref.ensures.value ∙ c.in_ok-buckets.ensures.ok) (starts_in c.args.symbols.now) (starts_many c.args.counts.now c.args.symbols.now c.requires.many) c.requires.starts in
    let m = length-map c.args.symbols.now (λ (x : SymbolSlots). x.start) in
    omega (arith, i, m)

pub bounds-symbols-slot-in-loop-place : goal.bounds-symbols-slot-in-loop-place
bounds-symbols-slot-in-loop-place c =
    let i = symbol_in c.args.counts.now c.args.log c.requires.whole (alias_slots c.args.counts.now c.args.log c.requires.log c.requires.short c.requires.whole) c.loop-place.place c.loop-place-test.true
    c.slot_of-slot.result c.deref.result.now _ c.slot_of-slot.ensures c.bucket_shift_of-shift.ensures.size (c.deref.ensures.value ∙ c.in_ok-buckets.ensures.ok) (starts_in c.args.symbols.now) (starts_many c.args.counts.now c.args.symbols.now c.requires.many) c.requires.starts in
    let m = length-map c.args.symbols.now (λ (x : SymbolSlots). x.start) in
    omega (arith, i, m)

pub overflow_add-start : goal.overflow_add-start
overflow_add-start c =
    let i = symbol_in c.args.counts.now c.args.log c.requires.whole (alias_slots c.args.counts.now c.args.log c.requires.log c.requires.short c.requires.whole) c.loop-place.place c.loop-place-test.true
    c.slot_of-slot.result c.deref.result.now _ c.slot_of-slot.ensures c.bucket_shift_of-shift.ensures.size (c.deref.ensures.value ∙ c.in_ok-buckets.ensures.ok) (starts_in c.args.symbols.now) (starts_many c.args.counts.now c.args.symbols.now c.requires.many) c.requires.starts in
    let e = entry_within c.args.counts.now c.args.log c.requires.whole (alias_slots c.args.counts.now c.args.log c.requires.log c.requires.short c.requires.whole) c.loop-place.place c.loop-place-test.true
    c.slot_of-slot.result c.deref.result.now _ c.slot_of-slot.ensures c.bucket_shift_of-shift.ensures.size (c.deref.ensures.value ∙ c.in_ok-buckets.ensures.ok) (starts_in c.args.symbols.now) (starts_many c.args.counts.now c.args.symbols.now c.requires.many) c.requires.starts in
    let m = length-map c.args.symbols.now (λ (x : SymbolSlots). x.start) in
    let s = start_at c.args.symbols.now c.slot_of-slot.result.symbol c.index-symbols-slot.result (omega (arith, i, m)) in
    omega (arith, e, s)

pub index_mut-requires : goal.index_mut-requires
index_mut-requires c =
    let i = symbol_in c.args.counts.now c.args.log c.requires.whole (alias_slots c.args.counts.now c.args.log c.requires.log c.requires.short c.requires.whole) c.loop-place.place c.loop-place-test.true
    c.slot_of-slot.result c.deref.result.now _ c.slot_of-slot.ensures c.bucket_shift_of-shift.ensures.size (c.deref.ensures.value ∙ c.in_ok-buckets.ensures.ok) (starts_in c.args.symbols.now) (starts_many c.args.counts.now c.args.symbols.now c.requires.many) c.requires.starts in
    let e = entry_within c.args.counts.now c.args.log c.requires.whole (alias_slots c.args.counts.now c.args.log c.requires.log c.requires.short c.requires.whole) c.loop-place.place c.loop-place-test.true
    c.slot_of-slot.result c.deref.result.now _ c.slot_of-slot.ensures c.bucket_shift_of-shift.ensures.size (c.deref.ensures.value ∙ c.in_ok-buckets.ensures.ok) (starts_in c.args.symbols.now) (starts_many c.args.counts.now c.args.symbols.now c.requires.many) c.requires.starts in
    let l = length-map c.args.symbols.now (λ (x : SymbolSlots). x.start) in
    let s = start_at c.args.symbols.now c.slot_of-slot.result.symbol c.index-symbols-slot.result (omega (arith, i, l)) in
    let m = c.loop-place.invariant.many in
    let o = c.loop-place.places.ok.0 in
    omega (arith, e, s, m, o)

pub loop-place-preserved : goal.loop-place-preserved
loop-place-preserved c = record {
  many = length-set c.loop-place.places.items _ _ ∙ c.loop-place.invariant.many;
  filled =
      let i = symbol_in c.args.counts.now c.args.log c.requires.whole (alias_slots c.args.counts.now c.args.log c.requires.log c.requires.short c.requires.whole) c.loop-place.place c.loop-place-test.true
      c.slot_of-slot.result c.deref.result.now _ c.slot_of-slot.ensures c.bucket_shift_of-shift.ensures.size (c.deref.ensures.value ∙ c.in_ok-buckets.ensures.ok) (starts_in c.args.symbols.now) (starts_many c.args.counts.now c.args.symbols.now c.requires.many) c.requires.starts in
      let l = length-map c.args.symbols.now (λ (x : SymbolSlots). x.start) in
      let s = start_at c.args.symbols.now c.slot_of-slot.result.symbol c.index-symbols-slot.result (omega (arith, i, l)) in
      let f = filled_entry c.args.counts.now c.args.log c.requires.whole (alias_slots c.args.counts.now c.args.log c.requires.log c.requires.short c.requires.whole) c.loop-place.place c.loop-place-test.true
      c.slot_of-slot.result c.deref.result.now _ c.slot_of-slot.ensures c.bucket_shift_of-shift.ensures.size (c.deref.ensures.value ∙ c.in_ok-buckets.ensures.ok) (starts_in c.args.symbols.now) (starts_many c.args.counts.now c.args.symbols.now c.requires.many) c.requires.starts
      c.loop-place.places.items c.loop-place.invariant.many c.loop-place.invariant.filled in
      subst (λ (n : ℕ). Filled c.args.counts.now c.args.log c.requires.whole (alias_slots c.args.counts.now c.args.log c.requires.log c.requires.short c.requires.whole)
      (set c.loop-place.places.items (n + c.slot_of-slot.result.number) c.loop-place.place) (c.loop-place.place + 1)) (sym s) f;
}

pub returns-clause-within : goal.returns-clause-within
returns-clause-within c =
    are_within c.args.counts.now c.args.log c.requires.whole (alias_slots c.args.counts.now c.args.log c.requires.log c.requires.short c.requires.whole) (starts_in c.args.symbols.now) c.loop-place.places.items
    c.loop-place.place c.loop-place-test.false c.loop-place.invariant.many (starts_many c.args.counts.now c.args.symbols.now c.requires.many) c.requires.starts c.loop-place.invariant.filled

pub returns-clause-have : goal.returns-clause-have
returns-clause-have c =
    have_places c.args.counts.now c.args.log c.requires.whole (alias_slots c.args.counts.now c.args.log c.requires.log c.requires.short c.requires.whole) (starts_in c.args.symbols.now) c.loop-place.places.items
    c.loop-place.place c.loop-place-test.false c.loop-place.invariant.many (starts_many c.args.counts.now c.args.symbols.now c.requires.many) c.requires.starts c.loop-place.invariant.filled
