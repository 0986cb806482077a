use Rattle.std.proofs.Common.{◌≡◌, ◌+◌, ap, sym, ◌∙◌, subst, ℕ, slice_index, arith}
use Rattle.std.proofs.lemmas.List.{get_or_read}
use Rattle.jxl_coding_write.specs.Places.{IsPlaceOf}
use Rattle.jxl_coding_write.proofs.SymbolLists.{starts_in}
use Rattle.jxl_coding_write.proofs.slot_table.SlotTable.place.Goals as goal

pub overflow_add-slots : goal.overflow_add-slots
overflow_add-slots c =
    let w = c.args.self.now.within.each c.args.symbol c.args.number c.requires.below in
    let s = c.requires.start in
    let n = c.args.self.now.few in
    omega (arith, w, s, n)

pub index-requires : goal.index-requires
index-requires c =
    let w = c.args.self.now.within.each c.args.symbol c.args.number c.requires.below in
    let s = c.requires.start in
    let o = c.args.self.now.places.ok.0 in
    omega (arith, w, s, o)

pub returns : goal.returns
returns c =
    let w = c.args.self.now.within.each c.args.symbol c.args.number c.requires.below in
    let s : c.args.slots.now.start ≡ slice_index (starts_in c.args.self.now.symbols.items) c.args.symbol = c.requires.start in
    let v : c.index.result.now ≡ slice_index c.args.self.now.places.items (c.args.slots.now.start + c.args.number) =
    get_or_read c.args.self.now.places.items (c.args.slots.now.start + c.args.number) c.index.result.now (omega (arith, w, s)) c.index.ensures 0 in
    let e : c.index.result.now ≡ slice_index c.args.self.now.places.items (slice_index (starts_in c.args.self.now.symbols.items) c.args.symbol + c.args.number) =
    v ∙ ap (λ (x : ℕ). slice_index c.args.self.now.places.items (x + c.args.number)) s in
    subst (IsPlaceOf c.args.self.now.counts.items c.args.self.now.log c.args.symbol c.args.number) (sym e) (c.args.self.now.have c.args.symbol c.args.number c.requires.below)
