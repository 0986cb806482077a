use Rattle.std.proofs.Common.{◌≡◌, ℕ, ◌<◌, length, get_or, rules, arith}
use Rattle.std.specs.Prelude.{slice_index}
use Rattle.jxl_codestream.specs.Orders.{IsOrder}
use Rattle.jxl_codestream.specs.Inner.Entries.{AreEntries}
use Rattle.jxl_codestream.specs.declared.toc.TocEntry.{TocEntry}
use Rattle.jxl_codestream.proofs.Bijections.{next_at}
use Rattle.jxl_codestream.proofs.Entries.{in_order}
use Rattle.jxl_codestream.proofs.toc.placed.Goals as goal

pub by_number-requires : goal.by_number-requires
by_number-requires c i lt =
    let code = c.args.table.now.code.items in
    let sizes = c.args.table.now.sizes.items in
    let order = c.in_ok-order.order.items in
    let d1 : c.deref.result.now ≡ sizes = search rules in
    let d2 : c.deref-2.result.now ≡ code = search rules in
    let d3 : c.deref-3.result.now ≡ order = search rules in
    let d4 : c.deref-4.result.now ≡ c.in_ok-stand.stand.items = search rules in
    let n : c.len.result ≡ length sizes = search rules in
    let stands : AreEntries c.args.table.now.start sizes c.in_ok-stand.stand.items = rw d1 at c.in_ok-stand.ensures.entries in
    let is_order : IsOrder code (length sizes) order = rw (d2, n) at c.in_ok-order.ensures.order in
    let within : i < length order = rw d3 at lt in
    let next = next_at code (length sizes) order is_order i (omega (arith, within, is_order.length)) in
    rw (d3, d4) (omega (arith, next.below, stands.count))

pub returns-clause-toc : goal.returns-clause-toc
returns-clause-toc c =
    let code = c.args.table.now.code.items in
    let sizes = c.args.table.now.sizes.items in
    let start = c.args.table.now.start in
    let d1 : c.deref.result.now ≡ sizes = search rules in
    let d2 : c.deref-2.result.now ≡ code = search rules in
    let d3 : c.deref-3.result.now ≡ c.in_ok-order.order.items = search rules in
    let d4 : c.deref-4.result.now ≡ c.in_ok-stand.stand.items = search rules in
    let n : c.len.result ≡ length sizes = search rules in
    let stands : AreEntries start sizes c.in_ok-stand.stand.items = rw d1 at c.in_ok-stand.ensures.entries in
    let is_order : IsOrder code (length sizes) c.in_ok-order.order.items = rw (d2, n) at c.in_ok-order.ensures.order in
    let long : length c.in_ok-entries.entries.items ≡ length c.in_ok-order.order.items = rw d3 at c.in_ok-entries.ensures.count in
    let same : (i : ℕ) (d : TocEntry) → i < length c.in_ok-order.order.items → get_or c.in_ok-entries.entries.items i d ≡ get_or c.in_ok-stand.stand.items (slice_index c.in_ok-order.order.items i) d =
    rw (d3, d4) at c.in_ok-entries.ensures.entries in
    in_order code sizes start c.in_ok-stand.stand.items c.in_ok-entries.entries.items c.in_ok-order.order.items stands is_order long same
