use Rattle.std.proofs.Common.{◌≡◌, ◌≤◌, ◌+◌, ◌^◌, length, pos, ap, ◌∙◌, arith}
use Rattle.std.specs.Option.{option_copied}
use Rattle.std.proofs.lemmas.List.Elements.{All-append}
use Rattle.jxlm_bits.specs.Bits.{bytes_of, position_of}
use Rattle.jxlm_base.specs.Grid.{Grid}
use Rattle.jxlm_transform.specs.Channels.{infos, regions}
use Rattle.jxl_modular.proofs.LayerReads.{lie_ends, read_count, read_layer_is, read_lie, read_regions, read_tables}
use Rattle.jxl_modular.proofs.image.ModularImageDestination.read_layer.Goals as goal

pub parse-requires-clause-ends : goal.parse-requires-clause-ends
parse-requires-clause-ends g c =
    let can = rw (← c.self.view_is) at c.requires in
    lie_ends _ _ can.lie (All-append (λ (g : Grid _). (g.width ≤ 2 ^ 30) × (g.height ≤ 2 ^ 30)) c.self.inside.store.items c.args.tables.items c.self.invariant.laid.narrow_store can.narrow_tables)

pub invariant_of-result : goal.invariant_of-result
invariant_of-result g c =
    let can = rw (← c.self.view_is) at c.requires in
    let same : c.in_ok-given.given.items ≡ c.args.pieces.items = c.in_ok-given.ensures.items ∙ c.deref.ensures.value in
    let first = c.len.ensures ∙ c.self.inside.store.ok.0 in
    let second = c.len-2.ensures ∙ c.args.tables.ok.0 in
    let count : c.len.result + c.len-2.result ≡ length c.self.inside.store.items + length c.args.tables.items = omega (arith, first, second) in
    let added = rw c.deref-2.ensures.value at c.in_ok-add_tables.ensures.ok in
    read_layer_is g.D.Decoder.meaning (g.S.Sealed.from_int (pos 0)) (option_copied c.args.global) (bytes_of c.args.bits.now) (position_of c.args.bits.now) (position_of c.parse.new.bits)
    c.in_ok-part.part c.args.pieces.items c.in_ok-given.given.items c.self.inside.store.items c.args.tables.items c.add_tables.new.store.items
    (ap infos same) (ap regions same) can (c.len.result + c.len-2.result) count c.in_ok-part.ensures.ok added

pub returns-clause-stands : goal.returns-clause-stands
returns-clause-stands g c =
    let can = rw (← c.self.view_is) at c.requires in
    let same : c.in_ok-given.given.items ≡ c.args.pieces.items = c.in_ok-given.ensures.items ∙ c.deref.ensures.value in
    let first = c.len.ensures ∙ c.self.inside.store.ok.0 in
    let second = c.len-2.ensures ∙ c.args.tables.ok.0 in
    let count : c.len.result + c.len-2.result ≡ length c.self.inside.store.items + length c.args.tables.items = omega (arith, first, second) in
    let added = rw c.deref-2.ensures.value at c.in_ok-add_tables.ensures.ok in
    rw (← c.self.view_is)
    (record {
      lie = read_lie g.D.Decoder.meaning (g.S.Sealed.from_int (pos 0)) (option_copied c.args.global) (bytes_of c.args.bits.now) (position_of c.args.bits.now) (position_of c.parse.new.bits)
          c.in_ok-part.part c.args.pieces.items c.in_ok-given.given.items c.self.inside.store.items c.args.tables.items c.add_tables.new.store.items
          (ap infos same) (ap regions same) can (c.len.result + c.len-2.result) count c.in_ok-part.ensures.ok added;
      count = read_count g.D.Decoder.meaning (g.S.Sealed.from_int (pos 0)) (option_copied c.args.global) (bytes_of c.args.bits.now) (position_of c.args.bits.now) (position_of c.parse.new.bits)
          c.in_ok-part.part c.args.pieces.items c.in_ok-given.given.items c.self.inside.store.items c.args.tables.items c.add_tables.new.store.items
          (ap infos same) (ap regions same) can (c.len.result + c.len-2.result) count c.in_ok-part.ensures.ok added;
    })

pub returns-clause-read : goal.returns-clause-read
returns-clause-read g c =
    let can = rw (← c.self.view_is) at c.requires in
    let same : c.in_ok-given.given.items ≡ c.args.pieces.items = c.in_ok-given.ensures.items ∙ c.deref.ensures.value in
    let first = c.len.ensures ∙ c.self.inside.store.ok.0 in
    let second = c.len-2.ensures ∙ c.args.tables.ok.0 in
    let count : c.len.result + c.len-2.result ≡ length c.self.inside.store.items + length c.args.tables.items = omega (arith, first, second) in
    let added = rw c.deref-2.ensures.value at c.in_ok-add_tables.ensures.ok in
    rw (← c.self.view_is)
    (record {
      start = c.in_ok-part.ensures.ok.start;
      given = ap infos same;
      held_is = ap regions same;
      coded = read_regions g.D.Decoder.meaning (g.S.Sealed.from_int (pos 0)) (option_copied c.args.global) (bytes_of c.args.bits.now) (position_of c.args.bits.now) (position_of c.parse.new.bits)
          c.in_ok-part.part c.args.pieces.items c.in_ok-given.given.items c.self.inside.store.items c.args.tables.items c.add_tables.new.store.items
          (ap infos same) (ap regions same) can (c.len.result + c.len-2.result) count c.in_ok-part.ensures.ok added;
      tables = read_tables g.D.Decoder.meaning (g.S.Sealed.from_int (pos 0)) (option_copied c.args.global) (bytes_of c.args.bits.now) (position_of c.args.bits.now) (position_of c.parse.new.bits)
          c.in_ok-part.part c.args.pieces.items c.in_ok-given.given.items c.self.inside.store.items c.args.tables.items c.add_tables.new.store.items
          (ap infos same) (ap regions same) can (c.len.result + c.len-2.result) count c.in_ok-part.ensures.ok added;
    })
