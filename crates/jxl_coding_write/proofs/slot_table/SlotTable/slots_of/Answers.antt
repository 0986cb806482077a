use Rattle.std.proofs.Common.{arith}
use Rattle.jxl_coding_write.proofs.SymbolLists.{symbol_inside, start_read, count_read}
use Rattle.jxl_coding_write.proofs.slot_table.SlotTable.slots_of.Goals as goal

pub index-requires : goal.index-requires
index-requires c =
    let i = symbol_inside c.args.self.now.counts.items c.args.self.now.symbols.items c.args.symbol c.args.self.now.counted c.requires in
    let o = c.args.self.now.symbols.ok.0 in
    omega (arith, i, o)

pub returns : goal.returns
returns c =
    let i = symbol_inside c.args.self.now.counts.items c.args.self.now.symbols.items c.args.symbol c.args.self.now.counted c.requires in
    record {
      many = count_read c.args.self.now.symbols.items c.args.symbol c.index.result.now i c.index.ensures c.args.self.now.counts.items c.args.self.now.counted;
      first = start_read c.args.self.now.symbols.items c.args.symbol c.index.result.now i c.index.ensures;
    }
