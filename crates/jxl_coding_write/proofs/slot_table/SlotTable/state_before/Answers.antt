use Rattle.jxl_coding_write.proofs.WrittenSlots.{leads_by}
use Rattle.jxl_coding_write.proofs.slot_table.SlotTable.state_before.Goals as goal

pub returns : goal.returns
returns c = λ state count value least below is.
    let e = c.state_by.ensures in
    leads_by c.args.self.now.counts.items c.args.self.now.log c.args.symbol state c.args.self.now.whole c.requires.occurs least below
    c.args.slots.now.count c.state_by.result e.0 c.args.reduced count value c.requires.slots.many is e.1 e.2
