use Rattle.std.proofs.Common.{length, ap, ◌∙◌, ◌++◌, sym, arith, List, ℤ}
use Rattle.jxl_c_picture.specs.Cells.{cells_of_all}
use Rattle.jxl_c.proofs.CellSteps.{moved_more}
use Rattle.jxl_c.proofs.cells.move_cells.Goals as goal

-- src/cells.rt:42:5
pub loop-channel-preserved : goal.loop-channel-preserved
loop-channel-preserved c =
    let steps = c.in-Some.ensures.steps in
    let one = ap length steps.0 in
    let rest = cells_of_all c.next.new.self.rest.items in
    let more = moved_more (cells_of_all c.args.channels.items) c.loop-channel.at c.loop-channel.samples c.buf-cells.result.now (cells_of_all c.loop-channel.channel-iterator.rest.items) rest
    c.copy_from_slice.new.self (ap cells_of_all steps.0 ∙ ap (λ (l : List ℤ). l ++ rest) (sym c.buf-cells.ensures.value)) c.copy_from_slice.ensures.after c.loop-channel.invariant.room
    c.loop-channel.invariant.copied in
    record { count = omega (arith, one, steps.1, c.loop-channel.invariant.count); room = more.0; copied = more.1 }
