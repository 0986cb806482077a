use Rattle.std.proofs.Common.{refl}
use Rattle.jxlm_chain.proofs.ListsOfPlaced.{three_of}
use Rattle.jxlm_chain.proofs.undo.undo_colour.Goals as goal

pub returns : goal.returns
returns c = rw (three_of c.args.step.now.begin_c c.args.channels.now.placed.items c.index.result.now c.index-2.result.now c.index-3.result.now c.requires c.index.ensures c.index-2.ensures c.index-3.ensures) refl
