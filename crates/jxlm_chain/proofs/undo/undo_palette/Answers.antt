use Rattle.std.proofs.Common.{◌∙◌}
use Rattle.jxlm_chain.proofs.ListsOfPlaced.{palette_undone}
use Rattle.jxlm_chain.proofs.undo.undo_palette.Goals as goal

pub returns : goal.returns
returns c =
    let l = c.args.channels.now in
    palette_undone c.args.palette.now l.buffers l.placed.items c.deref.result.now _ c.table.result.region _ _ c.requires.some_channels c.requires.range c.deref.ensures.value c.table.ensures.region
    c.merged-index.ensures.leader (c.merged-index.ensures.members ∙ c.in_ok-members.ensures)
