use Rattle.std.proofs.Common.{◌≡◌, ◌∙◌, ap, sym, subst, map, ◌++◌, List, IfOk}
use Rattle.jxlm_base.specs.declared.subgrid.Region.{Region}
use Rattle.jxlm_transform.specs.Channels.{regions}
use Rattle.jxlm_transform.specs.ChannelSteps.{range}
use Rattle.jxlm_transform.proofs.Ranges.{range_map}
use Rattle.jxlm_chain.specs.Undo.{UndoSqueeze}
use Rattle.jxlm_chain.specs.Undoings.{undos_of}
use Rattle.jxlm_chain.proofs.undo.undo_squeeze.Goals as goal

pub returns : goal.returns
returns c =
    let t = c.args.step.now in
    let xs = c.args.channels.now.placed.items in
    let same : regions (range t.begin_c t.num_c c.deref.result.now) ≡ range t.begin_c t.num_c (regions xs) = ap (λ ys. regions (range t.begin_c t.num_c ys)) c.deref.ensures.value ∙ sym (range_map (λ p. p.region) t.begin_c t.num_c xs) in
    subst (λ (rs : List Region). IfOk c.undo_halves.result (λ _. undos_of c.undo_halves.new.undoings.items ≡ undos_of c.args.undoings.now.items ++ map (UndoSqueeze t.horizontal) rs)) same c.undo_halves.ensures
