use Rattle.std.proofs.Common.{ℕ, List, ap, map, sym, subst}
use Rattle.std.specs.List.{All}
use Rattle.std.proofs.lemmas.Result.{err_from_is_err_and}
use Rattle.jxlm_transform.specs.Lists.{layout_of}
use Rattle.jxlm_base.specs.Grid.{Grid}
use Rattle.jxlm_base.specs.Regions.{grids_in, store_meanings}
use Rattle.jxlm_chain.specs.Steps.{CanUndoAll}
use Rattle.jxlm_chain.specs.Undo.{UndoesAll}
use Rattle.jxlm_chain.specs.Undoings.{undos_of}
use Rattle.jxlm_chain.specs.declared.undo.Undoing.{Undoing}
use Rattle.jxlm_transform.specs.Channels.{Channel, infos}
use Rattle.jxlm_encode_write.specs.Headers.{transform_of}
use Rattle.jxlm_encode.specs.Inner.Listing.{IsNotGiven}
use Rattle.jxlm_samples.specs.Part.{cells_of}
use Rattle.jxlm_encode.specs.Encoded.{IsTreeGiven}
use Rattle.jxlm_encode.specs.Inner.Placing.{ArePlaced}
use Rattle.jxlm_encode.specs.Inner.Writing.{ChannelsLie, part_at}
use Rattle.jxlm_encode_transform.specs.Redo.{UndoesNoPalette}
use Rattle.jxlm_encode_tokens.specs.Tokens.{AreTokensOf}
use Rattle.jxlm_encode.proofs.Encodings.{are_prepared, can_run, channels_lie, each_stands, multipliers, placed_there, runs_no_palette, tree_fails}
use Rattle.jxlm_encode.proofs.encode.prepared.Goals as goal

pub returns-in_err-nodes-clause-err : goal.returns-in_err-nodes-clause-err
returns-in_err-nodes-clause-err g c =
    let p = err_from_is_err_and c.from_residual-in_err-nodes.result c.from_residual-in_err-nodes.ensures.1 in
    let ts = map transform_of c.args.transforms.now in
    let placed = placed_there g.S.Sealed.to_int ts c.args.channels.now c.in_ok-infos.infos.items c.in_ok-placed.placed c.in_ok-infos.ensures.channels (subst (λ (cs : List Channel). ArePlaced ts cs c.in_ok-placed.placed) c.deref.ensures.value c.in_ok-placed.ensures.ok) in
    let refused = tree_fails ts c.args.tree.now (store_meanings g.S.Sealed.to_int c.args.channels.now) c.in_ok-placed.placed placed c.in_err-nodes.field-0.0
    (subst (λ (cs : List Channel). IsNotGiven c.args.tree.now cs c.in_err-nodes.field-0.0) (ap infos c.deref-2.ensures.value) c.in_err-nodes.ensures.err) in
    rw (p.1, p.2) refused

pub coded_store-requires-clause-can : goal.coded_store-requires-clause-can
coded_store-requires-clause-can g c κs within =
    let ts = map transform_of c.args.transforms.now in
    let placed = placed_there g.S.Sealed.to_int ts c.args.channels.now c.in_ok-infos.infos.items c.in_ok-placed.placed c.in_ok-infos.ensures.channels (subst (λ (cs : List Channel). ArePlaced ts cs c.in_ok-placed.placed) c.deref.ensures.value c.in_ok-placed.ensures.ok) in
    subst (λ (us : List Undoing). CanUndoAll c.args.channels.now (undos_of us)) (sym c.deref-3.ensures.value) (can_run g.S.Sealed.to_int ts c.args.channels.now c.in_ok-placed.placed c.in_ok-infos.ensures.full c.requires.sides placed)

pub coded_store-requires-clause-no_palettes : goal.coded_store-requires-clause-no_palettes
coded_store-requires-clause-no_palettes g c κs within =
    let ts = map transform_of c.args.transforms.now in
    let placed = placed_there g.S.Sealed.to_int ts c.args.channels.now c.in_ok-infos.infos.items c.in_ok-placed.placed c.in_ok-infos.ensures.channels (subst (λ (cs : List Channel). ArePlaced ts cs c.in_ok-placed.placed) c.deref.ensures.value c.in_ok-placed.ensures.ok) in
    subst (λ (us : List Undoing). All UndoesNoPalette (undos_of us)) (sym c.deref-3.ensures.value) (runs_no_palette g.S.Sealed.to_int ts c.args.channels.now c.in_ok-placed.placed c.in_ok-infos.ensures.full c.requires.sides placed)

pub tokens_in-requires-clause-lie : goal.tokens_in-requires-clause-lie
tokens_in-requires-clause-lie g c κs within =
    let ts = map transform_of c.args.transforms.now in
    let placed = placed_there g.S.Sealed.to_int ts c.args.channels.now c.in_ok-infos.infos.items c.in_ok-placed.placed c.in_ok-infos.ensures.channels (subst (λ (cs : List Channel). ArePlaced ts cs c.in_ok-placed.placed) c.deref.ensures.value c.in_ok-placed.ensures.ok) in
    subst (ChannelsLie c.in_ok-placed.placed) (sym c.deref-4.ensures.value)
    (channels_lie g.S.Sealed.to_int ts c.args.channels.now c.in_ok-placed.placed c.in_ok-infos.ensures.full c.requires.sides placed c.in_ok-store.store.items c.in_ok-store.ensures.shape)

pub tokens_in-requires-clause-multipliers : goal.tokens_in-requires-clause-multipliers
tokens_in-requires-clause-multipliers g c κs within = multipliers c.args.tree.now (infos c.deref-2.result.now) c.in_ok-nodes.config.tree c.in_ok-nodes.ensures.tree

pub returns-clause-each : goal.returns-clause-each
returns-clause-each g c = each_stands c.args.transforms.now c.in_ok-placed.ensures.ok.come.written

pub returns-clause-ok : goal.returns-clause-ok
returns-clause-ok g c =
    let ts = map transform_of c.args.transforms.now in
    let p = c.in_ok-placed.placed in
    let placed = placed_there g.S.Sealed.to_int ts c.args.channels.now c.in_ok-infos.infos.items p c.in_ok-infos.ensures.channels (subst (λ (cs : List Channel). ArePlaced ts cs p) c.deref.ensures.value c.in_ok-placed.ensures.ok) in
    let undone : (depth : ℕ) → UndoesAll g.S.Sealed.to_int g.S.Sealed.width depth (undos_of p.undoings.items) c.in_ok-store.store.items c.args.channels.now =
    λ depth. subst (λ (us : List Undoing). UndoesAll g.S.Sealed.to_int g.S.Sealed.width depth (undos_of us) c.in_ok-store.store.items c.args.channels.now) c.deref-3.ensures.value (c.in_ok-store.ensures.redone depth) in
    let given = subst (λ (cs : List Channel). IsTreeGiven c.args.tree.now cs c.in_ok-nodes.config.tree) (ap infos c.deref-2.ensures.value) c.in_ok-nodes.ensures.tree in
    let are = subst (λ (store : List (Grid g.row.S.Denot)). AreTokensOf g.S.Sealed.width (part_at p c.in_ok-nodes.config.tree) (cells_of (grids_in (layout_of p.channels).regions (store_meanings g.S.Sealed.to_int store))) c.in_ok-samples.samples.items)
    c.deref-4.ensures.value c.in_ok-samples.ensures in
    are_prepared g.S.Sealed.to_int ts c.args.channels.now p c.in_ok-infos.ensures.full c.requires.sides placed c.in_ok-store.store.items c.in_ok-store.ensures.shape g.S.Sealed.width undone c.args.tree.now c.in_ok-nodes.config.tree given
    c.in_ok-samples.samples.items are
