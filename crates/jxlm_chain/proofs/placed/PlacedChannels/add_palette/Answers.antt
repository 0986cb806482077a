use Rattle.std.proofs.Common.{◌∷◌, [], List, ◌++◌, ◌∙◌, ap, arith}
use Rattle.std.proofs.lemmas.List.{map-append}
use Rattle.jxlm_base.specs.declared.subgrid.Region.{Region}
use Rattle.jxlm_transform.specs.ChannelSteps.{PaletteStep}
use Rattle.jxlm_chain.specs.Placed.{region_sides, sides_in}
use Rattle.jxlm_chain.specs.Undo.{Undo}
use Rattle.jxlm_chain.specs.Undoings.{undo_of_code, undos_of}
use Rattle.jxlm_chain.proofs.PlacedSteps.{goes_one}
use Rattle.jxlm_chain.proofs.placed.PlacedChannels.add_palette.Goals as goal

pub transform_channel_info-requires-clause-room : goal.transform_channel_info-requires-clause-room
transform_channel_info-requires-clause-room c =
    let small = c.args.self.now.tables.small in
    let count = c.args.self.now.tables.ok.0 in
    let room = c.requires.placed.room in
    omega (arith, small, count, room)

pub returns-clause-goes : goal.returns-clause-goes
returns-clause-goes c =
    let old = c.args.self.now in
    let undos =
    ap undos_of c.in_ok-push.ensures.items ∙ map-append undo_of_code old.undoings.items (c.in_ok-undoing.undoing ∷ [])
    ∙ ap (λ (us : List Undo). undos_of old.undoings.items ++ us) c.in_ok-undoing.ensures in
    let tables =
    ap sides_in c.in_ok-push-2.ensures.items ∙ map-append region_sides old.tables.items (c.table.result.region ∷ [])
    ∙ ap (λ (r : Region). sides_in old.tables.items ++ region_sides r ∷ []) c.table.ensures.region in
    goes_one (PaletteStep c.args.palette.now) old _ c.requires.placed c.in_ok-transform_channel_info.ensures.ok c.in_ok-transform_channel_info.ensures.meta undos tables
