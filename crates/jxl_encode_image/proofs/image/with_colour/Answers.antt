use Rattle.std.proofs.Common.{◌≡◌, ℕ, List, ◌<◌, length, Option, rules, sym, subst}
use Rattle.std.specs.Option.{IfSome}
use Rattle.std.specs.List.{All}
use Rattle.jxlm_chain.specs.Steps.{CanUndoAll}
use Rattle.jxlm_chain.specs.Undo.{UndoesAll}
use Rattle.jxlm_chain.specs.Undoings.{undos_of}
use Rattle.jxlm_chain.specs.declared.undo.Undoing.{Undoing}
use Rattle.jxlm_encode_transform.specs.Redo.{UndoesNoPalette}
use Rattle.jxl_encode_image.specs.Preparations.{IsFileRct}
use Rattle.jxlm_transform.specs.declared.transform.Rct.{Rct}
use Rattle.jxl_encode_image.specs.Inner.Placing.{GoesOnTo}
use Rattle.jxl_encode_image.specs.declared.transform.ImageTransform.{ImageTransform}
use Rattle.jxl_encode_image.proofs.ColourSteps.{colour_goes, colour_no_palette, colour_runs}
use Rattle.jxl_encode_image.proofs.image.with_colour.Goals as goal

pub placed_after-requires-clause-spelled : goal.placed_after-requires-clause-spelled
placed_after-requires-clause-spelled g c = subst (λ (o : Option Rct). IfSome o (λ t. IsFileRct t)) c.in-Some.is c.colour_for-found.ensures.spelled

pub run_in-requires-clause-can : goal.run_in-requires-clause-can
run_in-requires-clause-can g c = λ κs within.
    let spelled = subst (λ (o : Option Rct). IfSome o (λ t. IsFileRct t)) c.in-Some.is c.colour_for-found.ensures.spelled in
    subst (λ (us : List Undoing). CanUndoAll c.args.image.store.items (undos_of us)) (sym c.deref.ensures.value)
    (colour_runs c.in-Some.colour spelled c.args.image.channels c.args.image.store.items c.requires c.in_ok-placed.placed c.in_ok-placed.ensures)

pub run_in-requires-clause-no_palettes : goal.run_in-requires-clause-no_palettes
run_in-requires-clause-no_palettes g c = λ κs within.
    let spelled = subst (λ (o : Option Rct). IfSome o (λ t. IsFileRct t)) c.in-Some.is c.colour_for-found.ensures.spelled in
    subst (λ (us : List Undoing). All UndoesNoPalette (undos_of us)) (sym c.deref.ensures.value)
    (colour_no_palette c.in-Some.colour spelled c.args.image.channels c.args.image.store.items c.requires c.in_ok-placed.placed c.in_ok-placed.ensures)

pub returns-in_default : goal.returns-in_default
returns-in_default g c = λ given image h. h

pub returns : goal.returns
returns g c =
    let spelled = subst (λ (o : Option Rct). IfSome o (λ t. IsFileRct t)) c.in-Some.is c.colour_for-found.ensures.spelled in
    let counted = subst (λ (o : Option Rct). IfSome o (λ _. c.len.result < 273)) c.in-Some.is c.colour_for-found.ensures.few in
    let long : c.len.result ≡ length c.args.image.transforms.items = search rules in
    let few = subst (λ n. n < 273) long counted in
    let undone : (depth : ℕ) → UndoesAll g.S.Sealed.to_int g.S.Sealed.width depth (undos_of c.in_ok-placed.placed.undoings.items) c.in_ok-coded.coded.items c.args.image.store.items =
    λ depth. subst (λ (us : List Undoing). UndoesAll g.S.Sealed.to_int g.S.Sealed.width depth (undos_of us) c.in_ok-coded.coded.items c.args.image.store.items) c.deref.ensures.value (c.in_ok-coded.ensures.redone depth) in
    subst (λ (ts : List ImageTransform). GoesOnTo g.S.Sealed.to_int g.S.Sealed.width c.args.image.channels c.args.image.store.items c.args.image.transforms.items c.in_ok-placed.placed.channels c.in_ok-coded.coded.items ts) (sym c.in_ok-list.ensures)
    (colour_goes c.in-Some.colour spelled c.args.image.channels c.args.image.store.items c.requires c.in_ok-placed.placed c.in_ok-placed.ensures c.in_ok-coded.coded.items c.in_ok-coded.ensures.shape
    g.S.Sealed.to_int g.S.Sealed.width undone c.args.image.transforms.items few)
