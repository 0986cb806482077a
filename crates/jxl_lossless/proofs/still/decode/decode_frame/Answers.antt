use Rattle.std.proofs.Common.{pos, true, false, List, ap, ◌∙◌, refl, sym, subst}
use Rattle.std.specs.List.{list_any}
use Rattle.std.specs.Option.{option_copied}
use Rattle.std.proofs.lemmas.Result.{err_from_is_err_and}
use Rattle.jxlm_bits.specs.Bits.{bytes_of, position_of}
use Rattle.jxlm_nested.specs.NestedParts.{nested_list}
use Rattle.jxlm_transform.specs.Channels.{image_list}
use Rattle.jxl_modular.specs.Image.{Image, image_grids}
use Rattle.jxl_modular.specs.Sections.{AreDecoded, IsComplete, SectionsFit}
use Rattle.jxl_modular.specs.declared.sections.Section.{Section}
use Rattle.jxl_lossless.specs.Places.{own_passes, section_at}
use Rattle.jxl_lossless.specs.Inner.Codewords.{AreBeyond, AreWithin}
use Rattle.jxl_lossless.specs.Inner.Listing.{SamplesStop}
use Rattle.jxl_lossless.specs.Inner.Openings.{Opens}
use Rattle.jxl_lossless.specs.Inner.Weighted.{section_is_weighted}
use Rattle.jxl_lossless.specs.Stills.{StillFails}
use Rattle.jxl_lossless.proofs.Codewords.{same_beyond, same_within}
use Rattle.jxl_lossless.proofs.Headers.{at_some}
use Rattle.jxl_lossless.proofs.Stills.{all_there, beyond_fail, weighted_fail, fit, groups_possible, list_fails, made, open_fails, samples_fail, still_sides}
use Rattle.jxl_lossless.proofs.still.decode.decode_frame.Goals as goal

pub returns-in_err-opened-clause-err : goal.returns-in_err-opened-clause-err
returns-in_err-opened-clause-err g c =
    let zero = g.S.Sealed.from_int (pos 0) in
    let global = option_copied c.args.params.ma_config in
    let bytes = bytes_of c.args.first in
    let place = position_of c.args.first in
    let e = c.in_err-opened.field-0.0 in
    let fails : StillFails g.D.Decoder.meaning g.S.Sealed.width global (image_list c.args.params.channels.items) c.args.params.group_dim c.args.params.bit_depth bytes place (own_passes c.args.places) (section_at c.args.places) c.args.trees e =
    open_fails g.D.Decoder.meaning g.S.Sealed.width g.S.Sealed.to_int zero global c.args.params.channels.items c.args.params.group_dim c.args.params.bit_depth bytes place c.args.places c.args.trees e c.in_err-opened.ensures.err in
    let p = err_from_is_err_and c.from_residual-in_err-opened.result c.from_residual-in_err-opened.ensures.1 in
    rw (p.1, p.2) fails

pub list-requires-clause-possible : goal.list-requires-clause-possible
list-requires-clause-possible g c κs within =
    let zero = g.S.Sealed.from_int (pos 0) in
    let global = option_copied c.args.params.ma_config in
    let bytes = bytes_of c.args.first in
    let place = position_of c.args.first in
    let image = c.in-Some.image in
    let q = position_of c.open_image.new.bits in
    let o = at_some (λ (i : Image g.row.S.Denot g.row.D.Denot). Opens g.D.Decoder.meaning global (image_list c.args.params.channels.items) bytes place zero c.args.params.group_dim c.args.params.bit_depth i q)
    c.in_ok-opened.opened image c.in-Some.is c.in_ok-opened.ensures.ok in
    groups_possible g.D.Decoder.meaning g.S.Sealed.width g.S.Sealed.to_int zero global c.args.params.channels.items c.args.params.group_dim c.args.params.bit_depth bytes place c.args.places c.args.trees image q o c.requires.usable c.requires.alike

pub returns-in_err-sections-clause-err : goal.returns-in_err-sections-clause-err
returns-in_err-sections-clause-err g c =
    let zero = g.S.Sealed.from_int (pos 0) in
    let global = option_copied c.args.params.ma_config in
    let bytes = bytes_of c.args.first in
    let place = position_of c.args.first in
    let image = c.in-Some.image in
    let q = position_of c.open_image.new.bits in
    let o = at_some (λ (i : Image g.row.S.Denot g.row.D.Denot). Opens g.D.Decoder.meaning global (image_list c.args.params.channels.items) bytes place zero c.args.params.group_dim c.args.params.bit_depth i q)
    c.in_ok-opened.opened image c.in-Some.is c.in_ok-opened.ensures.ok in
    let e = c.in_err-sections.field-0.0 in
    let fails : StillFails g.D.Decoder.meaning g.S.Sealed.width global (image_list c.args.params.channels.items) c.args.params.group_dim c.args.params.bit_depth bytes place (own_passes c.args.places) (section_at c.args.places) c.args.trees e =
    list_fails g.D.Decoder.meaning g.S.Sealed.width g.S.Sealed.to_int zero global c.args.params.channels.items c.args.params.group_dim c.args.params.bit_depth bytes place c.args.places c.args.trees image q o e c.in_err-sections.ensures.err in
    let p = err_from_is_err_and c.from_residual-in_err-sections.result c.from_residual-in_err-sections.ensures.1 in
    rw (p.1, p.2) fails

pub returns-then-weighted-clause-err : goal.returns-then-weighted-clause-err
returns-then-weighted-clause-err g c =
    let zero = g.S.Sealed.from_int (pos 0) in
    let global = option_copied c.args.params.ma_config in
    let bytes = bytes_of c.args.first in
    let place = position_of c.args.first in
    let image = c.in-Some.image in
    let q = position_of c.open_image.new.bits in
    let o = at_some (λ (i : Image g.row.S.Denot g.row.D.Denot). Opens g.D.Decoder.meaning global (image_list c.args.params.channels.items) bytes place zero c.args.params.group_dim c.args.params.bit_depth i q)
    c.in_ok-opened.opened image c.in-Some.is c.in_ok-opened.ensures.ok in
    let sections = c.in_ok-sections.sections.items in
    weighted_fail g.D.Decoder.meaning g.S.Sealed.width g.S.Sealed.to_int zero global c.args.params.channels.items c.args.params.group_dim c.args.params.bit_depth bytes place c.args.places c.args.trees image q o
    c.open_image.new.bits c.in_ok-opened.ensures.bytes refl sections c.in_ok-sections.ensures.listed c.in_ok-sections.ensures.cut.cells c.requires.usable c.requires.valid.channels c.requires.alike
    (ap (list_any section_is_weighted) (sym c.deref-2.ensures.value) ∙ sym c.in_ok-weighted.ensures ∙ c.if-weighted.true)

pub returns-in_err-compare_trees-clause-err : goal.returns-in_err-compare_trees-clause-err
returns-in_err-compare_trees-clause-err g c =
    let zero = g.S.Sealed.from_int (pos 0) in
    let global = option_copied c.args.params.ma_config in
    let bytes = bytes_of c.args.first in
    let place = position_of c.args.first in
    let image = c.in-Some.image in
    let q = position_of c.open_image.new.bits in
    let o = at_some (λ (i : Image g.row.S.Denot g.row.D.Denot). Opens g.D.Decoder.meaning global (image_list c.args.params.channels.items) bytes place zero c.args.params.group_dim c.args.params.bit_depth i q)
    c.in_ok-opened.opened image c.in-Some.is c.in_ok-opened.ensures.ok in
    let sections = c.in_ok-sections.sections.items in
    let e = c.in_err-compare_trees.field-0.0 in
    let beyond : AreBeyond g.D.Decoder.meaning global (image_list c.args.params.channels.items) c.args.params.group_dim bytes place (own_passes c.args.places) c.args.trees sections e =
    same_beyond g.D.Decoder.meaning global (nested_list c.in_ok-given.given.channels.items) (image_list c.args.params.channels.items) c.in_ok-given.given.group_dim c.args.params.group_dim bytes place (own_passes c.args.places) c.args.trees
    c.deref-3.result.now sections (c.in_ok-given.ensures.channels ∙ ap image_list c.deref.ensures.value) c.in_ok-given.ensures.group_dim c.deref-3.ensures.value e c.in_err-compare_trees.ensures.err in
    let fails : StillFails g.D.Decoder.meaning g.S.Sealed.width global (image_list c.args.params.channels.items) c.args.params.group_dim c.args.params.bit_depth bytes place (own_passes c.args.places) (section_at c.args.places) c.args.trees e =
    beyond_fail g.D.Decoder.meaning g.S.Sealed.width g.S.Sealed.to_int zero global c.args.params.channels.items c.args.params.group_dim c.args.params.bit_depth bytes place c.args.places c.args.trees image q o
    c.open_image.new.bits c.in_ok-opened.ensures.bytes refl sections c.in_ok-sections.ensures.listed c.in_ok-sections.ensures.cut.cells c.requires.usable c.requires.valid.channels c.requires.alike
    (ap (list_any section_is_weighted) (sym c.deref-2.ensures.value) ∙ sym c.in_ok-weighted.ensures ∙ c.if-weighted.false) e beyond in
    let p = err_from_is_err_and c.from_residual-in_err-compare_trees.result c.from_residual-in_err-compare_trees.ensures.1 in
    rw (p.1, p.2) fails

pub decode_all-requires-clause-fit : goal.decode_all-requires-clause-fit
decode_all-requires-clause-fit g c κs within =
    let zero = g.S.Sealed.from_int (pos 0) in
    let global = option_copied c.args.params.ma_config in
    let bytes = bytes_of c.args.first in
    let place = position_of c.args.first in
    let image = c.in-Some.image in
    let q = position_of c.open_image.new.bits in
    let o = at_some (λ (i : Image g.row.S.Denot g.row.D.Denot). Opens g.D.Decoder.meaning global (image_list c.args.params.channels.items) bytes place zero c.args.params.group_dim c.args.params.bit_depth i q)
    c.in_ok-opened.opened image c.in-Some.is c.in_ok-opened.ensures.ok in
    let sections = c.in_ok-sections.sections.items in
    let fits : SectionsFit image (own_passes c.args.places) sections =
    fit g.D.Decoder.meaning g.S.Sealed.width g.S.Sealed.to_int zero global c.args.params.channels.items c.args.params.group_dim c.args.params.bit_depth bytes place c.args.places c.args.trees image q o
    c.open_image.new.bits c.in_ok-opened.ensures.bytes refl sections c.in_ok-sections.ensures.listed c.in_ok-sections.ensures.cut.cells c.requires.usable c.requires.alike in
    subst (λ (i : Image g.row.S.Denot g.row.D.Denot). SectionsFit i (own_passes c.args.places) c.deref-4.result.now) (sym c.in_ok-sections.ensures.unchanged)
    (subst (λ (ss : List Section). SectionsFit image (own_passes c.args.places) ss) (sym c.deref-4.ensures.value) fits)

pub decode_all-requires-clause-complete : goal.decode_all-requires-clause-complete
decode_all-requires-clause-complete g c κs within =
    let zero = g.S.Sealed.from_int (pos 0) in
    let global = option_copied c.args.params.ma_config in
    let bytes = bytes_of c.args.first in
    let place = position_of c.args.first in
    let image = c.in-Some.image in
    let q = position_of c.open_image.new.bits in
    let o = at_some (λ (i : Image g.row.S.Denot g.row.D.Denot). Opens g.D.Decoder.meaning global (image_list c.args.params.channels.items) bytes place zero c.args.params.group_dim c.args.params.bit_depth i q)
    c.in_ok-opened.opened image c.in-Some.is c.in_ok-opened.ensures.ok in
    let sections = c.in_ok-sections.sections.items in
    let there : IsComplete image (own_passes c.args.places) sections =
    all_there g.D.Decoder.meaning g.S.Sealed.width g.S.Sealed.to_int zero global c.args.params.channels.items c.args.params.group_dim c.args.params.bit_depth bytes place c.args.places c.args.trees image q o
    c.open_image.new.bits c.in_ok-opened.ensures.bytes refl sections c.in_ok-sections.ensures.listed c.in_ok-sections.ensures.cut.cells c.requires.usable c.requires.valid.channels c.requires.alike in
    subst (λ (i : Image g.row.S.Denot g.row.D.Denot). IsComplete i (own_passes c.args.places) c.deref-4.result.now) (sym c.in_ok-sections.ensures.unchanged)
    (subst (λ (ss : List Section). IsComplete image (own_passes c.args.places) ss) (sym c.deref-4.ensures.value) there)

pub returns-in_err-decode_all-clause-err : goal.returns-in_err-decode_all-clause-err
returns-in_err-decode_all-clause-err g c =
    let zero = g.S.Sealed.from_int (pos 0) in
    let global = option_copied c.args.params.ma_config in
    let bytes = bytes_of c.args.first in
    let place = position_of c.args.first in
    let image = c.in-Some.image in
    let q = position_of c.open_image.new.bits in
    let o = at_some (λ (i : Image g.row.S.Denot g.row.D.Denot). Opens g.D.Decoder.meaning global (image_list c.args.params.channels.items) bytes place zero c.args.params.group_dim c.args.params.bit_depth i q)
    c.in_ok-opened.opened image c.in-Some.is c.in_ok-opened.ensures.ok in
    let sections = c.in_ok-sections.sections.items in
    let e = c.in_err-decode_all.field-0.0 in
    let within : AreWithin g.D.Decoder.meaning global (image_list c.args.params.channels.items) c.args.params.group_dim bytes place (own_passes c.args.places) c.args.trees sections =
    same_within g.D.Decoder.meaning global (nested_list c.in_ok-given.given.channels.items) (image_list c.args.params.channels.items) c.in_ok-given.given.group_dim c.args.params.group_dim bytes place (own_passes c.args.places) c.args.trees
    c.deref-3.result.now sections (c.in_ok-given.ensures.channels ∙ ap image_list c.deref.ensures.value) c.in_ok-given.ensures.group_dim c.deref-3.ensures.value c.in_ok-compare_trees.ensures.ok in
    let stops : SamplesStop g.D.Decoder.meaning g.S.Sealed.width g.S.Sealed.to_int zero image (own_passes c.args.places) global sections e =
    subst (λ (ss : List Section). SamplesStop g.D.Decoder.meaning g.S.Sealed.width g.S.Sealed.to_int zero image (own_passes c.args.places) global ss e) c.deref-4.ensures.value
    (subst (λ (i : Image g.row.S.Denot g.row.D.Denot). SamplesStop g.D.Decoder.meaning g.S.Sealed.width g.S.Sealed.to_int zero i (own_passes c.args.places) global c.deref-4.result.now e) c.in_ok-sections.ensures.unchanged c.in_err-decode_all.ensures.err) in
    let fails : StillFails g.D.Decoder.meaning g.S.Sealed.width global (image_list c.args.params.channels.items) c.args.params.group_dim c.args.params.bit_depth bytes place (own_passes c.args.places) (section_at c.args.places) c.args.trees e =
    samples_fail g.D.Decoder.meaning g.S.Sealed.width g.S.Sealed.to_int zero global c.args.params.channels.items c.args.params.group_dim c.args.params.bit_depth bytes place c.args.places c.args.trees image q o
    c.open_image.new.bits c.in_ok-opened.ensures.bytes refl sections c.in_ok-sections.ensures.listed c.in_ok-sections.ensures.cut.cells c.requires.usable c.requires.valid.channels c.requires.alike e (ap (list_any section_is_weighted) (sym c.deref-2.ensures.value) ∙ sym c.in_ok-weighted.ensures ∙ c.if-weighted.false) within stops in
    let p = err_from_is_err_and c.from_residual-in_err-decode_all.result c.from_residual-in_err-decode_all.ensures.1 in
    rw (p.1, p.2) fails

pub returns-clause-still : goal.returns-clause-still
returns-clause-still g c =
    let zero = g.S.Sealed.from_int (pos 0) in
    let global = option_copied c.args.params.ma_config in
    let bytes = bytes_of c.args.first in
    let place = position_of c.args.first in
    let image = c.in-Some.image in
    let q = position_of c.open_image.new.bits in
    let o = at_some (λ (i : Image g.row.S.Denot g.row.D.Denot). Opens g.D.Decoder.meaning global (image_list c.args.params.channels.items) bytes place zero c.args.params.group_dim c.args.params.bit_depth i q)
    c.in_ok-opened.opened image c.in-Some.is c.in_ok-opened.ensures.ok in
    let sections = c.in_ok-sections.sections.items in
    let grids = image_grids g.S.Sealed.to_int c.decode_all.new.image in
    let before = c.args.steps.now in
    let after = c.decode_all.new.steps in
    let within : AreWithin g.D.Decoder.meaning global (image_list c.args.params.channels.items) c.args.params.group_dim bytes place (own_passes c.args.places) c.args.trees sections =
    same_within g.D.Decoder.meaning global (nested_list c.in_ok-given.given.channels.items) (image_list c.args.params.channels.items) c.in_ok-given.given.group_dim c.args.params.group_dim bytes place (own_passes c.args.places) c.args.trees
    c.deref-3.result.now sections (c.in_ok-given.ensures.channels ∙ ap image_list c.deref.ensures.value) c.in_ok-given.ensures.group_dim c.deref-3.ensures.value c.in_ok-compare_trees.ensures.ok in
    let done : AreDecoded g.D.Decoder.meaning g.S.Sealed.width g.S.Sealed.to_int zero image (own_passes c.args.places) global sections grids before after =
    subst (λ (ss : List Section). AreDecoded g.D.Decoder.meaning g.S.Sealed.width g.S.Sealed.to_int zero image (own_passes c.args.places) global ss grids before after) c.deref-4.ensures.value
    (subst (λ (i : Image g.row.S.Denot g.row.D.Denot). AreDecoded g.D.Decoder.meaning g.S.Sealed.width g.S.Sealed.to_int zero i (own_passes c.args.places) global c.deref-4.result.now grids before after) c.in_ok-sections.ensures.unchanged c.in_ok-decode_all.ensures.ok) in
    made g.D.Decoder.meaning g.S.Sealed.width g.S.Sealed.to_int zero global c.args.params.channels.items c.args.params.group_dim c.args.params.bit_depth bytes place c.args.places c.args.trees image q o
    c.open_image.new.bits c.in_ok-opened.ensures.bytes refl sections c.in_ok-sections.ensures.listed c.in_ok-sections.ensures.cut.cells c.requires.usable c.requires.valid.channels c.requires.alike (ap (list_any section_is_weighted) (sym c.deref-2.ensures.value) ∙ sym c.in_ok-weighted.ensures ∙ c.if-weighted.false) within grids before after done

pub returns-clause-sides : goal.returns-clause-sides
returns-clause-sides g c =
    still_sides g.D.Decoder.meaning g.S.Sealed.width g.S.Sealed.to_int (g.S.Sealed.from_int (pos 0)) (option_copied c.args.params.ma_config) c.args.params.channels.items c.args.params.group_dim c.args.params.bit_depth
    (bytes_of c.args.first) (position_of c.args.first) c.args.places c.args.trees (image_grids g.S.Sealed.to_int c.decode_all.new.image) c.args.steps.now c.decode_all.new.steps (returns-clause-still g c)
