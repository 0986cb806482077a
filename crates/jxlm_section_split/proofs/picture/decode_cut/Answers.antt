use Rattle.std.proofs.Common.{◌≡◌, ◌∙◌, IsTrue, Some, None, Ok, pos, refl, sym, ap, subst}
use Rattle.std.specs.Option.{option_copied}
use Rattle.std.proofs.lemmas.Result.{err_from_is_err_and}
use Rattle.jxlm_bits.specs.Bits.{bytes_of, position_of}
use Rattle.jxlm_bits.specs.ErrorKind.{UnlessMemory, kind_of}
use Rattle.jxlm_transform.specs.Channels.{image_list}
use Rattle.jxlm_groups.specs.Passes.{one_picture, passes_of}
use Rattle.jxl_modular.specs.Image.{Image, image_grids}
use Rattle.jxl_modular.specs.Parsing.{image_of}
use Rattle.jxl_modular.specs.Sections.{AreDecoded, SectionsFit, SectionsLeave, SectionsStop}
use Rattle.jxlm_section_split.specs.CutPicture.{one_pass}
use Rattle.jxlm_section_split.proofs.Pictures.{Fails, can_be_grouped, first_fails, has_begun, header_fails, left_sides, picture_left, picture_made, picture_whole, reading_fails, samples_fail, sections_fit}
use Rattle.jxlm_section_split.proofs.picture.decode_cut.Goals as goal

pub returns-in_err-first-clause-err : goal.returns-in_err-first-clause-err
returns-in_err-first-clause-err g c =
    let zero = g.S.Sealed.from_int (pos 0) in
    let e = c.in_err-first.field-0.0 in
    let fails : UnlessMemory (kind_of e) (Fails g.D.Decoder.meaning g.S.Sealed.width g.S.Sealed.to_int zero c.args.params c.args.bytes.now c.requires.local c.args.allow_partial (kind_of e)) =
    first_fails g.D.Decoder.meaning g.S.Sealed.width g.S.Sealed.to_int zero c.args.params c.args.bytes.now c.requires.local c.args.allow_partial e (ap kind_of c.in_err-first.ensures.0) c.in_err-first.ensures.1 in
    let p = err_from_is_err_and c.from_residual.result c.from_residual.ensures.1 in
    rw (p.1, p.2) fails

pub returns-in_err-modular-clause-err : goal.returns-in_err-modular-clause-err
returns-in_err-modular-clause-err g c =
    let zero = g.S.Sealed.from_int (pos 0) in
    let e = c.in_err-modular.field-0.0 in
    let fails : UnlessMemory (kind_of e) (Fails g.D.Decoder.meaning g.S.Sealed.width g.S.Sealed.to_int zero c.args.params c.args.bytes.now c.requires.local c.args.allow_partial (kind_of e)) =
    header_fails g.D.Decoder.meaning g.S.Sealed.width g.S.Sealed.to_int zero c.args.params c.args.bytes.now c.requires.local c.args.allow_partial c.in_ok-first.first.now c.in_ok-first.rest.now (bytes_of c.new-bits.result) (position_of c.new-bits.result)
    (position_of c.parse.new.bits) e c.in_ok-first.ensures c.new-bits.ensures.bytes c.new-bits.ensures.position c.in_err-modular.ensures.gives in
    let p = err_from_is_err_and c.from_residual-in_err-modular.result c.from_residual-in_err-modular.ensures.1 in
    rw (p.1, p.2) fails

pub split_sections-requires-clause-possible : goal.split_sections-requires-clause-possible
split_sections-requires-clause-possible g c κs within =
    let zero = g.S.Sealed.from_int (pos 0) in
    let image = c.in-Some.image in
    let q = position_of c.parse.new.bits in
    let some : image_of c.in_ok-modular.modular ≡ Some image = sym c.into_image.ensures ∙ c.in-Some.is in
    let b = has_begun g.D.Decoder.meaning g.S.Sealed.width g.S.Sealed.to_int zero c.args.params c.args.bytes.now c.requires.local c.args.allow_partial c.in_ok-first.first.now c.in_ok-first.rest.now (bytes_of c.new-bits.result) (position_of c.new-bits.result)
    q c.in_ok-modular.modular image c.in_ok-first.ensures c.new-bits.ensures.bytes c.new-bits.ensures.position c.in_ok-modular.ensures.gives some in
    can_be_grouped image.given (subst (λ (i : Image g.row.S.Denot g.row.D.Denot). IsTrue (one_picture i.given)) (sym b.image_is) c.requires.alike)

pub returns-in_err-sections-clause-err : goal.returns-in_err-sections-clause-err
returns-in_err-sections-clause-err g c =
    let zero = g.S.Sealed.from_int (pos 0) in
    let image = c.in-Some.image in
    let q = position_of c.parse.new.bits in
    let e = c.in_err-sections.field-0.0 in
    let some : image_of c.in_ok-modular.modular ≡ Some image = sym c.into_image.ensures ∙ c.in-Some.is in
    let b = has_begun g.D.Decoder.meaning g.S.Sealed.width g.S.Sealed.to_int zero c.args.params c.args.bytes.now c.requires.local c.args.allow_partial c.in_ok-first.first.now c.in_ok-first.rest.now (bytes_of c.new-bits.result) (position_of c.new-bits.result)
    q c.in_ok-modular.modular image c.in_ok-first.ensures c.new-bits.ensures.bytes c.new-bits.ensures.position c.in_ok-modular.ensures.gives some in
    let fails : UnlessMemory (kind_of e) (Fails g.D.Decoder.meaning g.S.Sealed.width g.S.Sealed.to_int zero c.args.params c.args.bytes.now c.requires.local c.args.allow_partial (kind_of e)) =
    reading_fails g.D.Decoder.meaning g.S.Sealed.width g.S.Sealed.to_int zero c.args.params c.args.bytes.now c.requires.local c.args.allow_partial c.in_ok-first.first.now c.in_ok-first.rest.now image q b e c.in_err-sections.ensures.err in
    let p = err_from_is_err_and c.from_residual-in_err-sections.result c.from_residual-in_err-sections.ensures.1 in
    rw (p.1, p.2) fails

pub decode_sections-requires-clause-fit : goal.decode_sections-requires-clause-fit
decode_sections-requires-clause-fit g c κs within =
    let zero = g.S.Sealed.from_int (pos 0) in
    let image = c.in-Some.image in
    let q = position_of c.parse.new.bits in
    let first = c.in_ok-first.first.now in
    let rest = c.in_ok-first.rest.now in
    let some : image_of c.in_ok-modular.modular ≡ Some image = sym c.into_image.ensures ∙ c.in-Some.is in
    let b = has_begun g.D.Decoder.meaning g.S.Sealed.width g.S.Sealed.to_int zero c.args.params c.args.bytes.now c.requires.local c.args.allow_partial first rest (bytes_of c.new-bits.result) (position_of c.new-bits.result)
    q c.in_ok-modular.modular image c.in_ok-first.ensures c.new-bits.ensures.bytes c.new-bits.ensures.position c.in_ok-modular.ensures.gives some in
    let bits_are : bytes_of c.parse.new.bits ≡ first = c.in_ok-modular.ensures.bytes ∙ c.new-bits.ensures.bytes in
    let sections = c.in_ok-sections.sections.items in
    let same : c.split_sections.new.image ≡ image = c.in_ok-sections.ensures.unchanged in
    let passes : passes_of c.in_ok-passes.passes.entries ≡ one_pass = c.in_ok-passes.ensures in
    let alike : IsTrue (one_picture image.given) = subst (λ (i : Image g.row.S.Denot g.row.D.Denot). IsTrue (one_picture i.given)) (sym b.image_is) c.requires.alike in
    let fit : SectionsFit image one_pass sections =
    sections_fit g.D.Decoder.meaning g.S.Sealed.width g.S.Sealed.to_int zero c.args.params c.args.bytes.now c.requires.local c.args.allow_partial first rest image q b c.parse.new.bits bits_are refl sections
    c.in_ok-sections.ensures.read c.in_ok-sections.ensures.cut.cells (can_be_grouped image.given alike) in
    subst (λ (i : Image g.row.S.Denot g.row.D.Denot). SectionsFit i (passes_of c.in_ok-passes.passes.entries) c.deref.result.now) (sym same)
    (subst (λ ps. SectionsFit image ps c.deref.result.now) (sym passes) (subst (λ ss. SectionsFit image one_pass ss) (sym c.deref.ensures.value) fit))

pub returns-in_err-whole-clause-err : goal.returns-in_err-whole-clause-err
returns-in_err-whole-clause-err g c =
    let zero = g.S.Sealed.from_int (pos 0) in
    let image = c.in-Some.image in
    let q = position_of c.parse.new.bits in
    let first = c.in_ok-first.first.now in
    let rest = c.in_ok-first.rest.now in
    let some : image_of c.in_ok-modular.modular ≡ Some image = sym c.into_image.ensures ∙ c.in-Some.is in
    let b = has_begun g.D.Decoder.meaning g.S.Sealed.width g.S.Sealed.to_int zero c.args.params c.args.bytes.now c.requires.local c.args.allow_partial first rest (bytes_of c.new-bits.result) (position_of c.new-bits.result)
    q c.in_ok-modular.modular image c.in_ok-first.ensures c.new-bits.ensures.bytes c.new-bits.ensures.position c.in_ok-modular.ensures.gives some in
    let bits_are : bytes_of c.parse.new.bits ≡ first = c.in_ok-modular.ensures.bytes ∙ c.new-bits.ensures.bytes in
    let sections = c.in_ok-sections.sections.items in
    let same : c.split_sections.new.image ≡ image = c.in_ok-sections.ensures.unchanged in
    let passes : passes_of c.in_ok-passes.passes.entries ≡ one_pass = c.in_ok-passes.ensures in
    let e = c.in_err-whole.field-0.0 in
    let left = c.decode_sections.new.image.store in
    let before = c.args.steps.now in
    let after = c.decode_sections.new.steps in
    let stop : SectionsStop g.D.Decoder.meaning g.S.Sealed.width g.S.Sealed.to_int zero image one_pass None c.args.allow_partial sections e image.store left before after =
    subst (λ t. SectionsStop g.D.Decoder.meaning g.S.Sealed.width g.S.Sealed.to_int zero image one_pass t c.args.allow_partial sections e image.store left before after) c.requires.local
    (subst (λ ss. SectionsStop g.D.Decoder.meaning g.S.Sealed.width g.S.Sealed.to_int zero image one_pass (option_copied c.args.params.ma_config) c.args.allow_partial ss e image.store left before after) c.deref.ensures.value
    (subst (λ ps. SectionsStop g.D.Decoder.meaning g.S.Sealed.width g.S.Sealed.to_int zero image ps (option_copied c.args.params.ma_config) c.args.allow_partial c.deref.result.now e image.store left before after) passes
    (subst (λ (i : Image g.row.S.Denot g.row.D.Denot). SectionsStop g.D.Decoder.meaning g.S.Sealed.width g.S.Sealed.to_int zero i (passes_of c.in_ok-passes.passes.entries) (option_copied c.args.params.ma_config) c.args.allow_partial c.deref.result.now e i.store left before after) same
    c.in_err-whole.ensures.stopped))) in
    let fails : UnlessMemory (kind_of e) (Fails g.D.Decoder.meaning g.S.Sealed.width g.S.Sealed.to_int zero c.args.params c.args.bytes.now c.requires.local c.args.allow_partial (kind_of e)) =
    samples_fail g.D.Decoder.meaning g.S.Sealed.width g.S.Sealed.to_int zero c.args.params c.args.bytes.now c.requires.local c.args.allow_partial first rest image q b c.parse.new.bits bits_are refl sections
    c.in_ok-sections.ensures.read c.in_ok-sections.ensures.cut.cells e left before after stop in
    let p = err_from_is_err_and c.from_residual-in_err-whole.result c.from_residual-in_err-whole.ensures.1 in
    rw (p.1, p.2) fails

pub returns-clause-left : goal.returns-clause-left
returns-clause-left g c =
    let zero = g.S.Sealed.from_int (pos 0) in
    let image = c.in-Some.image in
    let q = position_of c.parse.new.bits in
    let first = c.in_ok-first.first.now in
    let rest = c.in_ok-first.rest.now in
    let some : image_of c.in_ok-modular.modular ≡ Some image = sym c.into_image.ensures ∙ c.in-Some.is in
    let b = has_begun g.D.Decoder.meaning g.S.Sealed.width g.S.Sealed.to_int zero c.args.params c.args.bytes.now c.requires.local c.args.allow_partial first rest (bytes_of c.new-bits.result) (position_of c.new-bits.result)
    q c.in_ok-modular.modular image c.in_ok-first.ensures c.new-bits.ensures.bytes c.new-bits.ensures.position c.in_ok-modular.ensures.gives some in
    let bits_are : bytes_of c.parse.new.bits ≡ first = c.in_ok-modular.ensures.bytes ∙ c.new-bits.ensures.bytes in
    let sections = c.in_ok-sections.sections.items in
    let same : c.split_sections.new.image ≡ image = c.in_ok-sections.ensures.unchanged in
    let passes : passes_of c.in_ok-passes.passes.entries ≡ one_pass = c.in_ok-passes.ensures in
    let grids = image_grids g.S.Sealed.to_int c.decode_sections.new.image in
    let before = c.args.steps.now in
    let after = c.decode_sections.new.steps in
    let whole = c.in_ok-whole.whole in
    let leave : SectionsLeave g.D.Decoder.meaning g.S.Sealed.width g.S.Sealed.to_int zero image one_pass None c.args.allow_partial sections whole image.store grids before after =
    subst (λ t. SectionsLeave g.D.Decoder.meaning g.S.Sealed.width g.S.Sealed.to_int zero image one_pass t c.args.allow_partial sections whole image.store grids before after) c.requires.local
    (subst (λ ss. SectionsLeave g.D.Decoder.meaning g.S.Sealed.width g.S.Sealed.to_int zero image one_pass (option_copied c.args.params.ma_config) c.args.allow_partial ss whole image.store grids before after) c.deref.ensures.value
    (subst (λ ps. SectionsLeave g.D.Decoder.meaning g.S.Sealed.width g.S.Sealed.to_int zero image ps (option_copied c.args.params.ma_config) c.args.allow_partial c.deref.result.now whole image.store grids before after) passes
    (subst (λ (i : Image g.row.S.Denot g.row.D.Denot). SectionsLeave g.D.Decoder.meaning g.S.Sealed.width g.S.Sealed.to_int zero i (passes_of c.in_ok-passes.passes.entries) (option_copied c.args.params.ma_config) c.args.allow_partial c.deref.result.now whole i.store grids before after) same
    c.in_ok-whole.ensures.left))) in
    picture_left g.D.Decoder.meaning g.S.Sealed.width g.S.Sealed.to_int zero c.args.params c.args.bytes.now c.requires.local c.args.allow_partial first rest image q b c.parse.new.bits bits_are refl sections
    c.in_ok-sections.ensures.read c.in_ok-sections.ensures.cut.cells whole grids before after leave

pub returns-clause-whole : goal.returns-clause-whole
returns-clause-whole g c never =
    let zero = g.S.Sealed.from_int (pos 0) in
    let image = c.in-Some.image in
    let q = position_of c.parse.new.bits in
    let first = c.in_ok-first.first.now in
    let rest = c.in_ok-first.rest.now in
    let some : image_of c.in_ok-modular.modular ≡ Some image = sym c.into_image.ensures ∙ c.in-Some.is in
    let b = has_begun g.D.Decoder.meaning g.S.Sealed.width g.S.Sealed.to_int zero c.args.params c.args.bytes.now c.requires.local c.args.allow_partial first rest (bytes_of c.new-bits.result) (position_of c.new-bits.result)
    q c.in_ok-modular.modular image c.in_ok-first.ensures c.new-bits.ensures.bytes c.new-bits.ensures.position c.in_ok-modular.ensures.gives some in
    let bits_are : bytes_of c.parse.new.bits ≡ first = c.in_ok-modular.ensures.bytes ∙ c.new-bits.ensures.bytes in
    let sections = c.in_ok-sections.sections.items in
    let same : c.split_sections.new.image ≡ image = c.in_ok-sections.ensures.unchanged in
    let passes : passes_of c.in_ok-passes.passes.entries ≡ one_pass = c.in_ok-passes.ensures in
    let grids = image_grids g.S.Sealed.to_int c.decode_sections.new.image in
    let before = c.args.steps.now in
    let after = c.decode_sections.new.steps in
    let whole = c.in_ok-whole.whole in
    let leave : SectionsLeave g.D.Decoder.meaning g.S.Sealed.width g.S.Sealed.to_int zero image one_pass None c.args.allow_partial sections whole image.store grids before after =
    subst (λ t. SectionsLeave g.D.Decoder.meaning g.S.Sealed.width g.S.Sealed.to_int zero image one_pass t c.args.allow_partial sections whole image.store grids before after) c.requires.local
    (subst (λ ss. SectionsLeave g.D.Decoder.meaning g.S.Sealed.width g.S.Sealed.to_int zero image one_pass (option_copied c.args.params.ma_config) c.args.allow_partial ss whole image.store grids before after) c.deref.ensures.value
    (subst (λ ps. SectionsLeave g.D.Decoder.meaning g.S.Sealed.width g.S.Sealed.to_int zero image ps (option_copied c.args.params.ma_config) c.args.allow_partial c.deref.result.now whole image.store grids before after) passes
    (subst (λ (i : Image g.row.S.Denot g.row.D.Denot). SectionsLeave g.D.Decoder.meaning g.S.Sealed.width g.S.Sealed.to_int zero i (passes_of c.in_ok-passes.passes.entries) (option_copied c.args.params.ma_config) c.args.allow_partial c.deref.result.now whole i.store grids before after) same
    c.in_ok-whole.ensures.left))) in
    picture_whole g.D.Decoder.meaning g.S.Sealed.width g.S.Sealed.to_int zero c.args.params c.args.bytes.now c.requires.local c.args.allow_partial first rest image q b c.parse.new.bits bits_are refl sections
    c.in_ok-sections.ensures.read c.in_ok-sections.ensures.cut.cells c.requires.valid.channels c.requires.alike never whole grids before after leave

pub returns-clause-picture : goal.returns-clause-picture
returns-clause-picture g c is =
    let zero = g.S.Sealed.from_int (pos 0) in
    let image = c.in-Some.image in
    let q = position_of c.parse.new.bits in
    let first = c.in_ok-first.first.now in
    let rest = c.in_ok-first.rest.now in
    let some : image_of c.in_ok-modular.modular ≡ Some image = sym c.into_image.ensures ∙ c.in-Some.is in
    let b = has_begun g.D.Decoder.meaning g.S.Sealed.width g.S.Sealed.to_int zero c.args.params c.args.bytes.now c.requires.local c.args.allow_partial first rest (bytes_of c.new-bits.result) (position_of c.new-bits.result)
    q c.in_ok-modular.modular image c.in_ok-first.ensures c.new-bits.ensures.bytes c.new-bits.ensures.position c.in_ok-modular.ensures.gives some in
    let bits_are : bytes_of c.parse.new.bits ≡ first = c.in_ok-modular.ensures.bytes ∙ c.new-bits.ensures.bytes in
    let sections = c.in_ok-sections.sections.items in
    let same : c.split_sections.new.image ≡ image = c.in_ok-sections.ensures.unchanged in
    let passes : passes_of c.in_ok-passes.passes.entries ≡ one_pass = c.in_ok-passes.ensures in
    let grids = image_grids g.S.Sealed.to_int c.decode_sections.new.image in
    let before = c.args.steps.now in
    let after = c.decode_sections.new.steps in
    let whole = c.in_ok-whole.whole in
    picture_made g.D.Decoder.meaning g.S.Sealed.width g.S.Sealed.to_int zero c.args.params c.args.bytes.now c.requires.local c.args.allow_partial first rest image q b c.parse.new.bits bits_are refl sections
    c.in_ok-sections.ensures.read c.in_ok-sections.ensures.cut.cells
    grids before after
    (subst (λ t. AreDecoded g.D.Decoder.meaning g.S.Sealed.width g.S.Sealed.to_int zero image one_pass t sections grids before after) c.requires.local
    (subst (λ ss. AreDecoded g.D.Decoder.meaning g.S.Sealed.width g.S.Sealed.to_int zero image one_pass (option_copied c.args.params.ma_config) ss grids before after) c.deref.ensures.value
    (subst (λ ps. AreDecoded g.D.Decoder.meaning g.S.Sealed.width g.S.Sealed.to_int zero image ps (option_copied c.args.params.ma_config) c.deref.result.now grids before after) passes
    (subst (λ (i : Image g.row.S.Denot g.row.D.Denot). AreDecoded g.D.Decoder.meaning g.S.Sealed.width g.S.Sealed.to_int zero i (passes_of c.in_ok-passes.passes.entries) (option_copied c.args.params.ma_config) c.deref.result.now grids before after) same
    (c.in_ok-whole.ensures.decoded (ap Ok is))))))

pub returns-clause-sides : goal.returns-clause-sides
returns-clause-sides g c =
    let zero = g.S.Sealed.from_int (pos 0) in
    left_sides g.D.Decoder.meaning g.S.Sealed.width g.S.Sealed.to_int zero (image_list c.args.params.channels.items) c.args.params.group_dim c.args.params.bit_depth c.args.bytes.now c.args.allow_partial
    (image_grids g.S.Sealed.to_int c.decode_sections.new.image) c.in_ok-whole.whole c.args.steps.now c.decode_sections.new.steps (returns-clause-left g c)
