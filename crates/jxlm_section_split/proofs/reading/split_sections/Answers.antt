use Rattle.std.proofs.Common.{◌∙◌, ◌≡◌, ◌∷◌, [], false, refl, sym, subst, IsTrue, rules}
use Rattle.jxlm_groups.specs.Passes.{can_group}
use Rattle.jxlm_groups.specs.declared.part.SectionPart.TheVariants as parts
use Rattle.jxl_modular.specs.GroupParts.{image_of, passes_in}
use Rattle.jxl_modular.specs.declared.sections.Section.{Section}
use Rattle.jxlm_section_split.specs.Splitting.{ReadingFails}
use Rattle.jxlm_section_split.proofs.SectionRows.{all_added, high_failed, low_failed}
use Rattle.jxlm_section_split.proofs.reading.split_sections.Goals as goal

pub prepare_groups-requires-clause-possible : goal.prepare_groups-requires-clause-possible
prepare_groups-requires-clause-possible g c κs within = subst (λ ps. IsTrue (can_group ps c.args.image.now.given)) (sym c.requires.one) c.requires.possible

pub add_low-requires-after_bounds : goal.add_low-requires-after_bounds
add_low-requires-after_bounds g c κs within = c.in_ok-groups.ensures.passes ∙ c.requires.one

pub add_pass-requires-after_bounds : goal.add_pass-requires-after_bounds
add_pass-requires-after_bounds g c κs within = c.in_ok-groups.ensures.passes ∙ c.requires.one

pub returns-clause-read : goal.returns-clause-read
returns-clause-read g c =
    let global : Section = record { part = parts.Global; bits = c.args.first; stream_index = 0; nested = false } in
    let begun : c.push.new.self.items ≡ global ∷ [] = search rules in
    record {
      global = global;
      of_global = record { part = refl; stream = refl; nested = refl };
      goes_on = refl;
      rest = c.add_pass.new.self.rest.now;
      added = all_added c.args.image.now (image_of c.in_ok-groups.groups) (passes_in c.in_ok-groups.groups) (global ∷ []) c.push.new.self.items c.args.rest.now
          c.add_low.new.self.list.items c.add_low.new.self.rest.now c.add_pass.new.self.list.items c.add_pass.new.self.rest.now c.in_ok-groups.ensures.unchanged
          (c.in_ok-groups.ensures.passes ∙ c.requires.one) begun c.in_ok-add_low.ensures.ok c.in_ok-add_pass.ensures.ok;
    }

pub returns-in_err-add_low-clause-err : goal.returns-in_err-add_low-clause-err
returns-in_err-add_low-clause-err g c =
    let e = c.in_err-add_low.field-0.0 in
    let fails : ReadingFails c.args.image.now c.args.rest.now e =
    low_failed c.args.image.now (image_of c.in_ok-groups.groups) (passes_in c.in_ok-groups.groups) c.args.rest.now e c.in_ok-groups.ensures.unchanged
    (c.in_ok-groups.ensures.passes ∙ c.requires.one) c.in_ok-groups.ensures.cut.cells c.in_err-add_low.ensures.err in
    search rules

pub returns-in_err-add_pass-clause-err : goal.returns-in_err-add_pass-clause-err
returns-in_err-add_pass-clause-err g c =
    let e = c.in_err-add_pass.field-0.0 in
    let fails : ReadingFails c.args.image.now c.args.rest.now e =
    high_failed c.args.image.now (image_of c.in_ok-groups.groups) (passes_in c.in_ok-groups.groups) c.args.rest.now e c.push.new.self.items c.add_low.new.self.list.items
    c.add_low.new.self.rest.now c.in_ok-groups.ensures.unchanged (c.in_ok-groups.ensures.passes ∙ c.requires.one) c.in_ok-groups.ensures.cut.cells
    c.in_ok-add_low.ensures.ok c.in_err-add_pass.ensures.err in
    search rules
