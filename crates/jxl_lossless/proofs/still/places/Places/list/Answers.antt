use Rattle.std.proofs.Common.{◌≡◌, ◌∷◌, [], false, refl, rules}
use Rattle.jxlm_groups.specs.declared.part.SectionPart.TheVariants as parts
use Rattle.jxl_modular.specs.GroupParts.{image_of, passes_in}
use Rattle.jxl_modular.specs.declared.sections.Section.{Section}
use Rattle.jxl_lossless.specs.Inner.Listing.{ListingFails}
use Rattle.jxl_lossless.proofs.Listings.{all_added, passes_failed, low_failed}
use Rattle.jxl_lossless.proofs.still.places.Places.list.Goals as goal

pub returns-clause-listed : goal.returns-clause-listed
returns-clause-listed g c =
    let global : Section = record { part = parts.Global; bits = c.args.first; stream_index = 0; nested = false } in
    let begun : c.push.new.self.items ≡ global ∷ [] = search rules in
    record {
      global = global;
      of_global = refl;
      goes_on = refl;
      added = all_added c.args.self.now c.args.image.now (image_of c.in-Ok.groups) (passes_in c.in-Ok.groups) (global ∷ []) c.push.new.self.items
          c.add_all_low.new.list.items c.add_all_passes.new.list.items c.in-Ok.ensures.unchanged c.in-Ok.ensures.passes begun c.in_ok-add_all_low.ensures.ok c.in_ok-add_all_passes.ensures.ok;
    }

pub returns-in_err-add_all_low-clause-err : goal.returns-in_err-add_all_low-clause-err
returns-in_err-add_all_low-clause-err g c =
    let e = c.in_err-add_all_low.field-0.0 in
    let fails : ListingFails c.args.self.now c.args.image.now e =
    low_failed c.args.self.now c.args.image.now (image_of c.in-Ok.groups) (passes_in c.in-Ok.groups) e c.in-Ok.ensures.unchanged c.in-Ok.ensures.passes c.in-Ok.ensures.cut c.in_err-add_all_low.ensures.err in
    search rules

pub returns-in_err-add_all_passes-clause-err : goal.returns-in_err-add_all_passes-clause-err
returns-in_err-add_all_passes-clause-err g c =
    let e = c.in_err-add_all_passes.field-0.0 in
    let fails : ListingFails c.args.self.now c.args.image.now e =
    passes_failed c.args.self.now c.args.image.now (image_of c.in-Ok.groups) (passes_in c.in-Ok.groups) e c.in-Ok.ensures.unchanged c.in-Ok.ensures.passes c.in-Ok.ensures.cut c.in_err-add_all_passes.ensures.err in
    search rules
