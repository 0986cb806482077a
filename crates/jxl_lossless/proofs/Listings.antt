-- The sections of an image, or why there are none.
use Rattle.std.proofs.Common.{◌≡◌, IsTrue, List, subst}
use Rattle.jxlm_groups.specs.Cutting.{can_cut}
use Rattle.jxlm_groups.specs.declared.part.SectionPart.{SectionPart}
use Rattle.jxlm_groups.specs.declared.pass.Pass.{Pass}
use Rattle.jxl_modular.specs.GroupParts.{pass_count}
use Rattle.jxl_modular.specs.Groups.{IsCut}
use Rattle.jxl_modular.specs.Image.{Image, coded_list}
use Rattle.jxl_modular.specs.declared.sections.Section.{Section}
use Rattle.jxlm_section_split.proofs.PartLists.{IsAmong, among_left, among_right}
use Rattle.jxl_lossless.specs.Inner.Listing.{AddingFails, AreAdded, ListingFails}
use Rattle.jxl_lossless.specs.Parts.{groups_in_order, low_parts, parts_of_passes}
use Rattle.jxl_lossless.specs.Places.{own_passes}
use Rattle.jxl_lossless.specs.declared.still.error.FrameError.{FrameError}
use Rattle.jxl_lossless.specs.declared.still.error.FrameError.TheVariants as errors
use Rattle.jxl_lossless.specs.declared.still.places.Places.{Places}
use Rattle.jxl_lossless.proofs.Adding.{added_then, fails_wider}

-- what fails for all parts of an image fails for it
of_all : {S D : Type 0} (x : Places) (image : Image S D) → (e : FrameError) → IsTrue (can_cut image.group_dim (coded_list image)) → AddingFails x (groups_in_order image (own_passes x)) e → ListingFails x image e
of_all x image errors.NoSection cut h = (cut, h)
of_all x image errors.OutOfMemory cut h = tt
of_all x image (errors.Header e) cut h = absurd h
of_all x image errors.WeightedPalette cut h = absurd h
of_all x image errors.NoGroups cut h = absurd h
of_all x image errors.GroupWeightedPalette cut h = absurd h
of_all x image errors.TooManyCodewords cut h = absurd h
of_all x image errors.TooManyDecisions cut h = absurd h
of_all x image (errors.Samples e) cut h = absurd h

module _ {S D : Type 0} (x : Places) where
  abbrev high : Image S D → List Pass → List SectionPart
  high image ps = parts_of_passes image ps (pass_count ps)

  abbrev own : Image S D → List SectionPart
  own image = groups_in_order image (own_passes x)

  -- what fails for some of its parts does, too
  some_failed : (part : Image S D → List Pass → List SectionPart) → ((i : Image S D) (ps : List Pass) (q : SectionPart) → IsAmong q (part i ps) → IsAmong q (groups_in_order i ps)) →
      (image image' : Image S D) (ps : List Pass) (e : FrameError) → image' ≡ image → ps ≡ own_passes x → IsCut image' ps → AddingFails x (part image' ps) e → ListingFails x image e
  some_failed part wider image image' ps e is passes cut fails =
      subst (λ (i : Image S D). ListingFails x i e) is
      (of_all x image' e cut.cells (fails_wider x (part image' (own_passes x)) (own image') (wider image' (own_passes x)) e (subst (λ (l : List Pass). AddingFails x (part image' l) e) passes fails)))

  pub low_failed : (image image' : Image S D) (ps : List Pass) (e : FrameError) → image' ≡ image → ps ≡ own_passes x → IsCut image' ps → AddingFails x (low_parts image' ps) e → ListingFails x image e
  low_failed = some_failed (λ i ps. low_parts i ps) (λ i ps q h. among_left q (low_parts i ps) (high i ps) h)

  pub passes_failed : (image image' : Image S D) (ps : List Pass) (e : FrameError) → image' ≡ image → ps ≡ own_passes x → IsCut image' ps → AddingFails x (high image' ps) e → ListingFails x image e
  passes_failed = some_failed (λ i ps. high i ps) (λ i ps q h. among_right q (low_parts i ps) (high i ps) h)

  pub all_added : (image image' : Image S D) (ps : List Pass) (before begun between after : List Section) → image' ≡ image → ps ≡ own_passes x → begun ≡ before →
      AreAdded x (low_parts image' ps) begun between → AreAdded x (high image' ps) between after → AreAdded x (own image) before after
  all_added image image' ps before begun between after is passes start p q =
      let both : AreAdded x (groups_in_order image' ps) begun after = added_then x (low_parts image' ps) (high image' ps) begun between after p q in
      let cut : AreAdded x (own image') begun after = subst (λ (l : List Pass). AreAdded x (groups_in_order image' l) begun after) passes both in
      subst (λ (b : List Section). AreAdded x (own image) b after) start (subst (λ (i : Image S D). AreAdded x (own i) begun after) is cut)
