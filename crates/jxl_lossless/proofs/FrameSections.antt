-- The sections of a frame, of which the first one and those of the groups are taken.
use Rattle.std.proofs.Common.{◌≡◌, ℕ, ◌-◌, ◌<◌, ℤ, List, [], length, length-drop, take, drop, get_or, Result, sym, ap, ◌∙◌, arith, subst}
use Rattle.std.specs.Prelude.{IfErr, IfOk}
use Rattle.std.specs.Borrow.{Bor}
use Rattle.std.proofs.lemmas.List.{take_all}
use Rattle.std.proofs.lemmas.Option.{get_or_from_slice_get}
use Rattle.jxlm_bits.specs.Decoding.{Meaning}
use Rattle.jxlm_base.specs.Grid.{Grid}
use Rattle.jxl_image_header.specs.Images.{Image}
use Rattle.jxl_frame_header.specs.Frames.{frame_of}
use Rattle.jxl_frame_header.specs.Passes.{pass_shifts}
use Rattle.jxl_patches.specs.Slots.{Slots}
use Rattle.jxl_codestream.specs.LayoutParts.{parts_of}
use Rattle.jxl_codestream.specs.Layouts.{Layout, section_count_of}
use Rattle.jxl_codestream.specs.declared.toc.TocEntry.{TocEntry}
use Rattle.jxlm_groups.specs.declared.part.SectionPart.{SectionPart}
use Rattle.jxl_lossless.specs.Places.{lent, section_at}
use Rattle.jxl_lossless.specs.declared.still.places.Places.{Places}
use Rattle.jxl_codestream.specs.Fronts.{layout_in}
use Rattle.jxl_codestream.specs.FrontParts.{frame_at}
use Rattle.jxl_codestream.specs.declared.frame.FrameFront.{FrameFront}
use Rattle.jxl_lossless.specs.Frames.{FrameFails, IsFrame}
use Rattle.jxl_lossless.specs.Sections.{section_of, sections_in}
use Rattle.jxl_lossless.specs.declared.error.FileError.{FileError}
use Rattle.jxl_lossless.specs.Inner.Coded.{IsMade, MadeFails}
use Rattle.jxl_lossless.proofs.Frames.{frame_fails, framed}
use Rattle.jxl_lossless.specs.Inner.Cuts.{sections_of}
use Rattle.jxl_lossless.proofs.Cuts.{first_of, same_count, some_sections}

-- there is a section
pub some_listed : (bytes : List ℕ) (list : List (Bor (List ℕ))) (entries : List TocEntry) (l : Layout) → lent list ≡ sections_of bytes entries → length entries ≡ section_count_of l → 0 < length list
some_listed bytes list entries l lies count = omega (arith, same_count list bytes entries lies, count, some_sections l)

pub sections_are : (bytes : List ℕ) (image : Image) (frame : FrameFront) (list : List (Bor (List ℕ))) (entries : List TocEntry) (x : Bor (List ℕ)) (places : Places) →
    lent list ≡ sections_of (take (length bytes - frame.start) (drop frame.start bytes)) entries → entries ≡ frame.toc.entries.items → x ≡ get_or list 0 x →
    parts_of frame.layout ≡ layout_in image (frame_at frame).header → length frame.toc.entries.items ≡ section_count_of (layout_in image (frame_at frame).header) →
    places.layout.now ≡ frame.layout → places.sections.now ≡ list →
    (x.now ≡ get_or (sections_in bytes (frame_at frame)) 0 []) × ((part : SectionPart) → section_at places part ≡ section_of (layout_in image (frame_at frame).header) (sections_in bytes (frame_at frame)) part)
sections_are bytes image frame list entries x places lies told index cut count same_cut same =
    let rest = drop frame.start bytes in
    let at = frame_at frame in
    let n = length bytes - frame.start in
    let all : take n rest ≡ rest = take_all n rest (omega (arith, length-drop frame.start bytes)) in
    let lie : lent list ≡ sections_in bytes at = lies ∙ ap (λ (b : List ℕ). sections_of b entries) all ∙ ap (sections_of rest) told in
    let l = layout_in image at.header in
    let some : 0 < length list = omega (arith, same_count list rest at.entries lie, count, some_sections l) in
    let cut_is : parts_of places.layout.now ≡ l = ap parts_of same_cut ∙ cut in
    let lent_are : lent places.sections.now ≡ sections_in bytes at = ap lent same ∙ lie in (
      sym (get_or_from_slice_get (sections_in bytes at) 0 x.now [] (first_of list rest at.entries x lie some index)),
      λ part. ap (λ (c : Layout). section_of c (lent places.sections.now) part) cut_is ∙ ap (λ (ss : List (List ℕ)). section_of l ss part) lent_are,
    )

module _ {D X : Type 0} (d : Meaning D) (bytes : List ℕ) (image : Image) (slots : Slots) (frame : FrameFront) (list : List (Bor (List ℕ))) (entries : List TocEntry) (x : Bor (List ℕ))
    (lies : lent list ≡ sections_of (take (length bytes - frame.start) (drop frame.start bytes)) entries) (told : entries ≡ frame.toc.entries.items) (index : x ≡ get_or list 0 x)
    (cut : parts_of frame.layout ≡ layout_in image (frame_at frame).header) (count : length frame.toc.entries.items ≡ section_count_of (layout_in image (frame_at frame).header)) where
  -- the channels that its sections code are those of the frame
  pub frame_made : (places : Places) (grids : X → List (Grid ℤ)) (before after : ℕ) (result : Result X FileError) →
      IfOk result (λ v. IsMade d image slots (frame_of frame.header) frame.trees x.now places (grids v) before after) →
      places.layout.now ≡ frame.layout → places.sections.now ≡ list → places.passes.now.entries ≡ pass_shifts (frame_at frame).header.passes →
      IfOk result (λ v. IsFrame d image slots bytes (frame_at frame) (grids v) before after)
  frame_made places grids before after result made same_cut same passes =
      let are = sections_are bytes image frame list entries x places lies told index cut count same_cut same in
      framed d image slots bytes (frame_at frame) places passes are.1 grids before after result
      (subst (λ (first : List ℕ). IfOk result (λ v. IsMade d image slots (frame_of frame.header) frame.trees first places (grids v) before after)) are.0 made)

  -- and what fails in them fails in the frame
  pub not_made : (places : Places) (result : Result X FileError) → IfErr result (MadeFails d image slots (frame_of frame.header) frame.trees x.now places) →
      places.layout.now ≡ frame.layout → places.sections.now ≡ list → places.passes.now.entries ≡ pass_shifts (frame_at frame).header.passes →
      IfErr result (FrameFails d image slots bytes (frame_at frame))
  not_made places result fails same_cut same passes =
      let are = sections_are bytes image frame list entries x places lies told index cut count same_cut same in
      frame_fails d image slots bytes (frame_at frame) places passes are.1 result
      (subst (λ (first : List ℕ). IfErr result (MadeFails d image slots (frame_of frame.header) frame.trees first places)) are.0 fails)
