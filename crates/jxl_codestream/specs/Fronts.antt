-- What a codestream has before the sections of its frames (ISO/IEC 18181-1, codestream: image header, frame headers, tables
-- of contents), stage by stage, and what fails at each.
use Rattle.std.specs.Prelude.{◌≡◌, ℕ, ◌+◌, ◌/◌, ◌^◌, ◌<◌, ◌≤◌, max, List, [], ◌∷◌, ◌++◌, length, drop, Bool, true, false, Option, None, Some, Ok}
use Rattle.std.specs.List.{list_all}
use Rattle.jxlm_bits.specs.Decoding.{Meaning}
use Rattle.jxlm_bits.specs.ErrorKind.{ErrorKind, UnlessMemory, kind_of}
use Rattle.jxlm_bits.specs.Grammar.{Grammar, IsErrorAt, give, either, ◌>>=◌}
use Rattle.jxl_image_header.specs.Fields.{zero_pad_to_byte}
use Rattle.jxl_image_header.specs.Images.{Image, image_header, image_refusal}
use Rattle.jxl_frame_header.specs.Frames.{Frame, frame_header, frame_refusal, frame_size, is_saved}
use Rattle.jxl_codestream.specs.Layouts.{Layout, layout_of, max_sections, section_count_of}
use Rattle.jxl_codestream.specs.Profiles.{profile}
use Rattle.jxl_codestream.specs.Tocs.{IsFirstTruncated, IsToc, Table, is_within, toc}
use Rattle.jxl_codestream.specs.declared.toc.TocEntry.{TocEntry}
use Rattle.jxl_picture.specs.Limits.{Allow, AllowFrame, cells_of, tree_limits}
use Rattle.jxl_picture.specs.declared.limits.Limits.{Limits}
use Rattle.jxl_picture.specs.declared.limits.TreeLimits.{TreeLimits}
use Rattle.jxl_codestream.specs.declared.error.FrontError.{FrontError}
use Rattle.jxl_codestream.specs.declared.error.FrontError.TheVariants as errors

-- from bit p up to bit q stands this value: it is what is read there
abbrev pub StandsAt : {X : Type 0} → Grammar X → List ℕ → ℕ → X → ℕ → Type 0
StandsAt field bytes p x q = field.read bytes p ≡ Ok (record { value = x; position = q })

-- reading what stands at bit p returns this error
abbrev pub FailsAt : {X : Type 0} → Grammar X → List ℕ → ℕ → ErrorKind → Type 0
FailsAt field bytes p error = (q : ℕ) × IsErrorAt (field.read bytes p) error q

-- the profile, if there is one
abbrev pub profile_if : {D : Type 0} → Meaning D → ℕ → Bool → Grammar (Option (List ℕ))
profile_if d limit there = either there (profile d limit >>= λ icc. give (Some icc)) (give None)

-- the profile, if there is one, and the bits up to the next byte
abbrev pub between : {D : Type 0} → Meaning D → ℕ → Bool → Grammar (Option (List ℕ))
between d limit there = profile_if d limit there >>= λ icc. zero_pad_to_byte >>= λ padding. give icc

-- a frame, as its header describes it before its sections: the byte where it begins, its header, where its sections lie from
-- there on, and the limits on the tree that they share and on their own ones
pub record FrameAt : Type 0 where
  pub start : ℕ
  pub header : Frame
  pub entries : List TocEntry
  pub trees : TreeLimits

-- how a frame is cut
abbrev pub layout_in : Image → Frame → Layout
layout_in image frame = layout_of (frame_size image.size frame) frame.group_dim frame.passes.num_passes

-- where sections end: the last byte that one of them reaches
abbrev pub end_of : List TocEntry → ℕ
end_of [] = 0
end_of (e ∷ es) = max (e.offset + e.size) (end_of es)

-- The table of contents of a frame stands at bit p after the frame's first byte, of not too many sections: it says where each of
-- them lies.
pub record TableStands {D : Type 0} (d : Meaning D) (here : List ℕ) (image : Image) (frame : Frame) (p : ℕ) (entries : List TocEntry) : Type 0 where
  pub few : section_count_of (layout_in image frame) ≤ max_sections
  pub contents : (table : Table) × (q : ℕ) × StandsAt (toc d (section_count_of (layout_in image frame))) here p table q × IsToc table entries

-- A frame of which the header ends at bit p after its first byte: after frames with this number of cells it is within the limits,
-- and all its sections lie in the codestream; the limits on its trees are by those on the picture.
pub record PartsStand {D : Type 0} (d : Meaning D) (limits : Limits) (bytes : List ℕ) (image : Image) (used : ℕ) (f : FrameAt) (p : ℕ) : Type 0 where
  pub allowed : AllowFrame limits image used (frame_size image.size f.header)
  pub table : TableStands d (drop f.start bytes) image f.header p f.entries
  pub within : list_all (is_within (length (drop f.start bytes))) f.entries ≡ true
  pub trees : f.trees ≡ tree_limits limits image used (frame_size image.size f.header)

-- What each error says of what follows a frame header that ends at bit p after the frame's first byte, after frames with this
-- number of cells.
abbrev pub PartsFail : {D : Type 0} → Meaning D → Limits → List ℕ → Image → ℕ → Frame → ℕ → FrontError → Type 0
PartsFail d limits here image used frame p errors.FramesTooLarge = ¬ (AllowFrame limits image used (frame_size image.size frame))
PartsFail d limits here image used frame p errors.TooManySections = AllowFrame limits image used (frame_size image.size frame) × (max_sections < section_count_of (layout_in image frame))
PartsFail d limits here image used frame p (errors.Contents e) = UnlessMemory (kind_of e) (AllowFrame limits image used (frame_size image.size frame)
    × (section_count_of (layout_in image frame) ≤ max_sections) × FailsAt (toc d (section_count_of (layout_in image frame))) here p (kind_of e))
PartsFail d limits here image used frame p (errors.TruncatedSection number) = AllowFrame limits image used (frame_size image.size frame)
    × (entries : List TocEntry) × TableStands d here image frame p entries × IsFirstTruncated (length here) entries number
PartsFail d limits here image used frame p e = ⊥

module _ {D : Type 0} (d : Meaning D) (limits : Limits) (bytes : List ℕ) where
  -- The image header stands at the start, up to bit p: it says nothing that is not supported, of a picture within the limits.
  abbrev pub ImageStands : Image → ℕ → Type 0
  ImageStands image p = StandsAt image_header bytes 0 image p × (image_refusal image ≡ None) × Allow limits image

  -- A frame's header stands at this byte, up to bit q from there: it is supported, and after this number of cells within the
  -- limits.
  abbrev pub FrameGoesOn : Image → ℕ → ℕ → Frame → ℕ → Type 0
  FrameGoesOn image start used frame q = StandsAt (frame_header image) (drop start bytes) 0 frame q × (frame_refusal image frame ≡ None)
      × AllowFrame limits image used (frame_size image.size frame)

  -- The table of contents follows, of not too many sections: it says where each of them lies.
  pub record ContentsStand (image : Image) (start used : ℕ) (frame : Frame) (entries : List TocEntry) : Type 0 where
    pub end : ℕ
    pub goes : FrameGoesOn image start used frame end
    pub few : section_count_of (layout_in image frame) ≤ max_sections
    pub contents : (table : Table) × (q : ℕ) × StandsAt (toc d (section_count_of (layout_in image frame))) (drop start bytes) end table q × IsToc table entries

  -- And all sections lie in the codestream; the limits on its trees are by those on the picture.
  abbrev pub FrameStands : Image → ℕ → FrameAt → Type 0
  FrameStands image used frame = ContentsStand image frame.start used frame.header frame.entries
      × (list_all (is_within (length (drop frame.start bytes))) frame.entries ≡ true)
      × (frame.trees ≡ tree_limits limits image used (frame_size image.size frame.header))

  -- The profile of the codestream, if there is one: it comes after the image header, with the bits up to the next byte.
  pub record HasProfile (image : Image) (icc : Option (List ℕ)) : Type 0 where
    pub end : ℕ
    pub header : ImageStands image end
    pub next : ℕ
    pub stands : StandsAt (between d limits.profile image.colour_encoding.want_icc) bytes end icc next

  -- These saved frames, with this number of cells together, stand one after another before the frame that begins at this byte.
  -- The first frame begins after the image header and what comes between them.
  pub data AreBefore (image : Image) : List FrameAt → ℕ → ℕ → Type 0 where
    NoFrame : (end : ℕ) (icc : Option (List ℕ)) (p : ℕ) → ImageStands image end → StandsAt (between d limits.profile image.colour_encoding.want_icc) bytes end icc p →
        AreBefore image [] (p / 8) 0
    OneMore : (saved : List FrameAt) (used : ℕ) (f : FrameAt) → AreBefore image saved f.start used → FrameStands image used f → is_saved f.header ≡ true →
        AreBefore image (saved ++ f ∷ []) (f.start + end_of f.entries) (used + cells_of (frame_size image.size f.header))

  -- The codestream has the image header and these saved frames, and after them the frame that is shown.
  abbrev pub FrontStands : Image → List FrameAt → FrameAt → Type 0
  FrontStands image saved shown = (used : ℕ) × AreBefore image saved shown.start used × FrameStands image used shown × (is_saved shown.header ≡ false)

  -- where a frame begins: after saved frames with this number of cells
  pub record Next : Type 0 where
    pub image : Image
    pub saved : List FrameAt
    pub start : ℕ
    pub used : ℕ
    pub before : AreBefore image saved start used

  -- what each error says: up to which stage all stands, and what fails there
  abbrev pub FrontFails : FrontError → Type 0
  FrontFails errors.TooLong = 2 ^ 61 ≤ length bytes
  FrontFails (errors.ImageHeader e) = UnlessMemory (kind_of e) (FailsAt image_header bytes 0 (kind_of e))
  FrontFails (errors.Image reason) = (image : Image) × (q : ℕ) × StandsAt image_header bytes 0 image q × (image_refusal image ≡ Some reason)
  FrontFails errors.TooLarge = (image : Image) × (q : ℕ) × StandsAt image_header bytes 0 image q × (image_refusal image ≡ None) × ¬ (Allow limits image)
  FrontFails (errors.Profile e) = UnlessMemory (kind_of e)
      ((image : Image) × (q : ℕ) × ImageStands image q × FailsAt (between d limits.profile image.colour_encoding.want_icc) bytes q (kind_of e))
  FrontFails (errors.FrameHeader e) = UnlessMemory (kind_of e) ((n : Next) × FailsAt (frame_header n.image) (drop n.start bytes) 0 (kind_of e))
  FrontFails (errors.Frame reason) = (n : Next) × (frame : Frame) × (q : ℕ) × StandsAt (frame_header n.image) (drop n.start bytes) 0 frame q × (frame_refusal n.image frame ≡ Some reason)
  FrontFails errors.FramesTooLarge = (n : Next) × (frame : Frame) × (q : ℕ) × StandsAt (frame_header n.image) (drop n.start bytes) 0 frame q × (frame_refusal n.image frame ≡ None)
      × ¬ (AllowFrame limits n.image n.used (frame_size n.image.size frame))
  FrontFails errors.TooManySections = (n : Next) × (frame : Frame) × (q : ℕ) × FrameGoesOn n.image n.start n.used frame q
      × (max_sections < section_count_of (layout_in n.image frame))
  FrontFails (errors.Contents e) = UnlessMemory (kind_of e)
      ((n : Next) × (frame : Frame) × (q : ℕ) × FrameGoesOn n.image n.start n.used frame q × (section_count_of (layout_in n.image frame) ≤ max_sections)
      × FailsAt (toc d (section_count_of (layout_in n.image frame))) (drop n.start bytes) q (kind_of e))
  FrontFails (errors.TruncatedSection number) = (n : Next) × (frame : Frame) × (entries : List TocEntry)
      × ContentsStand n.image n.start n.used frame entries × IsFirstTruncated (length (drop n.start bytes)) entries number
