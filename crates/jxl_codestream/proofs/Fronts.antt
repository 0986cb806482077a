-- What reading the front of a codestream gives.
use Rattle.std.proofs.Common.{◌≡◌, ℕ, ◌+◌, ◌<◌, ◌≤◌, ◌^◌, ◌/◌, Bool, true, false, List, [], ◌∷◌, ◌++◌, length, drop, Option, Result, Ok, Err, Some, None, ap, subst, sym, refl, ◌∙◌, inl, inr, arith}
use Rattle.std.specs.Prelude.{IfErr, IfOk, if◌then◌else◌, is_some, nat_le, not, ◌&&◌, ◌==◌}
use Rattle.std.specs.List.{list_all, list_any}
use Rattle.std.specs.Option.{option_map_or, option_or}
use Rattle.std.proofs.Math.Nat.{max-le}
use Rattle.std.proofs.lemmas.Bool.{cases_lt, le-leb, leb-true}
use Rattle.jxlm_bits.specs.Decoding.{Meaning}
use Rattle.jxlm_bits.specs.ErrorKind.{ErrorKind, UnlessMemory, UnlessNoMemory, kind_of}
use Rattle.jxlm_bits.specs.Grammar.{Grammar, IsErrorAt}
use Rattle.jxlm_bits.specs.declared.error.Error.{Error}
use Rattle.jxlm_ma_tree.proofs.Memory.{unless_so}
use Rattle.jxlm_transform.proofs.Failures.{unless_memory}
use Rattle.jxl_image_header.proofs.Refusals.{low_shifts}
use Rattle.jxl_image_header.specs.Images.{Image, image_header, image_refusal}
use Rattle.jxl_image_header.specs.declared.refusal.Refusal.{Refusal as ImageRefusal}
use Rattle.jxl_image_header.specs.declared.size.Size.{Size}
use Rattle.jxl_frame_header.specs.Codings.{coding_refusal, is_modular, type_refusal}
use Rattle.jxl_frame_header.specs.Frames.{Frame, frame_header, frame_of, frame_refusal, frame_size, has_floats, has_shifts, is_saved}
use Rattle.jxl_frame_header.specs.declared.coding.FrameCoding.{FrameCoding}
use Rattle.jxl_frame_header.specs.declared.place.Crop.{Crop}
use Rattle.jxl_frame_header.specs.declared.refusal.Refusal.{Refusal as FrameRefusal}
use Rattle.jxl_frame_header.specs.declared.refusal.Refusal.TheVariants as refusals
use Rattle.jxl_codestream.specs.Layouts.{Layout, layout_if, layout_of, max_sections, section_count_of}
use Rattle.jxl_codestream.specs.Tocs.{IsFirstTruncated, IsToc, Table, is_within, toc}
use Rattle.jxl_codestream.specs.declared.toc.TocEntry.{TocEntry}
use Rattle.jxl_picture.specs.Limits.{Allow, AllowFrame, cells_of}
use Rattle.jxl_picture.specs.declared.limits.Limits.{Limits}
use Rattle.jxl_codestream.specs.Fronts.{AreBefore, NoFrame, OneMore, FailsAt, FrameAt, FrameStands, FrontFails, HasProfile, ImageStands, Next, PartsFail, PartsStand, StandsAt, TableStands, between, end_of, layout_in}
use Rattle.jxl_codestream.specs.FrontParts.{HasLowShifts, IsNext, frame_at}
use Rattle.jxl_codestream.specs.declared.error.FrontError.{FrontError}
use Rattle.jxl_codestream.specs.declared.error.FrontError.TheVariants as errors
use Rattle.jxl_codestream.specs.declared.frame.FrameFront.{FrameFront}

-- a call without a decoder failed at a position that is this one
pub fails_at : {X : Type 0} (field : Grammar X) (bytes : List ℕ) (p p' q : ℕ) (e : ErrorKind) → p ≡ p' → UnlessNoMemory e (IsErrorAt (field.read bytes p) e q) → UnlessMemory e (FailsAt field bytes p' e)
fails_at field bytes p p' q e same h =
    subst (λ n. UnlessMemory e (FailsAt field bytes n e)) same (unless_so e (λ f. (q, f)) (unless_memory e (IsErrorAt (field.read bytes p) e q) h))

module _ {D : Type 0} (d : Meaning D) (limits : Limits) (bytes : List ℕ) where
  pub image_stands : (p q : ℕ) (image : Image) → p ≡ 0 → image_header.read bytes p ≡ Ok (record { value = image; position = q }) → image_refusal image ≡ None → Allow limits image → ImageStands d limits bytes image q
  image_stands p q image start e supported allowed = (subst (λ n. StandsAt image_header bytes n image q) start e, supported, allowed)

  pub image_refused : (p q : ℕ) (image : Image) (r : ImageRefusal) → p ≡ 0 → image_header.read bytes p ≡ Ok (record { value = image; position = q }) → image_refusal image ≡ Some r → FrontFails d limits bytes (errors.Image r)
  image_refused p q image r start e refused = (image, q, subst (λ n. StandsAt image_header bytes n image q) start e, refused)

  pub too_large : (p q : ℕ) (image : Image) → p ≡ 0 → image_header.read bytes p ≡ Ok (record { value = image; position = q }) → image_refusal image ≡ None → ¬ (Allow limits image) → FrontFails d limits bytes errors.TooLarge
  too_large p q image start e supported beyond = (image, q, subst (λ n. StandsAt image_header bytes n image q) start e, supported, beyond)

  pub image_fails : (p q : ℕ) (e : Error) → p ≡ 0 → UnlessNoMemory (kind_of e) (IsErrorAt (image_header.read bytes p) (kind_of e) q) → FrontFails d limits bytes (errors.ImageHeader e)
  image_fails p q e start h = fails_at image_header bytes p 0 q (kind_of e) start h

  pub profile_fails : (image : Image) (p q : ℕ) (e : Error) → ImageStands d limits bytes image p → UnlessMemory (kind_of e) (IsErrorAt ((between d limits.profile image.colour_encoding.want_icc).read bytes p) (kind_of e) q) → FrontFails d limits bytes (errors.Profile e)
  profile_fails image p q e stands h = unless_so (kind_of e) (λ f. (image, p, stands, (q, f))) h

  -- where a frame begins
  abbrev next_of : (image : Image) (start used : ℕ) → IsNext d limits bytes image start used → Next d limits bytes
  next_of image start used next = record { image = image; saved = next.0; start = start; used = used; before = next.1 }

  -- a frame's header, where it begins
  pub frame_fails : (image : Image) (start used : ℕ) (here : List ℕ) (p q : ℕ) (e : Error) → IsNext d limits bytes image start used → here ≡ drop start bytes → p ≡ 0 →
      UnlessNoMemory (kind_of e) (IsErrorAt ((frame_header image).read here p) (kind_of e) q) → FrontFails d limits bytes (errors.FrameHeader e)
  frame_fails image start used here p q e next lies begin h =
      let at : UnlessNoMemory (kind_of e) (IsErrorAt ((frame_header image).read (drop start bytes) 0) (kind_of e) q) =
      subst (λ n. UnlessNoMemory (kind_of e) (IsErrorAt ((frame_header image).read (drop start bytes) n) (kind_of e) q)) begin
      (subst (λ (b : List ℕ). UnlessNoMemory (kind_of e) (IsErrorAt ((frame_header image).read b p) (kind_of e) q)) lies h) in
      unless_so (kind_of e) (λ f. (next_of image start used next, (q, f)))
      (unless_memory (kind_of e) (IsErrorAt ((frame_header image).read (drop start bytes) 0) (kind_of e) q) at)

  pub header_stands : (image : Image) (start : ℕ) (here : List ℕ) (p q : ℕ) (frame : Frame) → here ≡ drop start bytes → p ≡ 0 →
      (frame_header image).read here p ≡ Ok (record { value = frame; position = q }) → StandsAt (frame_header image) (drop start bytes) 0 frame q
  header_stands image start here p q frame lies begin e =
      subst (λ n. StandsAt (frame_header image) (drop start bytes) n frame q) begin (subst (λ (b : List ℕ). StandsAt (frame_header image) b p frame q) lies e)

  pub frame_refused : (image : Image) (start used q : ℕ) (frame : Frame) (r : FrameRefusal) → IsNext d limits bytes image start used → StandsAt (frame_header image) (drop start bytes) 0 frame q →
      frame_refusal image frame ≡ Some r → FrontFails d limits bytes (errors.Frame r)
  frame_refused image start used q frame r next header refused = (next_of image start used next, frame, q, header, refused)

  -- what fails after the header of a frame that is supported
  pub parts_fail : (image : Image) (start used q : ℕ) (frame : Frame) → IsNext d limits bytes image start used → StandsAt (frame_header image) (drop start bytes) 0 frame q →
      frame_refusal image frame ≡ None → (e : FrontError) → PartsFail d limits (drop start bytes) image used frame q e → FrontFails d limits bytes e
  parts_fail image start used q frame next header supported errors.FramesTooLarge beyond = (next_of image start used next, frame, q, header, supported, beyond)
  parts_fail image start used q frame next header supported errors.TooManySections h = (next_of image start used next, frame, q, (header, supported, h.0), h.1)
  parts_fail image start used q frame next header supported (errors.Contents e) h = unless_so (kind_of e) (λ f. (next_of image start used next, frame, q, (header, supported, f.0), f.1, f.2)) h
  parts_fail image start used q frame next header supported (errors.TruncatedSection number) h = (
    next_of image start used next,
    frame,
    h.1,
    record { end = q; goes = (header, supported, h.0); few = h.2.few; contents = h.2.contents },
    h.3,
  )
  parts_fail image start used q frame next header supported e h = absurd h

  pub parts_fail_if : (image : Image) (start used q : ℕ) (frame : Frame) → IsNext d limits bytes image start used → StandsAt (frame_header image) (drop start bytes) 0 frame q →
      frame_refusal image frame ≡ None → (r : Result FrameFront FrontError) → IfErr r (PartsFail d limits (drop start bytes) image used frame q) → IfErr r (FrontFails d limits bytes)
  parts_fail_if image start used q frame next header supported (Ok f) h = tt
  parts_fail_if image start used q frame next header supported (Err e) h = parts_fail image start used q frame next header supported e h

  -- a frame that is supported, with what follows its header
  pub frame_stands : (image : Image) (start used q : ℕ) (frame : Frame) → StandsAt (frame_header image) (drop start bytes) 0 frame q → frame_refusal image frame ≡ None → (r : Result FrameFront FrontError) →
      IfOk r (λ f. f.start ≡ start) → IfOk r (λ f. frame_of f.header ≡ frame) → IfOk r (λ f. PartsStand d limits bytes image used (frame_at f) q) → IfOk r (λ f. FrameStands d limits bytes image used (frame_at f))
  frame_stands image start used q frame header supported (Ok f) at is parts = (
    record {
      end = q;
      goes = (
        subst (λ n. StandsAt (frame_header image) (drop n bytes) 0 (frame_of f.header) q) (sym at) (subst (λ (h : Frame). StandsAt (frame_header image) (drop start bytes) 0 h q) (sym is) header),
        subst (λ (h : Frame). frame_refusal image h ≡ None) (sym is) supported,
        parts.allowed,
      );
      few = parts.table.few;
      contents = parts.table.contents;
    },
    parts.within,
    parts.trees,
  )
  frame_stands image start used q frame header supported (Err e) at is parts = tt

  -- the first frame begins after the profile
  pub begins : (image : Image) (p q : ℕ) (icc : Option (List ℕ)) → ImageStands d limits bytes image p →
      StandsAt (between d limits.profile image.colour_encoding.want_icc) bytes p icc q → AreBefore d limits bytes image [] (q / 8) 0
  begins image p q icc stands passed = NoFrame p icc q stands passed

  -- and this is the profile
  pub has_profile : (image : Image) (p q : ℕ) (icc : Option (List ℕ)) → ImageStands d limits bytes image p →
      StandsAt (between d limits.profile image.colour_encoding.want_icc) bytes p icc q → HasProfile d limits bytes image icc
  has_profile image p q icc stands passed = record { end = p; header = stands; next = q; stands = passed }

  -- one saved frame more
  pub before_more : (image : Image) (fs : List FrameAt) (q n : ℕ) (f : FrameAt) → AreBefore d limits bytes image fs q n → f.start ≡ q → is_saved f.header ≡ true → FrameStands d limits bytes image n f →
      AreBefore d limits bytes image (fs ++ f ∷ []) (q + end_of f.entries) (n + cells_of (frame_size image.size f.header))
  before_more image fs q n f before start saved stands =
      subst (λ k. AreBefore d limits bytes image (fs ++ f ∷ []) (k + end_of f.entries) (n + cells_of (frame_size image.size f.header))) start
      (OneMore fs n f (subst (λ k. AreBefore d limits bytes image fs k n) (sym start) before) stands saved)

  -- the bits code the image header
  pub image_before : {image : Image} {fs : List FrameAt} {q n : ℕ} → AreBefore d limits bytes image fs q n → (p : ℕ) × ImageStands d limits bytes image p
  image_before (NoFrame end icc p stands passed) = (end, stands)
  image_before (OneMore fs n f before stands saved) = image_before before

module _ {D : Type 0} (d : Meaning D) (limits : Limits) (here : List ℕ) (image : Image) (used : ℕ) (frame : Frame) where
  pub contents_fail : (bytes : List ℕ) (n p q : ℕ) (e : Error) → AllowFrame limits image used (frame_size image.size frame) → bytes ≡ here → n ≡ section_count_of (layout_in image frame) → n ≤ 2 ^ 24 →
      UnlessMemory (kind_of e) (IsErrorAt ((toc d n).read bytes p) (kind_of e) q) → PartsFail d limits here image used frame p (errors.Contents e)
  contents_fail bytes n p q e allowed lies count few h =
      unless_so (kind_of e) (λ f. (allowed, subst (λ m. m ≤ max_sections) count few, subst (λ m. FailsAt (toc d m) here p (kind_of e)) count (q, f)))
      (subst (λ (b : List ℕ). UnlessMemory (kind_of e) (IsErrorAt ((toc d n).read b p) (kind_of e) q)) lies h)

  pub contents_stand : (bytes : List ℕ) (n p q : ℕ) (entries : List TocEntry) → bytes ≡ here → n ≡ section_count_of (layout_in image frame) → n ≤ 2 ^ 24 →
      ((table : Table) × ((toc d n).read bytes p ≡ Ok (record { value = table; position = q })) × IsToc table entries) → TableStands d here image frame p entries
  contents_stand bytes n p q entries lies count few h = record {
    few = subst (λ m. m ≤ max_sections) count few;
    contents = (h.0, q, subst (λ m. StandsAt (toc d m) here p h.0 q) count (subst (λ (b : List ℕ). StandsAt (toc d n) b p h.0 q) lies h.1), h.2);
  }

  pub too_many : (p : ℕ) (size : Size) → AllowFrame limits image used (frame_size image.size frame) → size ≡ frame_size image.size frame → None ≡ layout_if (layout_of size frame.group_dim frame.passes.num_passes) →
      PartsFail d limits here image used frame p errors.TooManySections
  too_many p size allowed is none =
      (allowed, beyond (section_count_of (layout_in image frame)) (layout_in image frame) (sym (none ∙ ap (λ (s : Size). layout_if (layout_of s frame.group_dim frame.passes.num_passes)) is))) where
        beyond : (n : ℕ) (l : Layout) → (if nat_le n max_sections then Some l else None) ≡ None → max_sections < n
        beyond n l e = elim (cases_lt max_sections n) [
          | inl lt ↦ lt
          | inr le ↦ absurd (some_none (sym (ap (λ b. if b then Some l else None) (le-leb n max_sections le)) ∙ e))
        ] where
          some_none : {X : Type 0} {a : X} → ◌≡◌ {A = Option X} (Some a) None → ⊥
          some_none e = cc

  pub truncated : (p : ℕ) (entries : List TocEntry) (number : ℕ) → AllowFrame limits image used (frame_size image.size frame) → TableStands d here image frame p entries → IsFirstTruncated (length here) entries number →
      PartsFail d limits here image used frame p (errors.TruncatedSection number)
  truncated p entries number allowed table first = (allowed, entries, table, first)

pub layout_is : (image : Image) (frame : Frame) (l : Layout) → Some l ≡ layout_if (layout_in image frame) → l ≡ layout_in image frame
layout_is image frame l e = by (nat_le (section_count_of (layout_in image frame)) max_sections) e where
  by : (b : Bool) → Some l ≡ (if b then Some (layout_in image frame) else None) → l ≡ layout_in image frame
  by true e = cc
  by false e = cc

pub first_none : {X : Type 0} (a b : Option X) → option_or a b ≡ None → a ≡ None
first_none None b e = refl
first_none (Some x) b e = cc

pub second_none : {X : Type 0} (a b : Option X) → option_or a b ≡ None → b ≡ None
second_none None b e = e
second_none (Some x) b e = cc

-- of reasons in a row of which none holds: this one does not, and none after it
pub passed : {X : Type 0} (b : Bool) (x : X) (rest : Option X) → (if b then Some x else rest) ≡ None → (b ≡ false) × (rest ≡ None)
passed true x rest e = cc
passed false x rest e = (refl, e)

-- a frame that is shown and supported covers the picture
covers_by : (size : Size) (crop : Option Crop) (saved : Bool) → saved ≡ false → (is_some crop && not saved) ≡ false → option_map_or (λ c. record { width = c.width; height = c.height }) crop size ≡ size
covers_by size None saved shown none = refl
covers_by size (Some c) true shown none = cc
covers_by size (Some c) false shown none = cc

pub covers : (image : Image) (size : Size) (frame : Frame) → frame_refusal image frame ≡ None → is_saved frame ≡ false → frame_size size frame ≡ size
covers image size frame supported shown =
    let after_coding = second_none (coding_refusal (has_floats image) (has_shifts image) frame.coding) _ supported in
    let after_factors = (passed (list_any (λ f. not (f == 1)) frame.ec_upsampling) refusals.ExtraUpsampling _ after_coding).1 in
    covers_by size frame.place.crop (is_saved frame) shown (passed (is_some frame.place.crop && not (is_saved frame)) refusals.Crop _ after_factors).0

-- a frame whose coding is supported has no patches where an extra channel has a size of its own
pub plain_coding : (floats shifts : Bool) (coding : FrameCoding) → coding_refusal floats shifts coding ≡ None → (coding.flags.patches && shifts) ≡ false
plain_coding floats shifts coding supported =
    let f = coding.flags in
    let typed = second_none (type_refusal coding.frame_type) _ supported in
    let encoded = (passed (not (is_modular coding.encoding)) refusals.VarDct _ typed).1 in
    let quiet = (passed f.noise refusals.Noise _ encoded).1 in
    let whole = (passed (f.patches && floats) refusals.FloatPatches _ quiet).1 in
    (passed (f.patches && shifts) refusals.ShiftedPatches _ whole).0

pub plain : (image : Image) (frame : Frame) → frame_refusal image frame ≡ None → (frame.coding.flags.patches && has_shifts image) ≡ false
plain image frame supported =
    plain_coding (has_floats image) (has_shifts image) frame.coding (first_none (coding_refusal (has_floats image) (has_shifts image) frame.coding) _ supported)

-- in an image that is supported the shifts of extra channels are at most 3
pub low : (image : Image) → image_refusal image ≡ None → HasLowShifts image
low image supported = low_shifts image supported

both : (a b : Bool) → (a && b) ≡ true → (a ≡ true) × (b ≡ true)
both true b e = (refl, e)
both false b e = absurd (no e) where
  no : false ≡ true → ⊥
  no e = cc

-- where sections end that lie within this number of bytes
pub end_within : (most : ℕ) (entries : List TocEntry) → list_all (is_within most) entries ≡ true → end_of entries ≤ most
end_within most [] all = omega arith
end_within most (e ∷ es) all =
    let parts = both (is_within most e) (list_all (is_within most) es) all in
    max-le (leb-true (e.offset + e.size) most parts.0) (end_within most es parts.1)
