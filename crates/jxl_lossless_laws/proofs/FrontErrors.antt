-- Where headers and tables of a codestream stand, reading them returns no error.
use Rattle.std.proofs.Common.{◌≡◌, ℕ, zero, suc, ◌^◌, ◌≤◌, Bool, true, false, List, [], ◌∷◌, length, drop, Option, Some, None, refl, sym, ap, ◌∙◌, subst, arith}
use Rattle.std.specs.Prelude.{slice_get, ◌&&◌}
use Rattle.std.specs.List.{list_all}
use Rattle.jxlm_bits.specs.Decoding.{Meaning}
use Rattle.jxlm_bits.specs.ErrorKind.{ErrorKind, kind_of}
use Rattle.jxlm_ma_tree.proofs.Memory.{unless_so}
use Rattle.jxl_image_header.specs.Images.{Image, image_header, image_refusal}
use Rattle.jxl_frame_header.specs.Frames.{Frame, frame_header, frame_refusal, frame_size}
use Rattle.jxl_picture.specs.Limits.{Allow, AllowFrame}
use Rattle.jxl_picture.specs.declared.limits.Limits.{Limits}
use Rattle.jxl_codestream.specs.Fronts.{ContentsStand, FailsAt, FrameAt, FrameStands, FrontFails, FrontStands, ImageStands, Next, StandsAt, between, layout_in}
use Rattle.jxl_codestream.specs.Layouts.{max_sections, section_count_of}
use Rattle.jxl_codestream.specs.Tocs.{IsFirstTruncated, is_within, toc}
use Rattle.jxl_codestream.specs.declared.error.FrontError.{FrontError}
use Rattle.jxl_codestream.specs.declared.error.FrontError.TheVariants as errors
use Rattle.jxl_codestream.specs.declared.toc.TocEntry.{TocEntry}
use Rattle.jxl_lossless_laws.proofs.OneFront.{begins_of, frame_next, image_before, one_contents, one_image}
use Rattle.jxl_lossless_laws.proofs.Reading.{stands_once, stands_well}
use Rattle.jxl_lossless_laws.specs.Errors.{IsFrontMemory}

none_some : {X : Type 0} (o : Option X) (x : X) → o ≡ None → o ≡ Some x → ⊥
none_some o x h k = cc

both : (a b : Bool) → (a && b) ≡ true → (a ≡ true) × (b ≡ true)
both true b e = (refl, e)
both false b e = absurd (no e) where
  no : ◌≡◌ {A = Bool} false true → ⊥
  no e = cc

-- each of them passes
passes_each : (test : TocEntry → Bool) (es : List TocEntry) (k : ℕ) (e : TocEntry) → list_all test es ≡ true → slice_get es k ≡ Some e → test e ≡ false → ⊥
passes_each test [] k e all there fails = none_some (slice_get {X = TocEntry} [] k) e refl there
passes_each test (x ∷ xs) zero e all there fails =
    let same : x ≡ e = cc in
    let first = (both (test x) (list_all test xs) all).0 in
    absurd (no (sym first ∙ ap test same ∙ fails)) where
      no : ◌≡◌ {A = Bool} true false → ⊥
      no e = cc
passes_each test (x ∷ xs) (suc k) e all there fails = passes_each test xs k e (both (test x) (list_all test xs) all).1 there fails

-- what is true of an error before the sections, where there are none
abbrev pub FrontOfSize : List ℕ → FrontError → Type 0
FrontOfSize bytes errors.TooLong = 2 ^ 61 ≤ length bytes
FrontOfSize bytes e = IsFrontMemory e

module _ {D : Type 0} (d : Meaning D) (limits : Limits) (bytes : List ℕ) (image : Image) (saved : List FrameAt) (shown : FrameAt) (h : FrontStands d limits bytes image saved shown) where
  abbrev header_end : ℕ
  header_end = (image_before d limits bytes image saved shown h).0

  abbrev header : ImageStands d limits bytes image header_end
  header = (image_before d limits bytes image saved shown h).1

  image_read : (other : Image) (q : ℕ) → StandsAt image_header bytes 0 other q → image ≡ other
  image_read other q k = (stands_once image_header bytes 0 image header_end header.0 other q k).0

  profile_well : (other : Image) (q : ℕ) → ImageStands d limits bytes other q → (e : ErrorKind) → FailsAt (between d limits.profile other.colour_encoding.want_icc) bytes q e → ⊥
  profile_well other q k e f =
      let b = begins_of d limits bytes image h.1 in
      let same = one_image d limits bytes image other b.end q b.header k in
      let there = subst (λ (i : Image). FailsAt (between d limits.profile i.colour_encoding.want_icc) bytes q e) (sym same.0) f in
      stands_well (between d limits.profile image.colour_encoding.want_icc) bytes b.end b.icc b.first b.stands e
      (subst (λ p. FailsAt (between d limits.profile image.colour_encoding.want_icc) bytes p e) (sym same.1) there)

  -- a frame stands where one begins
  next_frame : (n : Next d limits bytes) → (g : FrameAt) × (g.start ≡ n.start) × FrameStands d limits bytes n.image n.used g
  next_frame n =
      let b = begins_of d limits bytes n.image n.before in
      let same : image ≡ n.image = (one_image d limits bytes image n.image header_end b.end header b.header).0 in
      frame_next d limits bytes n.image saved n.saved shown n.start n.used (subst (λ (i : Image). FrontStands d limits bytes i saved shown) same h) n.before

  -- its header and table
  pub record Here (n : Next d limits bytes) : Type 0 where
    pub frame : Frame
    pub entries : List TocEntry
    pub contents : ContentsStand d limits bytes n.image n.start n.used frame entries
    pub within : list_all (is_within (length (drop n.start bytes))) entries ≡ true

  here : (n : Next d limits bytes) → Here n
  here n =
      let next = next_frame n in
      let g : FrameAt = next.0 in
      record {
        frame = g.header;
        entries = g.entries;
        contents = subst (λ s. ContentsStand d limits bytes n.image s n.used g.header g.entries) next.1 next.2.0;
        within = subst (λ s. list_all (is_within (length (drop s bytes))) g.entries ≡ true) next.1 next.2.1;
      }

  header_well : (n : Next d limits bytes) (e : ErrorKind) → FailsAt (frame_header n.image) (drop n.start bytes) 0 e → ⊥
  header_well n e f = let c = (here n).contents in stands_well (frame_header n.image) (drop n.start bytes) 0 (here n).frame c.end c.goes.0 e f

  module _ (n : Next d limits bytes) (frame : Frame) (q : ℕ) (k : StandsAt (frame_header n.image) (drop n.start bytes) 0 frame q) where
    header_is : ((here n).frame ≡ frame) × ((here n).contents.end ≡ q)
    header_is = let c = (here n).contents in stands_once (frame_header n.image) (drop n.start bytes) 0 (here n).frame c.end c.goes.0 frame q k

    supported : frame_refusal n.image frame ≡ None
    supported = subst (λ (f : Frame). frame_refusal n.image f ≡ None) header_is.0 (here n).contents.goes.1

    allowed : AllowFrame limits n.image n.used (frame_size n.image.size frame)
    allowed = subst (λ (f : Frame). AllowFrame limits n.image n.used (frame_size n.image.size f)) header_is.0 (here n).contents.goes.2

    few : section_count_of (layout_in n.image frame) ≤ max_sections
    few = subst (λ (f : Frame). section_count_of (layout_in n.image f) ≤ max_sections) header_is.0 (here n).contents.few

    contents_well : (e : ErrorKind) → FailsAt (toc d (section_count_of (layout_in n.image frame))) (drop n.start bytes) q e → ⊥
    contents_well e f =
        let c = (here n).contents in
        let same : FailsAt (toc d (section_count_of (layout_in n.image (here n).frame))) (drop n.start bytes) q e =
        subst (λ (x : Frame). FailsAt (toc d (section_count_of (layout_in n.image x))) (drop n.start bytes) q e) (sym header_is.0) f in
        stands_well (toc d (section_count_of (layout_in n.image (here n).frame))) (drop n.start bytes) c.end c.contents.0 c.contents.1 c.contents.2 e
        (subst (λ p. FailsAt (toc d (section_count_of (layout_in n.image (here n).frame))) (drop n.start bytes) p e) (sym header_is.1) same)

  all_within : (n : Next d limits bytes) (frame : Frame) (entries : List TocEntry) → ContentsStand d limits bytes n.image n.start n.used frame entries → (number : ℕ) → IsFirstTruncated (length (drop n.start bytes)) entries number → ⊥
  all_within n frame entries c number first =
      let same = (one_contents d limits bytes n.image n.start n.used (here n).frame frame (here n).entries entries (here n).contents c).1 in
      passes_each (is_within (length (drop n.start bytes))) entries number first.entry (subst (λ (es : List TocEntry). list_all (is_within (length (drop n.start bytes))) es ≡ true) same (here n).within) first.there first.passes

  -- an error is out of memory, or the codestream is too long
  pub front_without_error : (e : FrontError) → FrontFails d limits bytes e → FrontOfSize bytes e
  front_without_error errors.TooLong f = f
  front_without_error (errors.ImageHeader e) f = unless_so (kind_of e) (λ k. stands_well image_header bytes 0 image header_end header.0 (kind_of e) k) f
  front_without_error (errors.Image reason) f = none_some (image_refusal image) reason header.1 (subst (λ (i : Image). image_refusal i ≡ Some reason) (sym (image_read f.0 f.1 f.2)) f.3)
  front_without_error errors.TooLarge f = f.4 (subst (λ (i : Image). Allow limits i) (image_read f.0 f.1 f.2) header.2)
  front_without_error (errors.Profile e) f = unless_so (kind_of e) (λ k. profile_well k.0 k.1 k.2 (kind_of e) k.3) f
  front_without_error (errors.FrameHeader e) f = unless_so (kind_of e) (λ k. header_well k.0 (kind_of e) k.1) f
  front_without_error (errors.Frame reason) f = none_some (frame_refusal f.0.image f.1) reason (supported f.0 f.1 f.2 f.3) f.4
  front_without_error errors.FramesTooLarge f = f.5 (allowed f.0 f.1 f.2 f.3)
  front_without_error errors.TooManySections f = let most = few f.0 f.1 f.2 f.3.0 in let many = f.4 in absurd (omega (arith, most, many))
  front_without_error (errors.Contents e) f = unless_so (kind_of e) (λ k. contents_well k.0 k.1 k.2 k.3.0 (kind_of e) k.5) f
  front_without_error (errors.TruncatedSection number) f = all_within f.0 f.1 f.2 f.3 number f.4
