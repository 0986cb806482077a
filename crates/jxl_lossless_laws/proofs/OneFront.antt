-- Headers and tables of a codestream are read in one way.
use Rattle.std.proofs.Common.{◌≡◌, ℕ, ◌+◌, ◌/◌, Bool, true, false, List, [], ◌∷◌, ◌++◌, length, drop, Option, refl, sym, ap, ◌∙◌, subst}
use Rattle.std.specs.Prelude.{map}
use Rattle.jxlm_bits.specs.Decoding.{Meaning}
use Rattle.jxl_image_header.specs.Images.{Image, image_header}
use Rattle.jxl_frame_header.specs.Frames.{Frame, frame_header, frame_size, is_saved}
use Rattle.jxl_picture.specs.Limits.{cells_of, tree_limits}
use Rattle.jxl_picture.specs.declared.limits.Limits.{Limits}
use Rattle.jxl_picture.specs.declared.limits.TreeLimits.{TreeLimits}
use Rattle.jxl_codestream.specs.Fronts.{AreBefore, ContentsStand, FrameAt, FrameStands, FrontStands, HasProfile, ImageStands, NoFrame, OneMore, StandsAt, between, end_of, layout_in}
use Rattle.jxl_codestream.specs.Layouts.{section_count_of}
use Rattle.jxl_codestream.specs.Tocs.{IsToc, Table, toc}
use Rattle.jxl_codestream.specs.declared.toc.TocEntry.{TocEntry}
use Rattle.jxl_codestream.proofs.Bijections.{one_order}
use Rattle.jxl_lossless_laws.proofs.Reading.{stands_once}

-- one table tells one list of sections
one_toc : (table : Table) (es fs : List TocEntry) → IsToc table es → IsToc table fs → es ≡ fs
one_toc table es fs a b =
    let same = one_order table.code (length table.sizes) a.order b.order a.is_order b.is_order in
    a.entries_are ∙ ap (map _) same ∙ sym b.entries_are

not_saved : {b : Bool} → b ≡ true → b ≡ false → ⊥
not_saved h k = cc

frame_of_parts : (start : ℕ) (h k : Frame) (es fs : List TocEntry) (m n : TreeLimits) → h ≡ k → es ≡ fs → m ≡ n →
    ◌≡◌ {A = FrameAt} (record { start = start; header = h; entries = es; trees = m }) (record { start = start; header = k; entries = fs; trees = n })
frame_of_parts start h k es fs m n a b c =
    ap {B = FrameAt} (λ (x : Frame). record { start = start; header = x; entries = es; trees = m }) a
    ∙ ap {B = FrameAt} (λ (x : List TocEntry). record { start = start; header = k; entries = x; trees = m }) b
    ∙ ap {B = FrameAt} (λ (x : TreeLimits). record { start = start; header = k; entries = fs; trees = x }) c

module _ {D : Type 0} (d : Meaning D) (limits : Limits) (bytes : List ℕ) where
  pub one_image : (image other : Image) (p q : ℕ) → ImageStands d limits bytes image p → ImageStands d limits bytes other q → (image ≡ other) × (p ≡ q)
  one_image image other p q a b = stands_once image_header bytes 0 image p a.0 other q b.0

  -- there is one profile, or none
  pub one_profile : (image : Image) (x y : Option (List ℕ)) → HasProfile d limits bytes image x → HasProfile d limits bytes image y → x ≡ y
  one_profile image x y a b =
      let at = one_image image image a.end b.end a.header b.header in
      (stands_once (between d limits.profile image.colour_encoding.want_icc) bytes a.end x a.next a.stands y b.next
      (subst (λ p. StandsAt (between d limits.profile image.colour_encoding.want_icc) bytes p y b.next) (sym at.1) b.stands)).0

  module _ (image : Image) where
    -- a header and a table that stand at a byte
    pub one_contents : (start used : ℕ) (h k : Frame) (es fs : List TocEntry) → ContentsStand d limits bytes image start used h es → ContentsStand d limits bytes image start used k fs → (h ≡ k) × (es ≡ fs)
    one_contents start used h k es fs a b =
        let same = stands_once (frame_header image) (drop start bytes) 0 h a.end a.goes.0 k b.end b.goes.0 in
        let counted : StandsAt (toc d (section_count_of (layout_in image h))) (drop start bytes) b.end b.contents.0 b.contents.1 =
        subst (λ (x : Frame). StandsAt (toc d (section_count_of (layout_in image x))) (drop start bytes) b.end b.contents.0 b.contents.1) (sym same.0) b.contents.2 in
        let moved : StandsAt (toc d (section_count_of (layout_in image h))) (drop start bytes) a.end b.contents.0 b.contents.1 =
        subst (λ p. StandsAt (toc d (section_count_of (layout_in image h))) (drop start bytes) p b.contents.0 b.contents.1) (sym same.1) counted in
        let tables = stands_once (toc d (section_count_of (layout_in image h))) (drop start bytes) a.end a.contents.0 a.contents.1 a.contents.2 b.contents.0 b.contents.1 moved in
        (same.0, one_toc a.contents.0 es fs a.contents.3 (subst (λ (t : Table). IsToc t fs) (sym tables.0) b.contents.3))

    -- so a frame that begins at a byte
    pub one_frame : (used : ℕ) (f g : FrameAt) → f.start ≡ g.start → FrameStands d limits bytes image used f → FrameStands d limits bytes image used g → f ≡ g
    one_frame used f g start a b =
        let there : ContentsStand d limits bytes image f.start used g.header g.entries = subst (λ s. ContentsStand d limits bytes image s used g.header g.entries) (sym start) b.0 in
        let same = one_contents f.start used f.header g.header f.entries g.entries a.0 there in
        let bounds : f.trees ≡ g.trees = a.2 ∙ ap (λ (h : Frame). tree_limits limits image used (frame_size image.size h)) same.0 ∙ sym b.2 in
        frame_of_parts f.start f.header g.header f.entries g.entries f.trees g.trees same.0 same.1 bounds
        ∙ ap {B = FrameAt} (λ s. record { start = s; header = g.header; entries = g.entries; trees = g.trees }) start

    -- saved frames one after another, from a byte and a number of cells on
    abbrev pub Follow : List FrameAt → ℕ → ℕ → ℕ → ℕ → Type 0
    Follow [] start used next counted = (next ≡ start) × (counted ≡ used)
    Follow (f ∷ fs) start used next counted =
        (f.start ≡ start) × FrameStands d limits bytes image used f × (is_saved f.header ≡ true)
        × Follow fs (start + end_of f.entries) (used + cells_of (frame_size image.size f.header)) next counted

    follow_more : (fs : List FrameAt) (start used next counted : ℕ) (f : FrameAt) → Follow fs start used next counted → f.start ≡ next → FrameStands d limits bytes image counted f → is_saved f.header ≡ true →
        Follow (fs ++ f ∷ []) start used (f.start + end_of f.entries) (counted + cells_of (frame_size image.size f.header))
    follow_more [] start used next counted f h begins stands saved = (
      begins ∙ h.0,
      subst (λ n. FrameStands d limits bytes image n f) h.1 stands,
      saved,
      (ap (λ s. s + end_of f.entries) (begins ∙ h.0), ap (λ n. n + cells_of (frame_size image.size f.header)) h.1),
    )
    follow_more (g ∷ gs) start used next counted f h begins stands saved =
        (h.0, h.1, h.2, follow_more gs (start + end_of g.entries) (used + cells_of (frame_size image.size g.header)) next counted f h.3 begins stands saved)

    -- the first begins after the image header and what comes after it
    pub record Begins (fs : List FrameAt) (next counted : ℕ) : Type 0 where
      pub end : ℕ
      pub header : ImageStands d limits bytes image end
      pub icc : Option (List ℕ)
      pub first : ℕ
      pub stands : StandsAt (between d limits.profile image.colour_encoding.want_icc) bytes end icc first
      pub follow : Follow fs (first / 8) 0 next counted

    pub begins_of : {fs : List FrameAt} {next counted : ℕ} → AreBefore d limits bytes image fs next counted → Begins fs next counted
    begins_of (NoFrame end icc p header stands) = record { end = end; header = header; icc = icc; first = p; stands = stands; follow = (refl, refl) }
    begins_of (OneMore fs n f before stands saved) =
        let b = begins_of before in
        record {
          end = b.end;
          header = b.header;
          icc = b.icc;
          first = b.first;
          stands = b.stands;
          follow = follow_more fs (b.first / 8) 0 f.start n f b.follow refl stands saved;
        }

    pub one_begin : (fs gs : List FrameAt) (s t m n : ℕ) (a : Begins fs s m) (b : Begins gs t n) → a.first ≡ b.first
    one_begin fs gs s t m n a b =
        let at = one_image image image a.end b.end a.header b.header in
        (stands_once (between d limits.profile image.colour_encoding.want_icc) bytes a.end a.icc a.first a.stands b.icc b.first
        (subst (λ p. StandsAt (between d limits.profile image.colour_encoding.want_icc) bytes p b.icc b.first) (sym at.1) b.stands)).1

    -- frames up to one that is shown are the only ones
    pub one_list : (fs gs : List FrameAt) (f g : FrameAt) (start used m n : ℕ) → Follow fs start used f.start m → Follow gs start used g.start n →
        FrameStands d limits bytes image m f → FrameStands d limits bytes image n g → is_saved f.header ≡ false → is_saved g.header ≡ false → (fs ≡ gs) × (f ≡ g)
    one_list [] [] f g start used m n h k a b shown too =
        (refl, one_frame m f g (h.0 ∙ sym k.0) a (subst (λ c. FrameStands d limits bytes image c g) (k.1 ∙ sym h.1) b))
    one_list [] (y ∷ gs) f g start used m n h k a b shown too =
        let same = one_frame used f y (h.0 ∙ sym k.0) (subst (λ c. FrameStands d limits bytes image c f) h.1 a) k.1 in
        absurd (not_saved k.2 (ap (λ (x : FrameAt). is_saved x.header) (sym same) ∙ shown))
    one_list (x ∷ fs) [] f g start used m n h k a b shown too =
        let same = one_frame used g x (k.0 ∙ sym h.0) (subst (λ c. FrameStands d limits bytes image c g) k.1 b) h.1 in
        absurd (not_saved h.2 (ap (λ (x : FrameAt). is_saved x.header) (sym same) ∙ too))
    one_list (x ∷ fs) (y ∷ gs) f g start used m n h k a b shown too =
        let same = one_frame used x y (h.0 ∙ sym k.0) h.1 k.1 in
        let rest : Follow gs (start + end_of x.entries) (used + cells_of (frame_size image.size x.header)) g.start n =
        subst (λ (z : FrameAt). Follow gs (start + end_of z.entries) (used + cells_of (frame_size image.size z.header)) g.start n) (sym same) k.3 in
        let others = one_list fs gs f g (start + end_of x.entries) (used + cells_of (frame_size image.size x.header)) m n h.3 rest a b shown too in
        (ap (λ (z : FrameAt). z ∷ fs) same ∙ ap (λ (zs : List FrameAt). y ∷ zs) others.0, others.1)

    -- where others lead, a frame begins: one of these
    pub some_frame : (fs gs : List FrameAt) (f : FrameAt) (start used m next n : ℕ) → Follow fs start used f.start m → Follow gs start used next n →
        FrameStands d limits bytes image m f → is_saved f.header ≡ false → (g : FrameAt) × (g.start ≡ next) × FrameStands d limits bytes image n g
    some_frame [] [] f start used m next n h k a shown = (f, h.0 ∙ sym k.0, subst (λ c. FrameStands d limits bytes image c f) (h.1 ∙ sym k.1) a)
    some_frame [] (y ∷ gs) f start used m next n h k a shown =
        let same = one_frame used f y (h.0 ∙ sym k.0) (subst (λ c. FrameStands d limits bytes image c f) h.1 a) k.1 in
        absurd (not_saved k.2 (ap (λ (x : FrameAt). is_saved x.header) (sym same) ∙ shown))
    some_frame (x ∷ fs) [] f start used m next n h k a shown = (x, h.0 ∙ sym k.0, subst (λ c. FrameStands d limits bytes image c x) (sym k.1) h.1)
    some_frame (x ∷ fs) (y ∷ gs) f start used m next n h k a shown =
        let same = one_frame used x y (h.0 ∙ sym k.0) h.1 k.1 in
        some_frame fs gs f (start + end_of x.entries) (used + cells_of (frame_size image.size x.header)) m next n h.3
        (subst (λ (z : FrameAt). Follow gs (start + end_of z.entries) (used + cells_of (frame_size image.size z.header)) next n) (sym same) k.3) a shown

  -- the image header stands where frames do
  pub image_before : (image : Image) (saved : List FrameAt) (shown : FrameAt) → FrontStands d limits bytes image saved shown → (p : ℕ) × ImageStands d limits bytes image p
  image_before image saved shown h = let b = begins_of image h.1 in (b.end, b.header)

  pub same_image : (image other : Image) (fs gs : List FrameAt) (f g : FrameAt) → FrontStands d limits bytes image fs f → FrontStands d limits bytes other gs g → image ≡ other
  same_image image other fs gs f g h k =
      let a = image_before image fs f h in
      let b = image_before other gs g k in
      (one_image image other a.0 b.0 a.1 b.1).0

  -- a codestream has one list of frames
  pub one_front : (image : Image) (fs gs : List FrameAt) (f g : FrameAt) → FrontStands d limits bytes image fs f → FrontStands d limits bytes image gs g → (fs ≡ gs) × (f ≡ g)
  one_front image fs gs f g h k =
      let a = begins_of image h.1 in
      let b = begins_of image k.1 in
      let same = one_begin image fs gs f.start g.start h.0 k.0 a b in
      one_list image fs gs f g (a.first / 8) 0 h.0 k.0 a.follow (subst (λ n. Follow image gs (n / 8) 0 g.start k.0) (sym same) b.follow) h.2 k.2 h.3 k.3

  -- and where saved frames lead, one begins
  pub frame_next : (image : Image) (fs gs : List FrameAt) (f : FrameAt) (next n : ℕ) → FrontStands d limits bytes image fs f → AreBefore d limits bytes image gs next n →
      (g : FrameAt) × (g.start ≡ next) × FrameStands d limits bytes image n g
  frame_next image fs gs f next n h before =
      let a = begins_of image h.1 in
      let b = begins_of image before in
      let same = one_begin image fs gs f.start next h.0 n a b in
      some_frame image fs gs f (a.first / 8) 0 h.0 next n a.follow (subst (λ m. Follow image gs (m / 8) 0 next n) (sym same) b.follow) h.2 h.3
