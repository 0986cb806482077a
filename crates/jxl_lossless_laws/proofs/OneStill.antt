-- The sections of a frame have one image.
use Rattle.std.proofs.Common.{◌≡◌, ◌≢◌, ◌⊎◌, inl, inr, ℕ, zero, suc, ◌<◌, ℤ, pos, Bool, true, false, List, [], ◌∷◌, length, map, get_or, Option, Some, refl, sym, ap, ◌∙◌, subst, arith}
use Rattle.std.specs.Prelude.{IsTrue, MatchBool, Any}
use Rattle.std.specs.Int.{Width}
use Rattle.std.specs.List.{AllZip}
use Rattle.jxlm_bits.specs.Bits.{bytes_of, position_of}
use Rattle.jxlm_bits.specs.Decoding.{Meaning}
use Rattle.jxlm_base.specs.Grid.{Grid}
use Rattle.jxlm_base.specs.Regions.{grid_of}
use Rattle.jxlm_chain.specs.Chain.{Chain, IsOnlyImage}
use Rattle.jxlm_groups.specs.Cutting.{can_cut}
use Rattle.jxlm_groups.specs.Parts.{HoldEachCellOnce}
use Rattle.jxlm_groups.specs.declared.part.SectionPart.{SectionPart}
use Rattle.jxlm_groups.specs.declared.part.SectionPart.TheVariants as parts
use Rattle.jxlm_groups.specs.declared.pass.Pass.{Pass}
use Rattle.jxlm_header.specs.Opening.{Opening}
use Rattle.jxlm_nested.specs.Starts.{IsStartAt, Start, coded_part}
use Rattle.jxlm_samples.specs.Part.{Part, cell_count}
use Rattle.jxlm_transform.specs.Channels.{AreGridsOf, ChannelList}
use Rattle.jxlm_tree.specs.Tree.{Config}
use Rattle.jxl_modular.specs.Groups.{channels_in, part_in, pieces_of}
use Rattle.jxl_modular.specs.Image.{Image}
use Rattle.jxl_modular.specs.Sections.{CodesNested, CodesPart, CodesWhole, list_in}
use Rattle.jxl_modular.specs.declared.sections.Section.{Section}
use Rattle.jxlm_section_split.specs.CutPicture.{image_by}
use Rattle.jxlm_encode_roundtrip.proofs.TwoPictures.{one_coded, one_start}
use Rattle.jxl_picture.specs.declared.limits.TreeLimits.{TreeLimits}
use Rattle.jxl_lossless.specs.Stills.{CanDecode, HasSections, HeaderStands, IsStill}
use Rattle.jxl_lossless_laws.proofs.OnePart.{same_coded}

-- a part is the global one, or another
global_or : (part : SectionPart) → (part ≡ parts.Global) ⊎ (part ≢ parts.Global)
global_or parts.Global = inl refl
global_or (parts.Lf k) = inr (λ e. cc)
global_or (parts.Pass p k) = inr (λ e. cc)

zip_at : {X Y : Type 0} (R : X → Y → Type 0) (xs : List X) (ys : List Y) (k : ℕ) (d : X) → AllZip R xs ys → k < length xs → (y : Y) × R (get_or xs k d) y
zip_at R [] ys k d z lt = absurd (omega (arith, lt))
zip_at R (x ∷ xs) [] k d z lt = absurd z
zip_at R (x ∷ xs) (y ∷ ys) zero d z lt = (y, z.0)
zip_at R (x ∷ xs) (y ∷ ys) (suc k) d z lt = zip_at R xs ys k d z.1 (omega (arith, lt))

-- samples of a part are coded in one way
one_whole : {D : Type 0} (d : Meaning D) (w : Width) (part : Part) (bytes : List ℕ) (decoder : D) (p : ℕ) (gs hs : List (Grid ℤ)) (m n : ℕ) →
    CodesWhole d w part bytes decoder p gs m → CodesWhole d w part bytes decoder p hs n → gs ≡ hs
one_whole d w part bytes decoder p gs hs m n a b = (one_coded d w part bytes decoder p gs hs a.end b.end a.sizes b.sizes a.coded b.coded).0

-- what a header at a bit leads to
module _ {D : Type 0} (d : Meaning D) (w : Width) (global : Option (Config D)) where
  -- samples behind a header of their own, in these bytes, with this stream index, become these grids of a list of channels
  pub record IsNested (bit_depth : ℕ) (list : ChannelList) (bytes : List ℕ) (stream : ℕ) (grids : List (Grid ℤ)) : Type 0 where
    pub start : Start d global bytes list 0
    pub samples : List (Grid ℤ)
    pub nodes : ℕ
    pub coded : CodesWhole d w (coded_part stream start.head start.config) bytes start.config.decoder start.samples_at samples nodes
    pub only : IsOnlyImage w bit_depth start.head.coded.steps list grids samples

  abbrev CodedBy : ℕ → ChannelList → List ℕ → ℕ → List (Grid ℤ) → List (Grid ℤ) → ℕ → Opening → Config D → ℕ → Type 0
  CodedBy bit_depth list bytes stream grids samples nodes head config at =
      CodesWhole d w (coded_part stream head config) bytes config.decoder at samples nodes × Chain w bit_depth head.coded.steps list grids samples

  -- they become no others
  pub one_nested : (bit_depth : ℕ) (list : ChannelList) (bytes : List ℕ) (stream : ℕ) (gs hs : List (Grid ℤ)) → IsNested bit_depth list bytes stream gs → IsNested bit_depth list bytes stream hs → gs ≡ hs
  one_nested bit_depth list bytes stream gs hs a b =
      let same = one_start d global bytes list 0 a.start.head b.start.head a.start.config b.start.config a.start.samples_at b.start.samples_at a.start.start b.start.start in
      let placed : CodedBy bit_depth list bytes stream hs b.samples b.nodes b.start.head b.start.config a.start.samples_at =
      subst (CodedBy bit_depth list bytes stream hs b.samples b.nodes b.start.head b.start.config) (sym same.2) (b.coded, b.only.chain) in
      let configured : CodedBy bit_depth list bytes stream hs b.samples b.nodes b.start.head a.start.config a.start.samples_at =
      subst (λ (c : Config D). CodedBy bit_depth list bytes stream hs b.samples b.nodes b.start.head c a.start.samples_at) (sym same.1) placed in
      let headed : CodedBy bit_depth list bytes stream hs b.samples b.nodes a.start.head a.start.config a.start.samples_at =
      subst (λ (h : Opening). CodedBy bit_depth list bytes stream hs b.samples b.nodes h a.start.config a.start.samples_at) (sym same.0) configured in
      let samples = one_whole d w (coded_part stream a.start.head a.start.config) bytes a.start.config.decoder a.start.samples_at a.samples b.samples a.nodes b.nodes a.coded headed.0 in
      sym (a.only.only hs (subst (Chain w bit_depth a.start.head.coded.steps list hs) (sym samples) headed.1))

module _ {D : Type 0} (d : Meaning D) (w : Width) (global : Option (Config D)) (given : ChannelList) (group_dim bit_depth : ℕ) (bytes : List ℕ) (p : ℕ)
    (passes : List Pass) (section_of : SectionPart → Option (List ℕ × ℕ)) where
  -- the image of a header
  abbrev pub x_by : Opening → Config D → Image ℤ D
  x_by head config = image_by given head config group_dim bit_depth

  -- its channels
  abbrev own_list : ChannelList
  own_list = record { channels = given.channels; nb_meta = 0 }

  -- a group codes these grids in its section
  pub record CodesGroup (head : Opening) (config : Config D) (part : SectionPart) (grids : List (Grid ℤ)) : Type 0 where
    pub section : List ℕ
    pub stream : ℕ
    pub there : section_of part ≡ Some (section, stream)
    pub nested : IsNested d w global bit_depth (list_in (x_by head config) passes part) section stream grids

  -- Behind this header and tree the global part and the groups code one list of grids, which the image alone becomes.
  pub record CodesImage (head : Opening) (config : Config D) (at : ℕ) (grids : List (Grid ℤ)) : Type 0 where
    pub coded : List (Grid ℤ)
    pub sizes : AreGridsOf head.coded.list.channels coded
    pub nodes : ℕ
    pub global_part : CodesWhole d w (part_in (x_by head config) passes parts.Global 0) bytes config.decoder at (map (grid_of coded) (pieces_of (x_by head config) passes parts.Global)) nodes
    pub group : (part : SectionPart) → part ≢ parts.Global → 0 < cell_count (channels_in (x_by head config) passes part) → CodesGroup head config part (map (grid_of coded) (pieces_of (x_by head config) passes part))
    pub only : IsOnlyImage w bit_depth head.coded.steps own_list grids coded

  module _ (head : Opening) (config : Config D) (at : ℕ) (hold : HoldEachCellOnce group_dim passes head.coded.list) where
    one_group : (part : SectionPart) (gs hs : List (Grid ℤ)) → CodesGroup head config part gs → CodesGroup head config part hs → gs ≡ hs
    one_group part gs hs a b =
        let same : (a.section ≡ b.section) × (a.stream ≡ b.stream) = pair_of (section_of part) a.section b.section a.stream b.stream a.there b.there in
        let bytes_same = subst (λ (s : List ℕ). IsNested d w global bit_depth (list_in (x_by head config) passes part) s b.stream hs) (sym same.0) b.nested in
        let stream_same = subst (λ n. IsNested d w global bit_depth (list_in (x_by head config) passes part) a.section n hs) (sym same.1) bytes_same in
        one_nested d w global bit_depth (list_in (x_by head config) passes part) a.section a.stream gs hs a.nested stream_same where
          pair_of : (o : Option (List ℕ × ℕ)) (b c : List ℕ) (m n : ℕ) → o ≡ Some (b, m) → o ≡ Some (c, n) → (b ≡ c) × (m ≡ n)
          pair_of o b c m n h k = let same : ◌≡◌ {A = List ℕ × ℕ} (b, m) (c, n) = cc in (ap (λ (s : List ℕ × ℕ). s.0) same, ap (λ (s : List ℕ × ℕ). s.1) same)

    -- there is one image
    pub one_image : (gs hs : List (Grid ℤ)) → CodesImage head config at gs → CodesImage head config at hs → gs ≡ hs
    one_image gs hs a b =
        let same : a.coded ≡ b.coded = same_coded group_dim passes head.coded.list hold a.coded b.coded a.sizes b.sizes each in
        sym (a.only.only hs (subst (Chain w bit_depth head.coded.steps own_list hs) (sym same) b.only.chain)) where
          each : (part : SectionPart) → 0 < cell_count (channels_in (x_by head config) passes part) → map (grid_of a.coded) (pieces_of (x_by head config) passes part) ≡ map (grid_of b.coded) (pieces_of (x_by head config) passes part)
          each part some = elim (global_or part) [
            | inl is ↦ subst (λ (q : SectionPart). map (grid_of a.coded) (pieces_of (x_by head config) passes q) ≡ map (grid_of b.coded) (pieces_of (x_by head config) passes q)) (sym is)
                (one_whole d w (part_in (x_by head config) passes parts.Global 0) bytes config.decoder at _ _ a.nodes b.nodes a.global_part b.global_part)
            | inr other ↦ one_group part _ _ (a.group part other some) (b.group part other some)
          ]

  -- ---- what a frame's sections code

  abbrev Stands : Type 0
  Stands = HeaderStands d w global given group_dim bit_depth bytes p passes section_of

  abbrev Has : Type 0
  Has = HasSections d w global given group_dim bit_depth bytes p passes section_of

  abbrev Can : Type 0
  Can = CanDecode d w global given group_dim bit_depth bytes p passes section_of

  abbrev Still : TreeLimits → List (Grid ℤ) → ℕ → ℕ → Type 0
  Still trees gs before after = IsStill d w global given group_dim bit_depth bytes p passes section_of trees gs before after

  abbrev head_in : Stands → Opening
  head_in s = s.start.head

  abbrev config_in : Stands → Config D
  config_in s = s.start.config

  module _ (trees : TreeLimits) (gs : List (Grid ℤ)) (before after : ℕ) (s : Still trees gs before after) where
    abbrev stands : Stands
    stands = s.can.has.stands

    abbrev x : Image ℤ D
    x = x_by (head_in stands) (config_in stands)

    abbrev coded : List (Grid ℤ)
    coded = s.decoded.coded

    abbrev Codes : Section → ℕ → Type 0
    Codes t n = CodesPart d w (λ (v : ℤ). v) (pos 0) x passes global t (map (grid_of coded) (pieces_of x passes t.part)) n

    first_codes : (ns : List ℕ) → AllZip Codes (s.can.first ∷ s.can.has.groups) ns → (n : ℕ) × CodesWhole d w (part_in x passes parts.Global 0) bytes (config_in stands).decoder stands.start.samples_at
        (map (grid_of coded) (pieces_of x passes parts.Global)) n
    first_codes [] z = absurd z
    first_codes (n ∷ ns) z =
        let it : Section = record { part = parts.Global; bits = s.can.first.bits; stream_index = 0; nested = false } in
        let codes : Codes it n = subst (λ (t : Section). Codes t n) s.can.is z.0 in (
          n,
          subst (λ q. CodesWhole d w (part_in x passes parts.Global 0) bytes (config_in stands).decoder q (map (grid_of coded) (pieces_of x passes parts.Global)) n) s.can.goes_on
              (subst (λ (b : List ℕ). CodesWhole d w (part_in x passes parts.Global 0) b (config_in stands).decoder (position_of s.can.first.bits) (map (grid_of coded) (pieces_of x passes parts.Global)) n) s.can.bytes_are codes),
        )

    nested_codes : (t : Section) (n : ℕ) → (section_of t.part ≡ Some (bytes_of t.bits, t.stream_index)) × (position_of t.bits ≡ 0) × (t.nested ≡ true) → Codes t n →
        CodesGroup (head_in stands) (config_in stands) t.part (map (grid_of coded) (pieces_of x passes t.part))
    nested_codes t n is codes = by t.nested is.2 codes where
      by : (b : Bool) → b ≡ true → MatchBool b (CodesNested d w (λ (v : ℤ). v) (pos 0) x passes global t (map (grid_of coded) (pieces_of x passes t.part)) n)
          (CodesWhole d w (part_in x passes t.part t.stream_index) (bytes_of t.bits) (config_in stands).decoder (position_of t.bits) (map (grid_of coded) (pieces_of x passes t.part)) n) →
          CodesGroup (head_in stands) (config_in stands) t.part (map (grid_of coded) (pieces_of x passes t.part))
      by true e h = record {
        section = bytes_of t.bits;
        stream = t.stream_index;
        there = is.0;
        nested = from_start (position_of t.bits) is.1 h.start h.samples h.coded h.only;
      } where
        from_start : (q : ℕ) → q ≡ 0 → (start : Start d global (bytes_of t.bits) (list_in x passes t.part) q) (samples : List (Grid ℤ)) →
            CodesWhole d w (coded_part t.stream_index start.head start.config) (bytes_of t.bits) start.config.decoder start.samples_at samples n →
            IsOnlyImage w bit_depth start.head.coded.steps (list_in x passes t.part) (map (grid_of coded) (pieces_of x passes t.part)) samples →
            IsNested d w global bit_depth (list_in x passes t.part) (bytes_of t.bits) t.stream_index (map (grid_of coded) (pieces_of x passes t.part))
        from_start q zero_is start samples c o = record {
          start = record {
            head = start.head;
            config = start.config;
            samples_at = start.samples_at;
            start = subst (λ n. IsStartAt d global (bytes_of t.bits) (list_in x passes t.part) n start.head start.config start.samples_at) zero_is start.start;
          };
          samples = samples;
          nodes = n;
          coded = c;
          only = o;
        }
      by false e h = cc

    group_codes : (part : SectionPart) → part ≢ parts.Global → Any (λ (t : Section). t.part ≡ part) (s.can.first ∷ s.can.has.groups) → CodesGroup (head_in stands) (config_in stands) part (map (grid_of coded) (pieces_of x passes part))
    group_codes part other (zero, t, lt, at, is) = absurd (other (sym is ∙ ap (λ (t : Section). t.part) (sym at) ∙ ap (λ (t : Section). t.part) s.can.is))
    group_codes part other (suc k, t, lt, at, is) =
        let within : k < length s.can.has.groups = omega (arith, lt) in
        let found = zip_at Codes (s.can.first ∷ s.can.has.groups) s.decoded.costs (suc k) t s.decoded.parts lt in
        let codes : Codes t found.0 = subst (λ (u : Section). Codes u found.0) at found.1 in
        let group = subst (λ (u : Section). (section_of u.part ≡ Some (bytes_of u.bits, u.stream_index)) × (position_of u.bits ≡ 0) × (u.nested ≡ true)) at (s.can.has.are k t within) in
        subst (λ (q : SectionPart). CodesGroup (head_in stands) (config_in stands) q (map (grid_of coded) (pieces_of x passes q))) is (nested_codes t found.0 group codes)

    -- the parts of its image
    pub codes_image : CodesImage (head_in stands) (config_in stands) stands.start.samples_at gs
    codes_image =
        let first = first_codes s.decoded.costs s.decoded.parts in
        record {
          coded = coded;
          sizes = s.decoded.sizes;
          nodes = first.0;
          global_part = first.1;
          group = λ part other some. group_codes part other (s.decoded.complete part some);
          only = s.decoded.only;
        }

  -- two headers at a bit are one
  abbrev HeadAt : (Opening → Config D → ℕ → Type 0) → Stands → Type 0
  HeadAt P s = P s.start.head s.start.config s.start.samples_at

  pub same_head : (P : Opening → Config D → ℕ → Type 0) (s t : Stands) → HeadAt P t → HeadAt P s
  same_head P s t h =
      let same = one_start d global bytes given p s.start.head t.start.head s.start.config t.start.config s.start.samples_at t.start.samples_at s.start.start t.start.start in
      subst (λ (o : Opening). P o s.start.config s.start.samples_at) (sym same.0)
      (subst (λ (c : Config D). P t.start.head c s.start.samples_at) (sym same.1) (subst (λ n. P t.start.head t.start.config n) (sym same.2) h))

  -- so sections have one image, where parts hold each coded cell
  pub one_still : ((head : Opening) (config : Config D) (at : ℕ) → IsStartAt d global bytes given p head config at → IsTrue (can_cut group_dim head.coded.list) → HoldEachCellOnce group_dim passes head.coded.list) →
      (trees : TreeLimits) (gs hs : List (Grid ℤ)) (before after from to : ℕ) → Still trees gs before after → Still trees hs from to → gs ≡ hs
  one_still hold trees gs hs before after from to s t =
      let a = s.can.has.stands in
      one_image a.start.head a.start.config a.start.samples_at (hold a.start.head a.start.config a.start.samples_at a.start.start s.can.has.cut) gs hs (codes_image trees gs before after s)
      (same_head (λ o c n. CodesImage o c n hs) a t.can.has.stands (codes_image trees hs from to t))
