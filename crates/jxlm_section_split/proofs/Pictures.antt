-- A picture from the sections that were read, or why there is none.
use Rattle.std.proofs.Common.{◌≡◌, IsTrue, ℕ, ◌<◌, ◌^◌, ◌⊎◌, inl, inr, Bool, true, false, ℤ, List, [], ◌∷◌, ◌++◌, map, length, Option, Some, None, Result, Ok, Err, refl, sym, ap, ◌∙◌, subst}
use Rattle.std.specs.Int.{Width}
use Rattle.std.specs.List.{All}
use Rattle.std.specs.Option.{option_copied}
use Rattle.std.specs.Prelude.{IsFalse}
use Rattle.std.proofs.lemmas.List.Elements.{All-cons, All-map}
use Rattle.jxlm_bits.specs.Bits.{bytes_of, position_of}
use Rattle.jxlm_bits.specs.Decoding.{Meaning}
use Rattle.jxlm_bits.specs.ErrorKind.{BadSqueeze, Eof, ErrorKind, UnlessMemory, kind_of}
use Rattle.jxlm_bits.specs.Grammar.{IsErrorAt}
use Rattle.jxlm_base.specs.Grid.{Grid}
use Rattle.jxlm_bits.specs.declared.bits.Bitstream.{Bitstream}
use Rattle.jxlm_bits.specs.declared.error.Error.{Error}
use Rattle.jxlm_ma_tree.proofs.Memory.{always_so, unless_so}
use Rattle.jxlm_transform.proofs.Failures.{unless_memory}
use Rattle.jxlm_chain.specs.Chain.{Chain}
use Rattle.jxlm_transform.specs.ChannelSteps.{Step}
use Rattle.jxlm_transform.specs.Channels.{AreGridsOf, Channel, ChannelList, image_channel, image_list}
use Rattle.jxlm_transform.specs.Params.{IsValidChannel}
use Rattle.jxlm_transform.specs.declared.param.ModularChannelParams.{ModularChannelParams}
use Rattle.jxlm_transform.specs.declared.param.ModularParams.{ModularParams}
use Rattle.jxlm_groups.proofs.Parts.{own_picture}
use Rattle.jxlm_groups.proofs.Pictured.{IsOwn, image_of_picture}
use Rattle.jxlm_groups.proofs.Steps.{IsPictured, pictured_after_all}
use Rattle.jxlm_groups.specs.Cutting.{can_cut}
use Rattle.jxlm_groups.specs.Passes.{can_group, one_picture}
use Rattle.jxlm_header.specs.Opening.{Opening}
use Rattle.jxl_modular.specs.Image.{Image, coded_list}
use Rattle.jxl_modular.specs.Parsing.{IsImageAt, IsStartAt, IsTreeErrorAt, ParseGives, image_of, opening_at}
use Rattle.jxl_modular.specs.Sections.{AllTurn, AreDecoded, IsComplete, SectionsFit, SectionsLeave, SectionsStop}
use Rattle.jxl_modular.specs.declared.sections.Section.{Section}
use Rattle.jxl_modular.specs.declared.root.Modular.{Modular}
use Rattle.jxlm_section_split.specs.CutErrors.{CutPictureFails, EndsEarly, FirstTruncated, GroupTruncated, HeaderStands, IsSplit, IsTruncated, NoGroups, NoHeader, NoSamples, begun}
use Rattle.jxlm_section_split.specs.CutPicture.{AreNumbered, IsCutPicture, IsCutPictureLeft, IsCutPictureRead, StandBefore, groups_in_order, one_pass, with_length}
use Rattle.jxlm_section_split.specs.Splitting.{AreRead, ReadingFails}
use Rattle.jxlm_section_split.proofs.OnePass.{complete, exist, unlike}
use Rattle.jxlm_section_split.proofs.Openings.{StepsOf, opened_steps}
use Rattle.jxlm_section_split.proofs.SectionRows.{all_numbered, in_a_row}
use Rattle.jxlm_section_split.proofs.Whole.{all_whole}
use Rattle.jxlm_section_split.proofs.WithoutStore.{decoded_alone}
use Rattle.std.proofs.Common.{append_assoc}

-- channels of one picture can be grouped by the one pass
pub can_be_grouped : (cs : List Channel) → IsTrue (one_picture cs) → IsTrue (can_group one_pass cs)
can_be_grouped cs one = rw one refl

-- channels that a header leaves of those of one picture
pub record HasPicture (l : ChannelList) : Type 0 where
  pub w : ℕ
  pub h : ℕ
  pub is : IsPictured w h l

pub still_picture : (ps : List ModularChannelParams) (head : Opening) → All IsValidChannel ps → IsTrue (one_picture (image_list ps).channels) → StepsOf (image_list ps) head → HasPicture head.coded.list
still_picture ps head valid one steps =
    let own : All IsOwn (image_list ps).channels = All-map IsOwn image_channel ps (λ k d h. image_of_picture _ (valid k d h)) in
    let picture = own_picture (image_list ps).channels own one in
    record {
      w = picture.w;
      h = picture.h;
      is = pictured_after_all picture.w picture.h head.coded.steps (image_list ps) head.coded.list steps.leave steps.channels (λ i d le lt. picture.each i d lt);
    }

module _ {S D : Type 0} (d : Meaning D) (w : Width) (to_int : S → ℤ) (zero : S) (params : ModularParams D) (bytes : List ℕ) (none : option_copied params.ma_config ≡ None) (partly : Bool) where
  abbrev pub given : ChannelList
  given = image_list params.channels.items

  abbrev pub Stands : Type 0
  Stands = HeaderStands {S = S} d w to_int zero given params.group_dim params.bit_depth bytes

  abbrev pub Fails : ErrorKind → Type 0
  Fails = CutPictureFails {S = S} d w to_int zero given params.group_dim params.bit_depth bytes partly

  abbrev pub Makes : List (Grid ℤ) → Type 0
  Makes = IsCutPicture d w given params.group_dim params.bit_depth bytes

  -- an image was read from the first section
  pub record HasBegun (first rest : List ℕ) (image : Image S D) (q : ℕ) : Type 0 where
    pub stands : Stands
    pub section_is : stands.section ≡ first
    pub rest_is : stands.rest ≡ rest
    pub at : stands.samples_at ≡ q
    pub image_is : image ≡ begun {S = S} d w to_int zero given params.group_dim params.bit_depth bytes stands

  image_at : (ps : List ModularChannelParams) (all : List ℕ) (p q : ℕ) (m : Modular S D) (image : Image S D) → ParseGives d zero all p params ps (Ok m) q → image_of m ≡ Some image →
      IsImageAt d zero all p params image q
  image_at [] all p q m image gives some = absurd (none_some (sym gives.0 ∙ some)) where
    none_some : {X : Type 0} {a : X} → ◌≡◌ {A = Option X} None (Some a) → ⊥
    none_some e = cc
  image_at (c ∷ cs) all p q m image gives some =
      let (found, is, at) = gives in
      subst (λ i. IsImageAt d zero all p params i q) (same_some (sym is ∙ some)) at where
        same_some : {X : Type 0} {a b : X} → ◌≡◌ {A = Option X} (Some a) (Some b) → a ≡ b
        same_some e = cc

  pub has_begun : (first rest all : List ℕ) (p q : ℕ) (m : Modular S D) (image : Image S D) → IsSplit bytes first rest → all ≡ first → p ≡ 0 →
      ParseGives d zero all p params params.channels.items (Ok m) q → image_of m ≡ Some image → HasBegun first rest image q
  has_begun first rest all p q m image split same origin gives some =
      let at = image_at params.channels.items all p q m image gives some in
      let start : IsStartAt d None first given 0 at.head image.config q =
      subst (λ g. IsStartAt d g first given 0 at.head image.config q) none
      (subst (λ b. IsStartAt d (option_copied params.ma_config) b given 0 at.head image.config q) same
      (subst (λ n. IsStartAt d (option_copied params.ma_config) all given n at.head image.config q) origin at.start)) in
      record {
        stands = record { section = first; rest = rest; split = split; head = at.head; config = image.config; samples_at = q; start = start };
        section_is = refl;
        rest_is = refl;
        at = refl;
        image_is = at.cells;
      }

  header_error : (ps : List ModularChannelParams) (first rest all : List ℕ) (p q : ℕ) (e : Error) → IsSplit bytes first rest → all ≡ first → p ≡ 0 →
      ParseGives {S = S} d zero all p params ps (Err e) q → image_list ps ≡ given → UnlessMemory (kind_of e) (Fails (kind_of e))
  header_error [] first rest all p q e split same origin gives is = absurd gives
  header_error (c ∷ cs) first rest all p q e split same origin gives is =
      unless_so (kind_of e) (λ fails. NoHeader (record {
        section = first;
        rest = rest;
        split = split;
        place = q;
        fails = subst (λ g. IsErrorAt (opening_at {D = D} g first given 0) (kind_of e) q ⊎ IsTreeErrorAt d g first given 0 (kind_of e) q) none
            (subst (λ b. IsErrorAt (opening_at {D = D} (option_copied params.ma_config) b given 0) (kind_of e) q ⊎ IsTreeErrorAt d (option_copied params.ma_config) b given 0 (kind_of e) q) same
            (subst (λ n. IsErrorAt (opening_at {D = D} (option_copied params.ma_config) all given n) (kind_of e) q ⊎ IsTreeErrorAt d (option_copied params.ma_config) all given n (kind_of e) q) origin fails));
      })) gives

  -- header or tree has an error
  pub header_fails : (first rest all : List ℕ) (p q : ℕ) (e : Error) → IsSplit bytes first rest → all ≡ first → p ≡ 0 →
      ParseGives {S = S} d zero all p params params.channels.items (Err e) q → UnlessMemory (kind_of e) (Fails (kind_of e))
  header_fails first rest all p q e split same origin gives = header_error params.channels.items first rest all p q e split same origin gives refl

  -- the first section is truncated
  pub first_fails : (e : Error) → kind_of e ≡ Eof → IsTruncated bytes → UnlessMemory (kind_of e) (Fails (kind_of e))
  first_fails e is truncated = always_so (kind_of e) (FirstTruncated is truncated)

  module _ (first rest : List ℕ) (image : Image S D) (q : ℕ) (b : HasBegun first rest image q) where
    -- a group has a side of 0, or a later section is truncated
    pub reading_fails : (e : Error) → ReadingFails image rest e → UnlessMemory (kind_of e) (Fails (kind_of e))
    reading_fails e fails =
        let at : ReadingFails (begun {S = S} d w to_int zero given params.group_dim params.bit_depth bytes b.stands) b.stands.rest e =
        subst (λ r. ReadingFails (begun {S = S} d w to_int zero given params.group_dim params.bit_depth bytes b.stands) r e) (sym b.rest_is) (subst (λ i. ReadingFails i rest e) b.image_is fails) in
        unless_so (kind_of e) (λ h. which h) (unless_memory (kind_of e) _ at) where
          which : ((kind_of e ≡ BadSqueeze) × IsFalse (can_cut params.group_dim b.stands.head.coded.list))
              ⊎ ((kind_of e ≡ Eof) × IsTrue (can_cut params.group_dim b.stands.head.coded.list) × EndsEarly (length (groups_in_order (begun {S = S} d w to_int zero given params.group_dim params.bit_depth bytes b.stands))) b.stands.rest) → Fails (kind_of e)
          which (inl h) = NoGroups h.0 (record { header = b.stands; sideless = h.1 })
          which (inr h) = GroupTruncated h.0 (record { header = b.stands; cut = h.1; ends = h.2 })

    module _ (bits : Bitstream) (bits_are : bytes_of bits ≡ first) (place : position_of bits ≡ q) (sections : List Section) (read : AreRead image bits rest sections) (cut : IsTrue (can_cut image.group_dim (coded_list image))) where
      abbrev global : Section
      global = read.global

      abbrev more : List Section
      more = read.added.more

      sections_are : sections ≡ global ∷ more
      sections_are = read.added.in_order

      global_bytes : bytes_of global.bits ≡ first
      global_bytes = ap bytes_of read.goes_on ∙ bits_are

      global_place : position_of global.bits ≡ q
      global_place = ap position_of read.goes_on ∙ place

      stand : StandBefore bytes (global ∷ more) read.rest
      stand =
          let split : IsSplit bytes first rest = subst (λ r. IsSplit bytes first r) b.rest_is (subst (λ f. IsSplit bytes f b.stands.rest) b.section_is b.stands.split) in
          record {
            row = split.row ∙ ap (λ r. with_length first ++ r) read.added.stand.row ∙ sym (append_assoc (with_length first) (in_a_row more) read.rest)
                ∙ ap (λ f. (with_length f ++ in_a_row more) ++ read.rest) (sym global_bytes);
            fit = All-cons (λ s. length (bytes_of s.bits) < 2 ^ 32) global more (subst (λ f. length f < 2 ^ 32) (sym global_bytes) split.fits) read.added.stand.fit;
          }

      can_be_cut : IsTrue (can_cut params.group_dim b.stands.head.coded.list)
      can_be_cut = subst (λ (i : Image S D). IsTrue (can_cut i.group_dim (coded_list i))) b.image_is cut

      parts_are : map (λ s. s.part) more ≡ groups_in_order (begun {S = S} d w to_int zero given params.group_dim params.bit_depth bytes b.stands)
      parts_are = read.added.parts_are ∙ ap (λ (i : Image S D). groups_in_order i) b.image_is

      numbered : AreNumbered (global ∷ more)
      numbered = all_numbered global more read.of_global read.added.groups

      begins_there : IsStartAt d None (bytes_of global.bits) given 0 b.stands.head b.stands.config (position_of global.bits)
      begins_there = subst (λ f. IsStartAt d None f given 0 b.stands.head b.stands.config (position_of global.bits)) (b.section_is ∙ sym global_bytes)
          (subst (λ n. IsStartAt d None b.stands.section given 0 b.stands.head b.stands.config n) (b.at ∙ sym global_place) b.stands.start)

      -- the sections fit the image
      pub sections_fit : IsTrue (can_group one_pass image.given) → SectionsFit image one_pass sections
      sections_fit groups = subst (SectionsFit image one_pass) (sym sections_are) (record {
        cut = record { groups = groups; cells = cut };
        exist = exist image global more read.of_global.part read.added.parts_are;
        unlike = unlike image global more read.of_global.part read.added.parts_are;
      })

      -- decoding them fails
      pub samples_fail : (e : Error) (left : List (Grid S)) (before after : ℕ) → SectionsStop d w to_int zero image one_pass None partly sections e image.store left before after → UnlessMemory (kind_of e) (Fails (kind_of e))
      samples_fail e left before after stop =
          always_so (kind_of e) (NoSamples (record {
            header = b.stands;
            first = global;
            groups = more;
            rest = read.rest;
            stand = stand;
            bytes_are = global_bytes ∙ sym b.section_is;
            goes_on = global_place ∙ sym b.at;
            cut = can_be_cut;
            global = read.of_global.part;
            numbered = numbered;
            parts = parts_are;
            cause = e;
            cause_is = refl;
            left = left;
            before = before;
            after = after;
            stop = subst (λ (i : Image S D). SectionsStop d w to_int zero i one_pass None partly (global ∷ more) e i.store left before after) b.image_is
                (subst (λ ss. SectionsStop d w to_int zero image one_pass None partly ss e image.store left before after) sections_are stop);
          }))

      -- or the picture is left as far as it was decoded
      pub picture_left : (whole : Bool) (grids : List (Grid ℤ)) (before after : ℕ) → SectionsLeave d w to_int zero image one_pass None partly sections whole image.store grids before after →
          IsCutPictureLeft d w to_int zero given params.group_dim params.bit_depth bytes partly grids whole before after
      picture_left whole grids before after leave = record {
        first = global;
        groups = more;
        rest = read.rest;
        stand = stand;
        head = b.stands.head;
        config = b.stands.config;
        start = begins_there;
        cut = can_be_cut;
        global = read.of_global.part;
        numbered = numbered;
        parts = parts_are;
        left = subst (λ (i : Image S D). SectionsLeave d w to_int zero i one_pass None partly (global ∷ more) whole i.store grids before after) b.image_is
            (subst (λ ss. SectionsLeave d w to_int zero image one_pass None partly ss whole image.store grids before after) sections_are leave);
      }

      -- which is whole where no sample may be missing
      pub picture_whole : All IsValidChannel params.channels.items → IsTrue (one_picture given.channels) → partly ≡ false → (whole : Bool) (grids : List (Grid ℤ)) (before after : ℕ) →
          SectionsLeave d w to_int zero image one_pass None partly sections whole image.store grids before after → whole ≡ true
      picture_whole valid one never whole grids before after leave =
          let head = b.stands.head in
          let begins = b.stands.start in
          let pictured = still_picture params.channels.items head valid one (opened_steps false given b.stands.section 0 head begins.tree_at begins.header) in
          let list_is : coded_list image ≡ head.coded.list = ap (λ (i : Image S D). coded_list i) b.image_is in
          let there = subst (IsComplete image one_pass) (sym sections_are) (complete image global more read.of_global.part read.added.parts_are pictured.w pictured.h (subst (IsPictured pictured.w pictured.h) (sym list_is) pictured.is)) in
          let turns = subst (λ (b : Bool). AllTurn d w to_int zero image one_pass None b sections leave.turns image.store leave.between) never leave.left in
          leave.says.1 (all_whole d w to_int zero image one_pass None sections leave.turns image.store leave.between turns, there)

      -- and then there is the picture
      pub picture_made : (grids : List (Grid ℤ)) (before after : ℕ) → AreDecoded d w to_int zero image one_pass None sections grids before after →
          IsCutPictureRead d w given params.group_dim params.bit_depth bytes grids before after
      picture_made grids before after done =
          let picture : Makes grids = record {
            first = global;
            groups = more;
            rest = read.rest;
            stand = stand;
            head = b.stands.head;
            config = b.stands.config;
            start = begins_there;
            cut = can_be_cut;
            global = read.of_global.part;
            numbered = numbered;
            parts = parts_are;
            before = before;
            after = after;
            decoded = decoded_alone d w to_int zero (begun {S = S} d w to_int zero given params.group_dim params.bit_depth bytes b.stands) one_pass None (global ∷ more) grids before after
                (subst (λ (i : Image S D). AreDecoded d w to_int zero i one_pass None (global ∷ more) grids before after) b.image_is
                (subst (λ ss. AreDecoded d w to_int zero image one_pass None ss grids before after) sections_are done));
          } in
          record { picture = picture; from = refl; to = refl }

-- the grids of an image have the sides of its channels
chain_sides : (w : Width) (depth : ℕ) (steps : List Step) (l : ChannelList) (image coded : List (Grid ℤ)) → Chain w depth steps l image coded → AreGridsOf l.channels image
chain_sides w depth [] l image coded c = c.0
chain_sides w depth (s ∷ ss) l image coded c = c.0

pub left_sides : {S D : Type 0} (d : Meaning D) (w : Width) (to_int : S → ℤ) (zero : S) (l : ChannelList) (group_dim bit_depth : ℕ) (bytes : List ℕ) (partly : Bool) (grids : List (Grid ℤ)) (whole : Bool) (before after : ℕ) →
    IsCutPictureLeft d w to_int zero l group_dim bit_depth bytes partly grids whole before after → AreGridsOf l.channels grids
left_sides d w to_int zero l group_dim bit_depth bytes partly grids whole before after p =
    chain_sides w bit_depth p.head.coded.steps (record { channels = l.channels; nb_meta = 0 }) grids _ p.left.only.chain
