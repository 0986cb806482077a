-- A frame from the sections that were listed, or why there is none.
use Rattle.std.proofs.Common.{◌≡◌, IsTrue, ℕ, ◌+◌, pos, Bool, true, false, ℤ, List, [], ◌∷◌, get_or, map, take, inl, inr, Option, Some, is_some, Result, Ok, refl, sym, ap, ◌∙◌, subst, arith}
use Rattle.std.specs.Int.{Width}
use Rattle.std.specs.Prelude.{◌&&◌, ◌||◌, ◌↔◌, ◌<◌, ◌≤◌, Any, IsFalse, MatchBool, sum}
use Rattle.std.specs.List.{All, AllZip, list_any}
use Rattle.std.proofs.lemmas.List.{take-map}
use Rattle.std.proofs.lemmas.List.Elements.{All-head, All-tail, All-take}
use Rattle.jxlm_bits.specs.Bits.{bytes_of, position_of}
use Rattle.jxlm_bits.specs.Decoding.{Meaning}
use Rattle.jxlm_bits.specs.ErrorKind.{UnlessMemory, kind_of}
use Rattle.jxlm_base.specs.Grid.{Grid}
use Rattle.jxlm_bits.specs.declared.bits.Bitstream.{Bitstream}
use Rattle.jxlm_bits.specs.declared.error.Error.{Error}
use Rattle.jxlm_ma_tree.proofs.Memory.{unless_so}
use Rattle.jxlm_tree.specs.Tree.{Config}
use Rattle.jxlm_chain.specs.Chain.{Chain}
use Rattle.jxlm_transform.specs.ChannelSteps.{Step}
use Rattle.jxlm_transform.specs.Channels.{AreGridsOf, Channel, ChannelList, image_list}
use Rattle.jxlm_transform.specs.Params.{IsValidChannel}
use Rattle.jxlm_transform.specs.declared.param.ModularChannelParams.{ModularChannelParams}
use Rattle.jxlm_groups.proofs.Steps.{IsPictured}
use Rattle.jxlm_groups.specs.Cutting.{can_cut}
use Rattle.jxlm_groups.specs.declared.part.SectionPart.{SectionPart}
use Rattle.jxlm_groups.specs.declared.part.SectionPart.TheVariants as parts
use Rattle.jxlm_samples.specs.Part.{cell_count}
use Rattle.jxlm_groups.specs.Passes.{can_group, one_picture}
use Rattle.jxlm_tree_depth.specs.Openings.{list_of_part}
use Rattle.jxl_modular.specs.Fresh.{fresh}
use Rattle.jxl_modular.specs.Groups.{channels_in}
use Rattle.jxl_modular.specs.Image.{Image, coded_list}
use Rattle.jxl_modular.specs.Sections.{AreDecoded, IsComplete, SectionsFit, SectionsLeave, SectionsStop}
use Rattle.jxl_modular.specs.declared.sections.Section.{Section}
use Rattle.jxlm_section_split.proofs.Openings.{opened_steps}
use Rattle.jxlm_section_split.proofs.Pictures.{still_picture}
use Rattle.jxlm_section_split.proofs.Whole.{all_whole}
use Rattle.jxlm_section_split.proofs.WithoutStore.{decoded_alone, storeless}
use Rattle.jxlm_tree_depth.proofs.Depths.{never}
use Rattle.jxl_lossless.proofs.Codewords.{others_have, sum_first}
use Rattle.jxl_lossless.proofs.Depths.{among_more}
use Rattle.jxl_lossless.proofs.Failing.{FirstFails, first_fails}
use Rattle.jxlm_groups.specs.declared.pass.Pass.{Pass}
use Rattle.jxl_lossless.specs.Places.{own_passes, section_at}
use Rattle.jxl_lossless.proofs.Complete.{all_ones, complete, each_one, exist, sections_in_order, unlike}
use Rattle.jxl_lossless.proofs.Order.{streams_rise}
use Rattle.jxl_lossless.proofs.Weighted.{all_plain, none_there, some_weighted, stands_there}
use Rattle.jxl_picture.specs.declared.limits.TreeLimits.{TreeLimits}
use Rattle.jxl_lossless.specs.Codewords.{HasCodewords}
use Rattle.jxl_lossless.specs.Stills.{AreShallow, CanDecode, GroupHas, HasSections, HaveFewCodewords, HaveManyCodewords, HeaderStands, IsDeepAt, IsShallowAt, IsStill, StillFails, image_at}
use Rattle.jxl_lossless.specs.Inner.Codewords.{AreBeyond, AreWithin, CodewordsSay, SectionHas, SumSays}
use Rattle.jxl_lossless.specs.Inner.Depths.{DepthsSay, IsDeep, IsShallow, SectionsSay, TreesSay}
use Rattle.jxl_lossless.specs.Inner.Listing.{AreListed, IsOfGroup, Lacks, ListingFails, SamplesStop}
use Rattle.jxl_lossless.specs.Inner.Openings.{OpenFails, Opens}
use Rattle.jxl_lossless.specs.Parts.{groups_in_order}
use Rattle.jxl_lossless.specs.Inner.Weighted.{section_is_weighted, weighted_at}
use Rattle.jxl_lossless.specs.declared.still.error.FrameError.{FrameError}
use Rattle.jxl_lossless.specs.declared.still.error.FrameError.TheVariants as errors
use Rattle.jxl_lossless.specs.declared.still.places.Places.{Places}

-- the grids of an image have the sides of its channels
chain_sides : (w : Width) (depth : ℕ) (steps : List Step) (l : ChannelList) (image coded : List (Grid ℤ)) → Chain w depth steps l image coded → AreGridsOf l.channels image
chain_sides w depth [] l image coded c = c.0
chain_sides w depth (s ∷ ss) l image coded c = c.0

-- where no sample may be missing and each part has a section, all is decoded
pub whole_decoded : {S D : Type 0} (d : Meaning D) (w : Width) (to_int : S → ℤ) (zero : S) (x : Image S D) (passes : List Pass) (global : Option (Config D)) (sections : List Section) (whole : Bool) (grids : List (Grid ℤ)) (before after : ℕ) → IsComplete x passes sections →
    SectionsLeave d w to_int zero x passes global false sections whole x.store grids before after → (◌≡◌ {A = Result Bool Error} (Ok whole) (Ok true) → AreDecoded d w to_int zero x passes global sections grids before after) → AreDecoded d w to_int zero x passes global sections grids before after
whole_decoded d w to_int zero x passes global sections whole grids before after complete left decoded =
    decoded (ap Ok (left.says.1 (all_whole d w to_int zero x passes global sections left.turns x.store left.between left.left, complete)))

-- channels of one picture can be grouped by passes that can cut an image without channels
can_be_grouped : (passes : List Pass) (cs : List Channel) → IsTrue (can_group passes []) → IsTrue (one_picture cs) → IsTrue (can_group passes cs)
can_be_grouped passes cs can one = rw one can

module _ {S D : Type 0} (d : Meaning D) (w : Width) (to_int : S → ℤ) (zero : S) (global : Option (Config D)) (ps : List ModularChannelParams) (group_dim bit_depth : ℕ) (bytes : List ℕ) (p : ℕ) (places : Places) (trees : TreeLimits) where
  abbrev given : ChannelList
  given = image_list ps

  abbrev passes : List Pass
  passes = own_passes places

  abbrev Fails : FrameError → Type 0
  Fails = StillFails d w global given group_dim bit_depth bytes p (own_passes places) (section_at places) trees

  abbrev Stands : Type 0
  Stands = HeaderStands d w global given group_dim bit_depth bytes p (own_passes places) (section_at places)

  abbrev Has : Type 0
  Has = HasSections d w global given group_dim bit_depth bytes p (own_passes places) (section_at places)

  abbrev Can : Type 0
  Can = CanDecode d w global given group_dim bit_depth bytes p (own_passes places) (section_at places)

  abbrev Made : List (Grid ℤ) → ℕ → ℕ → Type 0
  Made = IsStill d w global given group_dim bit_depth bytes p (own_passes places) (section_at places) trees

  -- what holds of each of these parts holds of the one that has no section
  of_lacking : (P : SectionPart → Type 0) (ps : List SectionPart) → All P ps → (lacks : Lacks places ps) → P lacks.part
  of_lacking P ps all lacks =
      let (k, part, lt, at, same) = lacks.asked in
      subst P (at ∙ same) (all k part lt)

  -- a section that was found is that of a group
  of_group : (s : Section) → IsOfGroup places s → (section_at places s.part ≡ Some (bytes_of s.bits, s.stream_index)) × (position_of s.bits ≡ 0) × (s.nested ≡ true)
  of_group s g = (g.there, g.begins, g.nested)

  -- opening the image fails
  pub open_fails : (e : FrameError) → OpenFails d global given bytes p e → Fails e
  open_fails (errors.Header e) h = unless_so (kind_of e) (λ f. (none_there bytes p f.0, f.1)) h
  open_fails errors.WeightedPalette h = stands_there bytes p h
  open_fails errors.OutOfMemory h = tt
  open_fails errors.NoGroups h = absurd h
  open_fails errors.NoSection h = absurd h
  open_fails errors.GroupWeightedPalette h = absurd h
  open_fails errors.TooManyCodewords h = absurd h
  open_fails errors.TooManyDecisions h = absurd h
  open_fails (errors.Samples e) h = absurd h

  module _ (image : Image S D) (q : ℕ) (o : Opens d global given bytes p zero group_dim bit_depth image q) where
    abbrev stands : Stands
    stands = record { plain = none_there bytes p o.plain; start = record { head = o.head; config = image.config; samples_at = q; start = o.start } }

    -- what holds of the image holds of that of its header, as it is before any sample
    of_header : (P : Image S D → Type 0) → P image → P (fresh zero given o.head image.config group_dim bit_depth)
    of_header P h = subst P o.is h

    -- the image can be cut by the passes
    pub groups_possible : IsTrue (can_group passes []) → IsTrue (one_picture given.channels) → IsTrue (can_group passes image.given)
    groups_possible can one = subst (λ (i : Image S D). IsTrue (can_group passes i.given)) (sym o.is) (can_be_grouped passes given.channels can one)

    -- listing the sections fails
    pub list_fails : (e : FrameError) → ListingFails places image e → Fails e
    list_fails errors.NoGroups h = (stands, of_header (λ i. IsFalse (can_cut i.group_dim (coded_list i))) h)
    list_fails errors.NoSection (cut, lacks) = (
      stands,
      of_header (λ i. IsTrue (can_cut i.group_dim (coded_list i))) cut,
      lacks.part,
      of_header (λ i. (lacks.part ≡ parts.Global → ⊥) × (0 < cell_count (channels_in i passes lacks.part)))
          (of_lacking (λ part. (part ≡ parts.Global → ⊥) × (0 < cell_count (channels_in image passes part))) (groups_in_order image passes) (all_ones image passes) lacks),
      lacks.none,
    )
    list_fails errors.OutOfMemory h = tt
    list_fails (errors.Header e) h = absurd h
    list_fails errors.WeightedPalette h = absurd h
    list_fails errors.GroupWeightedPalette h = absurd h
    list_fails errors.TooManyCodewords h = absurd h
    list_fails errors.TooManyDecisions h = absurd h
    list_fails (errors.Samples e) h = absurd h

    module _ (bits : Bitstream) (bits_are : bytes_of bits ≡ bytes) (place : position_of bits ≡ q) (sections : List Section) (listed : AreListed places image bits sections) (cut : IsTrue (can_cut image.group_dim (coded_list image))) where
      abbrev first : Section
      first = listed.global

      abbrev more : List Section
      more = listed.added.more

      sections_are : sections ≡ first ∷ more
      sections_are = listed.added.in_order

      first_bytes : bytes_of first.bits ≡ bytes
      first_bytes = ap bytes_of listed.goes_on ∙ bits_are

      first_place : position_of first.bits ≡ q
      first_place = ap position_of listed.goes_on ∙ place

      can_be_cut : IsTrue (can_cut group_dim o.head.coded.list)
      can_be_cut = of_header (λ i. IsTrue (can_cut i.group_dim (coded_list i))) cut

      first_part : first.part ≡ parts.Global
      first_part = ap (λ (s : Section). s.part) listed.of_global

      -- the sections fit the image
      pub fit : IsTrue (can_group passes []) → IsTrue (one_picture given.channels) → SectionsFit image passes sections
      fit can one = subst (SectionsFit image passes) (sym sections_are) (record {
        cut = record { groups = groups_possible can one; cells = cut };
        exist = exist image passes first more first_part listed.added.parts_are;
        unlike = unlike image passes first more first_part listed.added.parts_are;
      })

      -- its coded channels are of one picture
      pictured : All IsValidChannel ps → IsTrue (one_picture given.channels) → (w : ℕ) × (h : ℕ) × IsPictured w h (coded_list image)
      pictured valid one =
          let pic = still_picture ps o.head valid one (opened_steps (is_some global) given bytes p o.head o.start.tree_at o.start.header) in
          let list_is : coded_list image ≡ o.head.coded.list = ap (λ (i : Image S D). coded_list i) o.is in
          (pic.w, pic.h, subst (IsPictured pic.w pic.h) (sym list_is) pic.is)

      -- and each part with samples has one
      pub all_there : IsTrue (can_group passes []) → All IsValidChannel ps → IsTrue (one_picture given.channels) → IsComplete image passes sections
      all_there can valid one =
          let (w, h, is) = pictured valid one in
          subst (IsComplete image passes) (sym sections_are) (complete image passes first more first_part listed.added.parts_are can w h is)

      -- the first section has no header of its own, so all or the others alone have such a palette
      weighted_are : list_any section_is_weighted sections ≡ list_any section_is_weighted more
      weighted_are = ap (list_any section_is_weighted) sections_are ∙ ap (λ b. (b && weighted_at (bytes_of first.bits) (position_of first.bits)) || list_any section_is_weighted more) (ap (λ (s : Section). s.nested) listed.of_global)

      begin_groups : All (λ s. (position_of s.bits ≡ 0) × (s.nested ≡ true)) more
      begin_groups k d lt = let (there, begins, nested) = of_group (get_or more k d) (listed.added.groups k d lt) in (begins, nested)

      module _ (possible : IsTrue (can_group passes [])) (valid : All IsValidChannel ps) (one : IsTrue (one_picture given.channels)) where
        each_group : (part : SectionPart) → ((part ≡ parts.Global → ⊥) × (0 < cell_count (channels_in image passes part))) ↔ Any (λ s. s.part ≡ part) more
        each_group = let (w, h, is) = pictured valid one in each_one image passes more listed.added.parts_are possible w h is

        -- each group has a section
        abbrev has : Has
        has = record {
          stands = stands;
          cut = can_be_cut;
          groups = more;
          are = λ k d lt. of_group (get_or more k d) (listed.added.groups k d lt);
          each = λ part. of_header (λ i. ((part ≡ parts.Global → ⊥) × (0 < cell_count (channels_in i passes part))) ↔ Any (λ s. s.part ≡ part) more) (each_group part);
          in_order = streams_rise places more listed.added.groups (sections_in_order image passes more listed.added.parts_are);
        }

        -- and none has such a palette
        abbrev can : list_any section_is_weighted sections ≡ false → Can
        can plain = record {
          has = has;
          plain = all_plain more begin_groups (sym weighted_are ∙ plain);
          first = first;
          bytes_are = first_bytes;
          goes_on = first_place;
          is = listed.of_global;
        }

        -- the section of a group has such a palette
        pub weighted_fail : list_any section_is_weighted sections ≡ true → Fails errors.GroupWeightedPalette
        weighted_fail some = (has, some_weighted more begin_groups (sym weighted_are ∙ some))

        -- what comparing the trees says of the image's header
        abbrev Depths : Bool → Type 0
        Depths b = DepthsSay d global (list_of_part group_dim passes o.head.coded.list) trees.depth given bytes p sections b

        of_trees : (b : Bool) → TreesSay d global given group_dim bytes p (own_passes places) trees.depth sections b → Depths b
        of_trees b says = says o.head o.start.tree_at o.start.header

        module _ (plain : list_any section_is_weighted sections ≡ false) where
          abbrev list : SectionPart → ChannelList
          list = list_of_part group_dim passes o.head.coded.list

          abbrev HaveFew : Can → Type 0
          HaveFew c = HaveFewCodewords d w global given group_dim bit_depth bytes p (own_passes places) (section_at places) trees.codewords c

          abbrev Group : SectionPart → ℕ → Type 0
          Group part n = GroupHas d w global given group_dim bit_depth bytes p (own_passes places) (section_at places) stands part n

          -- the groups that have sections
          abbrev groups : List SectionPart
          groups = groups_in_order (image_at d w global given group_dim bit_depth bytes p (own_passes places) (section_at places) stands) passes

          parts_are : map (λ (s : Section). s.part) more ≡ groups
          parts_are = of_header (λ i. map (λ (s : Section). s.part) more ≡ groups_in_order i passes) listed.added.parts_are

          -- what the section of a group has
          group_has : (s : Section) (n : ℕ) → IsOfGroup places s → SectionHas list s n → Group s.part n
          group_has s n g has = (bytes_of s.bits, s.stream_index, g.there, subst (λ q. HasCodewords (list s.part) (bytes_of s.bits) q n) g.begins (by s.nested g.nested has)) where
            by : (b : Bool) → b ≡ true → MatchBool b (HasCodewords (list s.part) (bytes_of s.bits) (position_of s.bits) n) (n ≡ 0) → HasCodewords (list s.part) (bytes_of s.bits) (position_of s.bits) n
            by true e h = h
            by false e h = never (sym e)

          groups_have : (ss : List Section) (ns : List ℕ) → All (IsOfGroup places) ss → AllZip (SectionHas list) ss ns → AllZip Group (map (λ (s : Section). s.part) ss) ns
          groups_have [] [] all has = tt
          groups_have [] (n ∷ ns) all has = absurd has
          groups_have (s ∷ ss) [] all has = absurd has
          groups_have (s ∷ ss) (n ∷ ns) all has = (group_has s n (All-head (IsOfGroup places) s ss all) has.0, groups_have ss ns (All-tail (IsOfGroup places) s ss all) has.1)

          -- the first section has no header of its own
          first_has : (n : ℕ) → SectionHas list first n → n ≡ 0
          first_has n has = by first.nested (ap (λ (s : Section). s.nested) listed.of_global) has where
            by : (b : Bool) → b ≡ false → MatchBool b (HasCodewords (list first.part) (bytes_of first.bits) (position_of first.bits) n) (n ≡ 0) → n ≡ 0
            by true e h = never e
            by false e h = h

          few_by : (own : ℕ) → HasCodewords given bytes p own → (ns : List ℕ) → AllZip (SectionHas list) (first ∷ more) ns → own + sum ns ≤ trees.codewords → HaveFew (can plain)
          few_by own header [] has low = absurd has
          few_by own header (n ∷ ns) has low =
              let none = first_has n has.0 in
              let sum_is = sum_first n ns in
              (own + sum ns, (own, header, ns, subst (λ (ps : List SectionPart). AllZip Group ps ns) parts_are (groups_have more ns listed.added.groups has.1), refl), omega (arith, none, sum_is, low))

          many_by : (own : ℕ) → HasCodewords given bytes p own → (k : ℕ) (ns : List ℕ) → AllZip (SectionHas list) (take k (first ∷ more)) ns → trees.codewords < own + sum ns → Fails errors.TooManyCodewords
          many_by own header k ns has much =
              let (j, ms, others, same) = others_have list first more first_has k ns has in
              let these : map (λ (s : Section). s.part) (take j more) ≡ take j groups = sym (take-map (λ (s : Section). s.part) j more) ∙ ap (λ (ps : List SectionPart). take j ps) parts_are in (
                can plain,
                (
                  j,
                  own + sum ms,
                  (own, header, ms, subst (λ (ps : List SectionPart). AllZip Group ps ms) these (groups_have (take j more) ms (All-take (IsOfGroup places) j more listed.added.groups) others), refl),
                  omega (arith, same, much),
                ),
              )

          abbrev Sums : Bool → Type 0
          Sums b = (own : ℕ) × HasCodewords given bytes p own × SumSays list trees.codewords own sections b

          sums_of : (b : Bool) → CodewordsSay (is_some global) given group_dim bytes p (own_passes places) trees.codewords sections b → Sums b
          sums_of b says = says o.head o.start.tree_at o.start.header

          -- the codes of the own trees have few codewords
          has_few : CodewordsSay (is_some global) given group_dim bytes p (own_passes places) trees.codewords sections false → HaveFew (can plain)
          has_few says =
              let (own, header, sums) = sums_of false says in
              let (ns, has, low) = sums in
              few_by own header ns (subst (λ (ss : List Section). AllZip (SectionHas list) ss ns) sections_are has) low

          has_many : CodewordsSay (is_some global) given group_dim bytes p (own_passes places) trees.codewords sections true → Fails errors.TooManyCodewords
          has_many says =
              let (own, header, sums) = sums_of true says in
              let (k, ns, has, much) = sums in
              many_by own header k ns (subst (λ (ss : List Section). AllZip (SectionHas list) (take k ss) ns) sections_are has) much

          abbrev Says : List Section → Bool → Type 0
          Says ss b = SectionsSay d global list trees.depth ss b

          deep_by : HaveFew (can plain) → Depths true → Fails errors.TooManyDecisions
          deep_by few (inl deep) = (can plain, few, inl deep)
          deep_by few (inr says) =
              let (k, s, lt, at, is) = among_more (IsDeep d global list trees.depth) first more (ap (λ (t : Section). t.nested) listed.of_global) (subst (λ (ss : List Section). Says ss true) sections_are says) in
              let begins : position_of s.bits ≡ 0 = subst (λ (t : Section). position_of t.bits ≡ 0) at (begin_groups k s lt).0 in
              let here : IsDeepAt d global (list s.part) trees.depth (bytes_of s.bits) 0 = subst (λ n. IsDeepAt d global (list s.part) trees.depth (bytes_of s.bits) n) begins is.1 in
              (can plain, few, inr (k, s, lt, at, here))

          -- the trees are not within a limit
          pub beyond_fail : (e : FrameError) → AreBeyond d global given group_dim bytes p (own_passes places) trees sections e → Fails e
          beyond_fail errors.TooManyCodewords h = has_many h
          beyond_fail errors.TooManyDecisions h = deep_by (has_few h.0) (of_trees true h.1)
          beyond_fail errors.OutOfMemory h = tt
          beyond_fail (errors.Header e) h = absurd h
          beyond_fail errors.WeightedPalette h = absurd h
          beyond_fail errors.NoGroups h = absurd h
          beyond_fail errors.NoSection h = absurd h
          beyond_fail errors.GroupWeightedPalette h = absurd h
          beyond_fail (errors.Samples e) h = absurd h

          -- none is too deep
          all_shallow : TreesSay d global given group_dim bytes p (own_passes places) trees.depth sections false →
              AreShallow d w global given group_dim bit_depth bytes p (own_passes places) (section_at places) trees.depth (can plain)
          all_shallow compared =
              let says = of_trees false compared in
              record {
                image = says.0;
                groups = λ k s lt.
                    let t : Section = get_or more k s in
                    let each : All (λ s. s.nested ≡ true → IsShallow d global list trees.depth s) more = All-tail (λ s. s.nested ≡ true → IsShallow d global list trees.depth s) first more (subst (λ (ss : List Section). Says ss false) sections_are says.1) in
                    let begins = begin_groups k s lt in
                    let here : IsShallowAt d global (list t.part) trees.depth (bytes_of t.bits) 0 = subst (λ n. IsShallowAt d global (list t.part) trees.depth (bytes_of t.bits) n) begins.0 (each k s lt begins.1) in
                    here;
              }

        -- decoding them fails
        pub samples_fail : (e : FrameError) → list_any section_is_weighted sections ≡ false → AreWithin d global given group_dim bytes p (own_passes places) trees sections → SamplesStop d w to_int zero image passes global sections e → Fails e
        samples_fail (errors.Samples e) plain within h =
            let (left, before, after, stop) = h in
            let here = subst (λ ss. SectionsStop d w to_int zero image passes global false ss e image.store left before after) sections_are stop in
            let fails = first_fails d w to_int zero image passes global (first ∷ more) e image.store left before after here in
            unless_so (kind_of e) (λ f. let (coded, failing, others, is, all, fails) = f in (can plain, has_few plain within.few, all_shallow plain within.shallow, coded, failing, others, is, all, fails)) (of_header (λ i. UnlessMemory (kind_of e) (FirstFails d w to_int zero i passes global (first ∷ more) (kind_of e))) fails)
        samples_fail (errors.Header e) plain within h = absurd h
        samples_fail errors.WeightedPalette plain within h = absurd h
        samples_fail errors.NoGroups plain within h = absurd h
        samples_fail errors.NoSection plain within h = absurd h
        samples_fail errors.GroupWeightedPalette plain within h = absurd h
        samples_fail errors.TooManyCodewords plain within h = absurd h
        samples_fail errors.TooManyDecisions plain within h = absurd h
        samples_fail errors.OutOfMemory plain within h = absurd h

        -- or there is the frame
        pub made : list_any section_is_weighted sections ≡ false → AreWithin d global given group_dim bytes p (own_passes places) trees sections → (grids : List (Grid ℤ)) (before after : ℕ) → AreDecoded d w to_int zero image passes global sections grids before after → Made grids before after
        made plain within grids before after done =
            let here = subst (λ ss. AreDecoded d w to_int zero image passes global ss grids before after) sections_are done in
            record {
              can = can plain;
              few = has_few plain within.few;
              shallow = all_shallow plain within.shallow;
              decoded = of_header (λ i. AreDecoded {S = ℤ} d w (λ v. v) (pos 0) (storeless i) passes global (first ∷ more) grids before after) (decoded_alone d w to_int zero image passes global (first ∷ more) grids before after here);
            }

  -- whose grids have the sides of the channels
  pub still_sides : (grids : List (Grid ℤ)) (before after : ℕ) → Made grids before after → AreGridsOf given.channels grids
  still_sides grids before after s =
      chain_sides w bit_depth s.can.has.stands.start.head.coded.steps (record { channels = given.channels; nb_meta = 0 }) grids s.decoded.coded s.decoded.only.chain
