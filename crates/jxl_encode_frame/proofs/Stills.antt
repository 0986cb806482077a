-- Sections that were written are a frame.
use Rattle.std.proofs.Common.{◌≡◌, ◌≢◌, ◌↔◌, ℕ, ◌+◌, ◌*◌, ◌<◌, ◌≤◌, ℤ, pos, List, [], ◌∷◌, length, map, Bool, true, false, inl, inr, Option, Some, None, Ok, refl, sym, ap, subst, arith}
use Rattle.std.specs.Prelude.{Any, IsTrue, MatchBool, sum, sum_by}
use Rattle.std.specs.Int.{Width}
use Rattle.std.specs.List.{All, AllPairs, AllZip}
use Rattle.std.proofs.lemmas.List.Elements.{All-cons, All-head, All-nil, All-tail}
use Rattle.std.proofs.lemmas.List.Sums.{sum_by-cons}
use Rattle.jxlm_bits.specs.Bits.{bytes_of, position_of}
use Rattle.jxlm_bits.specs.Decoding.{Meaning}
use Rattle.jxlm_base.specs.Grid.{Grid}
use Rattle.jxlm_base.specs.Regions.{grids_in}
use Rattle.jxlm_chain.specs.Chain.{Chain}
use Rattle.jxlm_chain.proofs.OneImage.{no_two_images}
use Rattle.jxlm_groups.specs.Passes.{can_group, one_picture}
use Rattle.jxlm_groups.specs.declared.part.SectionPart.{SectionPart}
use Rattle.jxlm_groups.specs.declared.part.SectionPart.TheVariants as parts
use Rattle.jxlm_groups.specs.declared.pass.Pass.{Pass}
use Rattle.jxlm_groups.proofs.PartChannels.{few_channels}
use Rattle.jxlm_header.specs.Header.{file_header}
use Rattle.jxlm_header.specs.Opening.{Opening, depth_limit, node_limit, opening_of}
use Rattle.jxlm_nested.specs.Starts.{IsStartAt, opening_at}
use Rattle.jxlm_samples.specs.Coded.{IsCodedWhole}
use Rattle.jxlm_samples.specs.Part.{cell_count}
use Rattle.jxlm_transform.specs.Channels.{Channel, ChannelList, image_list, tables_for}
use Rattle.jxlm_transform.specs.ChannelSteps.{CodedList}
use Rattle.jxlm_transform.specs.Params.{IsValidChannel}
use Rattle.jxlm_transform.specs.declared.param.ModularChannelParams.{ModularChannelParams}
use Rattle.jxlm_transform.specs.declared.param.PaletteTables.TheVariants.{OfDeltasToo}
use Rattle.jxlm_tree.specs.Tree.{Config, depth}
use Rattle.jxlm_tree.specs.TreeReading.{IsTreeAt}
use Rattle.jxlm_section_split.proofs.Openings.{opened_steps}
use Rattle.jxlm_section_split.proofs.Pictures.{HasPicture, still_picture}
use Rattle.jxl_modular.specs.Groups.{channels_in, part_in, pieces_of}
use Rattle.jxl_modular.specs.Image.{Image}
use Rattle.jxlm_section_split.specs.CutPicture.{image_by}
use Rattle.jxl_modular.specs.Sections.{CodesNested, CodesPart, CodesWhole, IsComplete, list_in}
use Rattle.jxl_modular.specs.declared.sections.Section.{Section}
use Rattle.jxl_codestream.specs.Layouts.{Layout}
use Rattle.jxl_lossless.specs.Sections.{section_of}
use Rattle.jxl_picture.specs.declared.limits.TreeLimits.{TreeLimits}
use Rattle.jxl_lossless.specs.Codewords.{HasCodewords}
use Rattle.jxl_lossless.specs.Parts.{groups_in_order}
use Rattle.jxl_lossless.specs.Stills.{GroupHas, HaveCodewords, HeaderStands, IsShallowAt, IsStill, IsWeightedAt}
use Rattle.jxl_lossless.proofs.Codewords.{sum_first}
use Rattle.jxl_lossless.proofs.Complete.{all_ones, complete, each_one, sections_in_order}
use Rattle.jxl_lossless.proofs.Order.{Before, Ordered}
use Rattle.jxl_encode_image.specs.Preparations.{IsSpelled, shared_header}
use Rattle.jxl_encode_frame.specs.Codings.{AreSections, part_by_tree}
use Rattle.jxl_encode_frame.specs.Laws.{SectionsAreStill}
use Rattle.jxl_encode_frame.proofs.Codewords.{each_once}
use Rattle.jxl_encode_frame.proofs.Ends.{prepared_sides}
use Rattle.jxl_encode_frame.proofs.Headers.{not_weighted, opens, opens_any, plain_header, uses_global}
use Rattle.jxl_encode_image.proofs.Parts.{part_sides}
use Rattle.jxl_encode_frame.proofs.Readers.{at_start, place_is, reader}
use Rattle.jxl_encode_frame.proofs.Streams.{streams_rise}
use Rattle.jxl_encode_frame.proofs.Within.{header_ends}

module _ {D : Type 0} (d : Meaning D) (w : Width) (config : Config D) (ps : List ModularChannelParams) (group_dim bit_depth : ℕ)
    (passes : List Pass) (layout : Layout) (first : List ℕ) (p : ℕ) (sections : List (List ℕ)) (trees : TreeLimits) (image : List (Grid ℤ)) (low : depth config.tree ≤ trees.depth)
    (valid : All IsValidChannel ps) (files : tables_for (image_list ps).channels ≡ OfDeltasToo) (one : IsTrue (one_picture (image_list ps).channels)) (can : IsTrue (can_group passes []))
    (c : AreSections d w config (image_list ps) group_dim trees passes first p (section_of layout sections) image) where
  abbrev given : ChannelList
  given = image_list ps

  abbrev head : Opening
  head = opening_of (shared_header c.ready.transforms) c.ready.coded

  -- the image before any of its samples is decoded
  abbrev x : Image ℤ D
  x = image_by given head config group_dim bit_depth

  abbrev list : ChannelList
  list = c.ready.coded.list

  opened : opening_at (Some config) first given p ≡ Ok (record { value = head; position = c.global.samples_at })
  opened = opens true c.ready.transforms c.ready.accepted.spelled first p c.global.samples_at c.global.header given c.ready.coded files c.ready.accepted.come c.ready.count config

  start : IsStartAt d (Some config) first given p head config c.global.samples_at
  start = record { tree_at = c.global.samples_at; header = opened; tree = (refl, refl) }

  header_within : c.global.samples_at ≤ 8 * length first
  header_within = header_ends first OfDeltasToo p (shared_header c.ready.transforms) c.global.samples_at c.global.header

  abbrev Stands : Type 0
  Stands = HeaderStands d w (Some config) given group_dim bit_depth first p passes (section_of layout sections)

  abbrev stands : Stands
  stands = record {
    plain = not_weighted true c.ready.transforms c.ready.accepted.spelled first p c.global.samples_at c.global.header;
    start = record { head = head; config = config; samples_at = c.global.samples_at; start = start };
  }

  -- ---- the sections of groups

  abbrev IsOne : SectionPart → Type 0
  IsOne part = (part ≢ parts.Global) × (0 < cell_count (channels_in x passes part))

  abbrev of_part : (part : SectionPart) → IsOne part → Section
  of_part part g = record { part = part; bits = at_start (c.groups part g.0 g.1).0; stream_index = (c.groups part g.0 g.1).1; nested = true }

  abbrev listed : (qs : List SectionPart) → All IsOne qs → List Section
  listed [] all = []
  listed (q ∷ qs) all = of_part q (All-head IsOne q qs all) ∷ listed qs (All-tail IsOne q qs all)

  listed_parts : (qs : List SectionPart) (all : All IsOne qs) → map (λ (s : Section). s.part) (listed qs all) ≡ qs
  listed_parts [] all = refl
  listed_parts (q ∷ qs) all = ap (λ (rs : List SectionPart). q ∷ rs) (listed_parts qs (All-tail IsOne q qs all))

  abbrev IsOfGroup : Section → Type 0
  IsOfGroup s = (section_of layout sections s.part ≡ Some (bytes_of s.bits, s.stream_index)) × (position_of s.bits ≡ 0) × (s.nested ≡ true)

  listed_found : (qs : List SectionPart) (all : All IsOne qs) → All IsOfGroup (listed qs all)
  listed_found [] all = All-nil IsOfGroup
  listed_found (q ∷ qs) all =
      let g = All-head IsOne q qs all in
      All-cons IsOfGroup (of_part q g) (listed qs (All-tail IsOne q qs all)) ((c.groups q g.0 g.1).2, refl, refl) (listed_found qs (All-tail IsOne q qs all))

  abbrev IsPlain : Section → Type 0
  IsPlain s = ¬ (IsWeightedAt (bytes_of s.bits) 0)

  -- ---- what each codes

  abbrev cost : List Channel → ℕ
  cost channels = cell_count channels * (depth config.tree + 1)

  abbrev Codes : Section → ℕ → Type 0
  Codes s n = CodesPart d w (λ v. v) (pos 0) x passes (Some config) s (grids_in (pieces_of x passes s.part) c.ready.samples) n

  -- what holds of the section of a group
  abbrev GroupCodes : (part : SectionPart) → IsOne part → Type 0
  GroupCodes part g = IsPlain (of_part part g) × ((nodes : ℕ)
      × ((codes : CodesNested d w (λ v. v) (pos 0) x passes (Some config) (of_part part g) (grids_in (pieces_of x passes part) c.ready.samples) nodes)
      × (depth codes.start.config.tree ≤ trees.depth)))

  -- with a header that uses the frame's tree, or has one of its own
  group_by : (part : SectionPart) (g : IsOne part) (shared : Bool) (tree_at samples_at end : ℕ) (own : Config D) →
      file_header.Stands (c.groups part g.0 g.1).0 0 (plain_header shared []) tree_at →
      MatchBool shared ((◌≡◌ {A = Option (Config D)} (Some config) (Some own)) × (samples_at ≡ tree_at)) (IsTreeAt d (c.groups part g.0 g.1).0 (node_limit (channels_in x passes part)) depth_limit tree_at own samples_at) →
      depth own.tree ≤ trees.depth →
      IsCodedWhole d w (part_by_tree own (channels_in x passes part) (c.groups part g.0 g.1).1) (c.groups part g.0 g.1).0 own.decoder samples_at (grids_in (pieces_of x passes part) c.ready.samples) end → GroupCodes part g
  group_by part g shared tree_at samples_at end own stands tree shallow coded =
      let bytes : List ℕ = (c.groups part g.0 g.1).0 in
      let given_list : ChannelList = record { channels = channels_in x passes part; nb_meta = 0 } in
      let alone : CodedList = record { steps = []; list = given_list } in
      let sides = part_sides group_dim passes list part c.ready.samples in
      let few = few_channels group_dim passes list part in
      let most = c.ready.count in (
        not_weighted shared [] (All-nil IsSpelled) bytes 0 tree_at stands,
        (
          cell_count (channels_in x passes part) * (depth own.tree + 1),
          (
            record {
              start = record {
                head = opening_of (plain_header shared []) alone;
                config = own;
                samples_at = samples_at;
                start = record {
                  tree_at = tree_at;
                  header = opens_any shared bytes 0 tree_at stands given_list alone refl (omega (arith, few, most)) config;
                  tree = tree;
                };
              };
              samples = grids_in (pieces_of x passes part) c.ready.samples;
              coded = record { end = end; coded = coded; sizes = sides; costs = refl };
              only = record { chain = (sides, refl); only = λ other chain. sym chain.1 };
            },
            shallow,
          ),
        ),
      )

  group_codes : (part : SectionPart) (g : IsOne part) → GroupCodes part g
  group_codes part g =
      elim (c.groups part g.0 g.1).3 [
        | inl codes ↦ group_by part g true codes.samples_at codes.samples_at codes.end config codes.header (refl, refl) low codes.coded
        | inr own ↦ group_by part g false own.0.tree_at own.0.samples_at own.0.end own.0.own own.0.header own.0.tree own.0.within own.0.coded
      ]

  listed_plain : (qs : List SectionPart) (all : All IsOne qs) → All IsPlain (listed qs all)
  listed_plain [] all = All-nil IsPlain
  listed_plain (q ∷ qs) all =
      let g = All-head IsOne q qs all in
      All-cons IsPlain (of_part q g) (listed qs (All-tail IsOne q qs all)) (group_codes q g).0 (listed_plain qs (All-tail IsOne q qs all))

  abbrev costs : (qs : List SectionPart) → All IsOne qs → List ℕ
  costs [] all = []
  costs (q ∷ qs) all = (group_codes q (All-head IsOne q qs all)).1.0 ∷ costs qs (All-tail IsOne q qs all)

  listed_codes : (qs : List SectionPart) (all : All IsOne qs) → AllZip Codes (listed qs all) (costs qs all)
  listed_codes [] all = tt
  listed_codes (q ∷ qs) all = ((group_codes q (All-head IsOne q qs all)).1.1.0, listed_codes qs (All-tail IsOne q qs all))

  abbrev of_global : Section
  of_global = record { part = parts.Global; bits = reader first c.global.samples_at header_within; stream_index = 0; nested = false }

  global_whole : CodesWhole d w (part_in x passes parts.Global 0) first config.decoder (position_of (reader first c.global.samples_at header_within)) (grids_in (pieces_of x passes parts.Global) c.ready.samples) (cost (channels_in x passes parts.Global))
  global_whole = record {
    end = c.global.end;
    coded = subst (λ q. IsCodedWhole d w (part_in x passes parts.Global 0) first config.decoder q (grids_in (pieces_of x passes parts.Global) c.ready.samples) c.global.end) (sym (place_is first c.global.samples_at header_within)) c.global.coded;
    sizes = part_sides group_dim passes list parts.Global c.ready.samples;
    costs = refl;
  }

  global_codes : Codes of_global (cost (channels_in x passes parts.Global))
  global_codes = global_whole

  abbrev IsShallow : Section → Type 0
  IsShallow s = IsShallowAt d (Some config) (list_in x passes s.part) trees.depth (bytes_of s.bits) 0

  listed_shallow : (qs : List SectionPart) (all : All IsOne qs) → All IsShallow (listed qs all)
  listed_shallow [] all = All-nil IsShallow
  listed_shallow (q ∷ qs) all =
      let g = All-head IsOne q qs all in
      All-cons IsShallow (of_part q g) (listed qs (All-tail IsOne q qs all)) (inr (inl ((group_codes q g).1.1.0.start, (group_codes q g).1.1.1))) (listed_shallow qs (All-tail IsOne q qs all))

  -- ---- how many codewords the codes of sections' own trees may have

  abbrev Group : SectionPart → ℕ → Type 0
  Group part n = GroupHas d w (Some config) given group_dim bit_depth first p passes (section_of layout sections) stands part n

  group_has : (part : SectionPart) → IsOne part → (n : ℕ) × Group part n × (n ≤ c.codewords part)
  group_has part g =
      let (bytes, stream, found, coded) = c.groups part g.0 g.1 in
      elim coded [
        | inl codes ↦ (0, (bytes, stream, found, (None, inl (uses_global [] (All-nil IsSpelled) bytes 0 codes.samples_at codes.header), refl)), omega arith)
        | inr own ↦ (c.codewords part, (bytes, stream, found, own.1), omega arith)
      ]

  groups_have : (qs : List SectionPart) → All IsOne qs → (ns : List ℕ) × AllZip Group qs ns × (sum ns ≤ sum_by c.codewords qs)
  groups_have [] all = ([], tt, omega arith)
  groups_have (q ∷ qs) all =
      let (n, own, low) = group_has q (All-head IsOne q qs all) in
      let (ns, has, least) = groups_have qs (All-tail IsOne q qs all) in
      let sum_is = sum_first n ns in
      let bound = sum_by-cons c.codewords q qs in
      (n ∷ ns, (own, has), omega (arith, sum_is, bound, low, least))

  header_has : HasCodewords given first p 0
  header_has = (None, inl (uses_global c.ready.transforms c.ready.accepted.spelled first p c.global.samples_at c.global.header), refl)

  in_order : (qs : List SectionPart) (ones : All IsOne qs) → (map (λ (s : Section). s.part) (listed qs ones) ≡ qs → Ordered Before (map (λ (s : Section). s.part) (listed qs ones))) → Ordered Before qs
  in_order qs ones facts = subst (Ordered Before) (listed_parts qs ones) (facts (listed_parts qs ones))

  few : (n : ℕ) × HaveCodewords d w (Some config) given group_dim bit_depth first p passes (section_of layout sections) stands (groups_in_order x passes) n × (n ≤ trees.codewords)
  few =
      let (ns, has, least) = groups_have (groups_in_order x passes) (all_ones x passes) in
      let most = c.few (groups_in_order x passes) (each_once (groups_in_order x passes) (in_order (groups_in_order x passes) (all_ones x passes) (λ are. sections_in_order x passes _ are))) in
      (sum ns, (0, header_has, ns, has, omega arith), omega (arith, least, most))

  -- ---- all of them

  abbrev chain_given : Chain w bit_depth x.steps given image c.ready.samples
  chain_given = c.ready.chain bit_depth

  abbrev Still : ℕ → ℕ → Type 0
  Still before after = IsStill d w (Some config) given group_dim bit_depth first p passes (section_of layout sections) trees image before after

  made : (qs : List SectionPart) (ones : All IsOne qs) → ((part : SectionPart) → IsOne part ↔ Any (λ s. s.part ≡ part) (listed qs ones)) →
      AllPairs (λ s t. s.stream_index < t.stream_index) (listed qs ones) → IsComplete x passes (of_global ∷ listed qs ones) → (before : ℕ) → Still before before
  made qs ones each in_order complete before = record {
    can = record {
      has = record {
        stands = stands;
        cut = c.cut;
        groups = listed qs ones;
        are = listed_found qs ones;
        each = each;
        in_order = in_order;
      };
      plain = listed_plain qs ones;
      first = of_global;
      bytes_are = refl;
      goes_on = place_is first c.global.samples_at header_within;
      is = refl;
    };
    few = few;
    shallow = record { image = inr (inl (stands.start, low)); groups = listed_shallow qs ones };
    decoded = record {
      coded = c.ready.samples;
      sizes = prepared_sides w given image c.ready;
      complete = complete;
      costs = cost (channels_in x passes parts.Global) ∷ costs qs ones;
      parts = (global_codes, listed_codes qs ones);
      only = record { chain = chain_given; only = λ other chain. no_two_images w bit_depth x.steps given other image c.ready.samples chain chain_given };
      counted = (omega arith, omega arith);
    };
  }

  pictured : HasPicture head.coded.list
  pictured = still_picture ps head valid one (opened_steps true given first p head c.global.samples_at opened)

  listed_rise : (qs : List SectionPart) (ones : All IsOne qs) → Ordered Before (map (λ (s : Section). s.part) (listed qs ones)) → AllPairs (λ s t. s.stream_index < t.stream_index) (listed qs ones)
  listed_rise qs ones order = streams_rise layout sections (listed qs ones) (λ k s lt. (listed_found qs ones k s lt).0) order

  -- for each list of groups that are those of the image in their order
  in_turn : (qs : List SectionPart) (ones : All IsOne qs) → (map (λ (s : Section). s.part) (listed qs ones) ≡ qs → (IsComplete x passes (of_global ∷ listed qs ones)) × ((part : SectionPart) → IsOne part ↔ Any (λ s. s.part ≡ part) (listed qs ones)) ×
      Ordered Before (map (λ (s : Section). s.part) (listed qs ones))) → (before : ℕ) → Still before before
  in_turn qs ones facts before =
      let f = facts (listed_parts qs ones) in
      made qs ones f.1 (listed_rise qs ones f.2) f.0 before

  pub still : (before : ℕ) → (after : ℕ) × Still before after
  still before = (
    before,
    in_turn _ (all_ones x passes) (λ are. (
      complete x passes of_global _ refl are can pictured.w pictured.h pictured.is,
      each_one x passes _ are can pictured.w pictured.h pictured.is,
      sections_in_order x passes _ are,
    )) before,
  )

pub sections_still : {D : Type 0} (d : Meaning D) (w : Width) → SectionsAreStill d w
sections_still d w config ps group_dim bit_depth passes layout first p sections trees image low valid files one can c before =
    still d w config ps group_dim bit_depth passes layout first p sections trees image low valid files one can c before
