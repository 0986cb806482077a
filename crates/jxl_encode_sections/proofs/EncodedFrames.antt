-- Sections by the tokens of a coded image are those of its frame.
use Rattle.std.proofs.Common.{◌≡◌, ◌≢◌, ◌∙◌, ℕ, ◌<◌, ◌≤◌, ℤ, List, [], ◌∷◌, length, map, true, IsTrue, Ok, sym, ap, subst, arith}
use Rattle.std.specs.Global.{Vec}
use Rattle.std.specs.Int.{Width}
use Rattle.std.specs.List.{All}
use Rattle.std.proofs.lemmas.List.{length-map}
use Rattle.std.proofs.lemmas.List.Elements.{All-contains, All-cons, All-head, All-map, All-nil, All-tail, All-weaker}
use Rattle.jxlm_base.specs.Grid.{Grid}
use Rattle.jxlm_bit_writer.specs.declared.token.Token.{Token}
use Rattle.jxlm_encode_write.specs.declared.tree.EncodeNode.{EncodeNode}
use Rattle.jxlm_groups.specs.Cutting.{can_cut, global_count}
use Rattle.jxlm_groups.specs.Pieces.{part_channels}
use Rattle.jxlm_groups.specs.declared.part.SectionPart.{SectionPart}
use Rattle.jxlm_groups.specs.declared.part.SectionPart.TheVariants as parts
use Rattle.jxlm_samples.specs.Part.{cell_count, cells_of}
use Rattle.jxlm_section_split.specs.CutPicture.{one_pass}
use Rattle.jxlm_transform.specs.Channels.{ChannelList, image_list}
use Rattle.jxlm_transform.specs.Lists.{list_of}
use Rattle.jxlm_transform.specs.Params.{IsGroupDim, IsValidChannel}
use Rattle.jxlm_transform.specs.Transforms.{Transform}
use Rattle.jxlm_transform.specs.declared.channels.ModularChannels.{ModularChannels}
use Rattle.jxlm_transform.specs.declared.param.ModularChannelParams.{ModularChannelParams}
use Rattle.jxlm_tree.specs.Tree.{AllLeaves, Shape}
use Rattle.jxlm_ma_tree.specs.declared.leaf.Leaf.{Leaf}
use Rattle.jxlm_tree.specs.declared.ma.MaConfigParams.{MaConfigParams}
use Rattle.jxl_codestream.specs.Layouts.{Layout, has_part, layout_of, section_count_of, stream_index}
use Rattle.jxl_coding.specs.Clusters.{count_of}
use Rattle.jxl_coding.specs.Symbols.{Codes}
use Rattle.jxl_encode_frame.specs.Laws.{IsOfSize}
use Rattle.jxl_encode_frame.specs.Numbers.{HasNumber}
use Rattle.jxl_encode_frame.proofs.HasParts.{groups_in_layout}
use Rattle.jxl_encode_frame.proofs.WholePart.{no_cells}
use Rattle.jxl_encode_image.specs.Images.{IsCodedImage, samples_in}
use Rattle.jxl_encode_tree.specs.Trees.{IsClusteredTree}
use Rattle.jxl_image_header.specs.declared.size.Size.{Size}
use Rattle.jxl_encode_sections.specs.Sections.{AreFrameSections, IsFirstSection}
use Rattle.jxl_encode_sections.specs.Inner.Frames.{AreByTokens, AreTokensOfFrame, AreWrittenSections}
use Rattle.jxl_encode_sections.specs.Inner.Groups.{HasSection, HaveTokens}
use Rattle.jxl_encode_sections.specs.Inner.Parts.{AreTokensIn, CodedSamples, part_grids, part_of}
use Rattle.jxl_encode_sections.specs.declared.frame.FrameTokens.{FrameTokens}
use Rattle.jxl_encode_sections.specs.declared.parts.PartTokens.{PartTokens}
use Rattle.jxl_encode_sections.proofs.Frames.{frame_sections}
use Rattle.jxl_encode_sections.proofs.LeafClusters.{leaves_below, numbers_below}
use Rattle.jxl_encode_sections.proofs.PartCells.{clusters_below}

-- what holds of the parts of all tokens holds of the part of each
unmapped : {X Y : Type 0} (P : Y → Type 0) (f : X → Y) (xs : List X) → All P (map f xs) → All (λ x. P (f x)) xs
unmapped P f [] h = All-nil (λ x. P (f x))
unmapped P f (x ∷ xs) h = All-cons (λ x. P (f x)) x xs (All-head P (f x) (map f xs) h) (unmapped P f xs (All-tail P (f x) (map f xs) h))

-- the groups of a frame have their parts
module _ (w : Width) (dim : ℕ) (coded : CodedSamples) (t : Shape Leaf) (l : Layout) (tokens : FrameTokens) (are : AreTokensOfFrame w dim coded t l tokens) where
  pub numbers : All (λ (p : PartTokens). HasNumber l p.part) tokens.groups.items
  numbers = unmapped (HasNumber l) (λ (p : PartTokens). p.part) tokens.groups.items are.groups.numbers

  pub others : All (λ (p : PartTokens). p.part ≢ parts.Global) tokens.groups.items
  others = unmapped (λ (part : SectionPart). part ≢ parts.Global) (λ (p : PartTokens). p.part) tokens.groups.items are.groups.others

  -- and their tokens are in the clusters of the leaves
  module _ (nodes : List EncodeNode) (clusters : List ℕ) (limits : MaConfigParams) (is_tree : IsClusteredTree nodes clusters limits t) (many : ℕ) (is : count_of clusters ≡ Ok many) where
    abbrev Below : Token → Type 0
    Below t = t.cluster < many

    leaves : AllLeaves (λ (f : Leaf). f.cluster < many) t
    leaves = leaves_below clusters many (numbers_below clusters many is) t nodes is_tree.listed

    part_below : (part : SectionPart) (stream : ℕ) (own : List Token) → AreTokensIn w dim one_pass coded t part stream own → All Below own
    part_below part stream own h = clusters_below w (part_of dim one_pass coded.list t part stream) (cells_of (part_grids dim one_pass coded part)) own many h.are leaves

    pub global_below : All Below tokens.global.items
    global_below = part_below parts.Global 0 tokens.global.items are.global

    pub groups_below : All (λ (p : PartTokens). All Below p.tokens.items) tokens.groups.items
    groups_below = All-weaker (HaveTokens w dim one_pass coded t l) (λ (p : PartTokens). All Below p.tokens.items) (λ p h. part_below p.part (stream_index l p.part) p.tokens.items h) tokens.groups.items are.tokens

module _ {S : Type 0} (to_int : S → ℤ) (w : Width) (ts : List Transform) (given : List ModularChannelParams) (image : List (Grid ℤ)) (channels : ModularChannels) (store : List (Grid S))
    (coded : IsCodedImage to_int w ts (image_list given) image channels store) (dim : ℕ) (group : IsGroupDim dim) (valid : All IsValidChannel given) (size : Size) (sized : All (IsOfSize size) given) (l : Layout) (cut : l ≡ layout_of size dim 1)
    (one : section_count_of l ≡ 1 → length coded.ready.coded.list.channels ≤ global_count dim coded.ready.coded.list) where
  -- each part with samples has a section of its own
  pub there : (part : SectionPart) → part ≢ parts.Global → 0 < cell_count (part_channels dim one_pass (list_of channels) part) → (has_part l part ≡ true) × (section_count_of l ≢ 1)
  there part other some =
      let here : 0 < cell_count (part_channels dim one_pass coded.ready.coded.list part) = subst (λ (m : ChannelList). 0 < cell_count (part_channels dim one_pass m part)) (sym coded.list_is) some in (
        subst (λ (k : Layout). has_part k part ≡ true) (sym cut)
            (groups_in_layout given size dim coded.ready.transforms coded.ready.coded part (let least = group.0 in omega (arith, least)) valid sized coded.ready.accepted here),
        λ is. let none : cell_count (part_channels dim one_pass coded.ready.coded.list part) ≡ 0 = no_cells dim one_pass coded.ready.coded.list (one is) part other in omega (arith, none, here),
      )

  abbrev in_store : CodedSamples
  in_store = record { list = list_of channels; samples = samples_in to_int channels store }

  abbrev ready_samples : CodedSamples
  ready_samples = record { list = coded.ready.coded.list; samples = coded.ready.samples }

  same_samples : in_store ≡ ready_samples
  same_samples =
      ap (λ (m : ChannelList). record { list = m; samples = samples_in to_int channels store }) (sym coded.list_is)
      ∙ ap (λ (gs : List (Grid ℤ)). record { list = coded.ready.coded.list; samples = gs }) (sym coded.samples_are)

  module _ (cells : IsTrue (can_cut dim coded.ready.coded.list)) (nodes : List EncodeNode) (clusters : List ℕ) (limits : MaConfigParams) (t : Shape Leaf) (is_tree : IsClusteredTree nodes clusters limits t) (few : limits.depth_limit ≤ 2048)
      (tokens : FrameTokens) (are : AreTokensOfFrame w dim in_store t l tokens) (sections : List (Vec ℕ)) (by : AreByTokens nodes clusters ts l tokens sections) where
    abbrev codes : Codes
    codes = by.0

    abbrev written : AreWrittenSections nodes codes ts l tokens sections
    written = by.2

    found : (part : SectionPart) → part ≢ parts.Global → 0 < cell_count (part_channels dim one_pass coded.ready.coded.list part) → HasSection codes l tokens.groups.items sections part
    found part other some =
        let among = are.groups.each part other (subst (λ (m : ChannelList). 0 < cell_count (part_channels dim one_pass m part)) coded.list_is some) in
        All-contains (HasSection codes l tokens.groups.items sections) (map (λ (p : PartTokens). p.part) tokens.groups.items) part
        (All-map (HasSection codes l tokens.groups.items sections) (λ (p : PartTokens). p.part) tokens.groups.items written.groups) among

    -- the sections are those of the frame
    pub encoded : AreFrameSections w (image_list given) l dim limits.node_limit limits.depth_limit (map (λ v. v.items) sections) image
    encoded =
        frame_sections w (image_list given) image coded.ready l dim nodes clusters limits t is_tree few codes by.1 cells tokens.global.items written.first written.end
        (subst (λ (us : List Transform). IsFirstSection nodes codes us tokens.global.items written.first 0 written.end) (sym coded.transforms_are) written.is_first)
        (subst (λ (x : CodedSamples). AreTokensIn w dim one_pass x t parts.Global 0 tokens.global.items) same_samples are.global) tokens.groups.items
        (subst (λ (x : CodedSamples). All (HaveTokens w dim one_pass x t l) tokens.groups.items) same_samples are.tokens) sections found written.count written.first_is
        (length-map sections (λ (v : Vec ℕ). v.items))
