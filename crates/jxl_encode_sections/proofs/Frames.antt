-- Sections that were written are those of the frame.
use Rattle.std.proofs.Common.{◌≡◌, ◌≢◌, ◌∙◌, inl, inr, ℕ, zero, suc, ◌<◌, ◌≤◌, ℤ, List, [], length, map, IsTrue, Some, refl, sym, ap, subst, arith}
use Rattle.std.specs.Prelude.{slice_get}
use Rattle.std.specs.Global.{Vec}
use Rattle.std.specs.Int.{Width}
use Rattle.std.specs.List.{All}
use Rattle.std.proofs.lemmas.List.Elements.{All-contains}
use Rattle.jxlm_base.specs.Grid.{Grid}
use Rattle.jxlm_bit_writer.specs.declared.token.Token.{Token}
use Rattle.jxlm_encode_write.specs.declared.tree.EncodeNode.{EncodeNode}
use Rattle.jxlm_encode_streams.specs.TreeStreams.{clustered_nodes}
use Rattle.jxlm_groups.specs.Cutting.{can_cut}
use Rattle.jxlm_groups.specs.Pieces.{part_channels}
use Rattle.jxlm_groups.specs.declared.part.SectionPart.{SectionPart}
use Rattle.jxlm_groups.specs.declared.part.SectionPart.TheVariants as parts
use Rattle.jxlm_groups.specs.declared.pass.Pass.{Pass}
use Rattle.jxlm_samples.specs.Part.{cell_count}
use Rattle.jxlm_section_split.specs.CutPicture.{one_pass}
use Rattle.jxlm_transform.specs.Channels.{ChannelList}
use Rattle.jxlm_transform.specs.Transforms.{Transform}
use Rattle.jxlm_tree.specs.Tree.{Config, Shape, config_of}
use Rattle.jxlm_ma_tree.specs.declared.leaf.Leaf.{Leaf}
use Rattle.jxlm_tree.specs.declared.ma.MaConfigParams.{MaConfigParams}
use Rattle.jxl_codestream.specs.Layouts.{Layout, section_count_of, stream_index}
use Rattle.jxl_coding.specs.Parse.{decoder_at, start_of}
use Rattle.jxl_coding.specs.Tokens.{Entropy, entropy}
use Rattle.jxl_coding.specs.Symbols.{Codes}
use Rattle.jxl_encode_frame.specs.Codings.{AreSections, CodesBehindHeader}
use Rattle.jxl_encode_image.specs.Preparations.{Preparation}
use Rattle.jxl_encode_tree.specs.Trees.{IsClusteredTree}
use Rattle.jxl_encode_sections.specs.Sections.{AreBehindHeader, AreFrameSections, IsFirstSection, most_codewords}
use Rattle.jxl_encode_sections.specs.Inner.Groups.{HasSection, HaveTokens}
use Rattle.jxl_encode_sections.specs.Inner.Parts.{AreTokensIn, CodedSamples, part_grids, part_of}
use Rattle.jxl_encode_sections.specs.declared.parts.PartTokens.{PartTokens}
use Rattle.jxl_lossless.specs.Sections.{section_of}
use Rattle.jxl_encode_frame.proofs.Codewords.{sum_none}

-- the tree, and the decoder of these codes
abbrev config_by : Shape Leaf → Codes → Config Entropy
config_by t codes = config_of t (start_of codes)

-- a part whose tokens are behind a header is coded there
module _ (w : Width) (codes : Codes) (ts : List Transform) (group_dim : ℕ) (passes : List Pass) (coded : CodedSamples) (t : Shape Leaf) (part : SectionPart) (stream : ℕ) (tokens : List Token)
    (bytes : List ℕ) (p q : ℕ) (are : AreTokensIn w group_dim passes coded t part stream tokens) (behind : AreBehindHeader codes ts tokens bytes p q) where
  abbrev Goal : Type 0
  Goal = CodesBehindHeader (entropy decoder_at) w (config_by t codes) ts (part_channels group_dim passes coded.list part) stream bytes p (part_grids group_dim passes coded part)

  by_count : (n : ℕ) → cell_count (part_channels group_dim passes coded.list part) ≡ n → Goal
  by_count zero e = record { samples_at = behind.samples_at; header = behind.header; end = behind.samples_at; coded = inr (e, refl) }
  by_count (suc n) e = record {
    samples_at = behind.samples_at;
    header = behind.header;
    end = q;
    coded = inl (omega (arith, e), behind.coded w (part_of group_dim passes coded.list t part stream) (part_grids group_dim passes coded part) (start_of codes) are.are are.count refl);
  }

  pub codes_behind : Goal
  codes_behind = by_count (cell_count (part_channels group_dim passes coded.list part)) refl

module _ (w : Width) (given : ChannelList) (image : List (Grid ℤ)) (ready : Preparation w given image) (l : Layout) (group_dim : ℕ) (nodes : List EncodeNode) (clusters : List ℕ) (limits : MaConfigParams) (t : Shape Leaf)
    (is_tree : IsClusteredTree nodes clusters limits t) (few : limits.depth_limit ≤ 2048) (codes : Codes) (same : codes.clusters ≡ clusters)
    (cut : IsTrue (can_cut group_dim ready.coded.list)) (tokens : List Token) (first : List ℕ) (q : ℕ) (is_first : IsFirstSection nodes codes ready.transforms tokens first 0 q) where
  abbrev coded : CodedSamples
  coded = record { list = ready.coded.list; samples = ready.samples }

  -- the first section, and all groups with samples
  module _ (global : AreTokensIn w group_dim one_pass coded t parts.Global 0 tokens) (groups : List PartTokens) (have : All (HaveTokens w group_dim one_pass coded t l) groups) (sections : List (Vec ℕ))
      (found : (part : SectionPart) → part ≢ parts.Global → 0 < cell_count (part_channels group_dim one_pass coded.list part) → HasSection codes l groups sections part) where
    -- by the tokens of the shared tree
    by_shared : (part : SectionPart) (h : HasSection codes l groups sections part) →
        CodesBehindHeader (entropy decoder_at) w (config_by t codes) [] (part_channels group_dim one_pass coded.list part) (stream_index l part) h.bytes 0 (part_grids group_dim one_pass coded part)
    by_shared part h =
        let own : AreTokensIn w group_dim one_pass coded t h.own.part (stream_index l h.own.part) h.own.tokens.items = All-contains (HaveTokens w group_dim one_pass coded t l) groups h.own have h.among in
        let here : AreTokensIn w group_dim one_pass coded t part (stream_index l part) h.own.tokens.items =
        subst (λ (r : SectionPart). AreTokensIn w group_dim one_pass coded t r (stream_index l r) h.own.tokens.items) h.is own in
        codes_behind w codes [] group_dim one_pass coded t part (stream_index l part) h.own.tokens.items h.bytes 0 h.end here h.samples

    written : AreSections (entropy decoder_at) w (config_by t codes) given group_dim (record { depth = limits.depth_limit; codewords = most_codewords }) one_pass first is_first.tree_end (section_of l (map (λ v. v.items) sections)) image
    written = record {
      ready = ready;
      cut = cut;
      global = codes_behind w codes ready.transforms group_dim one_pass coded t parts.Global 0 tokens first is_first.tree_end q global is_first.samples;
      codewords = λ part. 0;
      few = λ listed once. let none = sum_none listed in omega (arith, none);
      groups = λ part other some. let h = found part other some in (h.bytes, stream_index l part, h.found, inl (by_shared part h));
    }

    pub frame_sections : length sections ≡ section_count_of l → slice_get (map (λ (v : Vec ℕ). v.items) sections) 0 ≡ Some first → length (map (λ (v : Vec ℕ). v.items) sections) ≡ length sections →
        AreFrameSections w given l group_dim limits.node_limit limits.depth_limit (map (λ v. v.items) sections) image
    frame_sections count at long = record {
      count = long ∙ count;
      first = first;
      first_is = at;
      tree_at = is_first.tree_at;
      start = is_first.start;
      config = config_by t codes;
      end = is_first.tree_end;
      tree = is_first.tree limits.node_limit 2048 t (is_tree.listed ∙ ap (clustered_nodes nodes) (sym same)) is_tree.limit (let within = is_tree.within in omega (arith, within, few));
      within = is_tree.within;
      sections_are = written;
    }
