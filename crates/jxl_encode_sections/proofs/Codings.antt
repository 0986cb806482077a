-- Sections that were written, in a frame of a codestream.
use Rattle.std.proofs.Common.{◌≡◌, ◌≤◌, ℕ, ℤ, List, [], ◌∷◌, get_or, inl, inr, Option, Some, refl, sym, subst, arith}
use Rattle.std.specs.Int.{w32}
use Rattle.std.specs.Prelude.{slice_get}
use Rattle.jxlm_base.specs.Grid.{Grid}
use Rattle.jxlm_groups.specs.Passes.{passes_of}
use Rattle.jxlm_groups.specs.declared.part.SectionPart.{SectionPart}
use Rattle.jxlm_groups.specs.declared.pass.Pass.{Pass}
use Rattle.jxlm_section_split.specs.CutPicture.{one_pass}
use Rattle.jxlm_transform.specs.Channels.{ChannelList}
use Rattle.jxlm_tree.specs.Tree.{Config}
use Rattle.jxl_codestream.specs.Fronts.{FrameAt, layout_in}
use Rattle.jxl_codestream.specs.Layouts.{Layout}
use Rattle.jxl_codestream.specs.Starts.{tree_limit}
use Rattle.jxl_coding.specs.Parse.{decoder_at}
use Rattle.jxl_coding.specs.Tokens.{Entropy, entropy}
use Rattle.jxl_encode_frame.specs.Codings.{AreSections, FrameCoding}
use Rattle.jxl_encode_sections.specs.Laws.{SectionsAreCoding}
use Rattle.jxl_encode_sections.specs.Sections.{AreFrameSections, most_codewords}
use Rattle.jxl_frame_header.specs.Frames.{frame_size}
use Rattle.jxl_frame_header.specs.Passes.{pass_shifts}
use Rattle.jxl_image_header.specs.Images.{Image}
use Rattle.jxl_image_header.specs.declared.size.Size.{Size}
use Rattle.jxl_lossless.specs.Frames.{channels_given}
use Rattle.jxl_lossless.specs.Sections.{section_of, sections_in}
use Rattle.jxl_picture.specs.Limits.{channel_count}
use Rattle.jxl_picture.specs.declared.limits.TreeLimits.{TreeLimits}

-- the first of all
got : (sections : List (List ℕ)) (first : List ℕ) → slice_get sections 0 ≡ Some first → first ≡ get_or sections 0 []
got [] first e = cc
got (x ∷ xs) first e = cc

-- trees within limits are within greater ones
within_more : (config : Config Entropy) (given : ChannelList) (dim : ℕ) (trees more : TreeLimits) (passes : List Pass) (first : List ℕ) (p : ℕ) (sections : SectionPart → Option (List ℕ × ℕ)) (grids : List (Grid ℤ)) → trees.depth ≤ more.depth → trees.codewords ≤ more.codewords →
    AreSections (entropy decoder_at) w32 config given dim trees passes first p sections grids → AreSections (entropy decoder_at) w32 config given dim more passes first p sections grids
within_more config given dim trees more passes first p sections grids le few s = record {
  ready = s.ready;
  cut = s.cut;
  global = s.global;
  codewords = s.codewords;
  few = λ listed once. let most = s.few listed once in omega (arith, most, few);
  groups = λ part other some.
      let found = s.groups part other some in (
        found.0,
        found.1,
        found.2,
        elim found.3 [
          | inl codes ↦ inl codes
          | inr o ↦ inr (
            record {
              tree_at = o.0.tree_at;
              header = o.0.header;
              own = o.0.own;
              samples_at = o.0.samples_at;
              tree = o.0.tree;
              within = let low = o.0.within in omega (arith, low, le);
              end = o.0.end;
              coded = o.0.coded;
            },
            o.1,
          )
        ],
      );
}

module _ (image : Image) (bytes : List ℕ) (frame : FrameAt) (deepest : ℕ) (grids : List (Grid ℤ)) where
  abbrev size : Size
  size = frame_size image.size frame.header

  -- in the frame's own words
  in_frame : passes_of (pass_shifts frame.header.passes) ≡ one_pass → deepest ≤ frame.trees.depth → most_codewords ≤ frame.trees.codewords →
      AreFrameSections w32 (channels_given image size) (layout_in image frame.header) frame.header.group_dim (tree_limit size (channel_count image)) deepest (sections_in bytes frame) grids →
      FrameCoding (entropy decoder_at) image bytes frame grids
  in_frame passes most few made = record {
    size = size;
    size_is = refl;
    first = made.first;
    first_is = got (sections_in bytes frame) made.first made.first_is;
    tree_at = made.tree_at;
    start = made.start;
    config = made.config;
    end = made.end;
    tree = made.tree;
    within = let below = made.within in omega (arith, below, most);
    sections = subst (λ (ps : List Pass). AreSections (entropy decoder_at) w32 made.config (channels_given image size) frame.header.group_dim frame.trees ps made.first made.end (section_of (layout_in image frame.header) (sections_in bytes frame)) grids)
        (sym passes)
        (within_more made.config (channels_given image size) frame.header.group_dim (record { depth = deepest; codewords = most_codewords }) frame.trees one_pass made.first made.end (section_of (layout_in image frame.header) (sections_in bytes frame)) grids most few made.sections_are);
  }

pub written_are_coding : SectionsAreCoding
written_are_coding image bytes frame given l group_dim node_limit deepest sections grids cut are made =
    let size : Size = frame_size image.size frame.header in
    let by_given = subst (λ (g : ChannelList). AreFrameSections w32 g l group_dim node_limit deepest sections grids) (sym cut.channels) made in
    let by_layout = subst (λ (k : Layout). AreFrameSections w32 (channels_given image size) k group_dim node_limit deepest sections grids) (sym cut.layout) by_given in
    let by_dim = subst (λ (n : ℕ). AreFrameSections w32 (channels_given image size) (layout_in image frame.header) n node_limit deepest sections grids) (sym cut.dim) by_layout in
    let by_nodes = subst (λ (n : ℕ). AreFrameSections w32 (channels_given image size) (layout_in image frame.header) frame.header.group_dim n deepest sections grids) (sym cut.nodes) by_dim in
    in_frame image bytes frame deepest grids cut.passes cut.depth cut.codewords
    (subst (λ (ss : List (List ℕ)). AreFrameSections w32 (channels_given image size) (layout_in image frame.header) frame.header.group_dim (tree_limit size (channel_count image)) deepest ss grids) (sym are) by_nodes)
