-- The sections of a picture's frame are a frame of it.
use Rattle.std.proofs.Common.{◌≡◌, ℕ, ◌+◌, ◌*◌, ◌^◌, ◌<◌, ◌≤◌, max, min, ℤ, List, Result, Ok, Err, refl, subst, ◌∙◌, arith}
use Rattle.std.specs.Prelude.{IfErr, IfOk}
use Rattle.std.specs.Int.{w32}
use Rattle.std.proofs.Math.Nat.{mul-le-mul}
use Rattle.std.proofs.lemmas.Nat.{le-div}
use Rattle.jxlm_base.specs.Grid.{Grid}
use Rattle.jxlm_base.specs.Regions.{store_meanings}
use Rattle.jxlm_transform.specs.Channels.{ChannelList, image_list}
use Rattle.jxlm_transform.specs.declared.param.ModularChannelParams.{ModularChannelParams}
use Rattle.jxlm_tree.specs.declared.ma.MaConfigParams.{MaConfigParams}
use Rattle.jxl_image_header.specs.Images.{Image, image_of}
use Rattle.jxl_codestream.specs.Fronts.{FrameAt}
use Rattle.jxl_codestream.specs.Layouts.{Layout}
use Rattle.jxl_codestream.specs.Starts.{tree_limit}
use Rattle.jxl_codestream.specs.declared.toc.TocEntry.{TocEntry}
use Rattle.jxl_codestream_write.specs.StillFronts.{still_at}
use Rattle.jxl_coding.specs.Parse.{decoder_at}
use Rattle.jxl_coding.specs.Tokens.{entropy}
use Rattle.jxl_lossless.specs.Frames.{channels_given}
use Rattle.jxl_lossless.specs.Sections.{sections_in}
use Rattle.jxl_lossless.proofs.Channels.{same_grids}
use Rattle.jxl_picture.specs.Limits.{cells_of, channel_count, deepest}
use Rattle.jxl_picture.specs.declared.limits.Limits.{Limits}
use Rattle.jxl_picture.specs.declared.picture.Picture.{Picture}
use Rattle.jxl_encode_frame.specs.Codings.{FrameCoding}
use Rattle.jxl_encode_sections.specs.Sections.{AreFrameSections}
use Rattle.jxl_encode_sections.proofs.Codings.{written_are_coding}
use Rattle.jxl_encode.specs.Frames.{AreSectionsOf, cut_of}

-- as many decisions for a sample as the limit says are never too many
most_of : (n : ℕ) → max 1 (min (2 ^ 22) n) ≤ 2 ^ 22
most_of n = omega arith

some_of : (n : ℕ) → 0 < max 1 (min (2 ^ 22) n)
some_of n = omega arith

pub deep_enough : (limits : Limits) (image : Image) → 128 ≤ limits.decisions → 128 ≤ deepest limits image 0 image.size
deep_enough limits image least =
    let n : ℕ = (0 + cells_of image.size) * channel_count image in
    le-div 128 (limits.decisions * 2 ^ 22) (max 1 (min (2 ^ 22) n)) (some_of n) (mul-le-mul least (most_of n))

module _ (limits : Limits) (picture : Picture) (start : ℕ) (entries : List TocEntry) (bytes : List ℕ) (sections : List (List ℕ)) where
  abbrev image : Image
  image = image_of picture.header

  abbrev frame : FrameAt
  frame = still_at limits image 1 start entries

  pub coding_of : sections_in bytes frame ≡ sections → 128 ≤ limits.decisions → 2 ^ 26 ≤ limits.codewords → AreSectionsOf picture sections → FrameCoding (entropy decoder_at) image bytes frame picture.channels.items
  coding_of same least few are =
      written_are_coding image bytes frame (channels_given image image.size) (cut_of image) 256 (tree_limit image.size (channel_count image)) 128 sections picture.channels.items
      (record { passes = refl; channels = refl; layout = refl; dim = refl; nodes = refl; depth = deep_enough limits image least; codewords = few }) same are

-- sections of these grids are those of the picture
pub sections_of : (picture : Picture) (given : List ModularChannelParams) (l : Layout) (limits : MaConfigParams) (grids : List (Grid ℤ)) (sections : List (List ℕ)) →
    image_list given ≡ channels_given (image_of picture.header) picture.header.size → l ≡ cut_of (image_of picture.header) →
    limits ≡ record { node_limit = tree_limit picture.header.size (channel_count (image_of picture.header)); depth_limit = 128 } → grids ≡ picture.channels.items →
    AreFrameSections w32 (image_list given) l 256 limits.node_limit limits.depth_limit sections (store_meanings (λ (v : ℤ). v) grids) → AreSectionsOf picture sections
sections_of picture given l limits grids sections list cut are same a =
    let image = image_of picture.header in
    let a1 = subst (λ (g : ChannelList). AreFrameSections w32 g l 256 limits.node_limit limits.depth_limit sections (store_meanings (λ (v : ℤ). v) grids)) list a in
    let a2 = subst (λ (k : Layout). AreFrameSections w32 (channels_given image picture.header.size) k 256 limits.node_limit limits.depth_limit sections (store_meanings (λ (v : ℤ). v) grids)) cut a1 in
    let a3 = subst (λ (m : MaConfigParams). AreFrameSections w32 (channels_given image picture.header.size) (cut_of image) 256 m.node_limit m.depth_limit sections (store_meanings (λ (v : ℤ). v) grids)) are a2 in
    subst (λ (gs : List (Grid ℤ)). AreFrameSections w32 (channels_given image picture.header.size) (cut_of image) 256 (tree_limit picture.header.size (channel_count image)) 128 sections gs)
    (same_grids grids ∙ same) a3

pub if_ok : {X E : Type 0} (P Q : X → Type 0) → ((x : X) → P x → Q x) → (r : Result X E) → IfOk r P → IfOk r Q
if_ok P Q f (Ok x) h = f x h
if_ok P Q f (Err e) h = tt

pub if_err : {X E : Type 0} (P Q : E → Type 0) → ((e : E) → P e → Q e) → (r : Result X E) → IfErr r P → IfErr r Q
if_err P Q f (Ok x) h = tt
if_err P Q f (Err e) h = f e h
