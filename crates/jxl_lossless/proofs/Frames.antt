-- What decoding a frame gives.
use Rattle.std.proofs.Common.{◌≡◌, ◌∙◌, ℕ, ℤ, List, [], get_or, length, Option, Result, Ok, Err, ap, sym, subst}
use Rattle.std.specs.Prelude.{IfErr, IfOk}
use Rattle.std.specs.Int.{w32}
use Rattle.jxlm_bits.specs.Decoding.{Found, Meaning}
use Rattle.jxlm_bits.specs.ErrorKind.{ErrorAt, UnlessMemory}
use Rattle.jxlm_bits.specs.Grammar.{IsErrorAt}
use Rattle.jxlm_base.specs.Grid.{Grid}
use Rattle.jxlm_groups.specs.Passes.{passes_of}
use Rattle.jxlm_groups.specs.declared.part.SectionPart.{SectionPart}
use Rattle.jxlm_groups.specs.declared.pass.Pass.{Pass}
use Rattle.jxlm_ma_tree.proofs.Memory.{unless_so}
use Rattle.jxlm_tree.specs.Tree.{Config}
use Rattle.jxl_image_header.specs.Images.{Image}
use Rattle.jxl_image_header.specs.declared.size.Size.{Size}
use Rattle.jxl_frame_header.specs.Frames.{Frame, frame_size}
use Rattle.jxl_frame_header.specs.Passes.{pass_shifts}
use Rattle.jxl_lossless.proofs.Alike.{fails_too, still_too}
use Rattle.jxl_lossless.specs.Places.{own_passes, section_at}
use Rattle.jxl_lossless.specs.Stills.{IsStill, StillFails}
use Rattle.jxl_lossless.specs.declared.still.error.FrameError.{FrameError}
use Rattle.jxl_lossless.specs.declared.still.places.Places.{Places}
use Rattle.jxl_codestream.specs.Fronts.{FrameAt, layout_in}
use Rattle.jxl_patches.specs.Patches.{Patches}
use Rattle.jxl_patches.specs.Errors.{patch_kind}
use Rattle.jxl_patches.specs.declared.error.PatchError.{PatchError}
use Rattle.jxl_picture.specs.Limits.{channel_count}
use Rattle.jxl_picture.specs.declared.limits.TreeLimits.{TreeLimits}
use Rattle.jxl_lossless.specs.Sections.{section_of, sections_in}
use Rattle.jxl_patches.specs.Slots.{Slots, optional_patches, sizes_of}
use Rattle.jxl_lossless.specs.Frames.{FrameFails, HasPatches, HasTree, IsFrame, SharedTree, channels_given}
use Rattle.jxl_lossless.specs.Inner.Coded.{BeginsWith, CodedFails, IsMade, MadeFails}
use Rattle.jxl_lossless.specs.declared.error.FileError.{FileError}
use Rattle.jxl_lossless.specs.declared.error.FileError.TheVariants as errors

module _ {D : Type 0} (d : Meaning D) (image : Image) (slots : Slots) (frame : Frame) (trees : TreeLimits) (first : List ℕ) (places : Places) where
  -- patches were read, and what comes after them has this error
  pub made_fails : (patches : Option Patches) (begin : ℕ) → BeginsWith d image slots frame first patches begin → (e : FileError) →
      CodedFails d w32 image trees (frame_size image.size frame) frame.group_dim first begin places e → MadeFails d image slots frame trees first places e
  made_fails patches begin stands errors.OutOfMemory h = tt
  made_fails patches begin stands (errors.Start e) h = record { patches = patches; begin = begin; dictionary = stands; fails = h }
  made_fails patches begin stands (errors.Tree e) h = record { patches = patches; begin = begin; dictionary = stands; fails = h }
  made_fails patches begin stands errors.TooManyDecisions h = record { patches = patches; begin = begin; dictionary = stands; fails = h }
  made_fails patches begin stands (errors.Samples e) h = record { patches = patches; begin = begin; dictionary = stands; fails = h }
  made_fails patches begin stands (errors.Patches e) h = absurd h
  made_fails patches begin stands (errors.File e) h = absurd h
  made_fails patches begin stands (errors.Front e) h = absurd h

  module _ (size : Size) (extra : ℕ) (sizes : List (Option Size)) (bytes : List ℕ) (p q : ℕ) (is_size : size ≡ frame_size image.size frame) (is_extra : extra ≡ length image.ec_info)
      (are : sizes ≡ (sizes_of slots)) (lies : bytes ≡ first) (start : p ≡ 0) where
    -- what was read is what stands at the begin of the first section
    read_there : (optional_patches d frame.coding.flags.patches size extra sizes).read bytes p ≡
        (optional_patches d frame.coding.flags.patches (frame_size image.size frame) (length image.ec_info) (sizes_of slots)).read first 0
    read_there =
        ap (λ (z : Size). (optional_patches d frame.coding.flags.patches z extra sizes).read bytes p) is_size
        ∙ ap (λ n. (optional_patches d frame.coding.flags.patches (frame_size image.size frame) n sizes).read bytes p) is_extra
        ∙ ap (λ (zs : List (Option Size)). (optional_patches d frame.coding.flags.patches (frame_size image.size frame) (length image.ec_info) zs).read bytes p) are
        ∙ ap (λ (b : List ℕ). (optional_patches d frame.coding.flags.patches (frame_size image.size frame) (length image.ec_info) (sizes_of slots)).read b p) lies
        ∙ ap (λ n. (optional_patches d frame.coding.flags.patches (frame_size image.size frame) (length image.ec_info) (sizes_of slots)).read first n) start

    pub begins : (patches : Option Patches) → (optional_patches d frame.coding.flags.patches size extra sizes).read bytes p ≡ Ok (record { value = patches; position = q }) →
        BeginsWith d image slots frame first patches q
    begins patches e = sym read_there ∙ e

    pub patches_fail : (e : PatchError) → UnlessMemory (patch_kind e) (IsErrorAt ((optional_patches d frame.coding.flags.patches size extra sizes).read bytes p) (patch_kind e) q) →
        MadeFails d image slots frame trees first places (errors.Patches e)
    patches_fail e h =
        unless_so (patch_kind e) (λ f. (q, f)) (subst (λ (r : Result (Found (Option Patches)) ErrorAt). UnlessMemory (patch_kind e) (IsErrorAt r (patch_kind e) q)) read_there h)

module _ {D : Type 0} (d : Meaning D) (image : Image) (slots : Slots) (bytes : List ℕ) (frame : FrameAt) (places : Places)
    (passes : places.passes.now.entries ≡ pass_shifts frame.header.passes)
    (alike : (part : SectionPart) → section_at places part ≡ section_of (layout_in image frame.header) (sections_in bytes frame) part) where
  abbrev first : List ℕ
  first = get_or (sections_in bytes frame) 0 []

  abbrev size : Size
  size = frame_size image.size frame.header

  abbrev told : List Pass
  told = passes_of (pass_shifts frame.header.passes)

  abbrev its : SectionPart → Option (List ℕ × ℕ)
  its = section_of (layout_in image frame.header) (sections_in bytes frame)

  abbrev Still : Option (Config D) → ℕ → List Pass → (SectionPart → Option (List ℕ × ℕ)) → List (Grid ℤ) → ℕ → ℕ → Type 0
  Still global begin ps f = IsStill d w32 global (channels_given image size) frame.header.group_dim image.bit_depth.bits_per_sample first begin ps f frame.trees

  abbrev Fails : Option (Config D) → ℕ → List Pass → (SectionPart → Option (List ℕ × ℕ)) → FrameError → Type 0
  Fails global begin ps f = StillFails d w32 global (channels_given image size) frame.header.group_dim image.bit_depth.bits_per_sample first begin ps f frame.trees

  -- the places are those of the frame
  still_of : (global : Option (Config D)) (begin : ℕ) (grids : List (Grid ℤ)) (before after : ℕ) → Still global begin (own_passes places) (section_at places) grids before after → Still global begin told its grids before after
  still_of global begin grids before after s =
      still_too d w32 global (channels_given image size) frame.header.group_dim image.bit_depth.bits_per_sample first begin told frame.trees (section_at places) its alike grids before after
      (subst (λ (ps : List Pass). Still global begin ps (section_at places) grids before after) (ap passes_of passes) s)

  fails_of : (global : Option (Config D)) (begin : ℕ) (e : FrameError) → Fails global begin (own_passes places) (section_at places) e → Fails global begin told its e
  fails_of global begin e s =
      fails_too d w32 global (channels_given image size) frame.header.group_dim image.bit_depth.bits_per_sample first begin told frame.trees (section_at places) its alike e
      (subst (λ (ps : List Pass). Fails global begin ps (section_at places) e) (ap passes_of passes) s)

  abbrev has_patches : (patches : Option Patches) (begin : ℕ) → BeginsWith d image slots frame.header first patches begin → HasPatches d image slots bytes frame
  has_patches patches begin stand = record { patches = patches; begin = begin; stand = stand }

  abbrev has_tree : (patches : Option Patches) (begin : ℕ) → BeginsWith d image slots frame.header first patches begin → (global : Option (Config D)) (q : ℕ) →
      SharedTree d size (channel_count image) frame.trees.depth first begin global q → HasTree d image slots bytes frame
  has_tree patches begin stand global q shared = record { after = has_patches patches begin stand; global = global; begin = q; shared = shared }

  -- the channels that were made are those of the frame
  pub framed : {X : Type 0} (grids : X → List (Grid ℤ)) (before after : ℕ) (result : Result X FileError) →
      IfOk result (λ x. IsMade d image slots frame.header frame.trees first places (grids x) before after) → IfOk result (λ x. IsFrame d image slots bytes frame (grids x) before after)
  framed grids before after (Ok x) h = record {
    tree = has_tree h.patches h.begin h.dictionary h.coded.global h.coded.begin h.coded.shared;
    own = h.own;
    still = still_of h.coded.global h.coded.begin h.own before after h.coded.still;
    put = h.put;
  }
  framed grids before after (Err e) h = tt

  bad : (e : FileError) → MadeFails d image slots frame.header frame.trees first places e → FrameFails d image slots bytes frame e
  bad errors.OutOfMemory h = tt
  bad (errors.Patches e) h = h
  bad (errors.Start e) h = (has_patches h.patches h.begin h.dictionary, h.fails)
  bad (errors.Tree e) h = (has_patches h.patches h.begin h.dictionary, h.fails)
  bad errors.TooManyDecisions h = (has_patches h.patches h.begin h.dictionary, h.fails)
  bad (errors.Samples e) h = (has_tree h.patches h.begin h.dictionary h.fails.global h.fails.begin h.fails.shared, fails_of h.fails.global h.fails.begin e h.fails.fails)
  bad (errors.File e) h = absurd h.fails
  bad (errors.Front e) h = absurd h.fails

  pub frame_fails : {X : Type 0} (result : Result X FileError) → IfErr result (MadeFails d image slots frame.header frame.trees first places) → IfErr result (FrameFails d image slots bytes frame)
  frame_fails (Ok x) h = tt
  frame_fails (Err e) h = bad e h
