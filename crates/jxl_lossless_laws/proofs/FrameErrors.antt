-- Where the sections of a frame have channels, decoding them returns no error.
use Rattle.std.proofs.Common.{◌≡◌, ℕ, ◌≤◌, ℤ, Bool, true, false, List, [], get_or, length, Option, Some, None, sym, ap, subst, arith}
use Rattle.std.specs.Prelude.{MatchBool}
use Rattle.std.specs.Int.{w32}
use Rattle.jxlm_bits.specs.Decoding.{Meaning}
use Rattle.jxlm_bits.specs.ErrorKind.{ErrorKind, kind_of}
use Rattle.jxlm_base.specs.Grid.{Grid}
use Rattle.jxlm_groups.specs.Passes.{passes_of}
use Rattle.jxlm_ma_tree.proofs.Memory.{unless_so}
use Rattle.jxlm_tree.specs.Tree.{Config, depth}
use Rattle.jxlm_tree.specs.TreeReading.{IsTreeAt}
use Rattle.jxlm_encode_roundtrip.proofs.TwoPictures.{one_tree}
use Rattle.jxlm_encode_roundtrip.proofs.WithoutErrors.{tree_without_error}
use Rattle.jxl_image_header.specs.Images.{Image, image_refusal}
use Rattle.jxl_image_header.specs.declared.size.Size.{Size}
use Rattle.jxl_frame_header.specs.Frames.{frame_size}
use Rattle.jxl_frame_header.specs.Passes.{pass_shifts}
use Rattle.jxl_picture.specs.Limits.{channel_count}
use Rattle.jxl_picture.specs.declared.limits.Limits.{Limits}
use Rattle.jxl_codestream.specs.Fronts.{FailsAt, FrameAt, FrameStands, StandsAt, layout_in}
use Rattle.jxl_codestream.specs.Starts.{section_start, tree_limit}
use Rattle.jxl_patches.specs.Errors.{patch_kind}
use Rattle.jxl_patches.specs.Slots.{Slots, optional_patches, sizes_of}
use Rattle.jxl_lossless.specs.Frames.{FrameFails, HasPatches, HasTree, IsFrame, SharedTree, TreeFails, TreeIsDeep, channels_given}
use Rattle.jxl_lossless.specs.Sections.{section_of, sections_in}
use Rattle.jxl_lossless.specs.Stills.{StillFails}
use Rattle.jxl_lossless.specs.declared.error.FileError.{FileError}
use Rattle.jxl_lossless.specs.declared.error.FileError.TheVariants as errors
use Rattle.jxl_lossless.specs.declared.still.error.FrameError.{FrameError}
use Rattle.jxl_lossless_laws.proofs.OneFrame.{one_after, one_patches}
use Rattle.jxl_lossless_laws.proofs.Patching.{SameSlots, same_sizes}
use Rattle.jxl_lossless_laws.proofs.Reading.{stands_once, stands_well}
use Rattle.jxl_lossless_laws.proofs.StillErrors.{still_without_error}
use Rattle.jxl_lossless_laws.specs.Errors.{IsFileMemory, IsFrameMemory}

-- ---- the tree that sections share

module _ {D : Type 0} (d : Meaning D) (size : Size) (n deepest : ℕ) (first : List ℕ) (p : ℕ) (global : Option (Config D)) (q : ℕ) (h : SharedTree d size n deepest first p global q) where
  abbrev TreeThere : Bool → ℕ → Type 0
  TreeThere b begin =
      MatchBool b ((tree : Config D) × (global ≡ Some tree) × IsTreeAt d first (tree_limit size n) 2048 begin tree q × (depth tree.tree ≤ deepest)) ((global ≡ None) × (q ≡ begin))

  -- the tree that stands where the start says that there is one
  tree_there : (begin : ℕ) → StandsAt section_start first p true begin → TreeThere true begin
  tree_there begin s =
      let same = stands_once section_start first p h.there h.begin h.start true begin s in
      subst (λ (b : Bool). TreeThere b begin) same.0 (subst (TreeThere h.there) same.1 h.tree)

  tree_well : (error : ErrorKind) → TreeFails d size n first p error → ⊥
  tree_well error (begin, s, r, fails) =
      let (tree, is, at, deep) = tree_there begin s in
      tree_without_error d first (tree_limit size n) 2048 begin tree q at error r fails

  not_deep : TreeIsDeep d size n deepest first p → ⊥
  not_deep (begin, s, other, r, there, beyond) =
      let (tree, is, at, deep) = tree_there begin s in
      let same = one_tree d None first false (tree_limit size n) begin tree other q r at there in
      omega (arith, deep, beyond, ap (λ (c : Config D). depth c.tree) same.0)

module _ {D : Type 0} (d : Meaning D) (limits : Limits) (bytes : List ℕ) (image : Image) (supported : image_refusal image ≡ None) (used : ℕ) (frame : FrameAt) (stands : FrameStands d limits bytes image used frame)
    (some others : Slots) (same : SameSlots some others) (gs : List (Grid ℤ)) (before after : ℕ) (f : IsFrame d image some bytes frame gs before after) where
  abbrev size : Size
  size = frame_size image.size frame.header

  abbrev start : List ℕ
  start = get_or (sections_in bytes frame) 0 []

  patches_well : (error : ErrorKind) → FailsAt (optional_patches d frame.header.coding.flags.patches size (length image.ec_info) (sizes_of others)) start 0 error → ⊥
  patches_well error fails =
      let a = f.tree.after in
      stands_well (optional_patches d frame.header.coding.flags.patches size (length image.ec_info) (sizes_of some)) start 0 a.patches a.begin a.stand error
      (subst (λ (zs : List (Option Size)). FailsAt (optional_patches d frame.header.coding.flags.patches size (length image.ec_info) zs) start 0 error) (sym (same_sizes some others same)) fails)

  -- where patches end
  begins : (s : HasPatches d image others bytes frame) → f.tree.after.begin ≡ s.begin
  begins s = (one_patches d limits bytes image supported used frame stands some others (same_sizes some others same) f.tree.after s).1

  start_well : (s : HasPatches d image others bytes frame) (error : ErrorKind) → FailsAt section_start start s.begin error → ⊥
  start_well s error fails =
      let shared = f.tree.shared in
      stands_well section_start start f.tree.after.begin shared.there shared.begin shared.start error (subst (λ n. FailsAt section_start start n error) (sym (begins s)) fails)

  global_well : (s : HasPatches d image others bytes frame) (error : ErrorKind) → TreeFails d size (channel_count image) start s.begin error → ⊥
  global_well s error fails =
      tree_well d size (channel_count image) frame.trees.depth start f.tree.after.begin f.tree.global f.tree.begin f.tree.shared error (subst (λ n. TreeFails d size (channel_count image) start n error) (sym (begins s)) fails)

  global_low : (s : HasPatches d image others bytes frame) → TreeIsDeep d size (channel_count image) frame.trees.depth start s.begin → ⊥
  global_low s deep =
      not_deep d size (channel_count image) frame.trees.depth start f.tree.after.begin f.tree.global f.tree.begin f.tree.shared (subst (λ n. TreeIsDeep d size (channel_count image) frame.trees.depth start n) (sym (begins s)) deep)

  abbrev SamplesFail : FrameError → Option (Config D) → ℕ → Type 0
  SamplesFail e global begin = StillFails d w32 global (channels_given image size) frame.header.group_dim image.bit_depth.bits_per_sample
      start begin (passes_of (pass_shifts frame.header.passes)) (section_of (layout_in image frame.header) (sections_in bytes frame)) frame.trees e

  samples_well : (s : HasTree d image others bytes frame) (e : FrameError) → SamplesFail e s.global s.begin → IsFrameMemory e
  samples_well s e fails =
      let at = one_after d limits bytes image supported used frame stands some others (same_sizes some others same) f.tree s in
      let placed = subst (λ n. SamplesFail e s.global n) (sym at.1) fails in
      still_without_error d w32 f.tree.global (channels_given image size) frame.header.group_dim image.bit_depth.bits_per_sample start f.tree.begin (passes_of (pass_shifts frame.header.passes))
      (section_of (layout_in image frame.header) (sections_in bytes frame)) frame.trees f.own before after f.still e (subst (λ (c : Option (Config D)). SamplesFail e c f.tree.begin) (sym at.0) placed)

  -- an error is out of memory
  pub frame_without_error : (e : FileError) → FrameFails d image others bytes frame e → IsFileMemory e
  frame_without_error (errors.Patches e) h = unless_so (patch_kind e) (λ k. patches_well (patch_kind e) k) h
  frame_without_error (errors.Start e) h = start_well h.0 (kind_of e) h.1
  frame_without_error (errors.Tree e) h = unless_so (kind_of e) (λ k. global_well h.0 (kind_of e) k) h.1
  frame_without_error errors.TooManyDecisions h = global_low h.0 h.1
  frame_without_error (errors.Samples e) h = samples_well h.0 e h.1
  frame_without_error errors.OutOfMemory h = tt
  frame_without_error (errors.File e) h = absurd h
  frame_without_error (errors.Front e) h = absurd h
