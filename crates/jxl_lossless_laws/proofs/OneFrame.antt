-- The sections of a frame have one list of channels.
use Rattle.std.proofs.Common.{◌≡◌, ℕ, ◌∷◌, ◌+◌, ◌*◌, ◌≤◌, ℤ, Bool, true, false, List, [], length, get_or, Option, Some, None, refl, sym, ap, ◌∙◌, subst}
use Rattle.std.specs.Prelude.{MatchBool}
use Rattle.std.specs.Int.{Width, w32}
use Rattle.jxlm_bits.specs.Decoding.{Meaning}
use Rattle.jxlm_bits.specs.Grammar.{IsExact}
use Rattle.jxlm_bits.proofs.GrammarLaws.{bind, exact-either, exact-give}
use Rattle.jxlm_base.specs.Grid.{Grid}
use Rattle.jxlm_chain.specs.Chain.{Chain}
use Rattle.jxlm_groups.specs.Passes.{passes_of}
use Rattle.jxlm_transform.specs.Channels.{AreGridsOf, ChannelList}
use Rattle.jxlm_transform.specs.ChannelSteps.{Step}
use Rattle.jxlm_tree.specs.Tree.{Config, depth}
use Rattle.jxlm_tree.specs.TreeReading.{IsTreeAt}
use Rattle.jxl_image_header.specs.Images.{Image, image_refusal}
use Rattle.jxl_image_header.specs.declared.size.Size.{Size}
use Rattle.jxl_frame_header.specs.Frames.{frame_size, has_shifts}
use Rattle.jxl_frame_header.specs.Passes.{pass_shifts}
use Rattle.jxl_picture.specs.Limits.{channel_count}
use Rattle.jxl_picture.specs.Pictures.{AreChannels, colour_count}
use Rattle.jxl_picture.specs.declared.limits.Limits.{Limits}
use Rattle.jxl_codestream.specs.Fronts.{FrameAt, FrameStands, StandsAt, layout_in}
use Rattle.jxl_codestream.specs.Starts.{section_start, tree_limit}
use Rattle.jxl_codestream.proofs.Fronts.{plain}
use Rattle.jxl_patches.specs.Dictionaries.{AreWithin}
use Rattle.jxl_patches.specs.Patched.{Fits}
use Rattle.jxl_patches.specs.Patches.{Patches}
use Rattle.jxl_patches.specs.Slots.{AreOfSize, ArePut, Slots, frames_of, optional_patches, sizes_of}
use Rattle.jxl_patches.proofs.Fitting.{patches_fit}
use Rattle.jxl_patches.proofs.Holding.{fits, sizes_stay}
use Rattle.jxl_patches.proofs.PatchLaws.{exact-dictionary}
use Rattle.jxl_lossless.specs.Frames.{HasPatches, HasTree, IsFrame, SharedTree, channels_given}
use Rattle.jxl_lossless.specs.Saved.{HoldChannels}
use Rattle.jxl_lossless.specs.Sections.{section_of, sections_in}
use Rattle.jxl_lossless.specs.Stills.{IsStill}
use Rattle.jxl_lossless.proofs.Channels.{are_channels, none_shifted, of_one_size, one_size}
use Rattle.jxl_lossless.proofs.Holding.{hold_frames}
use Rattle.jxlm_encode_roundtrip.proofs.TwoPictures.{one_tree}
use Rattle.jxl_lossless_laws.proofs.Holds.{holds_each}
use Rattle.jxl_lossless_laws.proofs.OneStill.{one_still}
use Rattle.jxl_lossless_laws.proofs.Patching.{SameSlots, same_put, same_sizes}
use Rattle.jxl_lossless_laws.proofs.Reading.{stands_once}
use Rattle.jxl_lossless_laws.specs.Same.{AreSameChannels}

-- the grids of an image have the sides of its channels
chain_sides : (w : Width) (depth : ℕ) (steps : List Step) (l : ChannelList) (image coded : List (Grid ℤ)) → Chain w depth steps l image coded → AreGridsOf l.channels image
chain_sides w depth [] l image coded c = c.0
chain_sides w depth (s ∷ ss) l image coded c = c.0

-- patches that were read lie within the frames that they are of
exact_optional : {D : Type 0} (d : Meaning D) (there : Bool) (size : Size) (extra : ℕ) (sizes : List (Option Size)) → IsExact (optional_patches d there size extra sizes)
exact_optional d there size extra sizes =
    exact-either there _ _ (bind (exact-dictionary d size extra sizes (4096 + 4 * (size.width * size.height))) λ p. exact-give (Some p)) (exact-give None)

read_within : {D : Type 0} (d : Meaning D) (there : Bool) (size : Size) (extra : ℕ) (sizes : List (Option Size)) (bytes : List ℕ) (patches : Option Patches) (q : ℕ) →
    (optional_patches d there size extra sizes).Stands bytes 0 patches q → (p : Patches) → patches ≡ Some p → (there ≡ true) × AreWithin size extra sizes p
read_within d true size extra sizes bytes patches q s p is =
    let same : s.0 ≡ p = some_one patches s.0 p s.3.0 is in
    (refl, subst (λ (x : Patches). AreWithin size extra sizes x) same (patches_fit d size extra sizes (4096 + 4 * (size.width * size.height)) bytes 0 s.0 s.1 s.2)) where
      some_one : (o : Option Patches) (x y : Patches) → o ≡ Some x → o ≡ Some y → x ≡ y
      some_one o x y h k = cc
read_within d false size extra sizes bytes patches q s p is = absurd (none_some patches p s.0 is) where
  none_some : (o : Option Patches) (x : Patches) → o ≡ None → o ≡ Some x → ⊥
  none_some o x h k = cc

patches_within : {D : Type 0} (d : Meaning D) (there : Bool) (size : Size) (extra : ℕ) (sizes : List (Option Size)) (bytes : List ℕ) (patches : Option Patches) (q : ℕ) →
    StandsAt (optional_patches d there size extra sizes) bytes 0 patches q → (p : Patches) → patches ≡ Some p → (there ≡ true) × AreWithin size extra sizes p
patches_within d there size extra sizes bytes patches q stands p is =
    read_within d there size extra sizes bytes patches q ((exact_optional d there size extra sizes).read_stands bytes 0 (record { value = patches; position = q }) stands) p is

-- a shared tree stands in one way
module _ {D : Type 0} (d : Meaning D) (size : Size) (n deepest : ℕ) (first : List ℕ) (p : ℕ) where
  abbrev TreeThere : Bool → ℕ → Option (Config D) → ℕ → Type 0
  TreeThere b begin global q =
      MatchBool b ((tree : Config D) × (global ≡ Some tree) × IsTreeAt d first (tree_limit size n) 2048 begin tree q × (depth tree.tree ≤ deepest)) ((global ≡ None) × (q ≡ begin))

  tree_once : (b : Bool) (begin : ℕ) (g h : Option (Config D)) (q r : ℕ) → TreeThere b begin g q → TreeThere b begin h r → (g ≡ h) × (q ≡ r)
  tree_once true begin g h q r (x, is, at, deep) (y, too, there, low) =
      let same = one_tree d None first false (tree_limit size n) begin x y q r at there in
      (is ∙ ap (λ (c : Config D). Some c) same.0 ∙ sym too, same.1)
  tree_once false begin g h q r a b = (a.0 ∙ sym b.0, a.1 ∙ sym b.1)

  pub one_shared : (g h : Option (Config D)) (q r : ℕ) → SharedTree d size n deepest first p g q → SharedTree d size n deepest first p h r → (g ≡ h) × (q ≡ r)
  one_shared g h q r a b =
      let same = stands_once section_start first p a.there a.begin a.start b.there b.begin b.start in
      let placed = subst (λ m. TreeThere b.there m h r) (sym same.1) b.tree in
      tree_once a.there a.begin g h q r a.tree (subst (λ (t : Bool). TreeThere t a.begin h r) (sym same.0) placed)

module _ {D : Type 0} (d : Meaning D) (limits : Limits) (bytes : List ℕ) (image : Image) (supported : image_refusal image ≡ None) (used : ℕ) (frame : FrameAt) (stands : FrameStands d limits bytes image used frame) where
  abbrev size : Size
  size = frame_size image.size frame.header

  abbrev start : List ℕ
  start = get_or (sections_in bytes frame) 0 []

  -- patches of frames of the same sizes
  pub one_patches : (some others : Slots) → sizes_of some ≡ sizes_of others → (a : HasPatches d image some bytes frame) (b : HasPatches d image others bytes frame) → (a.patches ≡ b.patches) × (a.begin ≡ b.begin)
  one_patches some others same a b =
      stands_once (optional_patches d frame.header.coding.flags.patches size (length image.ec_info) (sizes_of some)) start 0 a.patches a.begin a.stand b.patches b.begin
      (subst (λ (zs : List (Option Size)). StandsAt (optional_patches d frame.header.coding.flags.patches size (length image.ec_info) zs) start 0 b.patches b.begin) (sym same) b.stand)

  -- and the tree after them
  pub one_after : (some others : Slots) → sizes_of some ≡ sizes_of others → (a : HasTree d image some bytes frame) (b : HasTree d image others bytes frame) → (a.global ≡ b.global) × (a.begin ≡ b.begin)
  one_after some others same a b =
      let patches = one_patches some others same a.after b.after in
      one_shared d size (channel_count image) frame.trees.depth start a.after.begin a.global b.global a.begin b.begin a.shared
      (subst (λ m. SharedTree d size (channel_count image) frame.trees.depth start m b.global b.begin) (sym patches.1) b.shared)

  abbrev pub StillOf : Option (Config D) → ℕ → List (Grid ℤ) → ℕ → ℕ → Type 0
  StillOf global begin gs before after = IsStill d w32 global (channels_given image size) frame.header.group_dim image.bit_depth.bits_per_sample
      start begin (passes_of (pass_shifts frame.header.passes)) (section_of (layout_in image frame.header) (sections_in bytes frame)) frame.trees gs before after

  -- and the samples
  one_own : (global : Option (Config D)) (begin : ℕ) (gs hs : List (Grid ℤ)) (before after from to : ℕ) → StillOf global begin gs before after → StillOf global begin hs from to → gs ≡ hs
  one_own global begin gs hs before after from to a b =
      one_still d w32 global (channels_given image size) frame.header.group_dim image.bit_depth.bits_per_sample start begin (passes_of (pass_shifts frame.header.passes))
      (section_of (layout_in image frame.header) (sections_in bytes frame))
      (holds_each d limits bytes image supported frame.start used frame.header stands.0.end stands.0.goes global start begin) frame.trees gs hs before after from to a b

  own_channels : (global : Option (Config D)) (begin : ℕ) (gs : List (Grid ℤ)) (before after : ℕ) → StillOf global begin gs before after → AreChannels image size gs
  own_channels global begin gs before after s =
      are_channels image size gs (chain_sides w32 image.bit_depth.bits_per_sample s.can.has.stands.start.head.coded.steps (channels_given image size) gs s.decoded.coded s.decoded.only.chain)

  -- patches are there in frames whose channels have one size alone
  module _ (slots : Slots) (held : HoldChannels image slots) (gs : List (Grid ℤ)) (before after : ℕ) (f : IsFrame d image slots bytes frame gs before after) where
    own_are : AreChannels image size f.own
    own_are = own_channels f.tree.global f.tree.begin f.own before after f.still

    module _ (p : Patches) (is : f.tree.after.patches ≡ Some p) where
      within : (frame.header.coding.flags.patches ≡ true) × AreWithin size (length image.ec_info) (sizes_of slots) p
      within = patches_within d frame.header.coding.flags.patches size (length image.ec_info) (sizes_of slots) start f.tree.after.patches f.tree.after.begin f.tree.after.stand p is

      no_shifts : has_shifts image ≡ false
      no_shifts = none_shifted frame.header.coding.flags.patches (has_shifts image) within.0 (plain image frame.header stands.0.goes.1)

      own_size : AreOfSize (channel_count image) size f.own
      own_size = one_size image size f.own no_shifts own_are

      pub fits_own : Fits (frames_of slots) (colour_count image) p f.own
      fits_own = fits (colour_count image) (length image.ec_info) size slots p f.own within.1 (hold_frames image slots no_shifts held) own_size

    put_channels : (o : Option Patches) → f.tree.after.patches ≡ o → ArePut image slots (colour_count image) o f.own gs → AreChannels image size gs
    put_channels None is put = subst (AreChannels image size) (sym put) own_are
    put_channels (Some p) is put = of_one_size image size gs (no_shifts p is) (sizes_stay image (channel_count image) (colour_count image) size slots p f.own gs put (own_size p is))

    -- a frame has all channels of its image
    pub frame_channels : AreChannels image size gs
    frame_channels = put_channels f.tree.after.patches refl f.put

  -- there is one frame, whatever slots hold that hold the same
  pub same_frame : (some others : Slots) → HoldChannels image some → SameSlots some others → (gs hs : List (Grid ℤ)) (before after from to : ℕ) →
      IsFrame d image some bytes frame gs before after → IsFrame d image others bytes frame hs from to → AreSameChannels gs hs
  same_frame some others held same gs hs before after from to f g =
      let sizes = same_sizes some others same in
      let patches = one_patches some others sizes f.tree.after g.tree.after in
      let tree = one_after some others sizes f.tree g.tree in
      let placed = subst (λ n. StillOf g.tree.global n g.own from to) (sym tree.1) g.still in
      let still = subst (λ (c : Option (Config D)). StillOf c f.tree.begin g.own from to) (sym tree.0) placed in
      let own : f.own ≡ g.own = one_own f.tree.global f.tree.begin f.own g.own before after from to f.still still in
      let by_same = subst (λ (o : Option Patches). ArePut image others (colour_count image) o g.own hs) (sym patches.0) g.put in
      let put = subst (λ (old : List (Grid ℤ)). ArePut image others (colour_count image) f.tree.after.patches old hs) (sym own) by_same in
      same_put some others same image (colour_count image) f.tree.after.patches f.own gs hs (λ p is. fits_own some held gs before after f p is) f.put put
