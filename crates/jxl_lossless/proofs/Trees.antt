-- What reading the start of the first section gives.
use Rattle.std.proofs.Common.{◌≡◌, ℕ, ◌<◌, ◌≤◌, ℤ, true, List, Option, Some, Ok, refl, subst}
use Rattle.std.specs.Int.{Width}
use Rattle.std.specs.Option.{option_copied}
use Rattle.jxlm_bits.specs.Decoding.{Meaning}
use Rattle.jxlm_base.specs.Grid.{Grid}
use Rattle.jxlm_tree.specs.Tree.{Config, depth}
use Rattle.jxlm_tree.specs.TreeReading.{TreeGives}
use Rattle.jxlm_transform.specs.Channels.{ChannelList, image_list}
use Rattle.jxlm_transform.specs.declared.param.ModularParams.{ModularParams}
use Rattle.jxl_image_header.specs.Images.{Image}
use Rattle.jxl_image_header.specs.declared.size.Size.{Size}
use Rattle.jxl_codestream.specs.Starts.{section_start, tree_limit}
use Rattle.jxl_codestream.specs.Fronts.{StandsAt}
use Rattle.jxl_picture.specs.Limits.{channel_count}
use Rattle.jxl_picture.specs.declared.limits.TreeLimits.{TreeLimits}
use Rattle.jxl_lossless.specs.Places.{own_passes, section_at}
use Rattle.jxl_lossless.specs.Stills.{IsStill, StillFails}
use Rattle.jxl_lossless.specs.declared.still.error.FrameError.{FrameError}
use Rattle.jxl_lossless.specs.declared.still.places.Places.{Places}
use Rattle.jxl_lossless.specs.declared.error.FileError.{FileError}
use Rattle.jxl_lossless.specs.declared.error.FileError.TheVariants as errors
use Rattle.jxl_lossless.specs.Frames.{SharedTree, TreeIsDeep, channels_given}
use Rattle.jxl_lossless.specs.Inner.Coded.{CodedFails, IsCoded, SamplesFail, StartFails}

-- a tree was read, from the same bytes
pub a_tree : {D : Type 0} (d : Meaning D) (size : Size) (n deepest : ℕ) (first : List ℕ) (p q : ℕ) → StandsAt section_start first p true q → (bytes : List ℕ) → bytes ≡ first →
    (limit : ℕ) → limit ≡ tree_limit size n → (tree : Config D) (r : ℕ) → TreeGives d bytes limit 2048 q (Ok tree) r → depth tree.tree ≤ deepest → SharedTree d size n deepest first p (Some tree) r
a_tree d size n deepest first p q there bytes same limit most tree r gives within = record {
  there = true;
  begin = q;
  start = there;
  tree = (tree, refl, subst (λ (b : List ℕ). TreeGives d b (tree_limit size n) 2048 q (Ok tree) r) same (subst (λ m. TreeGives d bytes m 2048 q (Ok tree) r) most gives), within);
}

-- it is too deep
pub a_deep_tree : {D : Type 0} (d : Meaning D) (size : Size) (n deepest : ℕ) (first : List ℕ) (p q : ℕ) → StandsAt section_start first p true q → (bytes : List ℕ) → bytes ≡ first →
    (limit : ℕ) → limit ≡ tree_limit size n → (tree : Config D) (r : ℕ) → TreeGives d bytes limit 2048 q (Ok tree) r → deepest < depth tree.tree → TreeIsDeep d size n deepest first p
a_deep_tree d size n deepest first p q there bytes same limit most tree r gives beyond = (
  q,
  there,
  tree,
  r,
  subst (λ (b : List ℕ). TreeGives d b (tree_limit size n) 2048 q (Ok tree) r) same (subst (λ m. TreeGives d bytes m 2048 q (Ok tree) r) most gives),
  beyond,
)

-- an error before the image is one of the frame
pub start_fails : {D : Type 0} (d : Meaning D) (w : Width) (image : Image) (size : Size) (group_dim n : ℕ) (trees : TreeLimits) (first : List ℕ) (p : ℕ) (places : Places) (count : n ≡ channel_count image) (e : FileError) →
    StartFails d size n trees.depth first p e → CodedFails d w image trees size group_dim first p places e
start_fails d w image size group_dim n trees first p places count (errors.Start e) h = h
start_fails d w image size group_dim n trees first p places count (errors.Tree e) h = subst (λ m. StartFails d size m trees.depth first p (errors.Tree e)) count h
start_fails d w image size group_dim n trees first p places count errors.TooManyDecisions h = subst (λ m. StartFails d size m trees.depth first p errors.TooManyDecisions) count h
start_fails d w image size group_dim n trees first p places count errors.OutOfMemory h = absurd h
start_fails d w image size group_dim n trees first p places count (errors.Samples e) h = absurd h
start_fails d w image size group_dim n trees first p places count (errors.Patches e) h = absurd h
start_fails d w image size group_dim n trees first p places count (errors.File e) h = absurd h
start_fails d w image size group_dim n trees first p places count (errors.Front e) h = absurd h

-- the image after it is read as the parameters say
module _ {D : Type 0} (d : Meaning D) (w : Width) (image : Image) (size : Size) (group_dim n : ℕ) (trees : TreeLimits) (first here : List ℕ) (p q : ℕ) (places : Places) (global : Option (Config D)) (params : ModularParams D)
    (count : n ≡ channel_count image) (shared : SharedTree d size n trees.depth first p global q) (same : here ≡ first) (tree : option_copied params.ma_config ≡ global) (list : image_list params.channels.items ≡ channels_given image size)
    (dim : params.group_dim ≡ group_dim) (depth : params.bit_depth ≡ image.bit_depth.bits_per_sample) where
  -- what holds of it by the parameters holds of it by the image
  by_image : (P : Option (Config D) → ChannelList → ℕ → ℕ → List ℕ → Type 0) → P (option_copied params.ma_config) (image_list params.channels.items) params.group_dim params.bit_depth here →
      P global (channels_given image size) group_dim image.bit_depth.bits_per_sample first
  by_image P h =
      subst (λ g. P g (channels_given image size) group_dim image.bit_depth.bits_per_sample first) tree
      (subst (λ (l : ChannelList). P (option_copied params.ma_config) l group_dim image.bit_depth.bits_per_sample first) list
      (subst (λ m. P (option_copied params.ma_config) (image_list params.channels.items) m image.bit_depth.bits_per_sample first) dim
      (subst (λ m. P (option_copied params.ma_config) (image_list params.channels.items) params.group_dim m first) depth
      (subst (λ (b : List ℕ). P (option_copied params.ma_config) (image_list params.channels.items) params.group_dim params.bit_depth b) same h))))

  -- these are its channels
  pub coded : (grids : List (Grid ℤ)) (before after : ℕ) → IsStill d w (option_copied params.ma_config) (image_list params.channels.items) params.group_dim params.bit_depth here q (own_passes places) (section_at places) trees grids before after →
      IsCoded d w image trees size group_dim first p places grids before after
  coded grids before after is = record {
    global = global;
    begin = q;
    shared = subst (λ m. SharedTree d size m trees.depth first p global q) count shared;
    still = by_image (λ g l m k b. IsStill d w g l m k b q (own_passes places) (section_at places) trees grids before after) is;
  }

  -- it, or its samples, have an error
  pub samples_fail : (e : FrameError) → StillFails d w (option_copied params.ma_config) (image_list params.channels.items) params.group_dim params.bit_depth here q (own_passes places) (section_at places) trees e →
      SamplesFail d w image trees size group_dim first p places e
  samples_fail e fails = record {
    global = global;
    begin = q;
    shared = subst (λ m. SharedTree d size m trees.depth first p global q) count shared;
    fails = by_image (λ g l m k b. StillFails d w g l m k b q (own_passes places) (section_at places) trees e) fails;
  }
