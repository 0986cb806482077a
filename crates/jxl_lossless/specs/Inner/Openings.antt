-- What reading the header of a frame's image gives, at a bit position.
use Rattle.std.specs.Prelude.{◌≡◌, ℕ, List, true, false, Option}
use Rattle.jxlm_bits.specs.Decoding.{Meaning}
use Rattle.jxlm_bits.specs.ErrorKind.{UnlessMemory, kind_of}
use Rattle.jxlm_transform.specs.Channels.{ChannelList}
use Rattle.jxlm_header.specs.Opening.{Opening}
use Rattle.jxlm_tree.specs.Tree.{Config}
use Rattle.jxl_modular.specs.Fresh.{fresh}
use Rattle.jxl_modular.specs.Image.{Image}
use Rattle.jxl_modular.specs.Parsing.{IsStartAt}
use Rattle.jxl_lossless.specs.Inner.Weighted.{weighted_at}
use Rattle.jxl_lossless.specs.Stills.{HeaderFails}
use Rattle.jxl_lossless.specs.declared.still.error.FrameError.{FrameError}
use Rattle.jxl_lossless.specs.declared.still.error.FrameError.TheVariants as errors

module _ {D : Type 0} (d : Meaning D) (global : Option (Config D)) (given : ChannelList) (bytes : List ℕ) (p : ℕ) where
  -- the image whose header the bits up to bit q code
  pub record Opens {S : Type 0} (zero : S) (group_dim bit_depth : ℕ) (image : Image S D) (q : ℕ) : Type 0 where
    pub head : Opening
    pub plain : weighted_at bytes p ≡ false
    pub start : IsStartAt d global bytes given p head image.config q
    pub is : image ≡ fresh zero given head image.config group_dim bit_depth

  abbrev pub OpenFails : FrameError → Type 0
  OpenFails (errors.Header e) = UnlessMemory (kind_of e) ((weighted_at bytes p ≡ false) × HeaderFails d global given bytes p (kind_of e))
  OpenFails errors.WeightedPalette = weighted_at bytes p ≡ true
  OpenFails errors.OutOfMemory = Unit {0}
  OpenFails e = ⊥
