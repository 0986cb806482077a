-- What is measured: the picture at the start of the bytes.
use Rattle.std.specs.Prelude.{◌≡◌, ℕ, ℤ, List, None}
use Rattle.std.specs.Int.{Width}
use Rattle.jxlm_bits.specs.Decoding.{Meaning}
use Rattle.jxlm_base.specs.Grid.{Grid}
use Rattle.jxlm_transform.specs.Channels.{ChannelList, image_list}
use Rattle.jxlm_transform.specs.Params.{of_one_size}
use Rattle.jxl_modular.specs.Picture.{IsPicture}
use Rattle.jxlm_section_split.specs.CutPicture.{IsCutPicture}
use Rattle.jxlbench.specs.Checksum.{checksum}
use Rattle.jxlbench.specs.declared.request.Request.{Request}
use Rattle.jxlbench.specs.declared.request.Source.{Source}
use Rattle.jxlbench.specs.declared.request.Source.TheVariants as sources

-- as many channels as are asked for, of one size and of shift 0
abbrev pub channels_asked : Request → ChannelList
channels_asked r = image_list (of_one_size r.channels r.width r.height)

module _ {V : Type 0} (d : Meaning V) (w : Width) (request : Request) (bytes : List ℕ) where
  -- the grids are the picture at the start of the bytes, in the format of a decoder, at stream index 0
  pub record IsPictureOf (grids : List (Grid ℤ)) : Type 0 where
    pub place : ℕ
    pub picture : IsPicture d w None bytes 0 (channels_asked request) 0 request.bit_depth grids place

  -- they are the picture that is coded in this way: in one part, or cut into sections
  abbrev pub StandsAs : Source → List (Grid ℤ) → Type 0
  StandsAs sources.Picture grids = IsPictureOf grids
  StandsAs (sources.CutPicture group_dim) grids =
      IsCutPicture d w (channels_asked request) group_dim request.bit_depth bytes grids

  -- they are the picture that is asked for
  abbrev pub IsAsked : List (Grid ℤ) → Type 0
  IsAsked grids = StandsAs request.source grids

  -- the sum is the checksum of that picture
  pub record IsChecksumOf (sum : ℕ) : Type 0 where
    pub grids : List (Grid ℤ)
    pub asked : IsAsked grids
    pub summed : sum ≡ checksum grids
