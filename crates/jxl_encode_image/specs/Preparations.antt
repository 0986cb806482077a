-- What an encoder makes of an image before it writes samples: a header, and coded samples (ISO/IEC 18181-1, Modular: Modular
-- header, TransformInfo).
use Rattle.std.specs.Prelude.{◌≡◌, ℕ, ◌≤◌, ℤ, List, [], length, map, true, false, Ok}
use Rattle.std.specs.Int.{Width}
use Rattle.std.specs.List.{All}
use Rattle.jxlm_base.specs.Grid.{Grid}
use Rattle.jxlm_chain.specs.Chain.{Chain}
use Rattle.jxlm_header.specs.Header.{Header}
use Rattle.jxlm_transform.specs.Channels.{ChannelList}
use Rattle.jxlm_transform.specs.ChannelSteps.{CodedList, coded_list}
use Rattle.jxlm_transform.specs.Transforms.{IsPalette, IsSqueeze, OfPalette, OfRct, OfSqueeze, Transform}
use Rattle.jxlm_transform.specs.declared.transform.Palette.{Palette}
use Rattle.jxlm_transform.specs.declared.transform.Rct.{Rct}
use Rattle.jxlm_weighted.specs.WeightsHeader.{default_weights}
use Rattle.jxl_encode_image.specs.Palettes.{plain_palette}
use Rattle.jxl_encode_image.specs.declared.transform.ImageTransform.{ImageTransform}
use Rattle.jxl_encode_image.specs.declared.transform.ImageTransform.TheVariants as images

-- a header that uses the frame's tree, with the default weights and these transforms
abbrev pub shared_header : List Transform → Header
shared_header ts = record { use_global_tree = true; wp_params = default_weights; transform = ts }

-- a header that has a tree of its own, with the default weights and without transforms
abbrev pub own_header : Header
own_header = record { use_global_tree = false; wp_params = default_weights; transform = [] }

-- a colour transform that the header of a file can spell
pub record IsFileRct (t : Rct) : Type 0 where
  pub begin : t.begin_c ≤ 9287
  pub kind : t.rct_type ≤ 41

-- a palette without differences that the header of a file can spell
pub record IsPlainPalette (t : Palette) : Type 0 where
  pub is : t ≡ plain_palette t.begin_c t.num_c t.nb_colours
  pub ranges : IsPalette t
  pub colours : t.nb_colours ≤ 70911

-- a transform that an encoder writes: a colour transform, a squeeze, or such a palette
abbrev pub IsSpelled : Transform → Type 0
IsSpelled (OfRct t) = IsFileRct t
IsSpelled (OfPalette t) = IsPlainPalette t
IsSpelled (OfSqueeze steps) = IsSqueeze steps

-- the transform of an image, as a header lists it
abbrev pub transform_listed : ImageTransform → Transform
transform_listed (images.Colour t) = OfRct t
transform_listed (images.Palette t) = OfPalette t

-- transforms of an image, as its header lists them
abbrev pub image_transforms : List ImageTransform → List Transform
image_transforms ts = map transform_listed ts

-- The transforms are at most 273, an encoder writes each, and they come to these steps and channels.
pub record AreReady (ts : List Transform) (l : ChannelList) (coded : CodedList) : Type 0 where
  pub few : length ts ≤ 273
  pub spelled : All IsSpelled ts
  pub come : coded_list ts l ≡ Ok coded

-- The transforms suit the channels of an image, and make these samples of it, whatever its bit depth.
pub record Preparation (w : Width) (given : ChannelList) (image : List (Grid ℤ)) : Type 0 where
  pub transforms : List Transform
  pub coded : CodedList
  pub accepted : AreReady transforms given coded
  pub count : length coded.list.channels ≤ 65536
  pub samples : List (Grid ℤ)
  pub chain : (bit_depth : ℕ) → Chain w bit_depth coded.steps given image samples
