-- What comes back of an image that was encoded, and why nothing does.
use Rattle.std.specs.Prelude.{ℕ, ℤ, List, None}
use Rattle.std.specs.Int.{Width}
use Rattle.jxlm_bits.specs.Decoding.{Meaning}
use Rattle.jxlm_bits.specs.ErrorKind.{kind_of}
use Rattle.jxlm_base.specs.Grid.{Grid}
use Rattle.jxlm_tree.specs.TreeReading.{IsOutOfMemory}
use Rattle.jxlm_transform.specs.Transforms.{Transform}
use Rattle.jxl_modular.specs.Picture.{IsPicture}
use Rattle.jxlm_encode_write.specs.declared.tree.EncodeNode.{EncodeNode}
use Rattle.jxlm_encode.specs.Encoded.{EncodeFails, given_list}
use Rattle.jxlm_encode_roundtrip.specs.declared.roundtrip.RoundTripError.{RoundTripError}
use Rattle.jxlm_encode_roundtrip.specs.declared.roundtrip.RoundTripError.TheVariants.{Encode, Decode}

-- There are bytes that were made of the image, and these grids are the picture that stands in them from the first bit on.
pub record IsReadBack {V : Type 0} (d : Meaning V) (Made : Width → List ℕ → Type 0) (w : Width) (image : List (Grid ℤ)) (bit_depth : ℕ) (grids : List (Grid ℤ)) : Type 0 where
  pub bytes : List ℕ
  pub made : Made w bytes
  pub end : ℕ
  pub picture : IsPicture d w None bytes 0 (given_list image) 0 bit_depth grids end

-- it is refused by the encoder, or decoding is out of memory
abbrev pub RoundTripFails : List Transform → List EncodeNode → List (Grid ℤ) → RoundTripError → Type 0
RoundTripFails ts nodes image (Encode e) = EncodeFails ts nodes image e
RoundTripFails ts nodes image (Decode e) = IsOutOfMemory (kind_of e)
