-- What is written for the text of an image: a picture of it (ISO/IEC 18181-1, Modular) in a plain format.
use Rattle.std.specs.Prelude.{◌≡◌, ◌≢◌, ℕ, ℤ, pos, List, [], ◌∷◌, false, None}
use Rattle.std.specs.Int.{Width}
use Rattle.jxlm_base.specs.Grid.{Grid}
use Rattle.jxlm_bits.specs.Decoding.{Meaning}
use Rattle.jxlm_plain.specs.Plain.{PlainState, plain, plain2}
use Rattle.jxlm_encode.specs.Encoded.{EncodeFails, IsEncodedFor}
use Rattle.jxlm_tree.specs.Tree.{leaf}
use Rattle.jxl_modular.specs.Picture.{IsPicture}
use Rattle.jxlmod_commands.specs.Channels.{channels_of}
use Rattle.jxlmod_commands.specs.declared.arguments.Format.{Format}
use Rattle.jxlmod_commands.specs.declared.arguments.Format.TheVariants.{First, Second}
use Rattle.jxlmod_commands.specs.declared.refusal.Refusal.{Refusal}
use Rattle.jxlmod_commands.specs.declared.refusal.Refusal.TheVariants.{Image, Text, Encoder}
use Rattle.jxl_text.specs.Reading.{IsTextOf, TextFails}
use Rattle.jxlm_weighted.specs.WeightsHeader.{default_weights}
use Rattle.jxlm_predictor.specs.declared.predictor.Predictor.TheVariants.{Gradient}
use Rattle.jxlm_encode_write.specs.declared.tree.EncodeNode.{EncodeNode}
use Rattle.jxlm_encode_write.specs.declared.tree.EncodeNode.TheVariants.{Leaf}

-- one leaf, which predicts by the clamped gradient
abbrev pub gradient_tree : List EncodeNode
gradient_tree = Leaf Gradient (pos 0) ∷ []

-- the decoder of a format
abbrev pub decoder_of : Format → Meaning PlainState
decoder_of First = plain
decoder_of Second = plain2

-- header, tree and samples of this image stand in the bytes, in a format
abbrev pub IsEncodedIn : Format → List (Grid ℤ) → Width → List ℕ → Type 0
IsEncodedIn format image w bytes = IsEncodedFor [] gradient_tree image (decoder_of format) w bytes

-- from the first bit on stands, in a format, a picture of this image and of no other, by a plain header and one leaf
pub record IsEncodedPicture (format : Format) (image : List (Grid ℤ)) (w : Width) (bytes : List ℕ) (bit_depth : ℕ) : Type 0 where
  pub end : ℕ
  pub picture : IsPicture (decoder_of format) w None bytes 0 (channels_of image) 0 bit_depth image end
  pub header : picture.head ≡ record { uses_global = false; has_palette = false; has_squeeze = false; weights = default_weights; coded = record { steps = []; list = channels_of image } }
  pub tree : picture.config.tree ≡ leaf (record { cluster = 0; predictor = Gradient; offset = pos 0; multiplier = 1 })

-- the bytes are a picture, at any bit depth, of the image whose text this is; no channels have no bytes
pub record IsEncodedText (format : Format) (w : Width) (text bytes : List ℕ) : Type 0 where
  pub image : List (Grid ℤ)
  pub read : IsTextOf w text image
  pub none : image ≡ [] → bytes ≡ []
  pub some : image ≢ [] → (bit_depth : ℕ) → IsEncodedPicture format image w bytes bit_depth

-- the text is that of an image that is not encoded, by this error
pub record IsNotEncoded (w : Width) (text : List ℕ) (holds : List (Grid ℤ) → Type 0) : Type 0 where
  pub image : List (Grid ℤ)
  pub read : IsTextOf w text image
  pub fails : holds image

-- there are no bytes for the text, by this error
abbrev pub EncodingFails : Width → List ℕ → Refusal → Type 0
EncodingFails w text (Image e) = ⊥
EncodingFails w text (Text e) = TextFails w text e
EncodingFails w text (Encoder e) = IsNotEncoded w text (λ image. EncodeFails [] gradient_tree image e)
