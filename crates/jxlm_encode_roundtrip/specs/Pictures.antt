-- What is encoded is a picture, and at one bit there are no two.
use Rattle.std.specs.Prelude.{◌≡◌, ℕ, ℤ, List, Option, None}
use Rattle.std.specs.Int.{Width}
use Rattle.jxlm_bits.specs.Decoding.{Meaning}
use Rattle.jxlm_base.specs.Grid.{Grid}
use Rattle.jxlm_tree.specs.Tree.{Config}
use Rattle.jxlm_plain.specs.Plain.{plain, plain2}
use Rattle.jxlm_transform.specs.Channels.{ChannelList}
use Rattle.jxlm_transform.specs.Transforms.{Transform}
use Rattle.jxl_modular.specs.Picture.{IsPicture}
use Rattle.jxlm_encode_write.specs.declared.tree.EncodeNode.{EncodeNode}
use Rattle.jxlm_encode.specs.Encoded.{IsEncoded, IsEncoded2, given_list}

-- Where an image is encoded, it stands as a picture from the first bit on, at any bit depth.
abbrev pub EncodedIsPicture : Type 0
EncodedIsPicture = (w : Width) (ts : List Transform) (nodes : List EncodeNode) (image : List (Grid ℤ)) (bytes : List ℕ) (bit_depth : ℕ) (e : IsEncoded ts nodes image w bytes) →
    IsPicture plain w None bytes 0 (given_list image) 0 bit_depth image e.end

-- So it does in the second plain format.
abbrev pub Encoded2IsPicture : Type 0
Encoded2IsPicture = (w : Width) (ts : List Transform) (nodes : List EncodeNode) (image : List (Grid ℤ)) (bytes : List ℕ) (bit_depth : ℕ) (e : IsEncoded2 ts nodes image w bytes) →
    IsPicture plain2 w None bytes 0 (given_list image) 0 bit_depth image e.end

-- Two pictures at one bit, of the same channels, are one: header, tree and decoder, coded samples, image, and the bit after it.
abbrev pub PicturesAreOne : {V : Type 0} → Meaning V → Type 0
PicturesAreOne {V} d = (w : Width) (global : Option (Config V)) (bytes : List ℕ) (stream : ℕ) (given : ChannelList) (p bit_depth : ℕ) (grids others : List (Grid ℤ)) (q r : ℕ)
    (a : IsPicture d w global bytes stream given p bit_depth grids q) (b : IsPicture d w global bytes stream given p bit_depth others r) →
    (a.head ≡ b.head) × (a.config ≡ b.config) × (a.samples ≡ b.samples) × (grids ≡ others) × (q ≡ r)
