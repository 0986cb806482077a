-- What decoding bytes gives, for the channels of an image.
use Rattle.std.specs.Prelude.{◌≡◌, ◌≢◌, ◌⊎◌, ℕ, ℤ, List, [], None}
use Rattle.std.specs.Int.{Width}
use Rattle.jxlm_bits.specs.Decoding.{Meaning}
use Rattle.jxlm_bits.specs.ErrorKind.{ErrorKind}
use Rattle.jxlm_base.specs.Grid.{Grid}
use Rattle.jxlm_tree.specs.TreeReading.{IsOutOfMemory}
use Rattle.jxl_modular.specs.Picture.{IsPicture, PictureFails}
use Rattle.jxlm_encode.specs.Encoded.{given_list}

-- these grids are the picture at the start of the bytes, of the image's channels; without channels there are none
pub record IsDecoded {V : Type 0} (d : Meaning V) (w : Width) (bytes : List ℕ) (bit_depth : ℕ) (image grids : List (Grid ℤ)) : Type 0 where
  pub none : image ≡ [] → grids ≡ []
  pub picture : image ≢ [] → (q : ℕ) × IsPicture d w None bytes 0 (given_list image) 0 bit_depth grids q

-- there is no such picture, by this error
pub record FailsToDecode {V : Type 0} (d : Meaning V) (w : Width) (bytes : List ℕ) (image : List (Grid ℤ)) (e : ErrorKind) : Type 0 where
  pub some : image ≢ []
  pub place : ℕ
  pub before : ℕ
  pub after : ℕ
  pub fails : PictureFails d w None bytes 0 (given_list image) 0 e place before after

-- so it is, or memory is out
abbrev pub IsNotDecoded : {V : Type 0} → Meaning V → Width → List ℕ → List (Grid ℤ) → ErrorKind → Type 0
IsNotDecoded d w bytes image e = IsOutOfMemory e ⊎ FailsToDecode d w bytes image e
