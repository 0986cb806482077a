-- What is measured of encoding: the bytes of the picture that is asked for.
use Rattle.std.specs.Prelude.{◌≡◌, ◌≢◌, ℕ, ℤ, List, [], length}
use Rattle.std.specs.Int.{Width}
use Rattle.jxlm_base.specs.Grid.{Grid}
use Rattle.jxlm_plain.specs.Plain.{plain}
use Rattle.jxlmod_commands.specs.Encoding.{IsEncodedIn}
use Rattle.jxlmod_commands.specs.declared.arguments.Format.{Format}
use Rattle.jxlbench.specs.Checksum.{bytes_checksum}
use Rattle.jxlbench.specs.Decoding.{IsAsked}
use Rattle.jxlbench.specs.declared.request.Request.{Request}

-- the bytes are those of the image in a format; no channels have no bytes
pub record IsEncodedAs (format : Format) (w : Width) (image : List (Grid ℤ)) (bytes : List ℕ) : Type 0 where
  pub none : image ≡ [] → bytes ≡ []
  pub some : image ≢ [] → IsEncodedIn format image w bytes

-- sum and size are those of the bytes that the picture that is asked for, which stands in the first format, is encoded to
pub record IsOfEncoded (w : Width) (request : Request) (bytes : List ℕ) (sum size : ℕ) : Type 0 where
  pub grids : List (Grid ℤ)
  pub asked : IsAsked plain w request bytes grids
  pub made : List ℕ
  pub encoded : IsEncodedAs request.format w grids made
  pub summed : sum ≡ bytes_checksum made
  pub counted : size ≡ length made
