-- Samples written in entropy codes (ISO/IEC 18181-1, Modular: decoding of samples).
use Rattle.std.specs.Prelude.{◌≡◌, ℕ, ℤ, List, length}
use Rattle.std.specs.Int.{Width}
use Rattle.jxlm_base.specs.Grid.{Grid}
use Rattle.jxlm_bit_writer.specs.declared.token.Token.{Token}
use Rattle.jxlm_samples.specs.Coded.{IsCodedToTheEnd}
use Rattle.jxlm_samples.specs.Part.{Part, cell_count, cells_of}
use Rattle.jxlm_encode_tokens.specs.Tokens.{AreClusteredTokensOf}
use Rattle.jxl_coding.specs.Parse.{decoder_at}
use Rattle.jxl_coding.specs.Symbols.{Codes}
use Rattle.jxl_coding.specs.Tokens.{Entropy, entropy}

-- The samples of each part that has these tokens are coded from p to q, for each decoder of these codes.
abbrev pub AreCoded : Codes → List Token → List ℕ → ℕ → ℕ → Type 0
AreCoded codes tokens bytes p q = (w : Width) (part : Part) (grids : List (Grid ℤ)) (decoder : Entropy) →
    AreClusteredTokensOf w part (cells_of grids) tokens → cell_count part.channels ≡ length (cells_of grids) → decoder.codes ≡ codes →
    IsCodedToTheEnd (entropy decoder_at) w part bytes decoder p grids q
