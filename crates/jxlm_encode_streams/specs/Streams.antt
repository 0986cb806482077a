-- Samples whose tokens a decoder reads as a stream.
use Rattle.std.specs.Prelude.{◌≡◌, ℕ, ◌<◌, ℤ, List, length, take, get_or}
use Rattle.std.specs.Int.{Width}
use Rattle.jxlm_bits.specs.Decoding.{Asked, Meaning}
use Rattle.jxlm_base.specs.Grid.{Grid}
use Rattle.jxlm_bit_writer.specs.ReadStreams.{IsRead}
use Rattle.jxlm_samples.specs.Coded.{IsCodedToTheEnd}
use Rattle.jxlm_samples.specs.Part.{Part, next_leaf, cell_count, cells_of, max_width}
use Rattle.jxlm_encode_tokens.specs.Tokens.{AreTokensOf}

-- the reads that the cells of a part ask for: of the cluster of each cell's leaf, under the maximum width
abbrev pub AsksFor : Part → List ℤ → List Asked → Type 0
AsksFor part cells asked =
    (length asked ≡ length cells)
    × ((k : ℕ) (d : Asked) → k < length cells → get_or asked k d ≡ record { cluster = (next_leaf part (take k cells)).cluster; multiplier = max_width part.channels })

-- Samples whose tokens the decoder reads are coded to the end.
abbrev pub ReadStreamIsCoded : {S : Type 0} → Meaning S → Type 0
ReadStreamIsCoded {S} d = (w : Width) (part : Part) (bytes : List ℕ) (s : S) (p q : ℕ) (grids : List (Grid ℤ)) (asked : List Asked) (tokens : List ℕ) →
    AreTokensOf w part (cells_of grids) tokens → cell_count part.channels ≡ length (cells_of grids) → AsksFor part (cells_of grids) asked →
    IsRead d s bytes p asked tokens q → IsCodedToTheEnd d w part bytes s p grids q
