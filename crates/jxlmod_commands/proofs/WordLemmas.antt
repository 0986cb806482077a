-- A word of the list is what the code read of it.
use Rattle.std.proofs.Common.{◌≡◌, ℕ, ◌<◌, ◌^◌, List, [], length, get_or, map, Some, arith, sym}
use Rattle.std.specs.Option.{SomeIff}
use Rattle.std.proofs.lemmas.Grind.{common_steps}
use Rattle.jxlmod_commands.specs.Decimals.{IsDecimal, decimal_value, Writes}

module _ {X : Type 0} (text : X → List ℕ) where
  pub word_at : (words : List X) (i : ℕ) (w : X) (t : List ℕ) → i < length words → w ≡ get_or words i w → t ≡ text w → get_or (map text words) i [] ≡ t
  word_at words i w t within is reads = grind (arith, common_steps)

  pub number_at : (words : List X) (i : ℕ) (w : X) (t : List ℕ) (n : ℕ) → i < length words → w ≡ get_or words i w → t ≡ text w → SomeIff (Some n) (IsDecimal t × (decimal_value t < 2 ^ 32)) (decimal_value t) → Writes (get_or (map text words) i []) n
  number_at words i w t n within is reads read =
      let at = word_at words i w t within is reads in
      rw at (record { digits = read.0.0; value = sym read.1; fits = rw read.1 read.0.1 })
