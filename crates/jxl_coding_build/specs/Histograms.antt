-- The symbols of tokens in a histogram.
use Rattle.std.specs.Prelude.{◌≡◌, ℕ, ◌<◌, ◌≤◌, ◌⊎◌, List, get_or, slice_index}
use Rattle.std.specs.List.{All}
use Rattle.jxl_coding_codes.specs.declared.config.IntegerConfig.{IntegerConfig}
use Rattle.jxl_coding_write.specs.HybridIntegers.{symbol_of, symbol_count}
use Rattle.jxlm_bit_writer.specs.declared.token.Token.{Token}

-- the symbol of each of the first n tokens that is of the cluster occurs
abbrev pub AllOccur : IntegerConfig → ℕ → List Token → ℕ → List ℕ → Type 0
AllOccur config cluster tokens n counts =
    (k : ℕ) (d : Token) → k < n → (get_or tokens k d).cluster ≡ cluster → 0 < slice_index counts (symbol_of config (get_or tokens k d).value)

-- the symbol of the token is below 256, if it is of the cluster
abbrev pub HasSymbol : IntegerConfig → ℕ → Token → Type 0
HasSymbol config cluster token = token.cluster ≡ cluster → symbol_of config token.value < 256

-- the symbols of the tokens of the cluster are below 256: those of all numbers are, or those of these tokens
abbrev pub HaveSymbols : IntegerConfig → ℕ → List Token → Type 0
HaveSymbols config cluster tokens = (symbol_count config ≤ 256) ⊎ All (HasSymbol config cluster) tokens
