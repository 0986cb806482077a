-- The bits of a token after its symbol (ISO/IEC 18181-1, entropy decoding: hybrid integers).
use Rattle.std.specs.Prelude.{◌≡◌, ℕ, List, ◌++◌}
use Rattle.jxlm_bit_writer.specs.Written.{digits}
use Rattle.jxl_coding_codes.specs.declared.config.IntegerConfig.{IntegerConfig}
use Rattle.jxl_coding_write.specs.HybridIntegers.{IsSpelled, symbol_of}

-- the new bits are those of a token after its symbol, and the old ones
abbrev pub HasRest : IntegerConfig → ℕ → List ℕ → List ℕ → Type 0
HasRest h token new old = (count : ℕ) × (value : ℕ) × IsSpelled h token (symbol_of h token) count value × (new ≡ digits count value ++ old)
