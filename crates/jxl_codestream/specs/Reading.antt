-- What a call that reads fields and tokens returned.
use Rattle.std.specs.Prelude.{◌≡◌, ℕ, Result, Ok, Err}
use Rattle.jxlm_bits.specs.Decoding.{Found}
use Rattle.jxlm_bits.specs.ErrorKind.{ErrorAt, UnlessMemory, kind_of}
use Rattle.jxlm_bits.specs.Grammar.{IsErrorAt}
use Rattle.jxlm_bits.specs.declared.error.Error.{Error}

-- What such a call returned, seen by view, and where it left the reader, are what reading gives, unless it or its decoder is
-- out of memory.
abbrev pub Decodes : {X Y : Type 0} → (X → Y) → Result X Error → ℕ → Result (Found Y) ErrorAt → Type 0
Decodes view (Ok x) q reading = reading ≡ Ok (record { value = view x; position = q })
Decodes view (Err e) q reading = UnlessMemory (kind_of e) (IsErrorAt reading (kind_of e) q)
