-- Streams by whatever decoder.
use Rattle.std.specs.Prelude.{◌≡◌, ℕ, List, Ok}
use Rattle.jxlm_bits.specs.Decoding.{Asked, Meaning, reads}

-- From this position on a decoder begins, its reads give these tokens up to another position, and it accepts the end.
pub record IsRead {S : Type 0} (d : Meaning S) (s : S) (bytes : List ℕ) (p : ℕ) (asked : List Asked) (tokens : List ℕ) (q : ℕ) : Type 0 where
  pub first : S
  pub start : ℕ
  pub last : S
  pub begins : d.begin s bytes p ≡ Ok (record { value = first; position = start })
  pub all : reads d first bytes start asked ≡ Ok (record { value = tokens; state = last; position = q })
  pub accepts : d.finalize last ≡ Ok tt
