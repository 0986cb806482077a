-- Bytes that follow one another, each by those before it.
use Rattle.std.specs.Prelude.{ℕ, zero, suc, List, [], ◌∷◌, ◌++◌}

-- the bytes, and this many after them, each by all bytes before it and its number
unfoldable pub extend : (List ℕ → ℕ → ℕ) → List ℕ → ℕ → List ℕ
extend next bytes zero = bytes
extend next bytes (suc n) = extend next bytes n ++ next (extend next bytes n) n ∷ []
