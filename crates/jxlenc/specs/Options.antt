-- What the command line asks for.
use Rattle.std.specs.Prelude.{◌≡◌, ℕ, List, codes}
use Rattle.jxl_encode_ways.specs.declared.effort.Effort.{Effort}
use Rattle.jxl_encode_ways.specs.declared.effort.Effort.TheVariants as efforts

-- the word is the name of an effort
abbrev pub IsName : List ℕ → Effort → Type 0
IsName word efforts.Fast = word ≡ codes "fast"
IsName word efforts.Usual = word ≡ codes "usual"
IsName word efforts.Best = word ≡ codes "best"

-- it is the name of none
abbrev pub IsNoName : List ℕ → Type 0
IsNoName word = (effort : Effort) → ¬ (IsName word effort)
