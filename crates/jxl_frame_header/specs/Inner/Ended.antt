-- The resolution that ends with a pass.
use Rattle.std.specs.Prelude.{ℕ, ◌==◌, List, [], ◌∷◌, if◌then◌else◌, Option, Some, None}

-- the factor of the resolution that is whole after a pass, where one is: of these factors, with the last pass of each
abbrev pub ended : List ℕ → List ℕ → ℕ → Option ℕ
ended [] lasts p = None
ended (d ∷ ds) [] p = None
ended (d ∷ ds) (l ∷ ls) p = if l == p then Some d else ended ds ls p
