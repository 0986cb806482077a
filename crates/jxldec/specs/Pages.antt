-- Outputs that have names, and what was written to them.
use Rattle.std.specs.Prelude.{◌≡◌, ℕ, List, [], ◌∷◌, ◌++◌, Option, Some, None}

-- An output of this name that holds these bytes.
pub record Page : Type 0 where
  pub name : List ℕ
  pub bytes : List ℕ

abbrev pub page_of : List ℕ → List ℕ → Page
page_of name bytes = record { name = name; bytes = bytes }

-- what is known to be written grows by these
abbrev pub AppendsPages : Option (List Page) → Option (List Page) → List Page → Type 0
AppendsPages None new pages = Unit {0}
AppendsPages (Some before) None pages = ⊥
AppendsPages (Some before) (Some after) pages = after ≡ before ++ pages
