-- What was found on a command line.
use Rattle.std.specs.Prelude.{◌≡◌, ◌≢◌, ◌⊎◌, ℕ, List, Bool, true, false, codes, Option, Some, None}
use Rattle.clap.specs.Matches.{one_text}
use Rattle.clap.specs.declared.parser.matches.Found.{Found}

-- the flag is set on the command line
abbrev pub IsFlag : Found → List ℕ → Bool → Type 0
IsFlag found id flag = (one_text found id ≡ None → flag ≡ false)
    × (one_text found id ≡ Some (codes "true") → flag ≡ true)
    × (one_text found id ≡ Some (codes "false") → flag ≡ false)

-- the path of the output: that of `--output`, but for `-`, which is standard output
abbrev pub IsOutput : Option (List ℕ) → Option (List ℕ) → Type 0
IsOutput given None = (given ≡ None) ⊎ (given ≡ Some (codes "-"))
IsOutput given (Some path) = (given ≡ Some path) × (path ≢ codes "-")
