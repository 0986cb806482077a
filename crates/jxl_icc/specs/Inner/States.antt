-- What positions and bytes in the code mean.
use Rattle.std.specs.Prelude.{ℕ, List, ◌≡◌, ◌-◌, ◌<◌, ◌≤◌, ◌^◌, length, Result, Ok, Err}
use Rattle.jxl_icc.specs.Errors.{UnlessMemory}
use Rattle.jxl_icc.specs.Profiles.{SoFar, Listed, contents, tags}
use Rattle.jxl_icc.specs.declared.error.ProfileError.{ProfileError}
use Rattle.jxl_icc.specs.declared.walk.Walk.{Walk}
use Rattle.jxl_icc.specs.declared.tags.Tags.{Tags}

-- a profile so far, by the positions and the bytes
abbrev pub so_far : Walk → List ℕ → SoFar
so_far w out = record { place = w.place; at = w.data; out = out }

-- the same in the tag list
abbrev pub listed : Tags → List ℕ → Listed
listed t out = record { place = t.place; at = t.data; out = out; start = t.start; size = t.size }

-- the code's result means this one, or is out of memory
abbrev pub Gives : Result Walk ProfileError → List ℕ → Result SoFar ProfileError → Type 0
Gives (Ok w) out r = r ≡ Ok (so_far w out)
Gives (Err e) out r = UnlessMemory e (r ≡ Err e)

abbrev pub GivesTag : Result Tags ProfileError → List ℕ → Result Listed ProfileError → Type 0
GivesTag (Ok t) out r = r ≡ Ok (listed t out)
GivesTag (Err e) out r = UnlessMemory e (r ≡ Err e)

-- after this many commands: the rest of them makes what all of them make
pub record Continues (bytes : List ℕ) (end size n : ℕ) (first : SoFar) (done : ℕ) (w : Walk) (out : List ℕ) : Type 0 where
  pub rest : contents bytes end size n first ≡ contents bytes end size (n - done) (so_far w out)
  pub here : w.place ≤ end
  pub inside : w.data ≤ length bytes
  pub room : length out ≤ size

-- the same of tags
pub record Lists (bytes : List ℕ) (end size n : ℕ) (first : Listed) (done : ℕ) (t : Tags) (out : List ℕ) : Type 0 where
  pub rest : tags bytes end size n first ≡ tags bytes end size (n - done) (listed t out)
  pub here : t.place ≤ end
  pub inside : t.data ≤ length bytes
  pub room : length out ≤ size
  pub start_small : t.start < 2 ^ 60
  pub size_small : t.size < 2 ^ 32
