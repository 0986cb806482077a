-- A message, as C reads it.
use Rattle.std.specs.Prelude.{◌≡◌, ℕ, ◌++◌, min, List, [], ◌∷◌, length, take, drop}

-- as much of a message as there is room for, and a zero after it
abbrev pub with_message : List ℕ → List ℕ → List ℕ
with_message [] message = []
with_message (b ∷ bs) message = take (length bs) message ++ 0 ∷ drop (min (length bs) (length message)) bs

-- A message is in the room of what was there before.
pub record IsMessage (old new : List ℕ) : Type 0 where
  pub message : List ℕ
  pub is : new ≡ with_message old message
