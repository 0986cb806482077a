-- Texts that grew by several pieces, one after the other.
use Rattle.std.proofs.Common.{◌≡◌, ℕ, List, [], ◌∷◌, ◌++◌, append_assoc}

pub two : (s t u a b : List ℕ) → t ≡ s ++ a → u ≡ t ++ b → u ≡ s ++ (a ++ b)
two s t u a b e f = rw (f, e) (append_assoc s a b)

-- pieces that were written at once: two or seven, and the end of the line
pub line_of_two : (s t a b : List ℕ) → t ≡ s ++ (a ++ (b ++ 10 ∷ [])) → t ≡ s ++ ((a ++ b) ++ 10 ∷ [])
line_of_two s t a b e = rw e (simp append_assoc)

pub line_of_seven : (s t a b c d e f g : List ℕ) → t ≡ s ++ (a ++ (b ++ (c ++ (d ++ (e ++ (f ++ (g ++ 10 ∷ []))))))) → t ≡ s ++ (((((((a ++ b) ++ c) ++ d) ++ e) ++ f) ++ g) ++ 10 ∷ [])
line_of_seven s t a b c d e f g p = rw p (simp append_assoc)
