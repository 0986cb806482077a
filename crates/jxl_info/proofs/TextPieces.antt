-- Texts that grew by several pieces, one after the other.
use Rattle.std.proofs.Common.{◌≡◌, ℕ, List, [], ◌∷◌, ◌++◌, append_assoc}

pub two : (s t u a b : List ℕ) → t ≡ s ++ a → u ≡ t ++ b → u ≡ s ++ (a ++ b)
two s t u a b e f = rw (f, e) (append_assoc s a b)

pub three : (s t u v a b c : List ℕ) → t ≡ s ++ a → u ≡ t ++ b → v ≡ u ++ c → v ≡ s ++ ((a ++ b) ++ c)
three s t u v a b c e f g = two s u v (a ++ b) c (two s t u a b e f) g

pub four : (s t u v w a b c d : List ℕ) → t ≡ s ++ a → u ≡ t ++ b → v ≡ u ++ c → w ≡ v ++ d → w ≡ s ++ (((a ++ b) ++ c) ++ d)
four s t u v w a b c d e f g h = two s v w ((a ++ b) ++ c) d (three s t u v a b c e f g) h

-- a piece in two parts, and another
pub grown : (s t u a b c : List ℕ) → t ≡ s ++ (a ++ b) → u ≡ t ++ c → u ≡ s ++ (a ++ (b ++ c))
grown s t u a b c e f = rw (f, e) (simp append_assoc)

-- a piece, and another in two parts
pub grown_by_two : (s t u a b c : List ℕ) → t ≡ s ++ a → u ≡ t ++ (b ++ c) → u ≡ s ++ ((a ++ b) ++ c)
grown_by_two s t u a b c e f = rw (f, e) (simp append_assoc)

-- a piece, another, and the end of the line
pub line_grown : (s t u v a b : List ℕ) → t ≡ s ++ a → u ≡ t ++ b → v ≡ u ++ 10 ∷ [] → v ≡ s ++ ((a ++ b) ++ 10 ∷ [])
line_grown s t u v a b e f g = rw (g, f, e) (simp append_assoc)

-- pieces that were written at once: two, four or five, and the last
pub ended_two : (s t a b d : List ℕ) → t ≡ s ++ (a ++ (b ++ d)) → t ≡ s ++ ((a ++ b) ++ d)
ended_two s t a b d e = rw e (simp append_assoc)

pub ended_four : (s t a b c d e : List ℕ) → t ≡ s ++ (a ++ (b ++ (c ++ (d ++ e)))) → t ≡ s ++ ((((a ++ b) ++ c) ++ d) ++ e)
ended_four s t a b c d e p = rw p (simp append_assoc)

pub ended_five : (s t a b c d e f : List ℕ) → t ≡ s ++ (a ++ (b ++ (c ++ (d ++ (e ++ f))))) → t ≡ s ++ (((((a ++ b) ++ c) ++ d) ++ e) ++ f)
ended_five s t a b c d e f p = rw p (simp append_assoc)

-- five pieces that were written at once, three more, and the end of the line
pub extra_grown : (s t u v w x a b c d e f g h : List ℕ) → t ≡ s ++ (a ++ (b ++ (c ++ (d ++ e)))) → u ≡ t ++ f → v ≡ u ++ g → w ≡ v ++ h → x ≡ w ++ 10 ∷ [] →
    x ≡ s ++ ((((((((a ++ b) ++ c) ++ d) ++ e) ++ f) ++ g) ++ h) ++ 10 ∷ [])
extra_grown s t u v w x a b c d e f g h p q r y z = rw (z, y, r, q, p) (simp append_assoc)
