-- Bytes that grow by one piece.
use Rattle.std.proofs.Common.{◌≡◌, ℕ, zero, suc, ◌+◌, ◌<◌, List, [], ◌∷◌, ◌++◌, length, get_or, take, ap, ◌∙◌, add-one, append_assoc, arith}
use Rattle.std.specs.List.{flat_map, range_with_len}
use Rattle.std.proofs.lemmas.List.Concat.{flat_map-append}
use Rattle.std.proofs.lemmas.List.{append-nil, take_more}

-- one more piece at the end
flat_map-push : {X : Type 0} (f : X → List ℕ) (xs : List X) (x : X) → flat_map f (xs ++ x ∷ []) ≡ flat_map f xs ++ f x
flat_map-push f xs x = flat_map-append f xs (x ∷ []) ∙ ap (λ bs. flat_map f xs ++ bs) (append-nil (f x))

range-push : (a n last : ℕ) → a + n ≡ last → range_with_len a (suc n) ≡ range_with_len a n ++ last ∷ []
range-push a zero last e = ap (λ k. k ∷ []) (omega arith)
range-push a (suc n) last e = ap (λ ks. a ∷ ks) (range-push (a + 1) n last (omega arith))

-- the piece of the next number
pub below_more : (f : ℕ → List ℕ) (n : ℕ) → flat_map f (range_with_len 0 (n + 1)) ≡ flat_map f (range_with_len 0 n) ++ f n
below_more f n = rw add-one (ap (flat_map f) (range-push 0 n n (omega arith)) ∙ flat_map-push f (range_with_len 0 n) n)

-- the piece of the next element
pub take_piece : {X : Type 0} (f : X → List ℕ) (xs : List X) (i : ℕ) (d : X) → i < length xs → flat_map f (take (i + 1) xs) ≡ flat_map f (take i xs) ++ f (get_or xs i d)
take_piece f xs i d within = ap (flat_map f) (take_more xs i d within) ∙ flat_map-push f (take i xs) (get_or xs i d)

-- bytes that hold so much get the next piece
pub joined : (before so_far piece now after all : List ℕ) → now ≡ before ++ so_far → after ≡ now ++ piece → all ≡ so_far ++ piece → after ≡ before ++ all
joined before so_far piece now after all e f g = rw (f, e, g) (append_assoc before so_far piece)
