-- Texts that grow by one piece.
use Rattle.std.proofs.Common.{◌≡◌, ℕ, zero, suc, ◌+◌, ◌<◌, List, [], ◌∷◌, ◌++◌, length, get_or, take, map, ℤ, ap, sym, ◌∙◌, add-one, ◌≤◌, append_assoc, arith}
use Rattle.std.specs.List.{join_with_byte, flat_map, range_with_len, enumerate_from}
use Rattle.std.specs.Fmt.{signed_decimal}
use Rattle.std.proofs.lemmas.List.Concat.{flat_map-append}
use Rattle.std.proofs.lemmas.List.{append-nil, take_all, take_more, take-map, drop-map, map-append, length-map, length-take-le}
use Rattle.std.proofs.lemmas.Simd.{map-map}
use Rattle.jxlm_base.specs.Grid.{Grid, row, meanings}
use Rattle.jxl_text.specs.Printing.{line, row_text, rows_text, channel_text, image_text}

-- one more piece at the end
flat_map-push : {X : Type 0} (f : X → List ℕ) (xs : List X) (x : X) → flat_map f (xs ++ x ∷ []) ≡ flat_map f xs ++ f x
flat_map-push f xs x = flat_map-append f xs (x ∷ []) ∙ ap (λ bs. flat_map f xs ++ bs) (append-nil (f x))

-- what is joined is the first piece, and then the others, each after the byte
join_with_byte-cons : {X : Type 0} (c : ℕ) (f : X → List ℕ) (x : X) (xs : List X) → join_with_byte c (map f (x ∷ xs)) ≡ f x ++ flat_map (λ y. c ∷ f y) xs
join_with_byte-cons c f x [] = sym (append-nil (f x))
join_with_byte-cons c f x (y ∷ ys) = ap (λ bs. f x ++ (c ∷ bs)) (join_with_byte-cons c f y ys)

pub row_text-cons : {X : Type 0} (number : X → ℤ) (x : X) (xs : List X) → row_text (map number (x ∷ xs)) ≡ signed_decimal (number x) ++ flat_map (λ y. 32 ∷ signed_decimal (number y)) xs
row_text-cons number x xs =
    ap (λ ts. join_with_byte 32 ts) (map-map signed_decimal number (x ∷ xs)) ∙ join_with_byte-cons 32 (λ y. signed_decimal (number y)) x xs

-- a row whose first number is printed, then each other after a space, then the end of the line
pub row_printed : {X : Type 0} (number : X → ℤ) (row : List X) (x : X) (rest : List X) (i : ℕ) (before begun so_far after : List ℕ) → row ≡ x ∷ rest → length rest ≤ i → begun ≡ before ++ signed_decimal (number x) → so_far ≡ begun ++ flat_map (λ y. 32 ∷ signed_decimal (number y)) (take i rest) → after ≡ so_far ++ 10 ∷ [] → after ≡ before ++ line (row_text (map number row))
row_printed number row x rest i before begun so_far after cut all e f g =
    let numbers = signed_decimal (number x) in
    let others = flat_map (λ y. 32 ∷ signed_decimal (number y)) rest in
    let whole : take i rest ≡ rest = take_all i rest all in
    let joined : row_text (map number row) ≡ numbers ++ others = rw cut (row_text-cons number x rest) in
    let parts : ((before ++ numbers) ++ others) ++ 10 ∷ [] ≡ before ++ ((numbers ++ others) ++ 10 ∷ []) = simp append_assoc in
    rw (g, f, e, whole, joined) parts

range_with_len-push : (a n last : ℕ) → a + n ≡ last → range_with_len a (suc n) ≡ range_with_len a n ++ last ∷ []
range_with_len-push a zero last e = ap (λ k. k ∷ []) (omega arith)
range_with_len-push a (suc n) last e = ap (λ ks. a ∷ ks) (range_with_len-push (a + 1) n last (omega arith))

-- a row of the numbers is the numbers of the row
row-meanings : {X : Type 0} (number : X → ℤ) (g : Grid X) (y : ℕ) → row (meanings number g) y ≡ map number (row g y)
row-meanings number g y = simp (drop-map, take-map)

pub rows_text-more : {X : Type 0} (number : X → ℤ) (g : Grid X) (y : ℕ) → rows_text (meanings number g) (y + 1) ≡ rows_text (meanings number g) y ++ line (row_text (map number (row g y)))
rows_text-more number g y =
    let rows = λ (k : ℕ). line (row_text (row (meanings number g) k)) in
    rw add-one (ap (λ ks. flat_map rows ks) (range_with_len-push 0 y y (omega arith)) ∙ flat_map-push rows (range_with_len 0 y) y ∙ ap (λ r. flat_map rows (range_with_len 0 y) ++ line (row_text r)) (row-meanings number g y))

enumerate_from-push : {X : Type 0} (n : ℕ) (xs : List X) (last : ℕ) (x : X) → n + length xs ≡ last → enumerate_from n (xs ++ x ∷ []) ≡ enumerate_from n xs ++ (last, x) ∷ []
enumerate_from-push n [] last x e = ap (λ k. (k, x) ∷ []) (omega arith)
enumerate_from-push n (y ∷ ys) last x e = ap (λ ps. (n, y) ∷ ps) (enumerate_from-push (n + 1) ys last x (omega arith))

pub image_text-push : (gs : List (Grid ℤ)) (last : ℕ) (g : Grid ℤ) → length gs ≡ last → image_text (gs ++ g ∷ []) ≡ image_text gs ++ channel_text last g
image_text-push gs last g e =
    let printed = λ (c : ℕ × Grid ℤ). channel_text c.0 c.1 in
    ap (λ cs. flat_map printed cs) (enumerate_from-push 0 gs last g (omega arith)) ∙ flat_map-push printed (enumerate_from 0 gs) (last, g)

pub image_text-more : {X : Type 0} (number : X → ℤ) (gs : List (Grid X)) (i : ℕ) (d : Grid X) → i < length gs → image_text (map (meanings number) (take (i + 1) gs)) ≡ image_text (map (meanings number) (take i gs)) ++ channel_text i (meanings number (get_or gs i d))
image_text-more number gs i d within =
    let before = map (meanings number) (take i gs) in
    let split = ap (λ xs. map (meanings number) xs) (take_more gs i d within) ∙ map-append (meanings number) (take i gs) (get_or gs i d ∷ []) in
    ap image_text split ∙ image_text-push before i (meanings number (get_or gs i d)) (simp length-map (length-take-le i gs (omega arith)))
