-- Sums that grow by some samples.
use Rattle.std.proofs.Common.{◌≡◌, ℕ, zero, suc, ◌+◌, ◌<◌, List, [], ◌∷◌, ◌++◌, length, get_or, take, map, ℤ, ap, sym, ◌∙◌, add-one, arith}
use Rattle.std.specs.List.{flat_map, fold, range_with_len}
use Rattle.std.proofs.lemmas.Grind.{fold-append}
use Rattle.std.proofs.lemmas.List.Concat.{flat_map-append}
use Rattle.std.proofs.lemmas.List.{append-nil, take_more, take-map, drop-map, map-append}
use Rattle.jxlm_base.specs.Grid.{Grid, row, meanings}
use Rattle.jxlbench.specs.Checksum.{with_byte, sample_bytes, with_samples, channel_samples, image_samples}

-- first these samples, and then those
joined : (sum : ℕ) (xs ys : List ℤ) → with_samples sum (xs ++ ys) ≡ with_samples (with_samples sum xs) ys
joined sum xs ys =
    ap (λ bytes. fold with_byte sum bytes) (flat_map-append sample_bytes xs ys) ∙ fold-append with_byte sum (flat_map sample_bytes xs) (flat_map sample_bytes ys)

-- one piece more at the end
flat_map-push : {X : Type 0} (f : X → List ℤ) (xs : List X) (x : X) → flat_map f (xs ++ x ∷ []) ≡ flat_map f xs ++ f x
flat_map-push f xs x = flat_map-append f xs (x ∷ []) ∙ ap (λ vs. flat_map f xs ++ vs) (append-nil (f x))

-- a sample more of a row, which number stands for
pub row_more : {X : Type 0} (number : X → ℤ) (sum before after : ℕ) (xs : List X) (i : ℕ) (x : X) (v : ℤ) → i < length xs → x ≡ get_or xs i x → v ≡ number x →
    before ≡ with_samples sum (map number (take i xs)) → after ≡ with_samples before (v ∷ []) → after ≡ with_samples sum (map number (take (i + 1) xs))
row_more number sum before after xs i x v within is value so_far more =
    let first = map number (take i xs) in
    more ∙ ap (λ s. with_samples s (v ∷ [])) so_far ∙ ap (λ n. with_samples (with_samples sum first) (n ∷ [])) (value ∙ ap number is)
    ∙ sym (joined sum first (number (get_or xs i x) ∷ []))
    ∙ sym (ap (λ vs. with_samples sum vs) (map-append number (take i xs) (get_or xs i x ∷ [])))
    ∙ sym (ap (λ vs. with_samples sum (map number vs)) (take_more xs i x within))

range_with_len-push : (a n last : ℕ) → a + n ≡ last → range_with_len a (suc n) ≡ range_with_len a n ++ last ∷ []
range_with_len-push a zero last e = ap (λ k. k ∷ []) (omega arith)
range_with_len-push a (suc n) last e = ap (λ ks. a ∷ ks) (range_with_len-push (a + 1) n last (omega arith))

range_more : (y : ℕ) → range_with_len 0 (y + 1) ≡ range_with_len 0 y ++ y ∷ []
range_more y = rw add-one (range_with_len-push 0 y y (omega arith))

-- a row of the numbers is the numbers of the row
row-meanings : {X : Type 0} (number : X → ℤ) (g : Grid X) (y : ℕ) → row (meanings number g) y ≡ map number (row g y)
row-meanings number g y = simp (drop-map, take-map)

-- a row more of a channel
pub channel_more : {X : Type 0} (number : X → ℤ) (sum before after : ℕ) (g : Grid X) (y : ℕ) (xs : List X) → xs ≡ row g y →
    before ≡ with_samples sum (flat_map (row (meanings number g)) (range_with_len 0 y)) → after ≡ with_samples before (map number xs) →
    after ≡ with_samples sum (flat_map (row (meanings number g)) (range_with_len 0 (y + 1)))
channel_more number sum before after g y xs is so_far more =
    let rows = row (meanings number g) in
    let first = flat_map rows (range_with_len 0 y) in
    more ∙ ap (λ s. with_samples s (map number xs)) so_far ∙ ap (λ vs. with_samples (with_samples sum first) vs) (ap (map number) is ∙ sym (row-meanings number g y))
    ∙ sym (joined sum first (rows y)) ∙ sym (ap (λ vs. with_samples sum vs) (flat_map-push rows (range_with_len 0 y) y))
    ∙ sym (ap (λ ks. with_samples sum (flat_map rows ks)) (range_more y))

-- a channel more of an image
pub image_more : {X : Type 0} (number : X → ℤ) (sum before after : ℕ) (gs : List (Grid X)) (i : ℕ) (g : Grid X) → i < length gs → g ≡ get_or gs i g →
    before ≡ with_samples sum (image_samples (map (meanings number) (take i gs))) → after ≡ with_samples before (channel_samples (meanings number g)) →
    after ≡ with_samples sum (image_samples (map (meanings number) (take (i + 1) gs)))
image_more number sum before after gs i g within is so_far more =
    let first = map (meanings number) (take i gs) in
    more ∙ ap (λ s. with_samples s (channel_samples (meanings number g))) so_far
    ∙ ap (λ x. with_samples (with_samples sum (image_samples first)) (channel_samples (meanings number x))) is
    ∙ sym (joined sum (image_samples first) (channel_samples (meanings number (get_or gs i g))))
    ∙ sym (ap (λ vs. with_samples sum vs) (flat_map-push channel_samples first (meanings number (get_or gs i g))))
    ∙ sym (ap (λ xs. with_samples sum (image_samples xs)) (map-append (meanings number) (take i gs) (get_or gs i g ∷ [])))
    ∙ sym (ap (λ xs. with_samples sum (image_samples (map (meanings number) xs))) (take_more gs i g within))
