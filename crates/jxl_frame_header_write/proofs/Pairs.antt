-- Neighbours in a list, as pairs.
use Rattle.std.proofs.Common.{◌≡◌, ℕ, suc, ◌+◌, ◌-◌, ◌<◌, ◌≤◌, List, [], ◌∷◌, length, take, drop, get_or, Bool, true, false, refl, sym, ap, ◌∙◌, arith}
use Rattle.std.specs.Prelude.{◌&&◌}
use Rattle.std.specs.List.{list_all, zip}
use Rattle.std.proofs.lemmas.Bool.{false≢true}
use Rattle.std.proofs.lemmas.List.{take_all, length-drop}
use Rattle.std.proofs.lemmas.List.Folds.{list_all_at, list_all_more}
use Rattle.std.proofs.lemmas.Slice.Zip.{get_or-zip}
use Rattle.std.proofs.lemmas.Grind.{get_or_after_one}

zip_short : (xs ys : List ℕ) → length ys ≤ length xs → length (zip xs ys) ≡ length ys
zip_short [] [] h = refl
zip_short [] (y ∷ ys) h = absurd (omega (arith, h))
zip_short (x ∷ xs) [] h = refl
zip_short (x ∷ xs) (y ∷ ys) h = ap suc (zip_short xs ys (omega (arith, h)))

-- how many pairs there are
pairs_count : (xs : List ℕ) → length (zip xs (drop 1 xs)) ≡ length xs - 1
pairs_count xs =
    let l : length (drop 1 xs) ≡ length xs - 1 = length-drop 1 xs in
    zip_short xs (drop 1 xs) (omega (arith, l)) ∙ l

-- the pair at a place
pair_at : (xs : List ℕ) (i : ℕ) → i < length xs - 1 → get_or (zip xs (drop 1 xs)) i (0, 0) ≡ (get_or xs i 0, get_or xs (i + 1) 0)
pair_at xs i lt =
    let l : length (drop 1 xs) ≡ length xs - 1 = length-drop 1 xs in
    let e : 1 + i ≡ i + 1 = omega arith in
    get_or-zip xs (drop 1 xs) i (0, 0) (omega (arith, lt)) (omega (arith, lt, l)) ∙ ap (λ (n : ℕ). (get_or xs i 0, n)) (get_or_after_one xs i 0 ∙ ap (λ (k : ℕ). get_or xs k 0) e)

both_true : (a b : Bool) → a ≡ true → b ≡ true → (a && b) ≡ true
both_true true b e f = f
both_true false b e f = absurd (false≢true e)

-- one pair more passes
pub pairs_next : (test : ℕ × ℕ → Bool) (xs : List ℕ) (i : ℕ) → i < length xs - 1 → list_all test (take i (zip xs (drop 1 xs))) ≡ true → test (get_or xs i 0, get_or xs (i + 1) 0) ≡ true →
    list_all test (take (i + 1) (zip xs (drop 1 xs))) ≡ true
pairs_next test xs i lt so_far h =
    let c = pairs_count xs in
    list_all_more test (zip xs (drop 1 xs)) i (0, 0) (omega (arith, c, lt))
    ∙ both_true (list_all test (take i (zip xs (drop 1 xs)))) (test (get_or (zip xs (drop 1 xs)) i (0, 0))) so_far (ap test (pair_at xs i lt) ∙ h)

-- one does not pass
pub pairs_fail : (test : ℕ × ℕ → Bool) (xs : List ℕ) (i : ℕ) → i < length xs - 1 → test (get_or xs i 0, get_or xs (i + 1) 0) ≡ false → list_all test (zip xs (drop 1 xs)) ≡ false
pairs_fail test xs i lt h =
    let c = pairs_count xs in
    list_all_at test (zip xs (drop 1 xs)) i (0, 0) (omega (arith, c, lt)) (ap test (pair_at xs i lt) ∙ h)

-- all pass
pub pairs_all : (test : ℕ × ℕ → Bool) (xs : List ℕ) (i : ℕ) → length xs - 1 ≤ i → list_all test (take i (zip xs (drop 1 xs))) ≡ true → list_all test (zip xs (drop 1 xs)) ≡ true
pairs_all test xs i most h =
    let c = pairs_count xs in
    ap (list_all test) (sym (take_all i (zip xs (drop 1 xs)) (omega (arith, c, most)))) ∙ h
