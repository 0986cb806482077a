-- Three rows, finished eight cells at a time.
use Rattle.std.proofs.Common.{◌≡◌, ℕ, ◌+◌, ◌-◌, ◌<◌, ◌≤◌, List, length, map, ℤ, pos, FitsSigned, w16, sym, ◌∙◌, subst, arith}
use Rattle.std.proofs.lemmas.Simd.{length-put_chunk, get_or-put_chunk_below, get_or-put_chunk_at, get_or-put_chunk_above, length-chunk}
use lib.Lanes.{chunk, put_chunk}
use Rattle.jxlm_lanes.specs.Colour.{triple, IsTripleOf, triple_at, finished_by}
use Rattle.jxlm_lanes.specs.FinishedCells.{FinishesCells}
use Rattle.jxlm_lanes.specs.Inner.Lanes.{lane, AreEight}
use Rattle.jxlm_lanes.proofs.ColourLaws.{triple_same}
use Rattle.jxlm_lanes.proofs.ColourRows.{cells_more}
use Rattle.jxlm_lanes.proofs.Eights.{chunk_fits, same}

-- a chunk of numbers that fit
pub chunk_eight : (xs : List ℤ) (i : ℕ) → i + 8 ≤ length xs → ((j : ℕ) → j < 8 → FitsSigned w16 (lane xs (i + j))) → AreEight (chunk i 8 xs)
chunk_eight xs i le h = record { len = length-chunk i 8 xs le; fit = chunk_fits w16 xs i le h }

-- cells that are not finished yet fit
pub cell_fits : (t n : ℕ) (a b c a' b' c' : List ℤ) (i : ℕ) → FinishesCells w16 t 0 n a b c a' b' c' → n ≤ i → i < length a → IsTripleOf w16 (triple_at a b c i) → IsTripleOf w16 (triple_at a' b' c' i)
cell_fits t n a b c a' b' c' i u le lt h = subst (IsTripleOf w16) (sym (u.after i le lt)) h

-- eight more cells are finished
pub eight_cells : (t i : ℕ) (a b c a' b' c' x y z : List ℤ) → i + 8 ≤ length a → length b ≡ length a → length c ≡ length a → AreEight x → AreEight y → AreEight z →
    FinishesCells w16 t 0 i a b c a' b' c' → ((k : ℕ) → i ≤ k → k < length a → IsTripleOf w16 (triple_at a b c k)) →
    ((j : ℕ) → j < 8 → triple (lane x j) (lane y j) (lane z j) ≡ finished_by w16 t (triple_at a' b' c' (i + j))) →
    FinishesCells w16 t 0 (i + 8) a b c (put_chunk i a' x) (put_chunk i b' y) (put_chunk i c' z)
eight_cells t i a b c a' b' c' x y z le second third ex ey ez u fits is =
    let la = u.first_length in
    let lb = u.second_length in
    let lc = u.third_length in
    let lx = ex.len in
    let ly = ey.len in
    let lz = ez.len in
    cells_more w16 t 0 i (i + 8) a b c a' b' c' (put_chunk i a' x) (put_chunk i b' y) (put_chunk i c' z) (omega arith) le u
    (length-put_chunk i a' x) (length-put_chunk i b' y) (length-put_chunk i c' z)
    (λ k g h. cell_fits t i a b c a' b' c' k u g (omega arith) (fits k g (omega arith)))
    (λ k g h.
    let e : i + (k - i) ≡ k = omega arith in
    subst (λ m. triple_at (put_chunk i a' x) (put_chunk i b' y) (put_chunk i c' z) m ≡ finished_by w16 t (triple_at a' b' c' m)) e
    (triple_same _ _ _ (lane x (k - i)) (lane y (k - i)) (lane z (k - i)) (get_or-put_chunk_at i a' x (k - i) (pos 0) (omega arith) (omega arith))
    (get_or-put_chunk_at i b' y (k - i) (pos 0) (omega arith) (omega arith)) (get_or-put_chunk_at i c' z (k - i) (pos 0) (omega arith) (omega arith))
    ∙ is (k - i) (omega arith)))
    (λ k h. triple_same _ _ _ _ _ _ (get_or-put_chunk_below i a' x k (pos 0) h) (get_or-put_chunk_below i b' y k (pos 0) h) (get_or-put_chunk_below i c' z k (pos 0) h))
    (λ k g h. triple_same _ _ _ _ _ _ (get_or-put_chunk_above i a' x k (pos 0) (omega arith)) (get_or-put_chunk_above i b' y k (pos 0) (omega arith)) (get_or-put_chunk_above i c' z k (pos 0) (omega arith)))
    (omega arith)

-- numbers stand for themselves, in six lists
abbrev pub numbers : List ℤ → List ℤ
numbers xs = map (λ x. x) xs

pub six_numbers : (P : List ℤ → List ℤ → List ℤ → List ℤ → List ℤ → List ℤ → Type 0) (a b c d e f : List ℤ) → P a b c d e f → P (numbers a) (numbers b) (numbers c) (numbers d) (numbers e) (numbers f)
six_numbers P a b c d e f p =
    subst (λ z. P (numbers a) (numbers b) (numbers c) (numbers d) (numbers e) z) (sym (same f))
    (subst (λ z. P (numbers a) (numbers b) (numbers c) (numbers d) z f) (sym (same e))
    (subst (λ z. P (numbers a) (numbers b) (numbers c) z e f) (sym (same d))
    (subst (λ z. P (numbers a) (numbers b) z d e f) (sym (same c)) (subst (λ z. P (numbers a) z c d e f) (sym (same b)) (subst (λ z. P z b c d e f) (sym (same a)) p)))))
