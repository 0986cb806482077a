-- Numbers of four bytes, where they were written.
use Rattle.std.proofs.Common.{◌≡◌, ℕ, ◌+◌, ◌*◌, ◌/◌, ◌%◌, ◌^◌, ◌<◌, List, ◌++◌, length, sym, ap, ◌∙◌, arith, append_assoc}
use Rattle.std.specs.Prelude.{slice_index}
use Rattle.std.proofs.lemmas.List.{get_or-append-add, length-append}
use Rattle.jxl_container.specs.Boxes.{word_at}
use Rattle.jxl_container_write.specs.Inner.Spelled.{word}

-- element k of what follows
at : (xs zs : List ℕ) (k : ℕ) → slice_index (xs ++ zs) (length xs + k) ≡ slice_index zs k
at xs zs k = get_or-append-add xs zs k 0

four : (v : ℕ) → v < 4294967296 → (v / 16777216 % 256 * 256 + v / 65536 % 256) * 65536 + (v / 256 % 256 * 256 + v % 256) ≡ v
four v small = omega (arith, small)

pub word_is : (xs ys : List ℕ) (p v : ℕ) → p ≡ length xs → v < 2 ^ 32 → word_at (xs ++ (word v ++ ys)) p ≡ v
unfolding word_at
word_is xs ys p v e small =
    let zero : p ≡ length xs + 0 = omega (arith, e) in
    let a : slice_index (xs ++ (word v ++ ys)) p ≡ v / 16777216 % 256 = ap (slice_index (xs ++ (word v ++ ys))) zero ∙ at xs (word v ++ ys) 0 in
    let b : slice_index (xs ++ (word v ++ ys)) (p + 1) ≡ v / 65536 % 256 = ap (λ q. slice_index (xs ++ (word v ++ ys)) (q + 1)) e ∙ at xs (word v ++ ys) 1 in
    let c : slice_index (xs ++ (word v ++ ys)) (p + 2) ≡ v / 256 % 256 = ap (λ q. slice_index (xs ++ (word v ++ ys)) (q + 2)) e ∙ at xs (word v ++ ys) 2 in
    let d : slice_index (xs ++ (word v ++ ys)) (p + 3) ≡ v % 256 = ap (λ q. slice_index (xs ++ (word v ++ ys)) (q + 3)) e ∙ at xs (word v ++ ys) 3 in
    rw (a, b, c, d) (four v small)

-- the same, after another word
pub next_word_is : (xs ys : List ℕ) (p u v : ℕ) → p ≡ length xs → v < 2 ^ 32 → word_at (xs ++ (word u ++ (word v ++ ys))) (p + 4) ≡ v
next_word_is xs ys p u v e small =
    let l = length-append xs (word u) in
    let place : p + 4 ≡ length (xs ++ word u) = omega (arith, e, l) in
    ap (λ zs. word_at zs (p + 4)) (sym (append_assoc xs (word u) (word v ++ ys))) ∙ word_is (xs ++ word u) ys (p + 4) v place small
