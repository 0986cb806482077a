-- A list of copies, resized.
use Rattle.std.proofs.Common.{◌≡◌, ℕ, ◌+◌, ◌-◌, ◌≤◌, List, ◌++◌, length, ap, ◌∙◌, arith}
use Rattle.std.specs.Prelude.{replicate, take}
use Rattle.std.proofs.lemmas.List.{length-replicate, replicate-append-replicate, take_all}

pub copies : {X : Type 0} (n k : ℕ) (x : X) (xs : List X) → xs ≡ replicate n x → k ≡ length xs → k ≡ n
copies n k x xs is len = len ∙ ap length is ∙ length-replicate n x

pub resized : {X : Type 0} (n m k : ℕ) (x y : X) (before after : List X) → before ≡ replicate n x → k ≡ length before → y ≡ x → n ≤ m → after ≡ take m before ++ replicate (m - k) y → after ≡ replicate m x
resized n m k x y before after is len same le e =
    let long : length (replicate n x) ≡ n = length-replicate n x in
    let count : k ≡ n = copies n k x before is len in
    let kept : take m before ≡ replicate n x = ap (take m) is ∙ take_all m (replicate n x) (omega (arith, long)) in
    let all : n + (m - k) ≡ m = omega arith in
    e ∙ ap (λ ys. ys ++ replicate (m - k) y) kept ∙ ap (λ z. replicate n x ++ replicate (m - k) z) same ∙ replicate-append-replicate n (m - k) x ∙ ap (λ j. replicate j x) all
