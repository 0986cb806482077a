use Rattle.std.proofs.Common.{◌≡◌, ◌∙◌, ℕ, ◌+◌, ◌*◌, ◌^◌, List, [], ◌∷◌, map, min, sum_by, ap, refl}
use Rattle.std.specs.List.{fold}
use Rattle.std.proofs.lemmas.List.{take_all}
use Rattle.jxlm_header.proofs.opening.node_limit.Goals as goal

summed : {X Y : Type 0} (g : Y → ℕ) (f : X → Y) (k : ℕ) (xs : List X) → fold (λ n x. n + g (f x)) k xs ≡ fold (λ n y. n + g y) k (map f xs)
summed g f k [] = refl
summed g f k (x ∷ xs) = summed g f (k + g (f x)) xs

pub returns : goal.returns
returns c =
    let xs = c.args.channels.now in
    c.loop-channel.invariant ∙ ap (λ ys. min (1024 + sum_by (λ p. p.info.width * p.info.height) ys) (2 ^ 20)) (take_all c.loop-channel.channel-index xs c.loop-channel-test.false)
    ∙ ap (λ n. min (1024 + n) (2 ^ 20)) (summed (λ c. c.width * c.height) (λ p. p.info) 0 xs)
