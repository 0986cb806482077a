-- Questions on transforms, and on what they are seen as.
use Rattle.std.proofs.Common.{◌≡◌, ◌∙◌, Bool, List, [], ◌∷◌, map, ap, refl, sym}
use Rattle.std.specs.Prelude.{◌||◌}
use Rattle.std.specs.List.{list_any}

-- a test of what each element is seen as
pub any_seen : {X Y : Type 0} (test : Y → Bool) (f : X → Y) (xs : List X) → list_any (λ x. test (f x)) xs ≡ list_any test (map f xs)
any_seen test f [] = refl
any_seen test f (x ∷ xs) = ap (λ b. test (f x) || b) (any_seen test f xs)

-- lists that a test tells nothing apart of pass it alike
pub any_alike : {Y : Type 0} (test : Y → Bool) (xs ys : List Y) → map test xs ≡ map test ys → list_any test xs ≡ list_any test ys
any_alike test xs ys same = any_seen (λ b. b) test xs ∙ ap (list_any (λ b. b)) same ∙ sym (any_seen (λ b. b) test ys)
