-- Channels whose samples are their own numbers.
use Rattle.std.proofs.Common.{◌≡◌, ℤ, List, [], ◌∷◌, map, refl, ap, ◌∙◌}
use Rattle.std.proofs.lemmas.List.{map-id}
use Rattle.jxlm_base.specs.Grid.{Grid, grid, meanings}

pub own_numbers : (gs : List (Grid ℤ)) → map (meanings (λ (v : ℤ). v)) gs ≡ gs
own_numbers [] = refl
own_numbers (g ∷ gs) =
    ap (λ (cs : List ℤ). grid g.width g.height cs ∷ map (meanings (λ (v : ℤ). v)) gs) (map-id g.cells) ∙ ap (λ (rest : List (Grid ℤ)). g ∷ rest) (own_numbers gs)
