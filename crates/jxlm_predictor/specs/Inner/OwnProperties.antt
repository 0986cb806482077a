-- A cell's own properties: as the code makes them, and those of the definitions.
use Rattle.std.specs.Prelude.{ℕ, ℤ, pos, ◌+ℤ◌, ◌-ℤ◌, List, [], ◌∷◌, map}
use Rattle.std.specs.Int.{w32, int_wrap}
use Rattle.jxlm_bits.specs.Numbers.{absolute}
use Rattle.jxlm_weighted.specs.Neighbours.{Neighbours}
use Rattle.jxlm_predictor.specs.Properties.{Surroundings, own_properties}

-- properties 0 to 15 at (x, y) with these neighbours, before they are reduced, where `change` is property 9 of the
-- sample before and `error` property 15
abbrev pub own_list : ℕ → ℕ → Neighbours → ℤ → ℤ → List ℤ
own_list x y a change error =
    pos 0
    ∷ pos 0
    ∷ pos y
    ∷ pos x
    ∷ absolute a.n
    ∷ absolute a.w
    ∷ a.n
    ∷ a.w
    ∷ (a.w -ℤ change)
    ∷ (a.w -ℤ a.nw +ℤ a.n)
    ∷ (a.w -ℤ a.nw)
    ∷ (a.nw -ℤ a.n)
    ∷ (a.n -ℤ a.ne)
    ∷ (a.n -ℤ a.nn)
    ∷ (a.w -ℤ a.ww)
    ∷ error
    ∷ []

-- properties 0 to 15 of the cell after the samples
abbrev pub own_of : Surroundings → List ℤ
own_of s = pos 0 ∷ pos 0 ∷ map (int_wrap w32) (own_properties s)
