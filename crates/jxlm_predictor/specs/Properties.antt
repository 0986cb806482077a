-- The properties of a cell (ISO/IEC 18181-1, Modular: properties).
use Rattle.std.specs.Prelude.{ℕ, zero, suc, ◌-◌, ◌/◌, ◌%◌, ◌==◌, nat_lt, if◌then◌else◌, ℤ, pos, ◌+ℤ◌, ◌-ℤ◌, List, [], ◌∷◌, slice_get, slice_index_or, Option}
use Rattle.std.specs.Option.{option_map_or}
use Rattle.std.specs.Int.{w32, int_wrap}
use Rattle.jxlm_base.specs.Grid.{Grid}
use Rattle.jxlm_bits.specs.Numbers.{absolute, clamped_gradient}
use Rattle.jxlm_weighted.specs.Neighbours.{neighbours, neighbours_at, at, west, north, north_west, column, row}
use Rattle.jxlm_weighted.specs.SelfCorrecting.{error_property}
use Rattle.jxlm_weighted.specs.declared.weights.WpHeader.{WpHeader}

-- what the properties of a cell look at: the samples before it, and the earlier channels of its size, the nearest first
pub record Surroundings : Type 0 where
  pub weights : Option WpHeader
  pub width : ℕ
  pub samples : List ℤ
  pub earlier : List (Grid ℤ)

-- property 9 at (x, y)
abbrev pub gradient_at : List ℤ → ℕ → ℕ → ℕ → ℤ
gradient_at samples width x y = int_wrap w32 (west samples width x y -ℤ north_west samples width x y +ℤ north samples width x y)

-- property 8 at (x, y): west less property 9 of the sample before in the row; west at the row's start
abbrev pub west_change : List ℤ → ℕ → ℕ → ℕ → ℤ
west_change samples width zero y = west samples width zero y
west_change samples width (suc x) y = west samples width (suc x) y -ℤ gradient_at samples width x y

-- properties 2 to 15, at the cell after the samples, before they are reduced
abbrev pub own_properties : Surroundings → List ℤ
own_properties s =
    let a = neighbours s.samples s.width in
    let x = column s.samples s.width in
    let y = row s.samples s.width in
    pos y ∷ pos x ∷ absolute a.n ∷ absolute a.w ∷ a.n ∷ a.w
    ∷ west_change s.samples s.width x y ∷ gradient_at s.samples s.width x y
    ∷ (a.w -ℤ a.nw) ∷ (a.nw -ℤ a.n) ∷ (a.n -ℤ a.ne) ∷ (a.n -ℤ a.nn) ∷ (a.w -ℤ a.ww)
    ∷ error_property s.weights s.samples s.width ∷ []

-- the properties of an earlier channel at (x, y), not reduced: its sample, and what that has beyond its clamped gradient
abbrev pub earlier_properties : Grid ℤ → ℕ → ℕ → List ℤ
earlier_properties g x y =
    let c = at g.cells g.width x y in
    let a = neighbours_at g.cells g.width x y in
    let d = c -ℤ clamped_gradient a.n a.w a.nw in
    absolute c ∷ c ∷ absolute d ∷ d ∷ []

-- property 16 + n before it is reduced; where there is no such earlier channel it is 0
abbrev pub earlier_property : Surroundings → ℕ → ℤ
earlier_property s n =
    let of_channel = λ (g : Grid ℤ). earlier_properties g (column s.samples s.width) (row s.samples s.width) in
    slice_index_or (option_map_or of_channel (slice_get s.earlier (n / 4)) []) (n % 4) (pos 0)

-- property k at the cell after the samples, reduced to 32 bits; properties 0 and 1 are not of the cell, and are 0 here
abbrev pub place_property : Surroundings → ℕ → ℤ
place_property s k =
    if nat_lt k 2 then pos 0
    else if nat_lt k 16 then int_wrap w32 (slice_index_or (own_properties s) (k - 2) (pos 0))
    else int_wrap w32 (earlier_property s (k - 16))

-- property k as a walk sees it: 0 and 1 are the channel's index in its part and the stream index, as 32-bit numbers
abbrev pub property : ℕ → ℕ → Surroundings → ℕ → ℤ
property channel stream s k =
    if k == 0 then int_wrap w32 (pos channel)
    else if k == 1 then int_wrap w32 (pos stream)
    else place_property s k
