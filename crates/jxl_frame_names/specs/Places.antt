-- A place for a number in a name: `%d`, or `%0Nd` with a digit N from 1 to 9, as of printf (ISO/IEC 9899, 7.21.6.1).
use Rattle.std.specs.Prelude.{◌≡◌, ℕ, ◌+◌, ◌-◌, ◌==◌, ◌&&◌, ◌⊎◌, nat_le, List, slice_index, is_some, Bool, true, Option, Some, None, if◌then◌else◌}
use Rattle.jxl_frame_names.specs.declared.pattern.Place.{Place}

-- `%d` begins at this byte
abbrev pub is_plain_place : List ℕ → ℕ → Bool
is_plain_place name i = (slice_index name i == 37) && (slice_index name (i + 1) == 100)

-- `%0Nd` begins at this byte
abbrev pub is_padded_place : List ℕ → ℕ → Bool
is_padded_place name i = (slice_index name i == 37) && ((slice_index name (i + 1) == 48) && ((nat_le 49 (slice_index name (i + 2)) && nat_le (slice_index name (i + 2)) 57) && (slice_index name (i + 3) == 100)))

-- the place that begins at this byte, if there is one: its number has at least one digit, or N
abbrev pub place_at : List ℕ → ℕ → Option Place
place_at name i =
    if is_plain_place name i then Some (record { start = i; len = 2; width = 1 }) else
    if is_padded_place name i then Some (record { start = i; len = 4; width = slice_index name (i + 2) - 48 }) else None

-- a place begins at this byte
abbrev pub has_place : List ℕ → ℕ → Bool
has_place name i = is_some (place_at name i)

-- This is the only place of a name.
pub record IsOnlyPlace (name : List ℕ) (place : Place) : Type 0 where
  pub begins : place_at name place.start ≡ Some place
  pub alone : (i : ℕ) → has_place name i ≡ true → i ≡ place.start

-- a name has no place, or two that differ
abbrev pub HasNoPlace : List ℕ → Type 0
HasNoPlace name = ((i : ℕ) → place_at name i ≡ None) ⊎ ((i : ℕ) × (k : ℕ) × (has_place name i ≡ true) × (has_place name k ≡ true) × ¬ (i ≡ k))
