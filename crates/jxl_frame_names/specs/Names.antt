-- A name with one place for a number, and the name with a number there.
use Rattle.std.specs.Prelude.{◌≡◌, ℕ, ◌+◌, ◌-◌, List, ◌++◌, length, replicate, take, drop}
use Rattle.std.specs.Fmt.{decimal}
use Rattle.jxl_frame_names.specs.Places.{IsOnlyPlace}
use Rattle.jxl_frame_names.specs.declared.pattern.Place.{Place}
use Rattle.jxl_frame_names.specs.declared.pattern.NamePattern.{NamePattern}

-- The pattern is this name, around its only place.
pub record IsPlaced (name : List ℕ) (p : NamePattern) : Type 0 where
  pub place : Place
  pub only : IsOnlyPlace name place
  pub before : p.before.now ≡ take place.start name
  pub width : p.width ≡ place.width
  pub after : p.after.now ≡ drop (place.start + place.len) name

-- a number after zeros, so that it has at least this number of digits
abbrev pub padded : ℕ → List ℕ → List ℕ
padded width digits = replicate (width - length digits) 48 ++ digits

-- the name with this number in its place
abbrev pub name_of : NamePattern → ℕ → List ℕ
name_of p number = p.before.now ++ padded p.width (decimal number) ++ p.after.now
