-- The passes of a frame, and which images can be cut (ISO/IEC 18181-1, frame: passes, groups; Modular: groups).
use Rattle.std.specs.Prelude.{ℕ, List, [], ◌∷◌, length, map, Bool, true, not, ◌&&◌, nat_le, ◌==◌, ℤ, pos, int_le, int_lt}
use Rattle.std.specs.List.{list_any, list_all}
use Rattle.jxlm_transform.specs.Channels.{Channel}
pub use Rattle.jxlm_groups.specs.declared.pass.Pass.{Pass}

-- the passes of a map from their numbers to the shifts that each holds, in rising order (frame: passes)
abbrev pub passes_of : List (ℕ × (ℤ × ℤ)) → List Pass
passes_of entries = map (λ e. record { number = e.0; first_shift = e.1.0; end_shift = e.1.1 }) entries

-- a pass holds a shift: from its first one on, below its end (Modular: shift range of a pass)
abbrev pub holds : ℤ → Pass → Bool
holds s p = int_le p.first_shift s && int_lt s p.end_shift

-- a channel is of a picture of the same sides as another's
abbrev pub is_of_picture_of : Channel → Channel → Bool
is_of_picture_of c d = d.original_width == c.original_width && d.original_height == c.original_height

-- all channels are of pictures of the same sides (frame: groups divide one picture)
abbrev pub one_picture : List Channel → Bool
one_picture [] = true
one_picture (c ∷ cs) = list_all (is_of_picture_of c) cs

-- An image of these channels, before its transforms, can be cut into groups: its channels are of one picture, there is
-- a pass, pass numbers are at most 255, and each shift from 0 to 2 has its pass (own: what cutting needs of a frame).
abbrev pub can_group : List Pass → List Channel → Bool
can_group passes given =
    one_picture given && not (length passes == 0) && list_all (λ p. nat_le p.number 255) passes
    && (list_any (holds (pos 0)) passes && list_any (holds (pos 1)) passes && list_any (holds (pos 2)) passes)
