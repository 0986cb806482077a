-- The tokens of rectangles and places, in the clusters of their contexts.
use Rattle.std.specs.Prelude.{ℕ, ◌-◌, List, [], ◌∷◌, replicate, Bool, if◌then◌else◌}
use Rattle.jxlm_bit_writer.specs.declared.token.Token.{Token}
use Rattle.jxl_patches.specs.declared.dictionary.Rectangle.{Rectangle}

-- the cluster of each context: counts, slots, sides, corners, first places, modes, later places
abbrev pub clusters_in : List ℕ
clusters_in = 0 ∷ 1 ∷ 2 ∷ 3 ∷ 4 ∷ 5 ∷ 6 ∷ 0 ∷ 5 ∷ 5 ∷ []

abbrev pub token_in : ℕ → ℕ → Token
token_in cluster value = record { cluster = cluster; value = value }

-- a rectangle: the slot, the corner, and the sides less one
abbrev pub source_tokens : Rectangle → List Token
source_tokens r = token_in 1 r.slot ∷ token_in 3 r.x0 ∷ token_in 3 r.y0 ∷ token_in 2 (r.width - 1) ∷ token_in 2 (r.height - 1) ∷ []

-- the mode that adds samples
abbrev pub add_token : Token
add_token = token_in 5 2

-- a place, whose coordinates have these codes, with this number of such modes
abbrev pub place_tokens : Bool → ℕ → ℕ → ℕ → List Token
place_tokens later x y kinds = token_in (if later then 6 else 4) x ∷ token_in (if later then 6 else 4) y ∷ replicate kinds add_token
