-- Copies of earlier tokens: how far back a distance leads, and the tokens that are kept (ISO/IEC 18181-1, entropy
-- decoding: LZ77).
use Rattle.std.specs.Prelude.{ℕ, ◌+◌, ◌-◌, ◌*◌, ◌%◌, ◌^◌, List, [], ◌∷◌, ◌++◌, length, max, get_or, slice_set, if◌then◌else◌, nat_lt, ◌==◌, slice_index_or}

-- the most tokens back that a copy begins
abbrev pub window_size : ℕ
window_size = 2 ^ 20

-- The distances that lead to special distances in the picture: how many columns back, and 8, and how many rows.
unfoldable pub special_distances : List (List ℕ)
special_distances =
    (8 ∷ 1 ∷ []) ∷ (9 ∷ 0 ∷ []) ∷ (9 ∷ 1 ∷ []) ∷ (7 ∷ 1 ∷ []) ∷ (8 ∷ 2 ∷ []) ∷ (10 ∷ 0 ∷ []) ∷
    (9 ∷ 2 ∷ []) ∷ (7 ∷ 2 ∷ []) ∷ (10 ∷ 1 ∷ []) ∷ (6 ∷ 1 ∷ []) ∷ (10 ∷ 2 ∷ []) ∷ (6 ∷ 2 ∷ []) ∷
    (8 ∷ 3 ∷ []) ∷ (11 ∷ 0 ∷ []) ∷ (9 ∷ 3 ∷ []) ∷ (7 ∷ 3 ∷ []) ∷ (11 ∷ 1 ∷ []) ∷ (5 ∷ 1 ∷ []) ∷
    (10 ∷ 3 ∷ []) ∷ (6 ∷ 3 ∷ []) ∷ (11 ∷ 2 ∷ []) ∷ (5 ∷ 2 ∷ []) ∷ (8 ∷ 4 ∷ []) ∷ (12 ∷ 0 ∷ []) ∷
    (9 ∷ 4 ∷ []) ∷ (7 ∷ 4 ∷ []) ∷ (12 ∷ 1 ∷ []) ∷ (4 ∷ 1 ∷ []) ∷ (11 ∷ 3 ∷ []) ∷ (5 ∷ 3 ∷ []) ∷
    (10 ∷ 4 ∷ []) ∷ (6 ∷ 4 ∷ []) ∷ (12 ∷ 2 ∷ []) ∷ (4 ∷ 2 ∷ []) ∷ (8 ∷ 5 ∷ []) ∷ (11 ∷ 4 ∷ []) ∷
    (5 ∷ 4 ∷ []) ∷ (12 ∷ 3 ∷ []) ∷ (4 ∷ 3 ∷ []) ∷ (13 ∷ 0 ∷ []) ∷ (9 ∷ 5 ∷ []) ∷ (7 ∷ 5 ∷ []) ∷
    (13 ∷ 1 ∷ []) ∷ (3 ∷ 1 ∷ []) ∷ (10 ∷ 5 ∷ []) ∷ (6 ∷ 5 ∷ []) ∷ (13 ∷ 2 ∷ []) ∷ (3 ∷ 2 ∷ []) ∷
    (12 ∷ 4 ∷ []) ∷ (4 ∷ 4 ∷ []) ∷ (11 ∷ 5 ∷ []) ∷ (5 ∷ 5 ∷ []) ∷ (13 ∷ 3 ∷ []) ∷ (3 ∷ 3 ∷ []) ∷
    (8 ∷ 6 ∷ []) ∷ (14 ∷ 0 ∷ []) ∷ (9 ∷ 6 ∷ []) ∷ (7 ∷ 6 ∷ []) ∷ (14 ∷ 1 ∷ []) ∷ (2 ∷ 1 ∷ []) ∷
    (10 ∷ 6 ∷ []) ∷ (6 ∷ 6 ∷ []) ∷ (14 ∷ 2 ∷ []) ∷ (2 ∷ 2 ∷ []) ∷ (12 ∷ 5 ∷ []) ∷ (4 ∷ 5 ∷ []) ∷
    (13 ∷ 4 ∷ []) ∷ (3 ∷ 4 ∷ []) ∷ (11 ∷ 6 ∷ []) ∷ (5 ∷ 6 ∷ []) ∷ (14 ∷ 3 ∷ []) ∷ (2 ∷ 3 ∷ []) ∷
    (8 ∷ 7 ∷ []) ∷ (15 ∷ 0 ∷ []) ∷ (9 ∷ 7 ∷ []) ∷ (7 ∷ 7 ∷ []) ∷ (13 ∷ 5 ∷ []) ∷ (3 ∷ 5 ∷ []) ∷
    (15 ∷ 1 ∷ []) ∷ (1 ∷ 1 ∷ []) ∷ (12 ∷ 6 ∷ []) ∷ (4 ∷ 6 ∷ []) ∷ (14 ∷ 4 ∷ []) ∷ (2 ∷ 4 ∷ []) ∷
    (10 ∷ 7 ∷ []) ∷ (6 ∷ 7 ∷ []) ∷ (15 ∷ 2 ∷ []) ∷ (1 ∷ 2 ∷ []) ∷ (11 ∷ 7 ∷ []) ∷ (5 ∷ 7 ∷ []) ∷
    (15 ∷ 3 ∷ []) ∷ (1 ∷ 3 ∷ []) ∷ (13 ∷ 6 ∷ []) ∷ (3 ∷ 6 ∷ []) ∷ (14 ∷ 5 ∷ []) ∷ (2 ∷ 5 ∷ []) ∷
    (16 ∷ 0 ∷ []) ∷ (12 ∷ 7 ∷ []) ∷ (4 ∷ 7 ∷ []) ∷ (15 ∷ 4 ∷ []) ∷ (1 ∷ 4 ∷ []) ∷ (16 ∷ 1 ∷ []) ∷
    (16 ∷ 2 ∷ []) ∷ (14 ∷ 6 ∷ []) ∷ (2 ∷ 6 ∷ []) ∷ (16 ∷ 3 ∷ []) ∷ (13 ∷ 7 ∷ []) ∷ (3 ∷ 7 ∷ []) ∷
    (15 ∷ 5 ∷ []) ∷ (1 ∷ 5 ∷ []) ∷ (16 ∷ 4 ∷ []) ∷ (14 ∷ 7 ∷ []) ∷ (2 ∷ 7 ∷ []) ∷ (15 ∷ 6 ∷ []) ∷
    (1 ∷ 6 ∷ []) ∷ (16 ∷ 5 ∷ []) ∷ (15 ∷ 7 ∷ []) ∷ (1 ∷ 7 ∷ []) ∷ (16 ∷ 6 ∷ []) ∷ (16 ∷ 7 ∷ []) ∷ []

-- of a distance: how many columns back (0, and 8 more) or rows (1)
abbrev pub special_distance : ℕ → ℕ → ℕ
special_distance distance which = get_or (get_or special_distances distance []) which 0

-- how many tokens back a place near by is, where rows have this number of them; at least 1
abbrev pub back_to : ℕ → ℕ → ℕ → ℕ
back_to columns rows multiplier = max 1 (columns + rows * multiplier - 8)

-- how many tokens back a distance leads: where the picture's width is known, the first 120 lead to special distances
abbrev pub tokens_back : ℕ → ℕ → ℕ
tokens_back distance multiplier =
    if multiplier == 0 then distance + 1 else
    if nat_lt distance 120 then back_to (special_distance distance 0) (special_distance distance 1) multiplier else distance - 119

-- The last tokens, in a ring, and the place of the next.
pub record Ring : Type 0 where
  pub tokens : List ℕ
  pub place : ℕ

-- no tokens
abbrev pub empty_ring : Ring
empty_ring = record { tokens = []; place = 0 }

-- the token this number of tokens back; 0 where there is none
abbrev pub ring_token : Ring → ℕ → ℕ
ring_token ring distance = if distance == 0 then 0 else slice_index_or ring.tokens ((ring.place + window_size - distance) % window_size) 0

-- the ring with one more token, which takes the place of the oldest where it is full
abbrev pub ring_with : Ring → ℕ → Ring
ring_with ring token = record {
  tokens = if nat_lt (length ring.tokens) window_size then ring.tokens ++ token ∷ [] else slice_set ring.tokens ring.place token;
  place = (ring.place + 1) % window_size;
}
