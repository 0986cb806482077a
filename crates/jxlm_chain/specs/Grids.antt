-- Channels that stand for others, as a program keeps them.
use Rattle.std.specs.Prelude.{ℕ, List, [], ◌∷◌, Option, None, Some, flat_map, length, map}
use Rattle.jxlm_base.specs.declared.subgrid.Region.{Region}
use Rattle.jxlm_chain.specs.declared.grid.TransformedGrid.{TransformedGrid, fold-TransformedGrid, out-TransformedGrid}
use Rattle.jxlm_chain.specs.declared.grid.TransformedGrid.TheOpen.{TransformedGrid-F, Single, Merged}

-- where the channel lies
abbrev pub leader_of : TransformedGrid → Region
leader_of g = elim (out-TransformedGrid g) [ Single r ↦ r | Merged leader members ↦ leader ]

-- where the channels lie that it stands for
abbrev pub members_of : TransformedGrid → List Region
members_of g = elim (out-TransformedGrid g) [ Single r ↦ r ∷ [] | Merged leader members ↦ map leader_of members.items ]

-- one level of a listing, where each channel inside is listed already
abbrev pub level_of : TransformedGrid-F (List (Region × Option ℕ)) → List (Region × Option ℕ)
level_of (Single r) = (r, None) ∷ []
level_of (Merged leader members) = (leader, Some (length members.items)) ∷ flat_map (λ m. m) members.items

-- the whole channel: where it lies and how many channels it stands for, and then each of these, with those that it
-- stands for in turn
abbrev pub listing_of : TransformedGrid → List (Region × Option ℕ)
listing_of g = fold-TransformedGrid (List (Region × Option ℕ)) level_of g
