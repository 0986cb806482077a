-- The listing of a channel that stands for others.
use Rattle.std.proofs.Common.{◌≡◌, ◌∙◌, ◌∷◌, ℕ, Global, List, Option, Some, Vec, ap, flat_map, length, map, sym}
use Rattle.jxlm_base.specs.declared.subgrid.Region.{Region}
use Rattle.jxlm_chain.specs.Grids.{level_of, listing_of}
use Rattle.jxlm_chain.specs.declared.grid.TransformedGrid.{TransformedGrid, TransformedGrid-F, fold-roll-TransformedGrid}
use Rattle.jxlm_chain.specs.declared.grid.TransformedGrid.TheVariants.{Merged, rolls-Merged}

abbrev step : Region → List (List (Region × Option ℕ)) → List (Region × Option ℕ)
step leader listings = (leader, Some (length listings)) ∷ flat_map (λ m. m) listings

listing-Merged : (leader : Region) (members : Vec TransformedGrid Global) → listing_of (Merged leader members) ≡ step leader (map listing_of members.items)
listing-Merged leader members =
    ap listing_of (sym (rolls-Merged leader members)) ∙ fold-roll-TransformedGrid (List (Region × Option ℕ)) level_of (TransformedGrid-F.Merged leader members)

-- two that lie in one place, and stand for channels with the same listings, have one listing
pub same_listing : (leader : Region) (xs ys : Vec TransformedGrid Global) → map listing_of xs.items ≡ map listing_of ys.items →
    listing_of (Merged leader xs) ≡ listing_of (Merged leader ys)
same_listing leader xs ys same = listing-Merged leader xs ∙ ap (step leader) same ∙ sym (listing-Merged leader ys)
