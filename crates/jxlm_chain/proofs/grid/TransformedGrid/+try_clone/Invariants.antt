use Rattle.std.proofs.Common.{◌≡◌, map, take}
use Rattle.jxlm_chain.specs.Grids.{leader_of, listing_of}
use Rattle.jxlm_chain.proofs.grid.TransformedGrid.+try_clone.Given as goal

abbrev pub invariant-loop-member : goal.invariant-loop-member
invariant-loop-member l = (map leader_of l.copies.items ≡ map leader_of (take l.member-index l.member-items))
    × (map listing_of l.copies.items ≡ map listing_of (take l.member-index l.member-items))
