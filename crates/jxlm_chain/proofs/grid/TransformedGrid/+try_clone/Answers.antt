use Rattle.std.proofs.Common.{◌∙◌, ◌≤◌, ap, arith, length, map, sym}
use Rattle.std.proofs.lemmas.List.{take_all}
use Rattle.jxlm_chain.proofs.Listings.{same_listing}
use Rattle.jxlm_chain.specs.Grids.{listing_of}
use Rattle.jxlm_chain.proofs.grid.TransformedGrid.+try_clone.Goals as goal

pub returns-after-loop-member-clause-whole : goal.returns-after-loop-member-clause-whole
returns-after-loop-member-clause-whole t c =
    let members = c.deref-member-items.result.now in
    let i = c.loop-member.member-index in
    let all : length members ≤ i = omega (arith, c.loop-member-test.false) in
    let copied = c.loop-member.invariant.1 ∙ ap (map listing_of) (take_all i members all ∙ c.deref-member-items.ensures.value) in
    same_listing c.in-Merged.leader c.loop-member.copies c.in-Merged.members copied ∙ ap listing_of (sym c.in-Merged.is)
