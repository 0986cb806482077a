-- The regions of coded channels, and of their pieces.
use Rattle.std.proofs.Common.{◌≡◌, ◌∙◌, ℕ, ◌*◌, List, [], ◌∷◌, get_or, Ok, refl, sym, ap, subst, arith}
use Rattle.std.specs.List.{All}
use Rattle.std.proofs.lemmas.List.{length-replicate}
use Rattle.std.proofs.lemmas.List.Elements.{All-map}
use Rattle.jxlm_base.specs.Grid.{Grid}
use Rattle.jxlm_base.specs.declared.subgrid.Region.{Region}
use Rattle.jxlm_chain.specs.Placed.{GoesOn}
use Rattle.jxlm_chain.specs.declared.placed.PlacedChannels.{PlacedChannels}
use Rattle.jxlm_chain.proofs.LayoutLaws.{lie_after_all, lie_first}
use Rattle.jxlm_groups.specs.Pieces.{in_store, pieces, within}
use Rattle.jxlm_groups.specs.declared.part.SectionPart.{SectionPart}
use Rattle.jxlm_groups.specs.declared.pass.Pass.{Pass}
use Rattle.jxlm_groups.proofs.PieceFacts.{each_inside}
use Rattle.jxlm_header.specs.declared.header.ModularHeader.{ModularHeader}
use Rattle.jxlm_nested.specs.Opened.{IsOpened, steps_of_header}
use Rattle.jxlm_nested.specs.Zeros.{zeros}
use Rattle.jxlm_transform.specs.Channels.{AreRegionsOf, Channel, ChannelList, infos, regions}
use Rattle.jxlm_transform.specs.ChannelSteps.{list_after_all}
use Rattle.jxlm_transform.specs.Ends.{HasEnds}
use Rattle.jxlm_transform.specs.Layout.{HasBuffers, Layout, buffers_of, first_layout, layout_after_all, no_region}
use Rattle.jxlm_transform.specs.Lists.{layout_of, list_of}
use Rattle.jxlm_transform.specs.Steps.{Sides}

-- a piece of a channel ends where the channel does, or before
pub piece_ends : (dim : ℕ) (passes : List Pass) (l : ChannelList) (coded : List Region) (part : SectionPart) → AreRegionsOf l.channels coded → All HasEnds coded → All HasEnds (in_store coded (pieces dim passes l part))
piece_ends dim passes l coded part sides ends =
    All-map HasEnds (λ p. within (get_or coded p.buffer no_region) p) (pieces dim passes l part) (λ k d lt.
    let p : Region = get_or (pieces dim passes l part) k d in
    let is = each_inside dim passes l coded sides part k d lt in
    let r = ends p.buffer no_region is.there in
    let wide = is.wide in
    let high = is.high in
    let column = r.column in
    let row = r.row in
    record { column = omega (arith, wide, column); row = omega (arith, high, row) })

-- there are buffers of these sides
fit : (sides : List Sides) → HasBuffers {S = ℕ} sides (zeros 0 sides)
fit [] = tt
fit (s ∷ sides) = (record { same_width = refl; same_height = refl; full = length-replicate (s.width * s.height) 0 }, fit sides)

-- the coded channels of a header lie in regions of their sides
pub coded_sides : (given : List Channel) (old : PlacedChannels) (header : ModularHeader) (new : PlacedChannels) →
    list_of old.channels ≡ record { channels = given; nb_meta = 0 } → layout_of old.channels ≡ first_layout given →
    GoesOn (steps_of_header header) old new → IsOpened (list_of old.channels) (header, new) → AreRegionsOf (infos new.channels.placed.items) (regions new.channels.placed.items)
coded_sides given old header new list first goes opened =
    let steps = steps_of_header header in
    let store : List (Grid ℕ) = zeros 0 (buffers_of given steps) in
    let here = lie_first given steps store (fit (buffers_of given steps)) in
    let leaves = subst (λ (l : ChannelList). list_after_all steps l ≡ Ok (list_of new.channels)) list opened.leaves in
    let there = (lie_after_all steps (record { channels = given; nb_meta = 0 }) (list_of new.channels) (first_layout given) store leaves opened.steps here.0 here.1).0 in
    let lies : layout_of new.channels ≡ layout_after_all steps (first_layout given) = goes.layout ∙ ap (layout_after_all steps) first in
    subst (λ (l : Layout). AreRegionsOf (infos new.channels.placed.items) l.regions) (sym lies) there.sizes
