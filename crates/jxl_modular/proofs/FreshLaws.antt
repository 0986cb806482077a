-- Images before any of their samples is decoded.
use Rattle.std.proofs.Common.{◌≡◌, ◌*◌, ◌^◌, ◌≤◌, List, [], ◌∷◌, ◌++◌, refl, sym, ap, ◌∙◌}
use Rattle.std.proofs.lemmas.List.{length-replicate, map-append}
use Rattle.std.proofs.lemmas.List.Elements.{All-append, All-map}
use Rattle.std.specs.List.{All}
use Rattle.jxlm_base.specs.Grid.{Grid, filled}
use Rattle.jxlm_base.specs.declared.subgrid.Region.{Region}
use Rattle.jxlm_transform.specs.Layout.{HasBuffers, buffers_of, sides_of}
use Rattle.jxlm_transform.specs.Steps.{HasNarrowTables, Sides, tables_of}
use Rattle.jxlm_chain.specs.Placed.{sides_in}
use Rattle.jxlm_chain.specs.Steps.{IsNarrowStore}
use Rattle.jxlm_transform.specs.Channels.{Channel, IsNarrow}
use Rattle.jxlm_transform.specs.ChannelSteps.{Step}
use Rattle.jxlm_nested.specs.Zeros.{zeros}

-- grids of zeros have their sides
pub zeros_fit : {S : Type 0} (zero : S) (sides : List Sides) → HasBuffers sides (zeros zero sides)
zeros_fit zero [] = tt
zeros_fit zero (s ∷ sides) = (record { same_width = refl; same_height = refl; full = length-replicate (s.width * s.height) zero }, zeros_fit zero sides)

-- and are narrow where these are
pub zeros_narrow : {S : Type 0} (zero : S) (cs : List Channel) (ss : List Step) → All IsNarrow cs → HasNarrowTables ss → IsNarrowStore (zeros zero (buffers_of cs ss))
zeros_narrow zero cs ss narrow tables =
    All-map (λ g. (g.width ≤ 2 ^ 30) × (g.height ≤ 2 ^ 30)) (λ (s : Sides). filled s.width s.height zero) (buffers_of cs ss)
    (All-append (λ (s : Sides). (s.width ≤ 2 ^ 30) × (s.height ≤ 2 ^ 30)) (sides_of cs) (tables_of ss)
    (All-map (λ (s : Sides). (s.width ≤ 2 ^ 30) × (s.height ≤ 2 ^ 30)) (λ (c : Channel). record { width = c.width; height = c.height }) cs narrow) tables)

-- grids of zeros for the channels, and after them one for each table, are those of all buffers
pub buffers_zeros : {S : Type 0} (zero : S) (cs given : List Channel) (ss : List Step) (tables regions : List Region) (grids store : List (Grid S)) →
    given ≡ cs → grids ≡ zeros zero (sides_of given) → regions ≡ tables → store ≡ grids ++ zeros zero (sides_in regions) → sides_in tables ≡ tables_of ss → store ≡ zeros zero (buffers_of cs ss)
buffers_zeros zero cs given ss tables regions grids store are made lie after sides =
    after
    ∙ ap (λ (rs : List Region). grids ++ zeros zero (sides_in rs)) lie
    ∙ ap (λ (all : List Sides). grids ++ zeros zero all) sides
    ∙ ap (λ gs. gs ++ zeros zero (tables_of ss)) (made ∙ ap (λ (is : List Channel). zeros zero (sides_of is)) are)
    ∙ sym (map-append (λ (s : Sides). filled s.width s.height zero) (sides_of cs) (tables_of ss))
