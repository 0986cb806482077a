-- Where the channels of an image lie: the coded ones, and its own.
use Rattle.std.proofs.Common.{◌≡◌, suc, ◌≤◌, List, [], ◌∷◌, ◌++◌, length, append_assoc, take, refl, sym, ap, ◌∙◌, subst, arith, ℤ}
use Rattle.std.proofs.lemmas.List.{length-append}
use Rattle.std.proofs.Math.Seq.{get_or-append_seam}
use Rattle.jxlm_base.specs.Grid.{Grid, grid, IsFull}
use Rattle.jxlm_base.specs.Regions.{region, grid_of, store_meanings, buffer_of}
use Rattle.jxlm_base.specs.declared.subgrid.Region.{Region}
use Rattle.jxlm_base.proofs.Regions.{grid_of_whole, IsFull-meanings}
use Rattle.jxlm_transform.specs.Layout.{HasBuffers, sides_of, whole_regions, first_layout}
use Rattle.jxlm_transform.specs.Steps.{Sides}
use Rattle.jxlm_transform.specs.Channels.{AreGridsOf, Channel}
use Rattle.jxlm_samples.specs.Progress.{grids_in}

-- numbers' grids have the sides of the samples' grids
pub buffers_meanings : {X : Type 0} (f : X → ℤ) (sides : List Sides) (store : List (Grid X)) → HasBuffers sides store → HasBuffers sides (store_meanings f store)
buffers_meanings f [] [] h = tt
buffers_meanings f [] (g ∷ gs) h = absurd h
buffers_meanings f (s ∷ sides) [] h = absurd h
buffers_meanings f (s ∷ sides) (g ∷ gs) h =
    (record { same_width = h.0.same_width; same_height = h.0.same_height; full = IsFull-meanings f g h.0.full }, buffers_meanings f sides gs h.1)

-- the first buffers have the sides of the channels, in their order
pub given_sizes : {X : Type 0} (cs : List Channel) (more : List Sides) (store : List (Grid X)) → HasBuffers (sides_of cs ++ more) store → AreGridsOf cs (take (length cs) store)
given_sizes [] more store h = tt
given_sizes (c ∷ cs) more [] h = absurd h
given_sizes (c ∷ cs) more (g ∷ gs) h = (h.0, given_sizes cs more gs h.1)

-- grids of channels that have a buffer each, from one buffer of a store on
grids_from : (cs : List Channel) (more : List Sides) (front store : List (Grid ℤ)) → HasBuffers (sides_of cs ++ more) store → grids_in (whole_regions (length front) cs) (front ++ store) ≡ take (length cs) store
grids_from [] more front store h = refl
grids_from (c ∷ cs) more front [] h = absurd h
grids_from (c ∷ cs) more front (g ∷ gs) h =
    let r : Region = region (length front) 0 0 c.width c.height in
    let there : buffer_of (front ++ g ∷ gs) r ≡ g = get_or-append_seam front g gs (grid 0 0 []) in
    let one : grid_of (front ++ g ∷ gs) r ≡ g =
    grid_of_whole (front ++ g ∷ gs) r (record {
      left = refl;
      top = refl;
      columns = sym h.0.same_width ∙ ap (λ (g : Grid ℤ). g.width) (sym there);
      rows = sym h.0.same_height ∙ ap (λ (g : Grid ℤ). g.height) (sym there);
    }) (subst IsFull (sym there) h.0.full) ∙ there in
    let further : front ++ g ∷ gs ≡ (front ++ g ∷ []) ++ gs = sym (append_assoc front (g ∷ []) gs) in
    let next : length (front ++ g ∷ []) ≡ suc (length front) = let n = length-append front (g ∷ []) in omega (arith, n) in
    let others : grids_in (whole_regions (suc (length front)) cs) (front ++ g ∷ gs) ≡ take (length cs) gs =
    ap (grids_in (whole_regions (suc (length front)) cs)) further
    ∙ ap (λ n. grids_in (whole_regions n cs) ((front ++ g ∷ []) ++ gs)) (sym next)
    ∙ grids_from cs more (front ++ g ∷ []) gs h.1 in
    ap (λ (h : Grid ℤ). h ∷ grids_in (whole_regions (suc (length front)) cs) (front ++ g ∷ gs)) one ∙ ap (λ (hs : List (Grid ℤ)). g ∷ hs) others

-- the image's own channels are the first grids of the store
pub given_grids : (cs : List Channel) (more : List Sides) (store : List (Grid ℤ)) → HasBuffers (sides_of cs ++ more) store → grids_in (first_layout cs).regions store ≡ take (length cs) store
given_grids cs more store h = grids_from cs more [] store h

-- and there are as many of them
pub given_within : {X : Type 0} (cs : List Channel) (more : List Sides) (store : List (Grid X)) → HasBuffers (sides_of cs ++ more) store → length cs ≤ length store
given_within [] more store h = omega arith
given_within (c ∷ cs) more [] h = absurd h
given_within (c ∷ cs) more (g ∷ gs) h = let n = given_within cs more gs h.1 in omega (arith, n)
