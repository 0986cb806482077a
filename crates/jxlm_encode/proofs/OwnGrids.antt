-- Channels of grids, each of which is its own buffer.
use Rattle.std.proofs.Common.{◌≡◌, ℕ, suc, ◌+◌, ◌≤◌, List, [], ◌∷◌, ◌++◌, length, map, append_assoc, take, get_or, ◌<◌, refl, sym, ap, ◌∙◌, subst, arith, ℤ}
use Rattle.std.specs.List.{All}
use Rattle.std.proofs.lemmas.List.{length-append, map_push, take_all, take_more}
use Rattle.std.proofs.lemmas.List.Elements.{All-head, All-tail, All-map}
use Rattle.std.proofs.Math.Seq.{get_or-append_seam}
use Rattle.jxlm_base.specs.Grid.{Grid, grid, IsFull, meanings}
use Rattle.jxlm_base.specs.Regions.{region, grid_of, grids_in, store_meanings, buffer_of}
use Rattle.jxlm_base.specs.declared.subgrid.Region.{Region}
use Rattle.jxlm_base.proofs.Regions.{grid_of_whole, IsFull-meanings}
use Rattle.jxlm_transform.specs.Layout.{HasBuffers, sides_of, whole_regions, first_layout}
use Rattle.jxlm_transform.specs.Channels.{Channel, IsNarrow, image_channel}
use Rattle.jxlm_transform.specs.Params.{IsValidChannel, channel_params}
use Rattle.jxlm_transform.specs.declared.param.ChannelShift.TheVariants.{Shifts}
use Rattle.jxlm_transform.specs.declared.param.ModularChannelParams.{ModularChannelParams}
use Rattle.jxlm_transform.proofs.SideBounds.{narrow_image}
use Rattle.jxlm_encode.specs.Encoded.{IsSmall, given_list}

-- the parameters of a grid, and its channel
abbrev pub params_of_grid : {S : Type 0} → Grid S → ModularChannelParams
params_of_grid g = channel_params g.width g.height (Shifts 0)

abbrev pub own_channel : {S : Type 0} → Grid S → Channel
own_channel g = image_channel (params_of_grid g)

-- the channels of grids
pub own_channels : {S : Type 0} (f : S → ℤ) (grids : List (Grid S)) → map own_channel grids ≡ (given_list (store_meanings f grids)).channels
own_channels f [] = refl
own_channels f (g ∷ gs) = ap (λ (cs : List Channel). own_channel g ∷ cs) (own_channels f gs)

own_width : {S : Type 0} (g : Grid S) → (image_channel (params_of_grid g)).width ≡ g.width
own_width g = omega arith

own_height : {S : Type 0} (g : Grid S) → (image_channel (params_of_grid g)).height ≡ g.height
own_height g = omega arith

-- full grids are the buffers of their channels
pub own_buffers : {S : Type 0} (f : S → ℤ) (grids : List (Grid S)) → All IsFull grids → HasBuffers (sides_of (given_list (store_meanings f grids)).channels) grids
own_buffers f [] h = tt
own_buffers f (g ∷ gs) h =
    (record { same_width = sym (own_width g); same_height = sym (own_height g); full = All-head IsFull g gs h }, own_buffers f gs (All-tail IsFull g gs h))

buffers_meanings : {S : Type 0} (f : S → ℤ) (cs : List Channel) (grids : List (Grid S)) → HasBuffers (sides_of cs) grids → HasBuffers (sides_of cs) (store_meanings f grids)
buffers_meanings f [] [] h = tt
buffers_meanings f [] (g ∷ gs) h = absurd h
buffers_meanings f (c ∷ cs) [] h = absurd h
buffers_meanings f (c ∷ cs) (g ∷ gs) h =
    (record { same_width = h.0.same_width; same_height = h.0.same_height; full = IsFull-meanings f g h.0.full }, buffers_meanings f cs gs h.1)

-- grids of channels that have a buffer each, from one buffer of a store on
grids_from : (cs : List Channel) (front store : List (Grid ℤ)) → HasBuffers (sides_of cs) store → grids_in (whole_regions (length front) cs) (front ++ store) ≡ store
grids_from [] front [] h = refl
grids_from [] front (g ∷ gs) h = absurd h
grids_from (c ∷ cs) front [] h = absurd h
grids_from (c ∷ cs) front (g ∷ gs) h =
    let r : Region = region (length front) 0 0 c.width c.height in
    let there : buffer_of (front ++ g ∷ gs) r ≡ g = get_or-append_seam front g gs (grid 0 0 []) in
    let one : grid_of (front ++ g ∷ gs) r ≡ g =
    grid_of_whole (front ++ g ∷ gs) r (record {
      left = refl;
      top = refl;
      columns = sym h.0.same_width ∙ ap (λ (g : Grid ℤ). g.width) (sym there);
      rows = sym h.0.same_height ∙ ap (λ (g : Grid ℤ). g.height) (sym there);
    }) (subst IsFull (sym there) h.0.full) ∙ there in
    let further : front ++ g ∷ gs ≡ (front ++ g ∷ []) ++ gs = sym (append_assoc front (g ∷ []) gs) in
    let next : length (front ++ g ∷ []) ≡ suc (length front) = let n = length-append front (g ∷ []) in omega (arith, n) in
    let others : grids_in (whole_regions (suc (length front)) cs) (front ++ g ∷ gs) ≡ gs =
    ap (grids_in (whole_regions (suc (length front)) cs)) further
    ∙ ap (λ n. grids_in (whole_regions n cs) ((front ++ g ∷ []) ++ gs)) (sym next)
    ∙ grids_from cs (front ++ g ∷ []) gs h.1 in
    ap (λ (h : Grid ℤ). h ∷ grids_in (whole_regions (suc (length front)) cs) (front ++ g ∷ gs)) one ∙ ap (λ (hs : List (Grid ℤ)). g ∷ hs) others

-- the grids of their channels are they themselves
pub own_grids : {S : Type 0} (f : S → ℤ) (grids : List (Grid S)) → All IsFull grids →
    grids_in (first_layout (given_list (store_meanings f grids)).channels).regions (store_meanings f grids) ≡ store_meanings f grids
own_grids f grids full =
    let cs : List Channel = (given_list (store_meanings f grids)).channels in
    grids_from cs [] (store_meanings f grids) (buffers_meanings f cs grids (own_buffers f grids full))

-- the channels of small grids are narrow
pub own_narrow : {S : Type 0} (f : S → ℤ) (grids : List (Grid S)) → All IsSmall grids → All IsNarrow (given_list (store_meanings f grids)).channels
own_narrow f grids small = narrow_image (map params_of_grid (store_meanings f grids)) (All-map IsValidChannel params_of_grid (store_meanings f grids) (All-map (λ g. IsValidChannel (params_of_grid g)) (meanings f) grids valid)) where
  valid : All (λ g. IsValidChannel (params_of_grid (meanings f g))) grids
  valid = λ k d lt. let s = small k d lt in (s.0, s.1, omega arith)

-- ---- their channels, one by one

-- the next
pub next_channel : {S : Type 0} (grids : List (Grid S)) (i : ℕ) (g : Grid S) (infos new : List Channel) (w h : ℕ) (p : ModularChannelParams) (c : Channel) → i < length grids → g ≡ get_or grids i g → w ≡ g.width → h ≡ g.height →
    p ≡ channel_params w h (Shifts 0) → c ≡ image_channel p → infos ≡ map own_channel (take i grids) → new ≡ infos ++ c ∷ [] → new ≡ map own_channel (take (i + 1) grids)
next_channel {S} grids i g infos new w h p c lt g_is w_is h_is p_is c_is before more =
    let one : c ≡ own_channel g = c_is ∙ ap image_channel (p_is ∙ ap (λ n. channel_params n h (Shifts 0)) w_is ∙ ap (λ n. channel_params g.width n (Shifts 0)) h_is) in
    let all : map own_channel (take (i + 1) grids) ≡ map own_channel (take i grids) ++ own_channel g ∷ [] =
    ap (map own_channel) (take_more grids i g lt ∙ ap (λ (y : Grid S). take i grids ++ y ∷ []) (sym g_is)) ∙ map_push own_channel (take i grids) g in
    more ∙ ap (λ (cs : List Channel). cs ++ c ∷ []) before ∙ ap (λ (x : Channel). map own_channel (take i grids) ++ x ∷ []) one ∙ sym all

-- all
pub all_channels : {S : Type 0} (f : S → ℤ) (grids : List (Grid S)) (i : ℕ) (infos : List Channel) → length grids ≤ i → infos ≡ map own_channel (take i grids) → infos ≡ (given_list (store_meanings f grids)).channels
all_channels f grids i infos le so_far = so_far ∙ ap (map own_channel) (take_all i grids le) ∙ own_channels f grids
