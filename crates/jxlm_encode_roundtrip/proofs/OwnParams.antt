-- The parameters of grids.
use Rattle.std.proofs.Common.{◌≡◌, ℕ, ◌+◌, ◌<◌, ◌≤◌, ℤ, List, [], ◌∷◌, ◌++◌, length, map, take, get_or, refl, sym, ap, ◌∙◌, subst, arith}
use Rattle.std.specs.List.{All}
use Rattle.std.proofs.lemmas.List.{length-map, map_push, take_all, take_more}
use Rattle.std.proofs.lemmas.List.Elements.{All-map}
use Rattle.jxlm_base.specs.Grid.{Grid}
use Rattle.jxlm_base.specs.Regions.{store_meanings}
use Rattle.jxlm_transform.specs.Channels.{image_list}
use Rattle.jxlm_transform.specs.Params.{IsValidChannel, channel_params}
use Rattle.jxlm_transform.specs.declared.param.ChannelShift.TheVariants.{Shifts}
use Rattle.jxlm_transform.specs.declared.param.ModularChannelParams.{ModularChannelParams}
use Rattle.jxlm_encode.specs.Encoded.{IsSmall, given_list}
use Rattle.jxlm_encode.proofs.OwnGrids.{params_of_grid}

own_params : {S : Type 0} (f : S → ℤ) (grids : List (Grid S)) → map params_of_grid grids ≡ map params_of_grid (store_meanings f grids)
own_params f [] = refl
own_params f (g ∷ gs) = ap (λ (ps : List ModularChannelParams). params_of_grid g ∷ ps) (own_params f gs)

-- the next
pub next_params : {S : Type 0} (grids : List (Grid S)) (i : ℕ) (g : Grid S) (params new : List ModularChannelParams) (w h : ℕ) (p : ModularChannelParams) → i < length grids → g ≡ get_or grids i g → w ≡ g.width → h ≡ g.height →
    p ≡ channel_params w h (Shifts 0) → params ≡ map params_of_grid (take i grids) → new ≡ params ++ p ∷ [] → new ≡ map params_of_grid (take (i + 1) grids)
next_params {S} grids i g params new w h p lt g_is w_is h_is p_is before more =
    let one : p ≡ params_of_grid g = p_is ∙ ap (λ n. channel_params n h (Shifts 0)) w_is ∙ ap (λ n. channel_params g.width n (Shifts 0)) h_is in
    let all : map params_of_grid (take (i + 1) grids) ≡ map params_of_grid (take i grids) ++ params_of_grid g ∷ [] =
    ap (map params_of_grid) (take_more grids i g lt ∙ ap (λ (y : Grid S). take i grids ++ y ∷ []) (sym g_is)) ∙ map_push params_of_grid (take i grids) g in
    more ∙ ap (λ (ps : List ModularChannelParams). ps ++ p ∷ []) before ∙ ap (λ (x : ModularChannelParams). map params_of_grid (take i grids) ++ x ∷ []) one ∙ sym all

-- all
pub all_params : {S : Type 0} (grids : List (Grid S)) (i : ℕ) (params : List ModularChannelParams) → length grids ≤ i → params ≡ map params_of_grid (take i grids) → params ≡ map params_of_grid grids
all_params grids i params le so_far = so_far ∙ ap (map params_of_grid) (take_all i grids le)

pub params_list : {S : Type 0} (f : S → ℤ) (grids : List (Grid S)) (params : List ModularChannelParams) → params ≡ map params_of_grid grids → image_list params ≡ given_list (store_meanings f grids)
params_list f grids params are = ap image_list (are ∙ own_params f grids)

pub params_valid : {S : Type 0} (grids : List (Grid S)) (params : List ModularChannelParams) → All IsSmall grids → params ≡ map params_of_grid grids → All IsValidChannel params
params_valid grids params small are = subst (All IsValidChannel) (sym are) (All-map IsValidChannel params_of_grid grids (λ k d lt. let s = small k d lt in (s.0, s.1, omega arith)))

pub params_count : {S : Type 0} (grids : List (Grid S)) (params : List ModularChannelParams) → params ≡ map params_of_grid grids → length params ≡ length grids
params_count grids params are = ap length are ∙ length-map grids params_of_grid
