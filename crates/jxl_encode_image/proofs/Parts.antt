-- The channels and grids of a part, in the coded channels of an image, and in a store.
use Rattle.std.proofs.Common.{◌≡◌, ℕ, ◌+◌, ℤ, List, [], ◌∷◌, length, map, get_or, Result, Ok, Err, IfOk, refl, sym, ap, ◌∙◌, arith}
use Rattle.std.specs.Global.{Vec}
use Rattle.std.specs.List.{All}
use Rattle.std.proofs.lemmas.List.{get_or-map, length-map}
use Rattle.std.proofs.lemmas.List.Elements.{All-head, All-tail}
use Rattle.jxlm_base.specs.Grid.{Grid, at, grid}
use Rattle.jxlm_base.specs.Regions.{buffer_of, grid_of, grids_in, store_meanings}
use Rattle.jxlm_base.proofs.GridLaws.{grid_by_same}
use Rattle.jxlm_base.proofs.Regions.{at-grid_of}
use Rattle.jxlm_base.specs.declared.subgrid.Region.{Region}
use Rattle.jxlm_groups.specs.Pieces.{ArePiecesOf, channel_in, in_store, part_channels, pieces, within}
use Rattle.jxlm_groups.specs.declared.part.SectionPart.{SectionPart}
use Rattle.jxlm_groups.specs.declared.pass.Pass.{Pass}
use Rattle.jxlm_groups.proofs.Parts.{get_of}
use Rattle.jxlm_groups.proofs.Apart.{IsInside}
use Rattle.jxlm_groups.proofs.HeldCells.{unlike_buffers}
use Rattle.jxlm_groups.proofs.PartChannels.{few_channels, narrow_channels}
use Rattle.jxlm_groups.proofs.PieceFacts.{IsPiece, channels_sides, each_inside, each_piece, held_apart, pieces_lie}
use Rattle.jxlm_samples.proofs.Loops.{fits_in}
use Rattle.jxlm_transform.specs.Channels.{AreGridsOf, AreRegionsOf, Channel, ChannelList, infos, regions}
use Rattle.jxlm_transform.specs.ChannelSteps.{table_channel}
use Rattle.jxlm_transform.specs.Layout.{no_region}
use Rattle.jxlm_transform.specs.Lists.{layout_of, list_of}
use Rattle.jxlm_transform.specs.declared.channels.ModularChannels.{ModularChannels}
use Rattle.jxlm_transform.specs.declared.channels.PlacedChannel.{PlacedChannel}
use Rattle.jxl_encode_image.specs.Images.{IsPartIn, LieCoded}

module _ (dim : ℕ) (passes : List Pass) (l : ChannelList) (part : SectionPart) where
  sides : (ps : List Region) → All (IsPiece l part) ps → AreRegionsOf (map (λ r. channel_in part (get_or l.channels r.buffer (table_channel 0 0)) r) ps) ps
  sides [] all = tt
  sides (p ∷ ps) all =
      let i = All-head (IsPiece l part) p ps all in
      let is : get_or l.channels p.buffer (table_channel 0 0) ≡ i.c = (get_of l.channels p.buffer i.c (table_channel 0 0) i.channel).1 in (
        (sym i.is.same_width ∙ ap (λ (c : Channel). (channel_in part c p).width) (sym is), sym i.is.same_height ∙ ap (λ (c : Channel). (channel_in part c p).height) (sym is)),
        sides ps (All-tail (IsPiece l part) p ps all),
      )

  -- its grids have the sides of its channels
  pub part_sides : (gs : List (Grid ℤ)) → AreGridsOf (part_channels dim passes l part) (grids_in (pieces dim passes l part) gs)
  part_sides gs = fits_in (part_channels dim passes l part) (pieces dim passes l part) gs (sides (pieces dim passes l part) (each_piece dim passes l part))

-- ---- a piece of coded grids is the grid of its region in the store

grid_within : (store : List (Grid ℤ)) (rs : List Region) (p : Region) → IsInside rs p → grid_of (grids_in rs store) p ≡ grid_of store (within (get_or rs p.buffer no_region) p)
grid_within store rs p is =
    let r : Region = get_or rs p.buffer no_region in
    let wide = is.wide in
    let high = is.high in
    let one : buffer_of (grids_in rs store) p ≡ grid_of store r = get_or-map (grid_of store) rs p.buffer no_region (grid 0 0 []) is.there in
    grid_by_same p.width p.height (λ i j. at (buffer_of (grids_in rs store) p) (p.x + i) (p.y + j)) (λ i j. at (buffer_of store r) (r.x + p.x + i) (r.y + p.y + j)) (λ i j a b.
    let left : r.x + (p.x + i) ≡ r.x + p.x + i = omega arith in
    let top : r.y + (p.y + j) ≡ r.y + p.y + j = omega arith in
    ap (λ g. at g (p.x + i) (p.y + j)) one ∙ at-grid_of store r (p.x + i) (p.y + j) (omega (arith, wide, a)) (omega (arith, high, b))
    ∙ ap (λ k. at (buffer_of store r) k (r.y + (p.y + j))) left ∙ ap (λ k. at (buffer_of store r) (r.x + p.x + i) k) top)

grids_within : (store : List (Grid ℤ)) (rs ps : List Region) → All (IsInside rs) ps → grids_in (in_store rs ps) store ≡ grids_in ps (grids_in rs store)
grids_within store rs [] all = refl
grids_within store rs (p ∷ ps) all =
    ap (λ (g : Grid ℤ). g ∷ grids_in (in_store rs ps) store) (sym (grid_within store rs p (All-head (IsInside rs) p ps all)))
    ∙ ap (λ (gs : List (Grid ℤ)). grid_of (grids_in rs store) p ∷ gs) (grids_within store rs ps (All-tail (IsInside rs) p ps all))

-- the channels of a part lie in the store of the coded channels
pub part_lies : {S : Type 0} (to_int : S → ℤ) (group_dim : ℕ) (passes : List Pass) (channels : ModularChannels) (store : List (Grid S)) (part : SectionPart) (placed : List PlacedChannel) →
    LieCoded channels store → ArePiecesOf group_dim passes (list_of channels) (regions channels.placed.items) part placed → IsPartIn to_int group_dim passes channels store part placed
part_lies {S} to_int group_dim passes channels store part placed c h =
    let l : ChannelList = list_of channels in
    let rs : List Region = (layout_of channels).regions in
    let ps : List Region = pieces group_dim passes l part in
    let inside : All (IsInside rs) ps = each_inside group_dim passes l rs c.lie.sizes part in
    let many : length (infos placed) ≡ length placed = length-map placed (λ (p : PlacedChannel). p.info) in
    let few = few_channels group_dim passes l part in
    let most = c.few in
    let same = ap {B = ℕ} (λ (cs : List Channel). length cs) h.channels in
    record {
      channels_are = h.channels;
      samples_are = ap (λ (qs : List Region). grids_in qs (store_meanings to_int store)) h.regions ∙ grids_within (store_meanings to_int store) rs ps inside;
      few = omega (arith, many, few, most, same);
      narrow = rw h.channels (narrow_channels group_dim passes l part c.narrow);
      sizes = rw (h.channels, h.regions) (channels_sides group_dim passes l rs part);
      lie = rw h.regions (pieces_lie store rs ps c.lie.lie inside);
      apart = rw h.regions (held_apart rs ps c.lie.apart inside (unlike_buffers group_dim passes l part));
    }

pub all_lie : {S E : Type 0} (to_int : S → ℤ) (group_dim : ℕ) (passes : List Pass) (channels : ModularChannels) (store : List (Grid S)) (part : SectionPart) → LieCoded channels store →
    (r : Result (Vec PlacedChannel) E) → IfOk r (λ v. ArePiecesOf group_dim passes (list_of channels) (regions channels.placed.items) part v.items) → IfOk r (λ v. IsPartIn to_int group_dim passes channels store part v.items)
all_lie to_int group_dim passes channels store part c (Ok v) h = part_lies to_int group_dim passes channels store part v.items c h
all_lie to_int group_dim passes channels store part c (Err e) h = h
