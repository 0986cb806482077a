-- An image whose coded channels are all in the global part.
use Rattle.std.proofs.Common.{◌≡◌, ◌≢◌, ℕ, suc, ◌+◌, ◌<◌, ◌≤◌, true, ℤ, List, [], ◌∷◌, ◌++◌, length, map, get_or, None, refl, sym, ap, ◌∙◌, arith}
use Rattle.std.specs.List.{enumerate_from, filter_map, list_all}
use Rattle.std.proofs.lemmas.Bool.{lt-ltb}
use Rattle.std.proofs.lemmas.List.{drop_all, length-append, append_assoc, take_all}
use Rattle.std.proofs.Math.Seq.{get_or-append_seam}
use Rattle.jxlm_base.specs.Grid.{Grid}
use Rattle.jxlm_base.specs.Regions.{grids_in, region}
use Rattle.jxlm_base.specs.declared.subgrid.Region.{Region}
use Rattle.jxlm_groups.specs.Cutting.{can_cut, global_count, has_cells, kind_of}
use Rattle.jxlm_groups.specs.Pieces.{channel_in, part_channels, piece, piece_in, pieces}
use Rattle.jxlm_groups.specs.declared.part.Kind.TheVariants as kinds
use Rattle.jxlm_groups.specs.declared.part.SectionPart.{SectionPart}
use Rattle.jxlm_groups.specs.declared.part.SectionPart.TheVariants as parts
use Rattle.jxlm_groups.specs.declared.pass.Pass.{Pass}
use Rattle.jxlm_samples.specs.Part.{cell_count}
use Rattle.jxlm_transform.specs.Channels.{AreGridsOf, Channel, ChannelList}
use Rattle.jxlm_transform.specs.ChannelSteps.{table_channel}
use Rattle.jxlm_transform.specs.Layout.{whole_regions}
use Rattle.jxl_modular.proofs.Layouts.{given_grids}
use Rattle.jxl_encode_image.proofs.Buffers.{own_buffers, same_count}

module _ (dim : ℕ) (passes : List Pass) (l : ChannelList) (all : length l.channels ≤ global_count dim l) where
  kind_is : (n : ℕ) (c : Channel) → n < global_count dim l → kind_of passes (global_count dim l) n c ≡ kinds.Global
  kind_is n c lt = rw (lt-ltb n (global_count dim l) lt) refl

  -- the global part has each channel whole
  from : (m : ℕ) (cs : List Channel) → m + length cs ≤ global_count dim l → filter_map (piece dim passes (global_count dim l) parts.Global) (enumerate_from m cs) ≡ whole_regions m cs
  from m [] le = refl
  from m (c ∷ cs) le =
      let next : whole_regions (m + 1) cs ≡ whole_regions (suc m) cs = ap (λ n. whole_regions n cs) (omega arith) in
      rw (kind_is m c (omega (arith, le))) (ap (λ rs. region m 0 0 c.width c.height ∷ rs) (from (m + 1) cs (omega (arith, le)) ∙ next))

  pub whole_pieces : pieces dim passes l parts.Global ≡ whole_regions 0 l.channels
  whole_pieces = from 0 l.channels (omega (arith, all))

  -- and no other part has any
  none_in : (part : SectionPart) → part ≢ parts.Global → (n : ℕ) (c : Channel) → piece_in dim kinds.Global part n c ≡ None
  none_in parts.Global other n c = absurd (other refl)
  none_in (parts.Lf k) other n c = refl
  none_in (parts.Pass q k) other n c = refl

  no_more : (part : SectionPart) → part ≢ parts.Global → (m : ℕ) (cs : List Channel) → m + length cs ≤ global_count dim l → filter_map (piece dim passes (global_count dim l) part) (enumerate_from m cs) ≡ []
  no_more part other m [] le = refl
  no_more part other m (c ∷ cs) le =
      rw (kind_is m c (omega (arith, le)), none_in part other m c) (no_more part other (m + 1) cs (omega (arith, le)))

  pub no_pieces : (part : SectionPart) → part ≢ parts.Global → pieces dim passes l part ≡ []
  no_pieces part other = no_more part other 0 l.channels (omega (arith, all))

  pub no_cells : (part : SectionPart) → part ≢ parts.Global → cell_count (part_channels dim passes l part) ≡ 0
  no_cells part other =
      ap (λ (rs : List Region). cell_count (map (λ r. channel_in part (get_or l.channels r.buffer (table_channel 0 0)) r) rs)) (no_pieces part other)

  -- so its channels are all of them
  own_channel : (front cs : List Channel) → map (λ (r : Region). channel_in parts.Global (get_or (front ++ cs) r.buffer (table_channel 0 0)) r) (whole_regions (length front) cs) ≡ cs
  own_channel front [] = refl
  own_channel front (c ∷ cs) =
      let further : front ++ c ∷ cs ≡ (front ++ c ∷ []) ++ cs = sym (append_assoc front (c ∷ []) cs) in
      let next : length (front ++ c ∷ []) ≡ suc (length front) = let n = length-append front (c ∷ []) in omega (arith, n) in
      let others : map (λ (r : Region). channel_in parts.Global (get_or (front ++ c ∷ cs) r.buffer (table_channel 0 0)) r) (whole_regions (suc (length front)) cs) ≡ cs =
      ap (λ (xs : List Channel). map (λ (r : Region). channel_in parts.Global (get_or xs r.buffer (table_channel 0 0)) r) (whole_regions (suc (length front)) cs)) further
      ∙ ap (λ n. map (λ (r : Region). channel_in parts.Global (get_or ((front ++ c ∷ []) ++ cs) r.buffer (table_channel 0 0)) r) (whole_regions n cs)) (sym next)
      ∙ own_channel (front ++ c ∷ []) cs in
      ap (λ (d : Channel). d ∷ map (λ (r : Region). channel_in parts.Global (get_or (front ++ c ∷ cs) r.buffer (table_channel 0 0)) r) (whole_regions (suc (length front)) cs)) (get_or-append_seam front c cs (table_channel 0 0))
      ∙ ap (λ (ds : List Channel). c ∷ ds) others

  pub whole_channels : part_channels dim passes l parts.Global ≡ l.channels
  whole_channels =
      ap (λ (rs : List Region). map (λ r. channel_in parts.Global (get_or l.channels r.buffer (table_channel 0 0)) r) rs) whole_pieces ∙ own_channel [] l.channels

  -- and its grids
  pub whole_grids : (gs : List (Grid ℤ)) → AreGridsOf l.channels gs → grids_in (pieces dim passes l parts.Global) gs ≡ gs
  whole_grids gs sizes =
      ap (λ (rs : List Region). grids_in rs gs) whole_pieces ∙ given_grids l.channels [] gs (own_buffers l.channels gs sizes) ∙ take_all (length l.channels) gs (let n = same_count l.channels gs sizes in omega (arith, n))

  -- nothing is cut
  pub nothing_cut : can_cut dim l ≡ true
  nothing_cut = ap (list_all (has_cells dim)) (drop_all (global_count dim l) l.channels all)
