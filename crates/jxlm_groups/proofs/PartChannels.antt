-- The channels of a part: how many there are, that they are narrow, and when they have samples.
use Rattle.std.proofs.Common.{◌≡◌, ◌↔◌, ℕ, zero, suc, ◌+◌, ◌*◌, ◌<◌, ◌≤◌, inl, inr, List, [], ◌∷◌, map, length, get_or, Option, Some, None, ap, ◌∙◌, subst, arith}
use Rattle.std.specs.Prelude.{sum_by}
use Rattle.std.specs.List.{All, cons_option, enumerate_from, filter_map}
use Rattle.std.proofs.lemmas.Bool.{cases_lt}
use Rattle.std.proofs.lemmas.List.{length-map}
use Rattle.std.proofs.lemmas.List.Elements.{All-head, All-map, All-tail}
use Rattle.std.proofs.lemmas.List.Sums.{sum_by-cons}
use Rattle.jxlm_base.specs.declared.subgrid.Region.{Region}
use Rattle.jxlm_transform.specs.Channels.{Channel, ChannelList, IsNarrow, area}
use Rattle.jxlm_transform.specs.ChannelSteps.{table_channel}
use Rattle.jxlm_groups.specs.Passes.{Pass}
use Rattle.jxlm_groups.specs.Cutting.{global_count}
use Rattle.jxlm_groups.specs.Parts.{HasSome, HaveCell}
use Rattle.jxlm_groups.specs.Pieces.{SectionPart, channel_in, part_channels, piece, pieces}
use Rattle.jxlm_groups.proofs.Parts.{get_of}
use Rattle.jxlm_groups.proofs.PieceFacts.{IsPiece, each_piece}
use Rattle.jxlm_groups.proofs.SomeCells.{cells_of_sides}

-- at most as many as there are channels
few_with : (o : Option Region) (rs : List Region) (n : ℕ) → length rs ≤ n → length (cons_option o rs) ≤ suc n
few_with None rs n le = omega (arith, le)
few_with (Some r) rs n le = omega (arith, le)

few_from : (f : ℕ × Channel → Option Region) (m : ℕ) (cs : List Channel) → length (filter_map f (enumerate_from m cs)) ≤ length cs
few_from f m [] = omega arith
few_from f m (c ∷ cs) = few_with (f (m, c)) (filter_map f (enumerate_from (m + 1) cs)) (length cs) (few_from f (m + 1) cs)

-- a product is above 0 where both numbers are
left_some : (a b : ℕ) → 0 < a * b → 0 < a
left_some zero b h = grind (arith, h)
left_some (suc a) b h = omega arith

right_some : (a b : ℕ) → 0 < a * b → 0 < b
right_some a zero h = grind (arith, h)
right_some a (suc b) h = omega arith

both_some : (a b : ℕ) → 0 < a → 0 < b → 0 < a * b
both_some zero b h k = absurd (omega (arith, h))
both_some (suc a) zero h k = absurd (omega (arith, k))
both_some (suc a) (suc b) h k = grind arith

module _ (dim : ℕ) (passes : List Pass) (l : ChannelList) (name : SectionPart) where
  -- the channel of a piece
  abbrev of_piece : Region → Channel
  of_piece r = channel_in name (get_or l.channels r.buffer (table_channel 0 0)) r

  piece_sides : (r : Region) → IsPiece l name r → ((of_piece r).width ≡ r.width) × ((of_piece r).height ≡ r.height)
  piece_sides r i =
      let is : get_or l.channels r.buffer (table_channel 0 0) ≡ i.c = (get_of l.channels r.buffer i.c (table_channel 0 0) i.channel).1 in
      (ap (λ (c : Channel). (channel_in name c r).width) is ∙ i.is.same_width, ap (λ (c : Channel). (channel_in name c r).height) is ∙ i.is.same_height)

  -- A part has at most as many channels as are coded.
  pub few_channels : length (part_channels dim passes l name) ≤ length l.channels
  few_channels =
      let same = length-map (pieces dim passes l name) of_piece in
      let few = few_from (piece dim passes (global_count dim l) name) 0 l.channels in
      omega (arith, same, few)

  -- They are narrow where the coded channels are.
  pub narrow_channels : All IsNarrow l.channels → All IsNarrow (part_channels dim passes l name)
  narrow_channels narrow =
      All-map IsNarrow of_piece (pieces dim passes l name) (λ k d lt.
      let r : Region = get_or (pieces dim passes l name) k d in
      let i = each_piece dim passes l name k d lt in
      let (there, is) = get_of l.channels r.buffer i.c i.c i.channel in
      let (across, down) = subst IsNarrow is (narrow r.buffer i.c there) in
      let (same_width, same_height) = piece_sides r i in
      let wide = i.is.wide in
      let high = i.is.high in
      (omega (arith, same_width, wide, across), omega (arith, same_height, high, down)))

  -- the first piece's samples, and those of others
  count_turn : (p : Region) (ps : List Region) → IsPiece l name p → sum_by area (map of_piece (p ∷ ps)) ≡ p.width * p.height + sum_by area (map of_piece ps)
  count_turn p ps is =
      let (same_width, same_height) = piece_sides p is in
      sum_by-cons area (of_piece p) (map of_piece ps)
      ∙ ap (λ a. a * (of_piece p).height + sum_by area (map of_piece ps)) same_width
      ∙ ap (λ b. p.width * b + sum_by area (map of_piece ps)) same_height

  cells_some : (ps : List Region) → All (IsPiece l name) ps → 0 < sum_by area (map of_piece ps) → HasSome ps
  cells_some [] all h = absurd (omega (arith, h))
  cells_some (p ∷ ps) all h =
      let count = count_turn p ps (All-head (IsPiece l name) p ps all) in
      elim (cases_lt 0 (p.width * p.height)) [
        | inl lt ↦ cells_of_sides p ps (left_some p.width p.height lt) (right_some p.width p.height lt)
        | inr ge ↦
            let r = cells_some ps (All-tail (IsPiece l name) p ps all) (omega (arith, count, ge, h)) in
            record { n = r.n; x = r.x; y = r.y; has = inr r.has }
      ]

  some_cells : (ps : List Region) (n x y : ℕ) → All (IsPiece l name) ps → HaveCell ps n x y → 0 < sum_by area (map of_piece ps)
  some_cells [] n x y all h = absurd h
  some_cells (p ∷ ps) n x y all h =
      let count = count_turn p ps (All-head (IsPiece l name) p ps all) in
      elim h [
        | inl a ↦
            let left = a.left in
            let right = a.right in
            let top = a.top in
            let bottom = a.bottom in
            let some = both_some p.width p.height (omega (arith, left, right)) (omega (arith, top, bottom)) in
            omega (arith, count, some)
        | inr k ↦ let rest = some_cells ps n x y (All-tail (IsPiece l name) p ps all) k in omega (arith, count, rest)
      ]

  -- They have samples exactly where the part holds a cell.
  pub counts_cells : (0 < sum_by area (part_channels dim passes l name)) ↔ HasSome (pieces dim passes l name)
  counts_cells = (
    λ h. cells_some (pieces dim passes l name) (each_piece dim passes l name) h,
    λ r. some_cells (pieces dim passes l name) r.n r.x r.y (each_piece dim passes l name) r.has,
  )
