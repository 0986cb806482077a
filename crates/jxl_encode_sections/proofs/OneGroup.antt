-- A frame of one group: each channel of its picture fits the group, so no other part has samples.
use Rattle.std.proofs.Common.{◌≡◌, ◌∙◌, ℕ, zero, suc, ◌+◌, ◌-◌, ◌*◌, ◌/◌, ◌^◌, ◌<◌, ◌≤◌, Bool, true, false, ◌==◌, ◌&&◌, if◌then◌else◌, ℤ, List, length, map, get_or, refl, sym, ap, arith, eqb-true}
use Rattle.std.specs.List.{All}
use Rattle.std.proofs.lemmas.Bool.{le-leb}
use Rattle.std.proofs.lemmas.List.Sums.{prefix_len_is}
use Rattle.std.proofs.lemmas.List.Elements.{All-map}
use Rattle.std.proofs.lemmas.Nat.{pow_pos}
use Rattle.std.proofs.Math.Nat.{div-lt_iff_lt-mul, le-mul_of_pos_right, mul_assoc, pow-suc}
use Rattle.jxlm_groups.specs.Cutting.{fits_group, global_count}
use Rattle.jxlm_groups.proofs.Pictured.{IsHalved, image_of_picture}
use Rattle.jxlm_transform.specs.Channels.{Channel, image_channel, image_list}
use Rattle.jxlm_transform.specs.ChannelSteps.{table_channel}
use Rattle.jxlm_transform.specs.Params.{IsGroupDim, IsValidChannel}
use Rattle.jxlm_transform.specs.declared.param.ModularChannelParams.{ModularChannelParams}
use Rattle.jxl_image_header.specs.declared.size.Size.{Size}
use Rattle.jxl_codestream.specs.Layouts.{groups_of, layout_of, section_count_of}
use Rattle.jxl_encode_frame.specs.Laws.{IsOfSize}

-- a side of groups is even
half_of : (dim : ℕ) → IsGroupDim dim → (h : ℕ) × (dim ≡ 2 * h)
half_of dim d = let (k, is) = d.2 in power k is where
  power : (k : ℕ) → dim ≡ 2 ^ k → (h : ℕ) × (dim ≡ 2 * h)
  power zero e = absurd (let least = d.0 in omega (arith, e, least))
  power (suc a) e = (2 ^ a, let p = pow-suc 2 a in omega (arith, e, p))

-- a side of a channel is within it, where the picture's side is
fits_side : (dim original n : ℕ) (s : ℤ) → IsGroupDim dim → original ≤ dim → IsHalved original n s → n ≤ dim
fits_side dim original n s d le h =
    let (half, is) = half_of dim d in
    let e : 2 * (half * 2 ^ h.shift) ≡ dim * 2 ^ h.shift = sym (mul_assoc 2 half (2 ^ h.shift)) ∙ ap (λ m. m * 2 ^ h.shift) (sym is) in
    let least : dim ≤ dim * 2 ^ h.shift = le-mul_of_pos_right dim (pow_pos h.shift) in
    h.covers dim (half * 2 ^ h.shift) (omega (arith, le, least, e)) e

-- two numbers whose product is 1
both_one : (a b : ℕ) → a * b ≡ 1 → (a ≡ 1) × (b ≡ 1)
both_one zero b e = absurd (omega (arith, e))
both_one (suc zero) b e = (refl, omega (arith, e))
both_one (suc (suc a)) zero e = absurd (omega (arith, e))
both_one (suc (suc a)) (suc b) e = absurd (no e) where
  no : suc (suc a) * suc b ≡ 1 → ⊥
  no e = let least : suc (suc a) ≤ suc (suc a) * suc b = le-mul_of_pos_right (suc (suc a)) (omega arith) in omega (arith, least, e)

-- a side of one group
one_along : (n dim : ℕ) → 0 < dim → (n + dim - 1) / dim ≡ 1 → n ≤ dim
one_along n dim some e =
    let below : n + dim - 1 < 2 * dim = (div-lt_iff_lt-mul some).0 (omega (arith, e)) in
    omega (arith, below, some)

-- a frame of one pass with one section has one group
one_by : (g lf : ℕ) (b : Bool) → (g == 1) ≡ b → (if b && (1 == 1) then 1 else 2 + lf + 1 * g) ≡ 1 → g ≡ 1
one_by g lf true is e = eqb-true g 1 is
one_by g lf false is e = absurd (omega (arith, e))

module _ (dim : ℕ) (group : IsGroupDim dim) (size : Size) (given : List ModularChannelParams) (valid : All IsValidChannel given) (sized : All (IsOfSize size) given) where
  abbrev Fits : Channel → Type 0
  Fits c = fits_group dim c ≡ true

  pub each_fits : size.width ≤ dim → size.height ≤ dim → All Fits (map image_channel given)
  each_fits wide high = All-map Fits image_channel given (λ k d lt.
      let p : ModularChannelParams = get_or given k d in
      let of = image_of_picture p (valid k d lt) in
      let own = sized k d lt in
      let across = fits_side dim p.width (image_channel p).width (image_channel p).hshift group (let e = own.0 in omega (arith, e, wide)) of.across in
      let down = fits_side dim p.height (image_channel p).height (image_channel p).vshift group (let e = own.1 in omega (arith, e, high)) of.down in
      rw (le-leb (image_channel p).width dim across, le-leb (image_channel p).height dim down) refl)

  -- a picture of one section is no larger than a group
  pub one_group : section_count_of (layout_of size dim 1) ≡ 1 → (size.width ≤ dim) × (size.height ≤ dim)
  one_group one =
      let few : groups_of size dim ≡ 1 = one_by (groups_of size dim) (groups_of size (8 * dim)) (groups_of size dim == 1) refl one in
      let (across, down) = both_one ((size.width + dim - 1) / dim) ((size.height + dim - 1) / dim) few in
      let some : 0 < dim = let least = group.0 in omega (arith, least) in
      (one_along size.width dim some across, one_along size.height dim some down)

  -- the global part has all channels of a frame of one section
  pub all_global : section_count_of (layout_of size dim 1) ≡ 1 → length (image_list given).channels ≤ global_count dim (image_list given)
  all_global one =
      let (wide, high) = one_group one in
      let fit = each_fits wide high in
      let channels : List Channel = map image_channel given in
      let all = prefix_len_is (fits_group dim) channels (length channels) (table_channel 0 0) (omega arith) (λ k lt. fit k (table_channel 0 0) lt) (λ lt. absurd (omega (arith, lt))) in
      omega (arith, all)
