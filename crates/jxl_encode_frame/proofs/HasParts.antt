-- Each group with samples is a group of the frame, where the frame has one pass.
use Rattle.std.proofs.Common.{◌≡◌, ◌∙◌, inl, inr, ℕ, zero, suc, ◌+◌, ◌-◌, ◌*◌, ◌/◌, ◌<◌, ◌≤◌, Bool, true, false, nat_lt, if◌then◌else◌, ℤ, pos, get_or, refl, sym, ap, subst, arith, eqb-true}
use Rattle.std.specs.Prelude.{find, int_le}
use Rattle.std.specs.Option.{option_map_or}
use Rattle.std.specs.Int.{div_ceil}
use Rattle.std.specs.List.{All}
use Rattle.std.proofs.lemmas.Bool.{cases_lt, le-leb, lt-ltb, ltb-true}
use Rattle.std.proofs.lemmas.Grind.{div_ceil_times}
use Rattle.std.proofs.lemmas.List.Elements.{All-map}
use Rattle.std.proofs.lemmas.Nat.{le-div}
use Rattle.std.proofs.Math.Nat.{mul-le-mul_right, mul_comm}
use Rattle.jxlm_groups.specs.Counts.{exists, group_count, is_kind}
use Rattle.jxlm_groups.specs.Cutting.{columns, global_count, is_low_frequency, pass_of, rows, span}
use Rattle.jxlm_groups.specs.Passes.{holds}
use Rattle.jxlm_groups.specs.declared.part.Kind.TheVariants as kinds
use Rattle.jxlm_groups.specs.declared.part.SectionPart.{SectionPart}
use Rattle.jxlm_groups.specs.declared.part.SectionPart.TheVariants as parts
use Rattle.jxlm_groups.proofs.PartChannels.{counts_cells}
use Rattle.jxlm_groups.proofs.Parts.{get_of}
use Rattle.jxlm_groups.proofs.PieceFacts.{counted_of, held_exists, lf_exists, pass_exists}
use Rattle.jxlm_groups.proofs.Pictured.{IsOfPicture, image_of_picture}
use Rattle.jxlm_groups.proofs.Steps.{IsPictured, pictured_after_all}
use Rattle.jxlm_transform.specs.Channels.{Channel, ChannelList, image_channel, image_list}
use Rattle.jxlm_transform.specs.declared.param.ModularChannelParams.{ModularChannelParams}
use Rattle.jxlm_transform.proofs.StepLaws.{steps_channels, steps_list}
use Rattle.jxlm_section_split.specs.CutPicture.{one_pass}
use Rattle.jxl_image_header.specs.declared.size.Size.{Size}
use Rattle.jxl_codestream.specs.Layouts.{groups_of, has_part, layout_of}
use Rattle.jxl_encode_image.proofs.Spelled.{are_transforms}
use Rattle.jxl_encode_frame.specs.Laws.{GroupsAreInLayout}

-- as many squares cover a side
ceil_within : (x y : ℕ) → 0 < y → div_ceil x y ≤ (x + y - 1) / y
ceil_within x y some =
    let d = div_ceil_times x y some in
    let below = d.1 in
    le-div (div_ceil x y) (x + y - 1) y some (omega (arith, below, some))

product_within : (a b m n : ℕ) → a ≤ m → b ≤ n → a * b ≤ m * n
product_within a b m n first second =
    let one : a * b ≤ m * b = mul-le-mul_right b first in
    let two : b * m ≤ n * m = mul-le-mul_right m second in
    let x = mul_comm m b in
    let y = mul_comm n m in
    omega (arith, one, two, x, y)

least_of : (b : Bool) (h v : ℤ) (m n : ℕ) → h ≡ pos m → v ≡ pos n → (k : ℕ) × ((if b then h else v) ≡ pos k)
least_of true h v m n p q = (m, p)
least_of false h v m n p q = (n, q)

module _ (dim : ℕ) (some : 0 < dim) (size : Size) (l : ChannelList) (pictured : IsPictured size.width size.height l) where
  abbrev OfPicture : Channel → Type 0
  OfPicture = IsOfPicture size.width size.height

  -- a channel is cut into no more groups than the frame
  cut_within : (c : Channel) (s : ℕ) → OfPicture c → span dim c ≡ s → 0 < s → columns dim c * rows dim c ≤ groups_of size s
  cut_within c s of is above =
      let wide : columns dim c ≤ (size.width + s - 1) / s = subst (λ n. div_ceil n (span dim c) ≤ (size.width + s - 1) / s) (sym of.width) (subst (λ n. div_ceil size.width n ≤ (size.width + s - 1) / s) (sym is) (ceil_within size.width s above)) in
      let high : rows dim c ≤ (size.height + s - 1) / s = subst (λ n. div_ceil n (span dim c) ≤ (size.height + s - 1) / s) (sym of.height) (subst (λ n. div_ceil size.height n ≤ (size.height + s - 1) / s) (sym is) (ceil_within size.height s above)) in
      product_within (columns dim c) (rows dim c) ((size.width + s - 1) / s) ((size.height + s - 1) / s) wide high

  span_by : (c : Channel) (low : Bool) → is_low_frequency c ≡ low → span dim c ≡ (if low then 8 * dim else dim)
  span_by c low is = ap (λ b. if b then 8 * dim else dim) is

  -- the one pass has the channels that are not of low frequencies
  first_pass : (c : Channel) → OfPicture c → is_low_frequency c ≡ false → pass_of one_pass c ≡ 0
  first_pass c of high =
      let (m, least) = least_of (int_le c.hshift c.vshift) c.hshift c.vshift of.across.shift of.down.shift of.across.is of.down.is in
      subst (λ (s : ℤ). option_map_or (λ p. p.number) (find (holds s) one_pass) 256 ≡ 0) (sym least)
      (below m (sym (ap (λ s. int_le (pos 3) s) least) ∙ high)) where
        below : (m : ℕ) → int_le (pos 3) (pos m) ≡ false → option_map_or (λ p. p.number) (find (holds (pos m)) one_pass) 256 ≡ 0
        below zero e = refl
        below (suc zero) e = refl
        below (suc (suc zero)) e = refl
        below (suc (suc (suc m))) e = absurd (different (sym (le-leb 3 (suc (suc (suc m))) (omega arith)) ∙ e)) where
          different : ◌≡◌ {A = Bool} true false → ⊥
          different e = cc

  not_front : (n m : ℕ) → nat_lt n m ≡ false → m ≤ n
  not_front n m e = elim (cases_lt n m) [
    | inl lt ↦ absurd (different (sym (lt-ltb n m lt) ∙ e))
    | inr ge ↦ ge
  ] where
    different : ◌≡◌ {A = Bool} true false → ⊥
    different e = cc

  -- the channel that is cut into a group
  lf_below : (k : ℕ) → k < group_count dim one_pass l kinds.Lf → k < groups_of size (8 * dim)
  lf_below k lt =
      let (n, c, e, kind, more) = counted_of dim one_pass l kinds.Lf k lt in
      let (within, is) = get_of l.channels n c c e in
      by (nat_lt n (global_count dim l)) (is_low_frequency c) refl refl kind (λ ge. subst OfPicture is (pictured n c (omega (arith, ge)) within)) more where
        by : {n : ℕ} {c : Channel} (front low : Bool) → nat_lt n (global_count dim l) ≡ front → is_low_frequency c ≡ low → is_kind kinds.Lf (if front then kinds.Global else if low then kinds.Lf else kinds.Pass (pass_of one_pass c)) ≡ true →
            (global_count dim l ≤ n → OfPicture c) → k < columns dim c * rows dim c → k < groups_of size (8 * dim)
        by true low is_front is_low kind own more = cc
        by false false is_front is_low kind own more = cc
        by {n = n} {c = c} false true is_front is_low kind own more =
            let all = cut_within c (8 * dim) (own (not_front n (global_count dim l) is_front)) (span_by c true is_low) (omega (arith, some)) in
            omega (arith, all, more)

  pass_below : (p k : ℕ) → k < group_count dim one_pass l (kinds.Pass p) → (p < 1) × (k < groups_of size dim)
  pass_below p k lt =
      let (n, c, e, kind, more) = counted_of dim one_pass l (kinds.Pass p) k lt in
      let (within, is) = get_of l.channels n c c e in
      by (nat_lt n (global_count dim l)) (is_low_frequency c) refl refl kind (λ ge. subst OfPicture is (pictured n c (omega (arith, ge)) within)) more where
        by : {n : ℕ} {c : Channel} (front low : Bool) → nat_lt n (global_count dim l) ≡ front → is_low_frequency c ≡ low → is_kind (kinds.Pass p) (if front then kinds.Global else if low then kinds.Lf else kinds.Pass (pass_of one_pass c)) ≡ true →
            (global_count dim l ≤ n → OfPicture c) → k < columns dim c * rows dim c → (p < 1) × (k < groups_of size dim)
        by true low is_front is_low kind own more = cc
        by false true is_front is_low kind own more = cc
        by {n = n} {c = c} false false is_front is_low kind own more =
            let of = own (not_front n (global_count dim l) is_front) in
            let all = cut_within c dim of (span_by c false is_low) some in
            let same : p ≡ pass_of one_pass c = eqb-true p (pass_of one_pass c) kind in
            let first = first_pass c of is_low in
            (omega (arith, same, first), omega (arith, all, more))

  -- so the frame has it
  pub has_it : (part : SectionPart) → exists dim one_pass l part ≡ true → has_part (layout_of size dim 1) part ≡ true
  has_it parts.Global e = refl
  has_it (parts.Lf k) e = lt-ltb k (groups_of size (8 * dim)) (lf_below k (ltb-true k (group_count dim one_pass l kinds.Lf) (sym (lf_exists dim one_pass l k) ∙ e)))
  has_it (parts.Pass p k) e =
      let below = pass_below p k (ltb-true k (group_count dim one_pass l (kinds.Pass p)) (sym (pass_exists dim one_pass l p k) ∙ e)) in
      rw (lt-ltb p 1 below.0, lt-ltb k (groups_of size dim) below.1) refl

pub groups_in_layout : GroupsAreInLayout
groups_in_layout given size dim ts coded part some valid sized accepted cells =
    let list : ChannelList = image_list given in
    let own : All (IsOfPicture size.width size.height) list.channels = All-map (IsOfPicture size.width size.height) image_channel given (λ k d lt.
    let p : ModularChannelParams = get_or given k d in
    subst (λ w. IsOfPicture w size.height (image_channel p)) (sized k d lt).0 (subst (λ h. IsOfPicture p.width h (image_channel p)) (sized k d lt).1 (image_of_picture p (valid k d lt)))) in
    let have = steps_channels ts list coded (are_transforms ts accepted.spelled) accepted.come in
    let pictured : IsPictured size.width size.height coded.list =
    pictured_after_all size.width size.height coded.steps list coded.list (steps_list ts list coded accepted.come) have (λ i d le lt. own i d lt) in
    let held = (counts_cells dim one_pass coded.list part).0 cells in
    has_it dim some size coded.list pictured part (held_exists dim one_pass coded.list part held.n held.x held.y held.has)
