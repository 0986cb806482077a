-- Squares that cover a picture, and lists of parts with theirs.
use Rattle.std.proofs.Common.{◌≡◌, ℕ, suc, ◌+◌, ◌*◌, ◌<◌, ◌≤◌, Bool, true, false, not, ◌&&◌, ◌==◌, nat_lt, nat_le, if◌then◌else◌, IsTrue, List, [], ◌∷◌, ◌++◌, map, length, Ok, refl, sym, ap, ◌∙◌, subst, append_assoc, add-one, zero, arith}
use Rattle.std.specs.List.{All, flat_map, list_all, range_with_len}
use Rattle.std.specs.Int.{div_ceil}
use Rattle.std.proofs.lemmas.Bool.{ltb-false}
use Rattle.std.proofs.lemmas.Grind.{div_ceil_times}
use Rattle.std.proofs.lemmas.List.{map-append}
use Rattle.std.proofs.Math.Nat.{mul-le-mul_right}
use Rattle.jxlm_transform.proofs.StepFacts.{both_of}
use Rattle.std.proofs.lemmas.List.Elements.{All-map}
use Rattle.jxlm_transform.specs.Channels.{Channel, ChannelList, image_channel, image_list}
use Rattle.jxlm_transform.specs.Params.{IsValidChannel}
use Rattle.jxlm_transform.specs.declared.param.ModularChannelParams.{ModularChannelParams}
use Rattle.jxlm_transform.specs.ChannelSteps.{Step, list_after_all}
use Rattle.jxlm_transform.specs.Steps.{HasChannels}
use Rattle.jxlm_groups.proofs.Parts.{get_of, own_picture, own_picture-is}
use Rattle.jxlm_groups.proofs.PieceFacts.{counted_of}
use Rattle.jxlm_groups.proofs.Pictured.{IsOfPicture, IsOwn, image_of_picture}
use Rattle.jxlm_groups.proofs.Steps.{pictured_after_all}
use Rattle.jxlm_groups.specs.Areas.{AreOfPicture, area_of, areas_of, groups_by_number, picture_of, squares, with_area}
use Rattle.jxlm_groups.specs.Counts.{group_count, is_kind}
use Rattle.jxlm_groups.specs.Cutting.{Kind, global_count, is_low_frequency, pass_of}
use Rattle.jxlm_groups.specs.Inner.Squares.{IsInPicture, first_groups}
use Rattle.jxlm_groups.specs.Parts.{part_in}
use Rattle.jxlm_groups.specs.Passes.{Pass, can_group, one_picture}
use Rattle.jxlm_groups.specs.Pieces.{SectionPart}
use Rattle.jxlm_groups.specs.declared.area.Area.{Area}
use Rattle.jxlm_groups.specs.declared.area.PartArea.{PartArea}
use Rattle.jxlm_groups.specs.declared.part.Kind.TheVariants as kinds
use Rattle.jxlm_groups.specs.declared.part.SectionPart.TheVariants as parts

-- a column of squares begins inside the picture
pub begins_inside : (w side i : ℕ) → 0 < side → i < div_ceil w side → i * side < w
begins_inside w side i some lt =
    let few = (div_ceil_times w side some).1 in
    let le : (i + 1) * side ≤ div_ceil w side * side = mul-le-mul_right side (omega (arith, lt)) in
    omega (arith, few, le)

-- where there are squares, there is a column of them
pub some_columns : (w h side k : ℕ) → k < squares w h side → 0 < div_ceil w side
some_columns w h side k lt = positive (div_ceil w side) (div_ceil h side) lt where
  positive : (m n : ℕ) → k < m * n → 0 < m
  positive zero n lt = absurd (omega (arith, lt))
  positive (suc m) n lt = omega arith

-- ---- groups that are counted lie in the picture

module _ (w h dim : ℕ) where
  differ : {X : Type 0} → false ≡ true → X
  differ e = cc

  there_by : (kind : Kind) (k q a b : ℕ) (front low : Bool) → is_kind kind (if front then kinds.Global else if low then kinds.Lf else kinds.Pass q) ≡ true →
      (front ≡ false → (a ≡ w) × (b ≡ h)) → k < div_ceil a (if low then 8 * dim else dim) * div_ceil b (if low then 8 * dim else dim) → IsInPicture w h dim (part_in kind k)
  there_by kinds.Global k q a b front low e sides lt = tt
  there_by kinds.Lf k q a b true low e sides lt = differ e
  there_by kinds.Lf k q a b false false e sides lt = differ e
  there_by kinds.Lf k q a b false true e sides lt =
      let s = sides refl in
      subst (λ n. k < div_ceil n (8 * dim) * div_ceil h (8 * dim)) s.0 (subst (λ n. k < div_ceil a (8 * dim) * div_ceil n (8 * dim)) s.1 lt)
  there_by (kinds.Pass p) k q a b true low e sides lt = differ e
  there_by (kinds.Pass p) k q a b false true e sides lt = differ e
  there_by (kinds.Pass p) k q a b false false e sides lt =
      let s = sides refl in
      subst (λ n. k < div_ceil n dim * div_ceil h dim) s.0 (subst (λ n. k < div_ceil a dim * div_ceil n dim) s.1 lt)

  pub groups_inside : (passes : List Pass) (l : ChannelList) → AreOfPicture w h dim l → (kind : Kind) (k : ℕ) → k < group_count dim passes l kind → IsInPicture w h dim (part_in kind k)
  groups_inside passes l alike kind k lt =
      let (n, c, e, is, few) = counted_of dim passes l kind k lt in
      there_by kind k (pass_of passes c) c.original_width c.original_height (nat_lt n (global_count dim l)) (is_low_frequency c) is
      (λ cut. alike n c e (ltb-false n (global_count dim l) cut)) few

  -- a part with its rectangle
  abbrev pub at_area : SectionPart → Area → PartArea
  at_area part area = record { part = part; area = area }

  pub area_is : (p q : SectionPart) (a : Area) → p ≡ q → a ≡ area_of w h dim p → at_area p a ≡ with_area w h dim q
  area_is p q a named covers = ap (at_area p) covers ∙ ap (with_area w h dim) named

  -- ---- lists of groups

  range_push : (a n last : ℕ) → a + n ≡ last → range_with_len a (suc n) ≡ range_with_len a n ++ last ∷ []
  range_push a zero last e = ap (λ k. k ∷ []) (omega arith)
  range_push a (suc n) last e = ap (λ ks. a ∷ ks) (range_push (a + 1) n last (omega arith))

  range_more : (n : ℕ) → range_with_len 0 (n + 1) ≡ range_with_len 0 n ++ n ∷ []
  range_more n = rw add-one (range_push 0 n n (omega arith))

  groups_more : (kind : Kind) (n : ℕ) → first_groups w h dim kind (n + 1) ≡ first_groups w h dim kind n ++ with_area w h dim (part_in kind n) ∷ []
  groups_more kind n =
      ap (λ ks. map (with_area w h dim) (map (part_in kind) ks)) (range_more n)
      ∙ ap (map (with_area w h dim)) (map-append (part_in kind) (range_with_len 0 n) (n ∷ []))
      ∙ map-append (with_area w h dim) (map (part_in kind) (range_with_len 0 n)) (part_in kind n ∷ [])

  -- a group more
  pub with_group : (kind : Kind) (n : ℕ) (before list after : List PartArea) (p : PartArea) → list ≡ before ++ first_groups w h dim kind n → p ≡ with_area w h dim (part_in kind n) → after ≡ list ++ p ∷ [] →
      after ≡ before ++ first_groups w h dim kind (n + 1)
  with_group kind n before list after p so_far is pushed =
      pushed ∙ ap (λ l. l ++ p ∷ []) so_far ∙ ap (λ q. (before ++ first_groups w h dim kind n) ++ q ∷ []) is
      ∙ append_assoc before (first_groups w h dim kind n) (with_area w h dim (part_in kind n) ∷ []) ∙ ap (λ l. before ++ l) (sym (groups_more kind n))

  module _ (passes : List Pass) (l : ChannelList) where
    -- the groups of a pass
    abbrev pub groups_in : Pass → List PartArea
    groups_in p = first_groups w h dim (kinds.Pass p.number) (group_count dim passes l (kinds.Pass p.number))

    -- the parts before those of passes
    abbrev pub before_passes : List PartArea
    before_passes = with_area w h dim parts.Global ∷ first_groups w h dim kinds.Lf (group_count dim passes l kinds.Lf)

    map_all : (ps : List Pass) → flat_map groups_in ps ≡ map (with_area w h dim) (flat_map (λ p. groups_by_number dim passes l (kinds.Pass p.number)) ps)
    map_all [] = refl
    map_all (p ∷ ps) =
        ap (λ r. groups_in p ++ r) (map_all ps)
        ∙ sym (map-append (with_area w h dim) (groups_by_number dim passes l (kinds.Pass p.number)) (flat_map (λ p. groups_by_number dim passes l (kinds.Pass p.number)) ps))

    -- all parts
    pub all_areas : before_passes ++ flat_map groups_in passes ≡ areas_of w h dim passes l
    all_areas =
        ap (λ r. before_passes ++ r) (map_all passes)
        ∙ ap (λ r. with_area w h dim parts.Global ∷ r)
        (sym (map-append (with_area w h dim) (groups_by_number dim passes l kinds.Lf) (flat_map (λ p. groups_by_number dim passes l (kinds.Pass p.number)) passes)))

-- ---- the picture of an image that can be cut

pub of_picture : (dim : ℕ) (passes : List Pass) (given : ChannelList) (steps : List Step) (l : ChannelList) → All IsOwn given.channels → All HasChannels steps →
    IsTrue (can_group passes given.channels) → list_after_all steps given ≡ Ok l → AreOfPicture (picture_of given.channels).0 (picture_of given.channels).1 dim l
of_picture dim passes given steps l own some can applies n c e le =
    let cs : List Channel = given.channels in
    let one : Bool = one_picture cs in
    let there : Bool = not (length passes == 0) in
    let numbers : Bool = list_all (λ (p : Pass). nat_le p.number 255) passes in
    let alike : one ≡ true = (both_of one there (both_of (one && there) numbers (both_of (one && there && numbers) _ can).0).0).0 in
    let picture = own_picture cs own alike in
    let sides = own_picture-is cs own alike in
    let pictured = pictured_after_all picture.w picture.h steps given l applies some (λ i d le lt. picture.each i d lt) in
    let (lt, is) = get_of l.channels n c c e in
    let at : IsOfPicture picture.w picture.h c = subst (IsOfPicture picture.w picture.h) is (pictured n c (omega (arith, le)) lt) in
    (at.width ∙ sides.0, at.height ∙ sides.1)

-- the same from parameters
pub asked_picture : (dim : ℕ) (passes : List Pass) (given : List ModularChannelParams) (steps : List Step) (l : ChannelList) → All IsValidChannel given → All HasChannels steps →
    IsTrue (can_group passes (image_list given).channels) → list_after_all steps (image_list given) ≡ Ok l →
    AreOfPicture (picture_of (image_list given).channels).0 (picture_of (image_list given).channels).1 dim l
asked_picture dim passes given steps l valid some can applies =
    of_picture dim passes (image_list given) steps l (All-map IsOwn image_channel given (λ k d h. image_of_picture _ (valid k d h))) some can applies
