-- Parts hold each coded cell once.
use Rattle.std.proofs.Common.{◌≡◌, ℕ, zero, suc, ◌+◌, ◌-◌, ◌<◌, ◌≤◌, IsTrue, Bool, true, ◌&&◌, ◌==◌, not, nat_lt, nat_le, List, [], ◌∷◌, drop, length, get_or, Option, Some, None, Ok, refl, ap, ◌∙◌, subst, arith, eqb-true}
use Rattle.std.specs.List.{All, list_all, slice_get}
use Rattle.std.proofs.lemmas.Bool.{ltb-true}
use Rattle.std.proofs.lemmas.List.{get_or-drop, length-drop}
use Rattle.std.proofs.lemmas.List.Sums.{AllPass-from_list_all}
use Rattle.std.proofs.lemmas.List.Elements.{All-cons, All-head, All-map, All-tail}
use Rattle.jxlm_transform.proofs.StepFacts.{both_of}
use Rattle.jxlm_transform.specs.Channels.{Channel, ChannelList, image_channel, image_list}
use Rattle.jxlm_transform.specs.ChannelSteps.{Step, list_after_all}
use Rattle.jxlm_transform.specs.Params.{IsGroupDim}
use Rattle.jxlm_transform.specs.Steps.{HasChannels}
use Rattle.jxlm_groups.proofs.Cover.{IsCut}
use Rattle.jxlm_groups.proofs.Pictured.{IsOfPicture, IsOwn, image_of_picture, is_cut}
use Rattle.jxlm_groups.proofs.HeldCells.{hold_each}
use Rattle.jxlm_groups.proofs.Steps.{IsPictured, pictured_after_all}
use Rattle.jxlm_groups.specs.Areas.{picture_of}
use Rattle.jxlm_groups.specs.Passes.{Pass, can_group, is_of_picture_of, one_picture}
use Rattle.jxlm_groups.specs.Cutting.{can_cut, cell_width, cell_height, global_count}
use Rattle.jxlm_groups.specs.Parts.{HoldEachCellOnce, PartsHoldEachCellOnce}

-- the element that is there is the one by number
pub get_of : {X : Type 0} (xs : List X) (i : ℕ) (x d : X) → slice_get xs i ≡ Some x → (i < length xs) × (get_or xs i d ≡ x)
get_of [] i x d e = absurd (none e) where
  none : {Y : Type 0} {y : Y} → ◌≡◌ {A = Option Y} None (Some y) → ⊥
  none e = cc
get_of (y ∷ ys) zero x d e = (omega arith, cc)
get_of (y ∷ ys) (suc i) x d e = let r = get_of ys i x d e in let l = r.0 in (omega (arith, l), r.1)

-- before all transforms
pub same_sides : (c d : Channel) → is_of_picture_of c d ≡ true → (d.original_width ≡ c.original_width) × (d.original_height ≡ c.original_height)
same_sides c d e = let b = both_of (d.original_width == c.original_width) (d.original_height == c.original_height) e in (eqb-true d.original_width c.original_width b.0, eqb-true d.original_height c.original_height b.1)

module _ (c : Channel) where
  all_alike : (cs : List Channel) → All IsOwn cs → list_all (is_of_picture_of c) cs ≡ true → All (IsOfPicture c.original_width c.original_height) cs
  all_alike [] own e = λ k d l. absurd (omega (arith, l))
  all_alike (b ∷ cs) own e =
      let P : Channel → Type 0 = IsOfPicture c.original_width c.original_height in
      let tests = both_of (is_of_picture_of c b) (list_all (is_of_picture_of c) cs) e in
      let sides = same_sides c b tests.0 in
      let one = All-head IsOwn b cs own in
      All-cons P b cs (record { width = sides.0; height = sides.1; across = one.across; down = one.down }) (all_alike cs (All-tail IsOwn b cs own) tests.1)

-- all channels are of one picture
pub record HasPicture (cs : List Channel) : Type 0 where
  pub w : ℕ
  pub h : ℕ
  pub each : All (IsOfPicture w h) cs

pub own_picture : (cs : List Channel) → All IsOwn cs → one_picture cs ≡ true → HasPicture cs
own_picture [] own e = record { w = 0; h = 0; each = λ k d l. absurd (omega (arith, l)) }
own_picture (c ∷ cs) own e = record {
  w = c.original_width;
  h = c.original_height;
  each = All-cons (IsOfPicture c.original_width c.original_height) c cs (All-head IsOwn c cs own) (all_alike c cs (All-tail IsOwn c cs own) e);
}

-- it is the picture of the first of them
pub own_picture-is : (cs : List Channel) (own : All IsOwn cs) (e : one_picture cs ≡ true) → ((own_picture cs own e).w ≡ (picture_of cs).0) × ((own_picture cs own e).h ≡ (picture_of cs).1)
unfolding own_picture
own_picture-is [] own e = (refl, refl)
own_picture-is (c ∷ cs) own e = (refl, refl)

module _ (dim w h : ℕ) (l : ChannelList) (group : IsGroupDim dim) (pictured : IsPictured w h l) (cut : can_cut dim l ≡ true) where
  pub each_cut : (n : ℕ) (c : Channel) → slice_get l.channels n ≡ Some c → global_count dim l ≤ n → IsCut dim c
  each_cut n c e le =
      let (lt, is) = get_of l.channels n c c e in
      let test : Channel → Bool = λ c. nat_lt 0 (cell_width dim c) && nat_lt 0 (cell_height dim c) in
      let count : ℕ = global_count dim l in
      let long = length-drop count l.channels in
      let all = AllPass-from_list_all test (drop count l.channels) cut (n - count) c (omega (arith, long, lt, le)) in
      let place : count + (n - count) ≡ n = omega (arith, le) in
      let same : get_or (drop count l.channels) (n - count) c ≡ c = get_or-drop count l.channels (n - count) c ∙ ap (λ k. get_or l.channels k c) place ∙ is in
      let sides = both_of (nat_lt 0 (cell_width dim c)) (nat_lt 0 (cell_height dim c)) (subst (λ d. test d ≡ true) same all) in
      is_cut w h dim c group (subst (IsOfPicture w h) is (pictured n c (omega (arith, le)) lt)) (ltb-true 0 (cell_width dim c) sides.0) (ltb-true 0 (cell_height dim c) sides.1)

-- Where the channels before all transforms are each of a picture of their own original size, and can be grouped and
-- cut, parts hold each coded cell once.
pub own_once : (dim : ℕ) (passes : List Pass) (given : ChannelList) (steps : List Step) (l : ChannelList) → IsGroupDim dim → All IsOwn given.channels → All HasChannels steps →
    IsTrue (can_group passes given.channels) → list_after_all steps given ≡ Ok l → IsTrue (can_cut dim l) → HoldEachCellOnce dim passes l
own_once dim passes given steps l group own some can applies cut =
    let cs : List Channel = given.channels in
    let a : Bool = one_picture cs in
    let b : Bool = not (length passes == 0) in
    let c : Bool = list_all (λ (p : Pass). nat_le p.number 255) passes in
    let picture = own_picture cs own (both_of a b (both_of (a && b) c (both_of (a && b && c) _ can).0).0).0 in
    let pictured : IsPictured picture.w picture.h l = pictured_after_all picture.w picture.h steps given l applies some (λ i d le lt. picture.each i d lt) in
    hold_each dim passes l (each_cut dim picture.w picture.h l group pictured cut)

pub parts_hold : PartsHoldEachCellOnce
parts_hold dim passes given steps l group valid some can applies cut =
    own_once dim passes (image_list given) steps l group (All-map IsOwn image_channel given (λ k d h. image_of_picture _ (valid k d h))) some can applies cut
