-- Groups with sides of 256 cut each channel of a picture.
use Rattle.std.proofs.Common.{◌≡◌, ℕ, zero, suc, ◌≤◌, Bool, true, false, List, [], ◌∷◌, ◌++◌, map, replicate, None, refl, sym, subst, arith}
use Rattle.std.specs.Prelude.{◌&&◌}
use Rattle.std.specs.List.{All, list_all}
use Rattle.std.proofs.lemmas.List.Elements.{All-cons, All-head, All-nil, All-tail}
use Rattle.jxlm_groups.specs.Cutting.{has_cells}
use Rattle.jxlm_transform.specs.Channels.{ChannelList, image_list}
use Rattle.jxlm_transform.specs.declared.param.ModularChannelParams.{ModularChannelParams}
use Rattle.jxl_image_header.specs.Images.{Image, image_refusal}
use Rattle.jxl_image_header.specs.declared.channel.ExtraChannel.{ExtraChannel}
use Rattle.jxl_image_header.specs.declared.size.Size.{Size}
use Rattle.jxl_image_header.proofs.Refusals.{low_shifts}
use Rattle.jxl_picture.specs.Pictures.{colour_count}
use Rattle.jxl_lossless.specs.Frames.{channel_in, channels_given}
use Rattle.jxl_encode.specs.Inner.Frames.{AreGiven}

cells_in : (size : Size) (s : ℕ) → s ≤ 3 → has_cells 256 (channel_in size s) ≡ true
cells_in size zero low = refl
cells_in size (suc zero) low = refl
cells_in size (suc (suc zero)) low = refl
cells_in size (suc (suc (suc zero))) low = refl
cells_in size (suc (suc (suc (suc s)))) low = absurd (omega (arith, low))

extra_cells : (size : Size) (cs : List ExtraChannel) → All (λ c. c.dim_shift ≤ 3) cs → list_all (has_cells 256) (map (channel_in size) (map (λ (c : ExtraChannel). c.dim_shift) cs)) ≡ true
extra_cells size [] low = refl
extra_cells size (c ∷ cs) low =
    let first = cells_in size c.dim_shift (All-head (λ (c : ExtraChannel). c.dim_shift ≤ 3) c cs low) in
    rw (first, extra_cells size cs (All-tail (λ (c : ExtraChannel). c.dim_shift ≤ 3) c cs low)) refl

all_cells : (size : Size) (n : ℕ) (cs : List ExtraChannel) → All (λ c. c.dim_shift ≤ 3) cs → list_all (has_cells 256) (map (channel_in size) (replicate n 0 ++ map (λ (c : ExtraChannel). c.dim_shift) cs)) ≡ true
all_cells size zero cs low = extra_cells size cs low
all_cells size (suc n) cs low = all_cells size n cs low

right_of : (a b : Bool) → (a && b) ≡ true → b ≡ true
right_of true b e = e
right_of false b e = cc

each_of : {X : Type 0} (p : X → Bool) (xs : List X) → list_all p xs ≡ true → All (λ x. p x ≡ true) xs
each_of p [] e = All-nil (λ x. p x ≡ true)
each_of p (x ∷ xs) e = All-cons (λ x. p x ≡ true) x xs (left_of (p x) (list_all p xs) e) (each_of p xs (right_of (p x) (list_all p xs) e)) where
  left_of : (a b : Bool) → (a && b) ≡ true → a ≡ true
  left_of true b e = refl
  left_of false b e = cc

-- each channel has cells in each group
pub each_has_cells : (image : Image) (given : List ModularChannelParams) → image_refusal image ≡ None → AreGiven image given → All (λ c. has_cells 256 c ≡ true) (image_list given).channels
each_has_cells image given supported are =
    let l : ChannelList = channels_given image image.size in
    subst (λ (l : ChannelList). All (λ c. has_cells 256 c ≡ true) l.channels) (sym are.list)
    (each_of (has_cells 256) l.channels (all_cells image.size (colour_count image) image.ec_info (low_shifts image supported)))
