-- The channels of a picture, as an encoder of its frame is given them.
use Rattle.std.proofs.Common.{◌≡◌, ℕ, zero, suc, ◌+◌, ◌^◌, ◌≤◌, ℤ, List, [], ◌∷◌, ◌++◌, length, map, replicate, true, None, refl, sym, ap, subst, ◌∙◌, arith}
use Rattle.std.specs.Int.{div_ceil}
use Rattle.std.specs.List.{All, AllZip}
use Rattle.std.proofs.lemmas.List.{length-append, length-map, length-replicate}
use Rattle.std.proofs.lemmas.List.Elements.{All-append, All-cons, All-head, All-nil, All-tail}
use Rattle.jxlm_base.specs.Grid.{Grid, IsFull}
use Rattle.jxlm_transform.specs.Channels.{AreGridsOf, ChannelList, image_list}
use Rattle.jxlm_transform.specs.Params.{IsValidChannel}
use Rattle.jxlm_transform.specs.declared.param.ModularChannelParams.{ModularChannelParams}
use Rattle.jxl_image_header.specs.Images.{Image, image_refusal}
use Rattle.jxl_image_header.specs.declared.channel.ExtraChannel.{ExtraChannel}
use Rattle.jxl_image_header.specs.declared.size.Size.{Size}
use Rattle.jxl_image_header.proofs.Refusals.{low_shifts}
use Rattle.jxl_image_header_write.specs.Writable.{is_writable}
use Rattle.jxl_image_header_write.proofs.HeaderSpellings.{header_parts}
use Rattle.jxl_picture.specs.Pictures.{IsWhole, colour_count, shifts_of}
use Rattle.jxl_lossless.specs.Frames.{channel_in}
use Rattle.jxl_lossless.proofs.Channels.{are_given, valid}
use Rattle.jxl_encode_frame.specs.Laws.{IsOfSize}
use Rattle.jxl_encode.specs.Inner.Frames.{AreGiven, in_file}

-- this number of channels of colours, and these extra ones
abbrev pub listed : ℕ → List ExtraChannel → Size → List ModularChannelParams
listed n extra size = replicate n (in_file size 0) ++ map (λ c. in_file size c.dim_shift) extra

colours_of_size : (n : ℕ) (size : Size) → All (IsOfSize size) (replicate n (in_file size 0))
colours_of_size zero size = All-nil (IsOfSize size)
colours_of_size (suc n) size = All-cons (IsOfSize size) (in_file size 0) (replicate n (in_file size 0)) (refl, refl) (colours_of_size n size)

extra_of_size : (cs : List ExtraChannel) (size : Size) → All (IsOfSize size) (map (λ (c : ExtraChannel). in_file size c.dim_shift) cs)
extra_of_size [] size = All-nil (IsOfSize size)
extra_of_size (c ∷ cs) size = All-cons (IsOfSize size) (in_file size c.dim_shift) (map (λ (c : ExtraChannel). in_file size c.dim_shift) cs) (refl, refl) (extra_of_size cs size)

count_of : (n : ℕ) (cs : List ExtraChannel) (size : Size) → length (listed n cs size) ≡ n + length cs
count_of n cs size =
    let rest = map (λ (c : ExtraChannel). in_file size c.dim_shift) cs in
    length-append (replicate n (in_file size 0)) rest ∙ ap (λ k. k + length rest) (length-replicate n (in_file size 0)) ∙ ap (λ k. n + k) (length-map cs (λ (c : ExtraChannel). in_file size c.dim_shift))

most_colours : (image : Image) → colour_count image ≤ 3
most_colours image = grind arith

-- they are what an encoder of the frame is given
pub given_of : (image : Image) (list : List ModularChannelParams) → image_refusal image ≡ None → image.size.width ≤ 2 ^ 30 → image.size.height ≤ 2 ^ 30 → length image.ec_info ≤ 4096 →
    list ≡ listed (colour_count image) image.ec_info image.size → AreGiven image list
given_of image list supported wide high few is =
    let low = low_shifts image supported in
    let n = count_of (colour_count image) image.ec_info image.size in
    let most = most_colours image in
    let long : length list ≡ length (listed (colour_count image) image.ec_info image.size) = ap length is in
    record {
      list = are_given image image.size list low is;
      valid = subst (λ (l : List ModularChannelParams). All IsValidChannel l) (sym is) (valid (colour_count image) image.size.width image.size.height image.ec_info wide high low);
      few = omega (arith, n, long, few, most);
      sizes = subst (λ (l : List ModularChannelParams). All (IsOfSize image.size) l) (sym is)
          (All-append (IsOfSize image.size) (replicate (colour_count image) (in_file image.size 0)) (map (λ (c : ExtraChannel). in_file image.size c.dim_shift) image.ec_info)
          (colours_of_size (colour_count image) image.size) (extra_of_size image.ec_info image.size));
    }

-- grids of their sides
zip_grids : (size : Size) (ss : List ℕ) (gs : List (Grid ℤ)) → AllZip (λ s g. (g.width ≡ div_ceil size.width (2 ^ s)) × (g.height ≡ div_ceil size.height (2 ^ s))) ss gs → All IsFull gs →
    AreGridsOf (map (channel_in size) ss) gs
zip_grids size [] [] s full = tt
zip_grids size [] (g ∷ gs) s full = absurd s
zip_grids size (h ∷ ss) [] s full = absurd s
zip_grids size (h ∷ ss) (g ∷ gs) s full = (record { same_width = s.0.0; same_height = s.0.1; full = All-head IsFull g gs full }, zip_grids size ss gs s.1 (All-tail IsFull g gs full))

pub grids_of : (image : Image) (given : List ModularChannelParams) (grids : List (Grid ℤ)) → AreGiven image given → IsWhole image grids → All IsFull grids → AreGridsOf (image_list given).channels grids
grids_of image given grids are is full =
    subst (λ (l : ChannelList). AreGridsOf l.channels grids) (sym are.list) (zip_grids image.size (shifts_of image) grids is full)

-- a header that is spelled has few extra channels
pub few_extra : (image : Image) → is_writable image ≡ true → length image.ec_info ≤ 4096
few_extra image spelled = let few = (header_parts image spelled).few in omega (arith, few)
