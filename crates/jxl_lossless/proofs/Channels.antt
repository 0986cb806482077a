-- The channels of a picture: those of colours of its size, and the extra ones by their shifts.
use Rattle.std.proofs.Common.{◌≡◌, ℕ, zero, suc, Bool, true, false, ◌+◌, ◌^◌, ◌≤◌, List, [], ◌∷◌, ◌++◌, length, map, pos, ℤ, refl, arith, ◌∙◌, ap, sym, subst}
use Rattle.std.specs.Prelude.{if◌then◌else◌, not, replicate, ◌&&◌, ◌||◌, ◌==◌, ◌≢◌}
use Rattle.std.specs.Int.{cast_signed, w32}
use Rattle.std.specs.List.{All, AllZip, list_all, list_any}
use Rattle.std.proofs.lemmas.Bool.{eqb-true}
use Rattle.std.proofs.lemmas.Bool.Decides.{nat_tests}
use Rattle.std.proofs.lemmas.List.{length-append, length-map, length-replicate, map-id}
use Rattle.std.proofs.lemmas.List.Elements.{All-append, All-cons, All-from_get_or, All-get_or, All-head, All-nil, All-tail}
use Rattle.jxlm_base.specs.Grid.{Grid, grid}
use Rattle.jxlm_base.specs.Regions.{store_meanings}
use Rattle.jxlm_groups.specs.Passes.{is_of_picture_of, one_picture}
use Rattle.jxlm_transform.specs.Channels.{AreGridsOf, Channel, ChannelList, image_channel, image_list}
use Rattle.jxlm_transform.specs.Params.{IsGroupDim, IsSide, IsValidChannel, IsValidParams}
use Rattle.jxlm_transform.specs.declared.param.ModularChannelParams.{ModularChannelParams}
use Rattle.jxlm_transform.specs.declared.param.ModularParams.{ModularParams}
use Rattle.jxl_image_header.specs.Images.{Image}
use Rattle.jxl_image_header.specs.declared.channel.ExtraChannel.{ExtraChannel}
use Rattle.jxl_image_header.specs.declared.size.Size.{Size}
use Rattle.jxl_frame_header.specs.Frames.{has_shifts}
use Rattle.jxl_picture.specs.Limits.{channel_count}
use Rattle.jxl_picture.specs.Orientations.{IsOriented, IsUpright, is_turned, shown_size}
use Rattle.jxl_picture.specs.Pictures.{AreChannels, IsWhole, colour_count, shifts_of}
use Rattle.jxl_picture.proofs.Channels.{HasShift, zip_length}
use Rattle.jxl_picture.proofs.Shifts.{shifted, shifted_none}
use Rattle.jxl_patches.specs.Slots.{AreOfSize}
use Rattle.jxl_lossless.specs.Frames.{channel_in, channels_given}
use Rattle.jxl_lossless.specs.Inner.Given.{in_file, of_file}

abbrev extra_in : ℕ → ℕ → ExtraChannel → ModularChannelParams
extra_in w h c = in_file w h c.dim_shift

-- they are of one picture
same_picture : (w h a b : ℕ) → is_of_picture_of (image_channel (in_file w h a)) (image_channel (in_file w h b)) ≡ true
same_picture w h a b = grind (arith, nat_tests)

extras_alike : (w h a : ℕ) (cs : List ExtraChannel) → list_all (is_of_picture_of (image_channel (in_file w h a))) (map image_channel (map (extra_in w h) cs)) ≡ true
extras_alike w h a [] = refl
extras_alike w h a (c ∷ cs) = rw (same_picture w h a c.dim_shift, extras_alike w h a cs) refl

all_alike : (n w h a : ℕ) (cs : List ExtraChannel) → list_all (is_of_picture_of (image_channel (in_file w h a))) (map image_channel (of_file n cs w h)) ≡ true
all_alike zero w h a cs = extras_alike w h a cs
all_alike (suc n) w h a cs = rw (same_picture w h a 0, all_alike n w h a cs) refl

alike_of : (n w h : ℕ) (cs : List ExtraChannel) → one_picture (map image_channel (of_file n cs w h)) ≡ true
alike_of zero w h [] = refl
alike_of zero w h (c ∷ cs) = extras_alike w h c.dim_shift cs
alike_of (suc n) w h cs = all_alike n w h 0 cs

pub alike : (n w h : ℕ) (cs : List ExtraChannel) (list : List ModularChannelParams) → list ≡ of_file n cs w h → one_picture (image_list list).channels ≡ true
alike n w h cs list is = ap (λ (l : List ModularChannelParams). one_picture (image_list l).channels) is ∙ alike_of n w h cs

-- and an image may have them
valid_colours : (n w h : ℕ) → IsSide w → IsSide h → All IsValidChannel (replicate n (in_file w h 0))
valid_colours zero w h wide high = All-nil IsValidChannel
valid_colours (suc n) w h wide high = All-cons IsValidChannel (in_file w h 0) (replicate n (in_file w h 0)) (wide, high, omega arith) (valid_colours n w h wide high)

valid_extra : (w h : ℕ) (cs : List ExtraChannel) → IsSide w → IsSide h → All (λ c. c.dim_shift ≤ 3) cs → All IsValidChannel (map (extra_in w h) cs)
valid_extra w h [] wide high low = All-nil IsValidChannel
valid_extra w h (c ∷ cs) wide high low =
    let first : c.dim_shift ≤ 3 = All-head (λ (c : ExtraChannel). c.dim_shift ≤ 3) c cs low in
    All-cons IsValidChannel (extra_in w h c) (map (extra_in w h) cs) (wide, high, omega (arith, first)) (valid_extra w h cs wide high (All-tail (λ (c : ExtraChannel). c.dim_shift ≤ 3) c cs low))

pub valid : (n w h : ℕ) (cs : List ExtraChannel) → IsSide w → IsSide h → All (λ c. c.dim_shift ≤ 3) cs → All IsValidChannel (of_file n cs w h)
valid n w h cs wide high low =
    All-append IsValidChannel (replicate n (in_file w h 0)) (map (extra_in w h) cs) (valid_colours n w h wide high) (valid_extra w h cs wide high low)

count_of : (n w h : ℕ) (cs : List ExtraChannel) → length (of_file n cs w h) ≡ n + length cs
count_of n w h cs =
    length-append (replicate n (in_file w h 0)) (map (extra_in w h) cs) ∙ ap (λ k. k + length (map (extra_in w h) cs)) (length-replicate n (in_file w h 0)) ∙ ap (λ k. n + k) (length-map cs (extra_in w h))

pub valid_params : {D : Type 0} (p : ModularParams D) (n w h : ℕ) (cs : List ExtraChannel) → p.channels.items ≡ of_file n cs w h → n + length cs ≤ 2 ^ 20 → IsSide w → IsSide h → All (λ c. c.dim_shift ≤ 3) cs →
    IsGroupDim p.group_dim → p.bit_depth ≤ 32 → IsValidParams p
valid_params p n w h cs is many wide high low dim deep = record {
  group_dim = dim;
  bit_depth = deep;
  count = omega (arith, ap {B = ℕ} (λ (l : List ModularChannelParams). length l) is, count_of n w h cs, many);
  channels = subst (λ (l : List ModularChannelParams). All IsValidChannel l) (sym is) (valid n w h cs wide high low);
}

pub some_given : (n w h : ℕ) (cs : List ExtraChannel) → 1 ≤ n → of_file n cs w h ≢ []
some_given zero w h cs some e = absurd (omega (arith, some))
some_given (suc n) w h cs some e = cc

-- for shifts that are low these are the channels of a frame
low_cast : (s : ℕ) → s ≤ 3 → cast_signed w32 s ≡ pos s
low_cast zero low = refl
low_cast (suc zero) low = refl
low_cast (suc (suc zero)) low = refl
low_cast (suc (suc (suc zero))) low = refl
low_cast (suc (suc (suc (suc s)))) low = absurd (omega (arith, low))

abbrev halved_by : Size → ℕ → ℤ → Channel
halved_by size s h = record (channel_in size s) { hshift = h; vshift = h }

one_given : (size : Size) (s : ℕ) → s ≤ 3 → image_channel (in_file size.width size.height s) ≡ channel_in size s
one_given size s low = ap (halved_by size s) (low_cast s low)

all_given : (size : Size) (n : ℕ) (cs : List ExtraChannel) → All (λ c. c.dim_shift ≤ 3) cs →
    map image_channel (of_file n cs size.width size.height) ≡ map (channel_in size) (replicate n 0 ++ map (λ (c : ExtraChannel). c.dim_shift) cs)
all_given size zero [] low = refl
all_given size zero (c ∷ cs) low =
    let first : c.dim_shift ≤ 3 = All-head (λ (c : ExtraChannel). c.dim_shift ≤ 3) c cs low in
    ap (λ (x : Channel). x ∷ map image_channel (of_file 0 cs size.width size.height)) (one_given size c.dim_shift first)
    ∙ ap (λ (xs : List Channel). channel_in size c.dim_shift ∷ xs) (all_given size zero cs (All-tail (λ (c : ExtraChannel). c.dim_shift ≤ 3) c cs low))
all_given size (suc n) cs low =
    ap (λ (x : Channel). x ∷ map image_channel (of_file n cs size.width size.height)) (one_given size 0 (omega arith))
    ∙ ap (λ (xs : List Channel). channel_in size 0 ∷ xs) (all_given size n cs low)

pub are_given : (image : Image) (size : Size) (list : List ModularChannelParams) → All (λ c. c.dim_shift ≤ 3) image.ec_info → list ≡ of_file (colour_count image) image.ec_info size.width size.height → image_list list ≡ channels_given image size
are_given image size list low is = ap image_list is ∙ ap {B = ChannelList} (λ (cs : List Channel). record { channels = cs; nb_meta = 0 }) (all_given size (colour_count image) image.ec_info low)

-- grids of their sides are all channels of a frame
zip_sides : (size : Size) (ss : List ℕ) (gs : List (Grid ℤ)) → AreGridsOf (map (channel_in size) ss) gs → AllZip (HasShift size) ss gs
zip_sides size [] [] s = tt
zip_sides size [] (g ∷ gs) s = absurd s
zip_sides size (h ∷ ss) [] s = absurd s
zip_sides size (h ∷ ss) (g ∷ gs) s = ((s.0.same_width, s.0.same_height), zip_sides size ss gs s.1)

pub are_channels : (image : Image) (size : Size) (grids : List (Grid ℤ)) → AreGridsOf (channels_given image size).channels grids → AreChannels image size grids
are_channels image size grids s = zip_sides size (shifts_of image) grids s

count_shifts : (image : Image) → length (shifts_of image) ≡ channel_count image
count_shifts image =
    let rest = map (λ (c : ExtraChannel). c.dim_shift) image.ec_info in
    length-append (replicate (colour_count image) 0) rest ∙ ap (λ k. k + length rest) (length-replicate (colour_count image) 0) ∙ ap (λ k. colour_count image + k) (length-map image.ec_info (λ (c : ExtraChannel). c.dim_shift))

-- where no extra channel has a size of its own, all have one size
or_false : (a b : Bool) → (a || b) ≡ false → (a ≡ false) × (b ≡ false)
or_false false b e = (refl, e)
or_false true b e = cc

not_false : (b : Bool) → not b ≡ false → b ≡ true
not_false true e = refl
not_false false e = cc

abbrev some_shifted : List ExtraChannel → Bool
some_shifted cs = list_any (λ c. not (c.dim_shift == 0)) cs

unshifted : (c : ExtraChannel) → not (c.dim_shift == 0) ≡ false → c.dim_shift ≡ 0
unshifted c e = eqb-true c.dim_shift 0 (not_false (c.dim_shift == 0) e)

abbrev IsNone : ℕ → Type 0
IsNone s = s ≡ 0

none_halved : (n : ℕ) (cs : List ExtraChannel) → some_shifted cs ≡ false → All IsNone (replicate n 0 ++ map (λ (c : ExtraChannel). c.dim_shift) cs)
none_halved zero [] none = All-nil IsNone
none_halved zero (c ∷ cs) none =
    let parts = or_false (not (c.dim_shift == 0)) (some_shifted cs) none in
    All-cons IsNone c.dim_shift (map (λ (c : ExtraChannel). c.dim_shift) cs) (unshifted c parts.0) (none_halved zero cs parts.1)
none_halved (suc n) cs none = All-cons IsNone 0 (replicate n 0 ++ map (λ (c : ExtraChannel). c.dim_shift) cs) refl (none_halved n cs none)

abbrev Sides : Size → Grid ℤ → Type 0
Sides size g = (g.width ≡ size.width) × (g.height ≡ size.height)

not_halved : (s n : ℕ) → s ≡ 0 → shifted s n ≡ n
not_halved s n none = ap (λ k. shifted k n) none ∙ shifted_none n

all_full : (size : Size) (ss : List ℕ) (gs : List (Grid ℤ)) → All IsNone ss → AllZip (HasShift size) ss gs → All (Sides size) gs
all_full size [] [] none s = All-nil (Sides size)
all_full size [] (g ∷ gs) none s = absurd s
all_full size (h ∷ ss) [] none s = absurd s
all_full size (h ∷ ss) (g ∷ gs) none s =
    let first = All-head IsNone h ss none in
    All-cons (Sides size) g gs (s.0.0 ∙ not_halved h size.width first, s.0.1 ∙ not_halved h size.height first) (all_full size ss gs (All-tail IsNone h ss none) s.1)

of_full : (size : Size) (ss : List ℕ) (gs : List (Grid ℤ)) → All IsNone ss → length gs ≡ length ss → All (Sides size) gs → AllZip (HasShift size) ss gs
of_full size [] [] none long all = tt
of_full size [] (g ∷ gs) none long all = absurd (omega (arith, long))
of_full size (h ∷ ss) [] none long all = absurd (omega (arith, long))
of_full size (h ∷ ss) (g ∷ gs) none long all =
    let first = All-head IsNone h ss none in
    let sides = All-head (Sides size) g gs all in (
      (sides.0 ∙ sym (not_halved h size.width first), sides.1 ∙ sym (not_halved h size.height first)),
      of_full size ss gs (All-tail IsNone h ss none) (omega (arith, long)) (All-tail (Sides size) g gs all),
    )

pub none_shifted : (patches shifts : Bool) → patches ≡ true → (patches && shifts) ≡ false → shifts ≡ false
none_shifted true shifts is e = e
none_shifted false shifts is e = cc

pub one_size : (image : Image) (size : Size) (grids : List (Grid ℤ)) → has_shifts image ≡ false → AreChannels image size grids → AreOfSize (channel_count image) size grids
one_size image size grids none are =
    let all = all_full size (shifts_of image) grids (none_halved (colour_count image) image.ec_info none) are in
    record {
      count = zip_length (HasShift size) (shifts_of image) grids are ∙ count_shifts image;
      sides = record {
        width = λ c lt. (All-get_or (Sides size) grids c (grid 0 0 []) lt all).0;
        height = λ c lt. (All-get_or (Sides size) grids c (grid 0 0 []) lt all).1;
      };
    }

pub of_one_size : (image : Image) (size : Size) (grids : List (Grid ℤ)) → has_shifts image ≡ false → AreOfSize (channel_count image) size grids → AreChannels image size grids
of_one_size image size grids none are =
    let all = All-from_get_or (Sides size) grids (grid 0 0 []) (λ c lt. (are.sides.width c lt, are.sides.height c lt)) in
    of_full size (shifts_of image) grids (none_halved (colour_count image) image.ec_info none) (are.count ∙ sym (count_shifts image)) all

-- this number of channels have a frame
pub count_channels : (image : Image) (size : Size) (grids : List (Grid ℤ)) → AreChannels image size grids → length grids ≡ channel_count image
count_channels image size grids are = zip_length (HasShift size) (shifts_of image) grids are ∙ count_shifts image

pub whole : (image : Image) (size : Size) (grids : List (Grid ℤ)) → size ≡ image.size → AreChannels image size grids → IsWhole image grids
whole image size grids same given = subst (λ (z : Size). AreChannels image z grids) same given

-- and so are those of the picture that is shown upright
turned_wide : (t : Bool) (f : ℕ → ℕ) (size : Size) → (if t then f size.height else f size.width) ≡ f (if t then record { width = size.height; height = size.width } else size).width
turned_wide true f size = refl
turned_wide false f size = refl

turned_high : (t : Bool) (f : ℕ → ℕ) (size : Size) → (if t then f size.width else f size.height) ≡ f (if t then record { width = size.height; height = size.width } else size).height
turned_high true f size = refl
turned_high false f size = refl

shown_sides : (o : ℕ) (f : ℕ → ℕ) (size : Size) (a b : Grid ℤ) → IsOriented o a b → a.width ≡ f size.width → a.height ≡ f size.height →
    (b.width ≡ f (shown_size o size).width) × (b.height ≡ f (shown_size o size).height)
shown_sides o f size a b s w h =
    let wide : b.width ≡ (if is_turned o then f size.height else f size.width) = rw (w, h) at s.wide in
    let high : b.height ≡ (if is_turned o then f size.width else f size.height) = rw (w, h) at s.high in
    (wide ∙ turned_wide (is_turned o) f size, high ∙ turned_high (is_turned o) f size)

all_shown : (o : ℕ) (size : Size) (ss : List ℕ) (coded shown : List (Grid ℤ)) → AllZip (IsOriented o) coded shown → AllZip (HasShift size) ss coded → AllZip (HasShift (shown_size o size)) ss shown
all_shown o size [] [] [] s all = tt
all_shown o size [] [] (g ∷ gs) s all = absurd s
all_shown o size [] (f ∷ fs) gs s all = absurd all
all_shown o size (h ∷ ss) [] gs s all = absurd all
all_shown o size (h ∷ ss) (f ∷ fs) [] s all = absurd s
all_shown o size (h ∷ ss) (f ∷ fs) (g ∷ gs) s all = (shown_sides o (shifted h) size f g s.0 all.0.0 all.0.1, all_shown o size ss fs gs s.1 all.1)

pub whole_upright : (image : Image) (coded : List (Grid ℤ)) (shown : Image) (channels : List (Grid ℤ)) → IsWhole image coded → IsUpright image coded shown channels → IsWhole shown channels
whole_upright image coded shown channels is turned =
    subst (λ (i : Image). IsWhole i channels) (sym turned.header) (all_shown image.orientation image.size (shifts_of image) coded channels turned.oriented is)

-- samples of 32 bits are the numbers that they stand for
pub same_grids : (gs : List (Grid ℤ)) → store_meanings (λ (v : ℤ). v) gs ≡ gs
same_grids [] = refl
same_grids (g ∷ gs) =
    ap (λ (cs : List ℤ). grid g.width g.height cs ∷ store_meanings (λ (v : ℤ). v) gs) (map-id g.cells) ∙ ap (λ (rest : List (Grid ℤ)). g ∷ rest) (same_grids gs)
