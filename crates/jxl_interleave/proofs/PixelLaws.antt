-- The channels of pixels: how many there are, and that each has a sample for each pixel.
use Rattle.std.proofs.Common.{◌≡◌, ℕ, ◌+◌, ◌*◌, ◌<◌, ◌≤◌, ℤ, List, [], ◌∷◌, length, map, take, drop, Option, Some, None, Bool, true, false, cond, refl, sym, ap, ◌∙◌, subst, add-mul, arith}
use Rattle.std.specs.Prelude.{option_to_list, if◌then◌else◌, ◌||◌, ◌&&◌}
use Rattle.std.specs.List.{All, AllZip, list_any, list_all}
use Rattle.std.specs.Option.{option_map}
use Rattle.std.proofs.lemmas.List.{length-append, length-map, length-take-le}
use Rattle.std.proofs.lemmas.List.Elements.{All-nil, All-cons, All-head, All-tail}
use Rattle.jxlm_base.specs.Grid.{Grid}
use Rattle.jxl_image_header.specs.Images.{Image}
use Rattle.jxl_image_header.specs.declared.channel.ExtraChannel.{ExtraChannel}
use Rattle.jxl_image_header.specs.declared.size.Size.{Size}
use Rattle.jxl_picture.specs.Pictures.{IsWhole, colour_count, has_full_alpha, is_full_alpha}
use Rattle.jxl_picture.specs.Sides.{HasShiftedSides, HasSides}
use Rattle.jxl_picture.proofs.Channels.{have_sides}
use Rattle.jxl_netpbm.specs.Formats.{can_stand, colour_layers, first_alpha, is_whole, most_of, pam_layers, tuple_count}
use Rattle.jxl_netpbm.specs.Rasters.{Layer, maximum}
use Rattle.jxl_netpbm.proofs.LayerLaws.{Cover, alpha_covers, maximum_some, whole_some}
use Rattle.jxl_netpbm.specs.Layers.{AllHave, Has, layer_of}
use Rattle.jxl_netpbm.specs.declared.layers.Layer.{Layer as Held}
use Rattle.jxl_interleave.specs.Inner.Layers.{CoverAll, CoversIf, layers_of, with_own}
use Rattle.jxl_interleave.specs.declared.pixels.Layers.{Layers}

both_true : (a b : Bool) → (a && b) ≡ true → (a ≡ true) × (b ≡ true)
both_true true true e = (refl, refl)
both_true true false e = cc
both_true false b e = cc

-- one or none
abbrev one_if : Bool → ℕ
one_if b = if b then 1 else 0

alpha_or_later : (l : Layer) (later : List Layer) (b rest : Bool) → length later ≡ one_if rest → length (cond b (l ∷ []) later) ≡ one_if (b || rest)
alpha_or_later l later true rest e = refl
alpha_or_later l later false rest e = e

-- there is an alpha channel, or none
alpha_count : (size : Size) (gs : List (Grid ℤ)) (cs : List ExtraChannel) → AllZip (HasShiftedSides size) cs gs → length (first_alpha gs cs) ≡ one_if (list_any is_full_alpha cs)
alpha_count size [] [] all = refl
alpha_count size [] (c ∷ cs) all = absurd all
alpha_count size (g ∷ gs) [] all = refl
alpha_count size (g ∷ gs) (c ∷ cs) all =
    alpha_or_later (record { grid = g; own = maximum c.bit_depth.bits_per_sample }) (first_alpha gs cs) (is_full_alpha c) (list_any is_full_alpha cs) (alpha_count size gs cs all.1)

one_more_if : (n : ℕ) (b : Bool) → n + one_if b ≡ (if b then n + 1 else n)
one_more_if n true = refl
one_more_if n false = omega arith

-- a pixel has as many channels as are counted
pub layer_count : (image : Image) (channels : List (Grid ℤ)) → IsWhole image channels → length (pam_layers image channels) ≡ tuple_count image
layer_count image channels whole =
    let n = colour_count image in
    let sides = have_sides image image.size channels whole in
    let make : Grid ℤ → Layer = λ g. record { grid = g; own = most_of image } in
    let parts = length-append (colour_layers image channels) (first_alpha (drop n channels) image.ec_info) in
    let colours : length (colour_layers image channels) ≡ n = length-map (take n channels) make ∙ length-take-le n channels (omega (arith, sides.count)) in
    let alpha = alpha_count image.size (drop n channels) image.ec_info sides.extra in
    parts ∙ ap (λ (k : ℕ). k + length (first_alpha (drop n channels) image.ec_info)) colours ∙ ap (λ (k : ℕ). n + k) alpha ∙ one_more_if n (has_full_alpha image)

one_has : (w h : ℕ) (g : Grid ℤ) → HasSides w h g → Has w h g
one_has w h g s = record { wide = omega (arith, s.wide); high = omega (arith, s.high) }

all_have : (w h : ℕ) (gs : List (Grid ℤ)) → All (HasSides w h) gs → AllHave w h gs
all_have w h [] all = All-nil (Has w h)
all_have w h (g ∷ gs) all = All-cons (Has w h) g gs (one_has w h g (All-head (HasSides w h) g gs all)) (all_have w h gs (All-tail (HasSides w h) g gs all))

alpha_held : (w h : ℕ) (alpha : Option Held) → All (Cover w h) (option_to_list (option_map layer_of alpha)) → CoversIf w h alpha
alpha_held w h None all = tt
alpha_held w h (Some l) all = let c = All-head (Cover w h) (layer_of l) [] all in record { wide = c.wide; high = c.high; some = c.some }

-- the channels of a picture that suits have a sample for each pixel
pub all_covered : (image : Image) (channels : List (Grid ℤ)) (l : Layers) → IsWhole image channels → (is_whole 16 image.bit_depth && list_all can_stand image.ec_info) ≡ true →
    l.colours.now ≡ take (colour_count image) channels → l.own ≡ most_of image → option_to_list (option_map layer_of l.alpha) ≡ first_alpha (drop (colour_count image) channels) image.ec_info →
    CoverAll image.size.width image.size.height l
all_covered image channels l whole suits front own alpha =
    let w = image.size.width in
    let h = image.size.height in
    let parts = both_true (is_whole 16 image.bit_depth) (list_all can_stand image.ec_info) suits in
    let sides = have_sides image image.size channels whole in
    let some : 0 < most_of image = maximum_some image.bit_depth.bits_per_sample (whole_some 16 image.bit_depth parts.0).0 in
    let covers : All (Cover w h) (first_alpha (drop (colour_count image) channels) image.ec_info) = alpha_covers image.size (drop (colour_count image) channels) image.ec_info sides.extra parts.1 in
    record {
      some = omega (arith, own, some);
      colours = subst (λ (gs : List (Grid ℤ)). AllHave w h gs) (sym front) (all_have w h (take (colour_count image) channels) sides.colours);
      alpha = alpha_held w h l.alpha (subst (λ (ls : List Layer). All (Cover w h) ls) (sym alpha) covers);
    }

less_have : (w h v k : ℕ) (gs : List (Grid ℤ)) → v ≤ w → k ≤ h → AllHave w h gs → AllHave v k gs
less_have w h v k [] le few all = All-nil (Has v k)
less_have w h v k (g ∷ gs) le few all =
    let c = All-head (Has w h) g gs all in
    All-cons (Has v k) g gs (record { wide = omega (arith, le, c.wide); high = omega (arith, few, c.high) }) (less_have w h v k gs le few (All-tail (Has w h) g gs all))

less_alpha : (w h v k : ℕ) (alpha : Option Held) → v ≤ w → k ≤ h → CoversIf w h alpha → CoversIf v k alpha
less_alpha w h v k None le few c = tt
less_alpha w h v k (Some l) le few c = record { wide = omega (arith, le, c.wide); high = omega (arith, few, c.high); some = c.some }

-- channels with these columns and rows have fewer
pub less_covered : (w h v k : ℕ) (l : Layers) → v ≤ w → k ≤ h → CoverAll w h l → CoverAll v k l
less_covered w h v k l le few all = record {
  some = all.some;
  colours = less_have w h v k l.colours.now le few all.colours;
  alpha = less_alpha w h v k l.alpha le few all.alpha;
}

-- how many channels of pixels there are
pub count_of_layers : (l : Layers) → length (layers_of l) ≡ length l.colours.now + length (option_to_list l.alpha)
count_of_layers l =
    length-append (map (with_own l.own) l.colours.now) (option_to_list (option_map layer_of l.alpha)) ∙ ap (λ (k : ℕ). k + length (option_to_list (option_map layer_of l.alpha))) (length-map l.colours.now (with_own l.own))
    ∙ ap (λ (k : ℕ). length l.colours.now + k) (as_many l.alpha) where
      as_many : (alpha : Option Held) → length (option_to_list (option_map layer_of alpha)) ≡ length (option_to_list alpha)
      as_many None = refl
      as_many (Some a) = refl

-- the bytes of colours and of alpha are those of a pixel
pub parts_room : (l : Layers) (b : ℕ) → length (layers_of l) * b ≡ length l.colours.now * b + length (option_to_list l.alpha) * b
parts_room l b = ap (λ (k : ℕ). k * b) (count_of_layers l) ∙ add-mul (length l.colours.now) (length (option_to_list l.alpha)) b
