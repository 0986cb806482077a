-- Layers of a picture: each has the picture's sides, and a maximum above 0.
use Rattle.std.proofs.Common.{◌≡◌, ℕ, ◌+◌, ◌^◌, ◌<◌, ◌≤◌, ℤ, List, [], ◌∷◌, ◌++◌, length, get_or, take, drop, map, Bool, true, false, cond, refl, sym, ap, ◌∙◌, arith, add-one, drop-cons}
use Rattle.std.specs.Prelude.{◌&&◌, ◌||◌, ◌==◌, not, nat_le}
use Rattle.std.specs.List.{All, AllZip, list_all}
use Rattle.std.proofs.Math.Nat.{pow-le-pow_right}
use Rattle.std.proofs.lemmas.Bool.{eqb-true, leb-true}
use Rattle.std.proofs.lemmas.List.{drop_all, map-append, take_all, take_more}
use Rattle.std.proofs.lemmas.List.Elements.{All-nil, All-cons, All-head, All-tail, All-append}
use Rattle.jxlm_base.specs.Grid.{Grid}
use Rattle.jxl_image_header.specs.Images.{Image}
use Rattle.jxl_image_header.specs.declared.channel.ExtraChannel.{ExtraChannel}
use Rattle.jxl_image_header.specs.declared.channel.BitDepth.{BitDepth}
use Rattle.jxl_image_header.specs.declared.size.Size.{Size}
use Rattle.jxl_picture.specs.Pictures.{IsWhole, is_alpha, is_full_alpha}
use Rattle.jxl_picture.specs.Sides.{HasShiftedSides, HasSides}
use Rattle.jxl_netpbm.specs.Rasters.{Layer, maximum}
use Rattle.jxl_netpbm.specs.Formats.{can_stand, first_alpha, is_whole, colour_layers, colours_of, most_of, pam_layers}
use Rattle.jxl_picture.proofs.Shifts.{full_sides}
use Rattle.jxl_picture.proofs.Channels.{have_sides}
use Rattle.jxl_netpbm.specs.Layers.{AllCover, AllHave, Covers, Has, layer_of, layers_of}
use Rattle.jxl_netpbm.specs.declared.layers.Layer.{Layer as Held}

pub record Cover (width height : ℕ) (l : Layer) : Type 0 where
  pub wide : width ≤ l.grid.width
  pub high : height ≤ l.grid.height
  pub some : 0 < l.own

pub maximum_some : (bits : ℕ) → 1 ≤ bits → 0 < maximum bits
maximum_some bits some = let p : 2 ^ 1 ≤ 2 ^ bits = pow-le-pow_right (omega arith) some in omega (arith, p)

pub maximum_few : (bits : ℕ) → bits ≤ 16 → maximum bits < 2 ^ 16
maximum_few bits few = let p : 2 ^ bits ≤ 2 ^ 16 = pow-le-pow_right (omega arith) few in let q : 1 ≤ 2 ^ bits = pow-le-pow_right {n = 2} (omega arith) {i = 0} {j = bits} (omega arith) in omega (arith, p, q)

cover_held : (w h : ℕ) (l : Held) → Cover w h (layer_of l) → Covers w h l
cover_held w h l c = record { wide = c.wide; high = c.high; some = c.some }

pub covers_held : (w h : ℕ) (ls : List Held) → All (Cover w h) (layers_of ls) → AllCover w h ls
covers_held w h [] all = All-nil (Covers w h)
covers_held w h (l ∷ ls) all =
    All-cons (Covers w h) l ls (cover_held w h l (All-head (Cover w h) (layer_of l) (layers_of ls) all)) (covers_held w h ls (All-tail (Cover w h) (layer_of l) (layers_of ls) all))

one_covers : (w h own : ℕ) (g : Grid ℤ) → 0 < own → HasSides w h g → Cover w h (record { grid = g; own = own })
one_covers w h own g some s = record { wide = omega (arith, s.wide); high = omega (arith, s.high); some = some }

pub grids_cover : (w h own : ℕ) (gs : List (Grid ℤ)) → 0 < own → All (HasSides w h) gs → All (Cover w h) (map {B = Layer} (λ (g : Grid ℤ). record { grid = g; own = own }) gs)
grids_cover w h own [] some all = All-nil (Cover w h)
grids_cover w h own (g ∷ gs) some all =
    All-cons (Cover w h) (record { grid = g; own = own }) (map {B = Layer} (λ (g : Grid ℤ). record { grid = g; own = own }) gs) (one_covers w h own g some (All-head (HasSides w h) g gs all)) (grids_cover w h own gs some (All-tail (HasSides w h) g gs all))

both_true : (a b : Bool) → (a && b) ≡ true → (a ≡ true) × (b ≡ true)
both_true true true e = (refl, refl)
both_true true false e = cc
both_true false b e = cc

or_true : (a b : Bool) → (not a || b) ≡ true → a ≡ true → b ≡ true
or_true true b e is = e
or_true false b e is = cc

pub whole_some : (most : ℕ) (d : BitDepth) → is_whole most d ≡ true → (1 ≤ d.bits_per_sample) × (d.bits_per_sample ≤ most)
whole_some most d e =
    let (front, few) = both_true ((d.exp_bits == 0) && nat_le 1 d.bits_per_sample) (nat_le d.bits_per_sample most) e in
    let (exponent, some) = both_true (d.exp_bits == 0) (nat_le 1 d.bits_per_sample) front in
    (leb-true 1 d.bits_per_sample some, leb-true d.bits_per_sample most few)

abbrev CoversAll : Size → Layer → Type 0
CoversAll size l = Cover size.width size.height l

first_or_later : (size : Size) (g : Grid ℤ) (c : ExtraChannel) (later : List Layer) (b : Bool) → is_full_alpha c ≡ b → can_stand c ≡ true → HasShiftedSides size c g → All (CoversAll size) later → All (CoversAll size) (cond b (record { grid = g; own = maximum c.bit_depth.bits_per_sample } ∷ []) later)
first_or_later size g c later true is stands sides all =
    let some = (whole_some 31 c.bit_depth (or_true (is_full_alpha c) (is_whole 31 c.bit_depth) stands is)).0 in
    let none : c.dim_shift ≡ 0 = eqb-true c.dim_shift 0 (both_true (is_alpha c) (c.dim_shift == 0) is).1 in
    All-cons (CoversAll size) (record { grid = g; own = maximum c.bit_depth.bits_per_sample }) [] (one_covers size.width size.height (maximum c.bit_depth.bits_per_sample) g (maximum_some c.bit_depth.bits_per_sample some) (full_sides size c g none sides)) (All-nil (CoversAll size))
first_or_later size g c later false is stands sides all = all

pub alpha_covers : (size : Size) (gs : List (Grid ℤ)) (cs : List ExtraChannel) → AllZip (HasShiftedSides size) cs gs → list_all can_stand cs ≡ true → All (CoversAll size) (first_alpha gs cs)
alpha_covers size [] cs all e = All-nil (CoversAll size)
alpha_covers size (g ∷ gs) [] all e = All-nil (CoversAll size)
alpha_covers size (g ∷ gs) (c ∷ cs) all e =
    let parts = both_true (can_stand c) (list_all can_stand cs) e in
    first_or_later size g c (first_alpha gs cs) (is_full_alpha c) refl parts.0 all.0 (alpha_covers size gs cs all.1 parts.1)

pub colours_cover : (image : Image) (channels : List (Grid ℤ)) → IsWhole image channels → is_whole 16 image.bit_depth ≡ true → All (Cover image.size.width image.size.height) (colour_layers image channels)
colours_cover image channels whole depth =
    grids_cover image.size.width image.size.height (most_of image) (colours_of image channels) (maximum_some image.bit_depth.bits_per_sample (whole_some 16 image.bit_depth depth).0)
    (have_sides image image.size channels whole).colours

pub pam_covers : (image : Image) (channels : List (Grid ℤ)) → IsWhole image channels → (is_whole 16 image.bit_depth && list_all can_stand image.ec_info) ≡ true → All (Cover image.size.width image.size.height) (pam_layers image channels)
pam_covers image channels whole suits =
    let (depth, alpha) = both_true (is_whole 16 image.bit_depth) (list_all can_stand image.ec_info) suits in
    All-append (Cover image.size.width image.size.height) (colour_layers image channels) _ (colours_cover image channels whole depth)
    (alpha_covers image.size _ image.ec_info (have_sides image image.size channels whole).extra alpha)

one_has : (w h : ℕ) (g : Grid ℤ) → HasSides w h g → Has w h g
one_has w h g s = record { wide = omega (arith, s.wide); high = omega (arith, s.high) }

pub sides_have : (w h : ℕ) (gs : List (Grid ℤ)) → All (HasSides w h) gs → AllHave w h gs
sides_have w h [] all = All-nil (Has w h)
sides_have w h (g ∷ gs) all = All-cons (Has w h) g gs (one_has w h g (All-head (HasSides w h) g gs all)) (sides_have w h gs (All-tail (HasSides w h) g gs all))

-- one more layer, and one less channel to look at
pub layers_more : (own : ℕ) (gs : List (Grid ℤ)) (i : ℕ) (g : Grid ℤ) (ls after : List Held) (l : Held) → i < length gs → g ≡ get_or gs i g → layers_of ls ≡ map {B = Layer} (λ (g : Grid ℤ). record { grid = g; own = own }) (take i gs) →
    after ≡ ls ++ l ∷ [] → layer_of l ≡ record { grid = g; own = own } → layers_of after ≡ map {B = Layer} (λ (g : Grid ℤ). record { grid = g; own = own }) (take (i + 1) gs)
layers_more own gs i g ls after l within is before pushed same =
    let f : Grid ℤ → Layer = λ (g : Grid ℤ). record { grid = g; own = own } in
    let left : layers_of after ≡ map f (take i gs) ++ f g ∷ [] = ap layers_of pushed ∙ map-append layer_of ls (l ∷ []) ∙ ap (λ (x : List Layer). x ++ layer_of l ∷ []) before ∙ ap (λ (x : Layer). map f (take i gs) ++ x ∷ []) same in
    let right : map f (take (i + 1) gs) ≡ map f (take i gs) ++ f g ∷ [] = ap (map f) (take_more gs i g within) ∙ map-append f (take i gs) (get_or gs i g ∷ []) ∙ ap (λ (x : Grid ℤ). map f (take i gs) ++ f x ∷ []) (sym is) in
    left ∙ sym right

pub layers_all : (own : ℕ) (gs : List (Grid ℤ)) (i : ℕ) (ls : List Held) → length gs ≤ i → layers_of ls ≡ map {B = Layer} (λ (g : Grid ℤ). record { grid = g; own = own }) (take i gs) →
    layers_of ls ≡ map {B = Layer} (λ (g : Grid ℤ). record { grid = g; own = own }) gs
layers_all own gs i ls all e = e ∙ ap (map {B = Layer} (λ (g : Grid ℤ). record { grid = g; own = own })) (take_all i gs all)

pub alpha_here : (gs : List (Grid ℤ)) (cs : List ExtraChannel) (k : ℕ) (g : Grid ℤ) (c : ExtraChannel) → k < length gs → k < length cs →
    first_alpha (drop k gs) (drop k cs) ≡ cond (is_full_alpha (get_or cs k c)) (record { grid = get_or gs k g; own = maximum (get_or cs k c).bit_depth.bits_per_sample } ∷ []) (first_alpha (drop (k + 1) gs) (drop (k + 1) cs))
alpha_here gs cs k g c a b = rw (add-one, drop-cons gs k g, drop-cons cs k c) refl

pub no_more_alpha : (gs : List (Grid ℤ)) (cs : List ExtraChannel) (k : ℕ) → length cs ≤ k → first_alpha (drop k gs) (drop k cs) ≡ []
no_more_alpha gs cs k all = ap (first_alpha (drop k gs)) (drop_all k cs all) ∙ none (drop k gs) where
  none : (gs : List (Grid ℤ)) → first_alpha gs [] ≡ []
  none [] = refl
  none (g ∷ gs) = refl
