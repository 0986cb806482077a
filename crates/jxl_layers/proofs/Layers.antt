-- Channels of frames, composed with those that slots hold.
use Rattle.std.proofs.Common.{◌≡◌, ℕ, zero, suc, ◌+◌, ◌-◌, ◌<◌, ◌≤◌, ℤ, pos, Bool, true, false, List, [], ◌∷◌, ◌++◌, length, length-append, get_or, Option, Result, Some, None, Ok, Err, refl, sym, ap, subst, ◌∙◌, arith, below_more}
use Rattle.std.specs.Float.{Float}
use Rattle.std.specs.Prelude.{IfOk, if◌then◌else◌, option_and_then, slice_get, unwrap_or, not, nat_lt, ◌&&◌, ◌||◌, ◌==◌}
use Rattle.std.specs.Option.{option_map, option_map_or, option_or}
use Rattle.std.proofs.lemmas.Bool.{eqb-true}
use Rattle.std.proofs.lemmas.List.{get_or_append_left, get_or_push}
use Rattle.jxlm_base.specs.Grid.{Grid, IsFull, grid, filled}
use Rattle.jxl_image_header.specs.Images.{Image}
use Rattle.jxl_image_header.specs.declared.size.Size.{Size}
use Rattle.jxl_frame_header.specs.Codings.{coding_refusal}
use Rattle.jxl_frame_header.specs.Frames.{Frame, has_floats, has_shifts}
use Rattle.jxl_frame_header.specs.declared.blending.BlendingInfo.{BlendingInfo}
use Rattle.jxl_picture.specs.Limits.{channel_count}
use Rattle.jxl_codestream.proofs.Fronts.{first_none, passed, plain_coding, second_none}
use Rattle.jxl_picture.specs.Pictures.{colour_count}
use Rattle.jxl_patches.specs.Patched.{channel_of}
use Rattle.jxl_patches.specs.Slots.{AreOfSize, HoldFrames, HoldSingles, IsOfSize, Saved, Slots, frames_of, single_of, sizes_of}
use Rattle.jxl_patches.proofs.Holding.{frame_at, size_at}
use Rattle.jxl_blending.specs.Overlaps.{IsBlended, IsShownUnder}
use Rattle.jxl_blending.specs.Scales.{single_zero}
use Rattle.jxl_blending.specs.SingleGrids.{loaded_grid, singles_of}
use Rattle.jxl_blending.specs.declared.singles.Singles.{Singles}
use Rattle.jxl_blending.specs.declared.scale.Scale.{Scale}
use Rattle.jxl_blending.specs.declared.blending.ChannelBlending.{ChannelBlending}
use Rattle.jxl_layers.specs.Compositions.{AreSingles, IsComposed, IsLayered, IsShownOver, alpha_of, background, blending_of, channel_below, info_of, left_of, samples_below, scale_of, top_of, whole_below}
use Rattle.jxl_layers.specs.Inner.Compositions.{AreLayered}
use Rattle.jxl_layers.specs.Refusals.{composition_refusal, has_short_floats, is_other, is_taken, layer_refusal, slot_refusal, slots_refusal, use_refusal}
use Rattle.jxl_layers.specs.declared.error.LayerError.{LayerError}
use Rattle.jxl_layers.specs.declared.error.LayerError.TheVariants.{Background, BlendedFloats, ShiftedChannels}

both : (a b : Bool) → (a && b) ≡ true → (a ≡ true) × (b ≡ true)
both true b e = (refl, e)
both false b e = cc

not_false : (b : Bool) → not b ≡ false → b ≡ true
not_false true e = refl
not_false false e = cc

none_before : {X : Type 0} (b : Bool) (rest : Option X) → b ≡ false → (if b then None else rest) ≡ None → rest ≡ None
none_before true rest isnt e = cc
none_before false rest isnt e = e

same_size : (size z : Size) → is_other size (Some z) ≡ false → (z.width ≡ size.width) × (z.height ≡ size.height)
same_size size z e =
    let parts = both (z.width == size.width) (z.height == size.height) (not_false ((z.width == size.width) && (z.height == size.height)) e) in
    (eqb-true z.width size.width parts.0, eqb-true z.height size.height parts.1)

-- what a slot counts as: of a frame that was blended by its values, of another one by its samples, and zeros without a frame
pub single_below : (image : Image) (slots : Slots) (k c : ℕ) (g : Grid Float) → Some g ≡ single_of slots k c → g ≡ channel_below image slots k c
single_below image slots k c g e = ap (λ (o : Option (Grid Float)). unwrap_or o (whole_below image slots k c)) e

no_single : (image : Image) (slots : Slots) (k c : ℕ) → None ≡ single_of slots k c → whole_below image slots k c ≡ channel_below image slots k c
no_single image slots k c e = ap (λ (o : Option (Grid Float)). unwrap_or o (whole_below image slots k c)) e

abbrev whole_in : Image → ℕ → Option Saved → Grid Float
whole_in image c held = option_map_or (λ (f : Saved). loaded_grid (scale_of image c) (get_or f.channels c (grid 0 0 []))) held (filled image.size.width image.size.height single_zero)

pub none_below : (image : Image) (slots : Slots) (k c : ℕ) → None ≡ single_of slots k c → get_or (sizes_of slots) k None ≡ None → filled image.size.width image.size.height single_zero ≡ channel_below image slots k c
none_below image slots k c single e = by (get_or slots k None) refl (sym (size_at slots k) ∙ e) where
  by : (o : Option Saved) → get_or slots k None ≡ o → option_map (λ (f : Saved). f.size) o ≡ None → filled image.size.width image.size.height single_zero ≡ channel_below image slots k c
  by None is e = sym (ap (λ (o : Option Saved). whole_in image c o) is) ∙ no_single image slots k c single
  by (Some f) is e = cc

pub some_below : (image : Image) (slots : Slots) (z : Size) (k c : ℕ) (scale : Scale) (g : Grid ℤ) → None ≡ single_of slots k c → get_or (sizes_of slots) k None ≡ Some z → scale ≡ scale_of image c → g ≡ channel_of (frames_of slots) k c →
    loaded_grid scale g ≡ channel_below image slots k c
some_below image slots z k c scale g single e of_scale of_grid = by (get_or slots k None) refl (sym (size_at slots k) ∙ e) where
  by : (o : Option Saved) → get_or slots k None ≡ o → option_map (λ (f : Saved). f.size) o ≡ Some z → loaded_grid scale g ≡ channel_below image slots k c
  by None is e = cc
  by (Some f) is e =
      let grids : channel_of (frames_of slots) k c ≡ get_or f.channels c (grid 0 0 []) =
      ap (λ (gs : List (Grid ℤ)). get_or gs c (grid 0 0 [])) (frame_at slots k ∙ ap (λ (o : Option Saved). option_map_or (λ (f : Saved). f.channels) o []) is) in
      ap (λ (s : Scale). loaded_grid s g) of_scale ∙ ap (λ (h : Grid ℤ). loaded_grid (scale_of image c) h) (of_grid ∙ grids) ∙ sym (ap (λ (o : Option Saved). whole_in image c o) is) ∙ no_single image slots k c single

-- values that a slot holds are all there
pub single_full : (slots : Slots) (k c : ℕ) (g : Grid Float) → HoldSingles slots → Some g ≡ single_of slots k c → IsFull g
single_full slots k c g held e = by (get_or slots k None) refl where
  by : (o : Option Saved) → get_or slots k None ≡ o → IsFull g
  by None is =
      let none : single_of slots k c ≡ None = ap (λ (o : Option Saved). option_and_then (λ (f : Saved). option_and_then (λ (all : List (Grid Float)). slice_get all c) f.singles) o) is in
      let bad : ⊥ = cc in absurd bad
  by (Some f) is = (held k c f g is (sym e)).full

pub full_if : {E : Type 0} (r : Result Singles E) (g : Grid Float) → IsFull g → IfOk r (λ s. singles_of s ≡ g) → IfOk r (λ s. IsFull (singles_of s))
full_if (Ok s) g full same = subst (λ (x : Grid Float). IsFull x) (sym same) full
full_if (Err e) g full same = tt

-- a grid with these sides
pub record HasSides (size : Size) (g : Grid Float) : Type 0 where
  pub width : g.width ≡ size.width
  pub height : g.height ≡ size.height

-- it is as large as the picture, unless the slot holds a frame of another size
pub below_sides : (n : ℕ) (image : Image) (slots : Slots) (k c : ℕ) → HoldFrames n slots → HoldSingles slots → is_other image.size (get_or (sizes_of slots) k None) ≡ false → c < n → HasSides image.size (channel_below image slots k c)
below_sides n image slots k c held singles large lt = by (single_of slots k c) refl where
  of_frame : (f : Saved) → get_or slots k None ≡ Some f → (f.size.width ≡ image.size.width) × (f.size.height ≡ image.size.height)
  of_frame f is =
      let there : get_or (sizes_of slots) k None ≡ Some f.size = size_at slots k ∙ ap (option_map (λ (f : Saved). f.size)) is in
      same_size image.size f.size (subst (λ (o : Option Size). is_other image.size o ≡ false) there large)

  whole : (o : Option Saved) → get_or slots k None ≡ o → HasSides image.size (whole_in image c o)
  whole None is = record { width = refl; height = refl }
  whole (Some f) is =
      let sides = of_frame f is in
      let are = held k f is in
      let count : length f.channels ≡ n = are.count in
      record { width = are.sides.width c (omega (arith, lt, count)) ∙ sides.0; height = are.sides.height c (omega (arith, lt, count)) ∙ sides.1 }

  single : (g : Grid Float) (o : Option Saved) → get_or slots k None ≡ o → single_of slots k c ≡ Some g → HasSides image.size g
  single g None is e =
      let none : single_of slots k c ≡ None = ap (λ (o : Option Saved). option_and_then (λ (f : Saved). option_and_then (λ (all : List (Grid Float)). slice_get all c) f.singles) o) is in
      let bad : ⊥ = cc in absurd bad
  single g (Some f) is e =
      let sides = of_frame f is in
      let of = singles k c f g is e in
      record { width = of.width ∙ sides.0; height = of.height ∙ sides.1 }

  by : (o : Option (Grid Float)) → single_of slots k c ≡ o → HasSides image.size (channel_below image slots k c)
  by None e = subst (λ (g : Grid Float). HasSides image.size g) (no_single image slots k c (sym e)) (whole (get_or slots k None) refl)
  by (Some g) e = subst (λ (g : Grid Float). HasSides image.size g) (single_below image slots k c g (sym e)) (single g (get_or slots k None) refl e)

-- no channel is blended with a frame of another size
none_of : (size : Size) (slots : Slots) (bs : List BlendingInfo) (k : ℕ) (first : BlendingInfo) → slot_refusal size slots first ≡ None → slots_refusal size slots bs ≡ None → slot_refusal size slots (get_or bs k first) ≡ None
none_of size slots [] k first one all = one
none_of size slots (b ∷ bs) zero first one all = (first_none (slot_refusal size slots b) (slots_refusal size slots bs) all)
none_of size slots (b ∷ bs) (suc k) first one all = none_of size slots bs k first one (second_none (slot_refusal size slots b) (slots_refusal size slots bs) all)

pub none_refused : (h : Frame) (size : Size) (slots : Slots) (colours c : ℕ) → slots_refusal size slots (h.blending_info ∷ h.ec_blending_info) ≡ None → slot_refusal size slots (info_of h colours c) ≡ None
none_refused h size slots colours c none = by (nat_lt c colours) where
  parts : (slot_refusal size slots h.blending_info ≡ None) × (slots_refusal size slots h.ec_blending_info ≡ None)
  parts = (
    first_none (slot_refusal size slots h.blending_info) (slots_refusal size slots h.ec_blending_info) none,
    second_none (slot_refusal size slots h.blending_info) (slots_refusal size slots h.ec_blending_info) none,
  )

  by : (b : Bool) → slot_refusal size slots (if b then h.blending_info else get_or h.ec_blending_info (c - colours) h.blending_info) ≡ None
  by true = parts.0
  by false = none_of size slots h.ec_blending_info (c - colours) h.blending_info parts.0 parts.1

pub is_large : (size : Size) (slots : Slots) (info : BlendingInfo) → slot_refusal size slots info ≡ None → is_other size (get_or (sizes_of slots) info.source None) ≡ false
is_large size slots info none = (passed (is_other size (get_or (sizes_of slots) info.source None)) (Background info.source) None none).0

-- what is known where a frame is composed
pub unrefused : (image : Image) (h : Frame) (slots : Slots) → is_taken h ≡ false → composition_refusal image h slots ≡ None →
    (has_shifts image ≡ false) × (slots_refusal image.size slots (h.blending_info ∷ h.ec_blending_info) ≡ None)
unrefused image h slots isnt none =
    let floats = passed (has_short_floats image) BlendedFloats _ (none_before (is_taken h) _ isnt none) in
    passed (has_shifts image) ShiftedChannels _ floats.1

-- a channel was blended as the headers say
pub layered : (image : Image) (h : Frame) (slots : Slots) (channels : List (Grid ℤ)) (c alpha : ℕ) (b : ChannelBlending) (x y : ℤ) (front front_alpha : Grid ℤ) (below_alpha old new : Grid Float) →
    alpha ≡ alpha_of image (info_of h (colour_count image) c) c → b ≡ blending_of image h c → x ≡ left_of h → y ≡ top_of h → front ≡ get_or channels c (grid 0 0 []) → front_alpha ≡ get_or channels alpha (grid 0 0 []) →
    below_alpha ≡ background image h slots alpha → old ≡ background image h slots c → IsBlended b x y front front_alpha below_alpha old new → IsLayered image h slots channels c new
layered image h slots channels c alpha b x y front front_alpha below_alpha old new of_alpha of_b of_x of_y of_front of_front_alpha of_below of_old blended =
    let one : IsBlended (blending_of image h c) x y front front_alpha below_alpha old new = subst (λ (v : ChannelBlending). IsBlended v x y front front_alpha below_alpha old new) of_b blended in
    let two : IsBlended (blending_of image h c) (left_of h) y front front_alpha below_alpha old new = subst (λ (v : ℤ). IsBlended (blending_of image h c) v y front front_alpha below_alpha old new) of_x one in
    let three : IsBlended (blending_of image h c) (left_of h) (top_of h) front front_alpha below_alpha old new = subst (λ (v : ℤ). IsBlended (blending_of image h c) (left_of h) v front front_alpha below_alpha old new) of_y two in
    let four : IsBlended (blending_of image h c) (left_of h) (top_of h) (get_or channels c (grid 0 0 [])) front_alpha below_alpha old new =
    subst (λ (v : Grid ℤ). IsBlended (blending_of image h c) (left_of h) (top_of h) v front_alpha below_alpha old new) of_front three in
    let five = subst (λ (v : Grid ℤ). IsBlended (blending_of image h c) (left_of h) (top_of h) (get_or channels c (grid 0 0 [])) v below_alpha old new) of_front_alpha four in
    let six = subst (λ (v : Grid Float). IsBlended (blending_of image h c) (left_of h) (top_of h) (get_or channels c (grid 0 0 [])) (get_or channels alpha (grid 0 0 [])) v old new) of_below five in
    let seven = subst (λ (v : Grid Float). IsBlended (blending_of image h c) (left_of h) (top_of h) (get_or channels c (grid 0 0 [])) (get_or channels alpha (grid 0 0 [])) (background image h slots alpha) v new) of_old six in
    subst (λ (a : ℕ). IsBlended (blending_of image h c) (left_of h) (top_of h) (get_or channels c (grid 0 0 [])) (get_or channels a (grid 0 0 [])) (background image h slots a) (background image h slots c) new) of_alpha seven

-- what was made of a channel fills the picture
pub layered_sides : (image : Image) (h : Frame) (slots : Slots) (size : Size) (b : ChannelBlending) (x y : ℤ) (front front_alpha : Grid ℤ) (below_alpha old new : Grid Float) → IsOfSize size old → IsBlended b x y front front_alpha below_alpha old new → IsOfSize size new
layered_sides image h slots size b x y front front_alpha below_alpha old new are blended = record { width = blended.width ∙ are.width; height = blended.height ∙ are.height; full = blended.full }

pub channels_within : (channels : List (Grid ℤ)) (n c : ℕ) → length channels ≡ n → c < length channels → c < n
channels_within channels n c count lt = omega (arith, count, lt)

-- the samples of a channel are shown as the headers say
pub shown_over : (image : Image) (h : Frame) (slots : Slots) (channels : List (Grid ℤ)) (c : ℕ) (scale : Scale) (x y : ℤ) (width height : ℕ) (front : Grid ℤ) (values : Grid Float) (old new : Grid ℤ) →
    scale ≡ scale_of image c → x ≡ left_of h → y ≡ top_of h → front ≡ get_or channels c (grid 0 0 []) → width ≡ front.width → height ≡ front.height → old ≡ samples_below image h slots c → IsShownUnder scale x y width height values old new →
    IsShownOver image h slots channels c values new
shown_over image h slots channels c scale x y width height front values old new of_scale of_x of_y of_front of_width of_height of_old shown =
    let g : Grid ℤ = get_or channels c (grid 0 0 []) in
    let w : width ≡ g.width = of_width ∙ ap (λ (v : Grid ℤ). v.width) of_front in
    let t : height ≡ g.height = of_height ∙ ap (λ (v : Grid ℤ). v.height) of_front in
    let one : IsShownUnder (scale_of image c) x y width height values old new = subst (λ (v : Scale). IsShownUnder v x y width height values old new) of_scale shown in
    let two : IsShownUnder (scale_of image c) (left_of h) y width height values old new = subst (λ (v : ℤ). IsShownUnder (scale_of image c) v y width height values old new) of_x one in
    let three : IsShownUnder (scale_of image c) (left_of h) (top_of h) width height values old new = subst (λ (v : ℤ). IsShownUnder (scale_of image c) (left_of h) v width height values old new) of_y two in
    let four : IsShownUnder (scale_of image c) (left_of h) (top_of h) g.width height values old new = subst (λ (v : ℕ). IsShownUnder (scale_of image c) (left_of h) (top_of h) v height values old new) w three in
    let five : IsShownUnder (scale_of image c) (left_of h) (top_of h) g.width g.height values old new = subst (λ (v : ℕ). IsShownUnder (scale_of image c) (left_of h) (top_of h) g.width v values old new) t four in
    subst (λ (v : Grid ℤ). IsShownUnder (scale_of image c) (left_of h) (top_of h) g.width g.height values v new) of_old five

-- the samples of a slot, or zeros
abbrev sample_in : Image → ℕ → Option Saved → Grid ℤ
sample_in image c held = option_map_or (λ (f : Saved). get_or f.channels c (grid 0 0 [])) held (filled image.size.width image.size.height (pos 0))

pub samples_sides : (n : ℕ) (image : Image) (h : Frame) (slots : Slots) (c : ℕ) → HoldFrames n slots → is_other image.size (get_or (sizes_of slots) (info_of h (colour_count image) c).source None) ≡ false → c < n →
    ((samples_below image h slots c).width ≡ image.size.width) × ((samples_below image h slots c).height ≡ image.size.height)
samples_sides n image h slots c held large lt = by (get_or slots (info_of h (colour_count image) c).source None) refl where
  by : (o : Option Saved) → get_or slots (info_of h (colour_count image) c).source None ≡ o → ((sample_in image c o).width ≡ image.size.width) × ((sample_in image c o).height ≡ image.size.height)
  by None is = (refl, refl)
  by (Some f) is =
      let there : get_or (sizes_of slots) (info_of h (colour_count image) c).source None ≡ Some f.size = size_at slots (info_of h (colour_count image) c).source ∙ ap (option_map (λ (f : Saved). f.size)) is in
      let sides = same_size image.size f.size (subst (λ (o : Option Size). is_other image.size o ≡ false) there large) in
      let are = held (info_of h (colour_count image) c).source f is in
      let count : length f.channels ≡ n = are.count in
      (are.sides.width c (omega (arith, lt, count)) ∙ sides.0, are.sides.height c (omega (arith, lt, count)) ∙ sides.1)

-- the samples of a slot with a frame, and of one without
pub samples_some : (image : Image) (h : Frame) (slots : Slots) (z : Size) (k c : ℕ) (g : Grid ℤ) → k ≡ (info_of h (colour_count image) c).source → get_or (sizes_of slots) k None ≡ Some z → g ≡ channel_of (frames_of slots) k c → g ≡ samples_below image h slots c
samples_some image h slots z k c g same e of_grid = by (get_or slots k None) refl (sym (size_at slots k) ∙ e) where
  by : (o : Option Saved) → get_or slots k None ≡ o → option_map (λ (f : Saved). f.size) o ≡ Some z → g ≡ samples_below image h slots c
  by None is e = cc
  by (Some f) is e =
      let grids : channel_of (frames_of slots) k c ≡ get_or f.channels c (grid 0 0 []) =
      ap (λ (gs : List (Grid ℤ)). get_or gs c (grid 0 0 [])) (frame_at slots k ∙ ap (λ (o : Option Saved). option_map_or (λ (f : Saved). f.channels) o []) is) in
      of_grid ∙ grids ∙ sym (ap (λ (o : Option Saved). sample_in image c o) is) ∙ ap (λ (m : ℕ). sample_in image c (get_or slots m None)) same

pub samples_none : (image : Image) (h : Frame) (slots : Slots) (k c : ℕ) (g : Grid ℤ) → k ≡ (info_of h (colour_count image) c).source → get_or (sizes_of slots) k None ≡ None → g ≡ filled image.size.width image.size.height (pos 0) → g ≡ samples_below image h slots c
samples_none image h slots k c g same e of_grid = by (get_or slots k None) refl (sym (size_at slots k) ∙ e) where
  by : (o : Option Saved) → get_or slots k None ≡ o → option_map (λ (f : Saved). f.size) o ≡ None → g ≡ samples_below image h slots c
  by None is e = of_grid ∙ sym (ap (λ (o : Option Saved). sample_in image c o) is) ∙ ap (λ (m : ℕ). sample_in image c (get_or slots m None)) same
  by (Some f) is e = cc

-- one channel more was made
module _ {S : Type 0} (P : ℕ → Grid S → Type 0) (xs : List (Grid S)) (i : ℕ) (x : Grid S) (count : length xs ≡ i) where
  pub more_of : ((k : ℕ) → k < i → P k (get_or xs k (grid 0 0 []))) → P i x → (k : ℕ) → k < i + 1 → P k (get_or (xs ++ x ∷ []) k (grid 0 0 []))
  more_of before here =
      below_more (λ (k : ℕ). P k (get_or (xs ++ x ∷ []) k (grid 0 0 []))) i
      (λ k lt. subst (λ (g : Grid S). P k g) (sym (get_or_append_left xs (x ∷ []) (grid 0 0 []) k (omega (arith, lt, count)))) (before k lt))
      (subst (λ (g : Grid S). P i g) (sym (get_or_push xs x (grid 0 0 []) i count)) here)

module _ (image : Image) (h : Frame) (slots : Slots) (channels : List (Grid ℤ)) (i : ℕ) (values : List (Grid Float)) (pictures : List (Grid ℤ)) (so_far : AreLayered image h slots channels i values pictures) (value : Grid Float) (picture : Grid ℤ) where
  pairs : IsShownOver image h slots channels i value picture → (k : ℕ) → k < i + 1 → IsShownOver image h slots channels k (get_or (values ++ value ∷ []) k (grid 0 0 [])) (get_or (pictures ++ picture ∷ []) k (grid 0 0 []))
  pairs here = below_more (λ (k : ℕ). IsShownOver image h slots channels k (get_or (values ++ value ∷ []) k (grid 0 0 [])) (get_or (pictures ++ picture ∷ []) k (grid 0 0 []))) i
      (λ k lt. subst (λ (g : Grid ℤ). IsShownOver image h slots channels k (get_or (values ++ value ∷ []) k (grid 0 0 [])) g) (sym (get_or_append_left pictures (picture ∷ []) (grid 0 0 []) k (let n = so_far.count in omega (arith, lt, n))))
      (subst (λ (g : Grid Float). IsShownOver image h slots channels k g (get_or pictures k (grid 0 0 []))) (sym (get_or_append_left values (value ∷ []) (grid 0 0 []) k (let n = so_far.value_count in omega (arith, lt, n)))) (so_far.shown k lt)))
      (subst (λ (g : Grid ℤ). IsShownOver image h slots channels i (get_or (values ++ value ∷ []) i (grid 0 0 [])) g) (sym (get_or_push pictures picture (grid 0 0 []) i so_far.count))
      (subst (λ (g : Grid Float). IsShownOver image h slots channels i g picture) (sym (get_or_push values value (grid 0 0 []) i so_far.value_count)) here))

  pub more_layered : IsLayered image h slots channels i value → IsShownOver image h slots channels i value picture → IsOfSize image.size value → picture.width ≡ image.size.width → picture.height ≡ image.size.height →
      AreLayered image h slots channels (i + 1) (values ++ value ∷ []) (pictures ++ picture ∷ [])
  more_layered is shown of wide high = record {
    count = length-append pictures (picture ∷ []) ∙ ap (λ (n : ℕ). n + 1) so_far.count;
    value_count = length-append values (value ∷ []) ∙ ap (λ (n : ℕ). n + 1) so_far.value_count;
    each = more_of (λ (k : ℕ) (g : Grid Float). IsLayered image h slots channels k g) values i value so_far.value_count so_far.each is;
    shown = pairs shown;
    sides = more_of (λ (k : ℕ) (g : Grid Float). IsOfSize image.size g) values i value so_far.value_count so_far.sides of;
    width = more_of (λ (k : ℕ) (g : Grid ℤ). g.width ≡ image.size.width) pictures i picture so_far.count so_far.width wide;
    height = more_of (λ (k : ℕ) (g : Grid ℤ). g.height ≡ image.size.height) pictures i picture so_far.count so_far.height high;
  }

-- all channels were made
module _ (image : Image) (h : Frame) (slots : Slots) (channels : List (Grid ℤ)) (values : List (Grid Float)) (pictures : List (Grid ℤ)) (layers : AreLayered image h slots channels (length channels) values pictures) where
  pub all_composed : IsComposed image h slots channels values pictures
  all_composed = record { count = layers.count; value_count = layers.value_count; each = layers.each; shown = layers.shown }

  pub all_sides : length channels ≡ channel_count image → AreOfSize (channel_count image) image.size pictures
  all_sides many = record {
    count = layers.count ∙ many;
    sides = record {
      width = λ c lt. let n = layers.count in layers.width c (omega (arith, lt, n));
      height = λ c lt. let n = layers.count in layers.height c (omega (arith, lt, n));
    };
  }

  pub all_singles : AreSingles image.size values
  all_singles c lt = let n = layers.value_count in layers.sides c (omega (arith, lt, n))

-- a frame that is supported has no patches where an extra channel has a size of its own
pub plain : (image : Image) (h : Frame) → layer_refusal image h ≡ None → (h.coding.flags.patches && has_shifts image) ≡ false
plain image h supported =
    plain_coding (has_floats image) (has_shifts image) h.coding (first_none (coding_refusal (has_floats image) (has_shifts image) h.coding) (use_refusal h) supported)
