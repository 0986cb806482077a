-- Channels, patched one after another, and places put one after another.
use Rattle.std.proofs.Common.{◌≡◌, ℕ, ℤ, ◌+◌, ◌-◌, ◌*◌, ◌<◌, ◌≤◌, Bool, true, false, List, [], length, get_or, set, inl, inr, refl, sym, ap, ◌∙◌, add-one, arith, subst}
use Rattle.std.specs.Prelude.{nat_lt, if◌then◌else◌}
use Rattle.std.proofs.lemmas.Bool.{cases_lt, ltb-true}
use Rattle.std.proofs.lemmas.List.{get_or-set_same, get_or-set_other}
use Rattle.jxl_image_header.specs.Images.{Image}
use Rattle.jxlm_base.specs.Grid.{Grid, at, grid}
use Rattle.jxl_patches.specs.Dictionaries.{place_at}
use Rattle.jxl_patches.specs.Patches.{Patches}
use Rattle.jxl_patches.specs.Patched.{ArePatched, Fits, Patching, alpha_of, channel_of, kind_of, kinds_of, mode_at, patched_pixel, patching, pixel, pixel_put}
use Rattle.jxl_patches.specs.Inner.Rows.{AreCovered, ArePlacePut, IsChannelMixed, IsChannelPut, IsPut, IsReadyChannel, mixed_cell}
use Rattle.jxl_patches.specs.declared.dictionary.Place.{Place}
use Rattle.jxl_patches.specs.declared.dictionary.PatchMode.{PatchMode}
use Rattle.jxl_patches.specs.declared.dictionary.PatchMode.TheVariants.{Keep, Replace, Add, Blend}
use Rattle.jxl_patches.proofs.MixedCells.{same_mixed}
use Rattle.jxl_patches.proofs.Putting.{IsInside, in_or_out, covers_inside, covers_outside, put_inside, put_outside}

module _ (old now : List (Grid ℤ)) (k : ℕ) (g d : Grid ℤ) where
  pub channels_more : (R : ℕ → Grid ℤ → Grid ℤ → Type 0) → k < length now → ((c : ℕ) → c < k → R c (get_or old c d) (get_or now c d)) → R k (get_or old k d) g →
      (c : ℕ) → c < k + 1 → R c (get_or old c d) (get_or (set now k g) c d)
  channels_more R within so_far here c lt = elim (cases_lt c k) [
    | inl before ↦ rw (get_or-set_other now k c g d (λ e. omega (arith, e, before))) (so_far c before)
    | inr ge ↦ let same : c ≡ k = omega (arith, lt, ge) in rw (same, get_or-set_same now k g d within) here
  ]

  pub channels_left : ((c : ℕ) → k ≤ c → get_or now c d ≡ get_or old c d) → (c : ℕ) → k + 1 ≤ c → get_or (set now k g) c d ≡ get_or old c d
  channels_left rest c ge = get_or-set_other now k c g d (λ e. omega (arith, e, ge)) ∙ rest c (omega (arith, ge))

-- each channel has a kind
pub kind_below : (colours c n : ℕ) → c < n → kind_of colours c < kinds_of colours n
kind_below colours c n h = omega (arith, h)

-- the alpha of a channel is a channel
chosen_below : (a c n : ℕ) (b : Bool) → nat_lt a n ≡ b → c < n → (if b then a else c) < n
chosen_below a c n true t lt = ltb-true a n t
chosen_below a c n false t lt = lt

pub alpha_below : (colours n : ℕ) (mode : PatchMode) (c : ℕ) → c < n → alpha_of colours n mode c < n
alpha_below colours n Keep c lt = lt
alpha_below colours n Replace c lt = lt
alpha_below colours n Add c lt = lt
alpha_below colours n (Blend b) c lt = chosen_below (colours + b.alpha_channel) c n (nat_lt (colours + b.alpha_channel) n) refl lt

-- ---- one place

module _ (image : Image) (frames : List (List (Grid ℤ))) (colours : ℕ) (patches : Patches) (n : ℕ) (grids parts : List (Grid ℤ)) (covered : AreCovered (place_at patches n) grids parts) (c : ℕ)
    (within : c < length grids) (new : Grid ℤ) (mixed : IsChannelMixed image frames colours patches n parts c (get_or grids c (grid 0 0 [])) new) where
  abbrev p : Place
  p = place_at patches n

  abbrev mode : PatchMode
  mode = mode_at patches colours (length grids) n c

  abbrev alpha : ℕ
  alpha = alpha_of colours (length grids) mode c

  abbrev f : ℕ → ℕ → ℤ → ℤ
  f = mixed_cell image colours mode c p (channel_of frames p.source.slot c) (channel_of frames p.source.slot alpha) (get_or parts alpha (grid 0 0 []))

  put : IsPut f p (get_or grids c (grid 0 0 [])) new
  put = subst (λ m. IsPut (mixed_cell image colours (mode_at patches colours m n c) c p (channel_of frames p.source.slot c)
      (channel_of frames p.source.slot (alpha_of colours m (mode_at patches colours m n c) c)) (get_or parts (alpha_of colours m (mode_at patches colours m n c) c) (grid 0 0 []))) p (get_or grids c (grid 0 0 [])) new)
      covered.count mixed

  under : (x y : ℕ) → IsInside p x y → at (get_or parts alpha (grid 0 0 [])) (x - p.x) (y - p.y) ≡ at (get_or grids alpha (grid 0 0 [])) x y
  under x y i =
      let across : p.x + (x - p.x) ≡ x = let l = i.left in omega (arith, l) in
      let down : p.y + (y - p.y) ≡ y = let l = i.top in omega (arith, l) in
      let wide : x - p.x < p.source.width = let l = i.left in let r = i.right in omega (arith, l, r) in
      let high : y - p.y < p.source.height = let l = i.top in let r = i.bottom in omega (arith, l, r) in
      (covered.each alpha (alpha_below colours (length grids) mode c within)).each (x - p.x) (y - p.y) wide high
      ∙ ap (λ (k : ℕ). at (get_or grids alpha (grid 0 0 [])) k (p.y + (y - p.y))) across ∙ ap (λ (k : ℕ). at (get_or grids alpha (grid 0 0 [])) x k) down

  pub channel_put : IsChannelPut (patching image frames colours patches grids) n c grids (get_or grids c (grid 0 0 [])) new
  channel_put = record {
    width = put.width;
    height = put.height;
    each = λ x y h k. put.each x y h k ∙ (elim (in_or_out p x y) [
      | inl i ↦ put_inside f p x y (pixel grids x y c) i ∙ same_mixed image colours mode c _ _ _ _ _ _ _ _ refl refl refl (under x y i) ∙ rw (covers_inside p x y i) refl
      | inr o ↦ put_outside f p x y (pixel grids x y c) o ∙ rw (covers_outside p x y o) refl
    ]);
  }

-- a place was put into a channel, by what was looked up for it
pub mixed_channel : (image : Image) (frames : List (List (Grid ℤ))) (colours : ℕ) (patches : Patches) (n : ℕ) (parts : List (Grid ℤ)) (c : ℕ) (old new : Grid ℤ) (p : Place) (mode : PatchMode) (alpha : ℕ) (samples source_alpha part : Grid ℤ) →
    p ≡ place_at patches n → mode ≡ mode_at patches colours (length parts) n c → alpha ≡ alpha_of colours (length parts) mode c → samples ≡ channel_of frames p.source.slot c →
    source_alpha ≡ channel_of frames p.source.slot alpha → part ≡ get_or parts alpha (grid 0 0 []) → IsPut (mixed_cell image colours mode c p samples source_alpha part) p old new → IsChannelMixed image frames colours patches n parts c old new
mixed_channel image frames colours patches n parts c old new p mode alpha samples source_alpha part ep em ea es et ek put =
    let a1 = subst (λ (g : Grid ℤ). IsPut (mixed_cell image colours mode c p g source_alpha part) p old new) es put in
    let a2 = subst (λ (g : Grid ℤ). IsPut (mixed_cell image colours mode c p (channel_of frames p.source.slot c) g part) p old new) et a1 in
    let a3 = subst (λ (g : Grid ℤ). IsPut (mixed_cell image colours mode c p (channel_of frames p.source.slot c) (channel_of frames p.source.slot alpha) g) p old new) ek a2 in
    let a4 = subst (λ (k : ℕ). IsPut (mixed_cell image colours mode c p (channel_of frames p.source.slot c) (channel_of frames p.source.slot k) (get_or parts k (grid 0 0 []))) p old new) ea a3 in
    let a5 = subst (λ (m : PatchMode). IsPut (mixed_cell image colours m c p (channel_of frames p.source.slot c) (channel_of frames p.source.slot (alpha_of colours (length parts) m c))
    (get_or parts (alpha_of colours (length parts) m c) (grid 0 0 []))) p old new) em a4 in
    subst (λ (q : Place). IsPut (mixed_cell image colours (mode_at patches colours (length parts) n c) c q (channel_of frames q.source.slot c)
    (channel_of frames q.source.slot (alpha_of colours (length parts) (mode_at patches colours (length parts) n c) c))
    (get_or parts (alpha_of colours (length parts) (mode_at patches colours (length parts) n c) c) (grid 0 0 []))) q old new) ep a5

-- a place can be put into each channel
pub ready_channel : (frames : List (List (Grid ℤ))) (colours : ℕ) (patches : Patches) (n : ℕ) (grids parts : List (Grid ℤ)) (c : ℕ) → n < length patches.places → c < length grids → Fits frames colours patches grids →
    AreCovered (place_at patches n) grids parts → IsReadyChannel frames colours patches n parts c (get_or grids c (grid 0 0 []))
ready_channel frames colours patches n grids parts c lt within fits covered = record {
  place = lt;
  channel = omega (arith, within, covered.count);
  modes = fits.modes ∙ ap (λ (m : ℕ). length patches.places * kinds_of colours m) (sym covered.count);
  slot = fits.slots n lt;
  held = λ k h. fits.held n k lt (omega (arith, h, covered.count));
  fits = λ k h.
      let own = fits.places n c lt within in
      let other = fits.places n k lt (omega (arith, h, covered.count)) in
      record { columns = own.columns; rows = own.rows; source_columns = other.source_columns; source_rows = other.source_rows };
  width = λ k h. (covered.each k (omega (arith, h, covered.count))).width;
  height = λ k h. (covered.each k (omega (arith, h, covered.count))).height;
}

-- ---- places one after another

-- the first n places were put
pub record ArePlacesPut (t : Patching) (n : ℕ) (old new : List (Grid ℤ)) : Type 0 where
  pub count : length new ≡ length old
  pub width : (c : ℕ) → c < length old → (get_or new c (grid 0 0 [])).width ≡ (get_or old c (grid 0 0 [])).width
  pub height : (c : ℕ) → c < length old → (get_or new c (grid 0 0 [])).height ≡ (get_or old c (grid 0 0 [])).height
  pub each : (c x y : ℕ) → c < length old → x < (get_or old c (grid 0 0 [])).width → y < (get_or old c (grid 0 0 [])).height →
      at (get_or new c (grid 0 0 [])) x y ≡ patched_pixel t x y n (pixel old x y) c

pub none_put : (t : Patching) (old : List (Grid ℤ)) → ArePlacesPut t 0 old old
unfolding patched_pixel
none_put t old = record { count = refl; width = λ c lt. refl; height = λ c lt. refl; each = λ c x y lt h k. refl }

-- patches fit channels of the same sides
pub fits_stay : (t : Patching) (n : ℕ) (frames : List (List (Grid ℤ))) (colours : ℕ) (patches : Patches) (old now : List (Grid ℤ)) → Fits frames colours patches old → ArePlacesPut t n old now → Fits frames colours patches now
fits_stay t n frames colours patches old now fits a = record {
  modes = fits.modes ∙ ap (λ (m : ℕ). length patches.places * kinds_of colours m) (sym a.count);
  slots = fits.slots;
  held = λ m c h k. fits.held m c h (omega (arith, k, a.count));
  places = λ m c h k.
      let lt : c < length old = omega (arith, k, a.count) in
      let g = fits.places m c h lt in
      let i = g.columns in
      let j = g.rows in
      let w = a.width c lt in
      let v = a.height c lt in
      record { columns = omega (arith, i, w); rows = omega (arith, j, v); source_columns = g.source_columns; source_rows = g.source_rows };
}

module _ (t : Patching) (n x y : ℕ) (f g : ℕ → ℤ) (c : ℕ) where
  -- pixels with the same samples, where they are looked at
  pub same_pixel_put : f c ≡ g c → (IsInside (place_at t.patches n) x y → f (alpha_of t.colours t.channels (mode_at t.patches t.colours t.channels n c) c) ≡ g (alpha_of t.colours t.channels (mode_at t.patches t.colours t.channels n c) c)) →
      pixel_put t n x y f c ≡ pixel_put t n x y g c
  same_pixel_put own alpha = elim (in_or_out (place_at t.patches n) x y) [
    | inl i ↦ rw (covers_inside (place_at t.patches n) x y i) (same_mixed t.image t.colours (mode_at t.patches t.colours t.channels n c) c _ _ _ _ _ _ _ _ refl refl own (alpha i))
    | inr o ↦ rw (covers_outside (place_at t.patches n) x y o) own
  ]

module _ (image : Image) (frames : List (List (Grid ℤ))) (colours : ℕ) (patches : Patches) (old now new : List (Grid ℤ)) (n : ℕ) (lt_n : n < length patches.places) (fits : Fits frames colours patches old)
    (so_far : ArePlacesPut (patching image frames colours patches old) n old now) (put : ArePlacePut (patching image frames colours patches now) n now new) where
  abbrev t : Patching
  t = patching image frames colours patches old

  one : ArePlacePut t n now new
  one = subst (λ m. ArePlacePut (record { image = image; colours = colours; channels = m; frames = frames; patches = patches }) n now new) so_far.count put

  more : (s : ℕ → ℤ) (x y c : ℕ) → pixel_put t n x y (patched_pixel t x y n s) c ≡ patched_pixel t x y (n + 1) s c
  unfolding patched_pixel
  more s x y c = rw (add-one n) refl

  each : (c x y : ℕ) → c < length old → x < (get_or old c (grid 0 0 [])).width → y < (get_or old c (grid 0 0 [])).height →
      at (get_or new c (grid 0 0 [])) x y ≡ patched_pixel t x y (n + 1) (pixel old x y) c
  each c x y lt h k =
      let within : c < length now = omega (arith, lt, so_far.count) in
      let wide = so_far.width c lt in
      let high = so_far.height c lt in
      let alpha : ℕ = alpha_of colours (length old) (mode_at patches colours (length old) n c) c in
      let below : alpha < length old = alpha_below colours (length old) (mode_at patches colours (length old) n c) c lt in
      let fit = fits.places n alpha lt_n below in
      let columns = fit.columns in
      let rows = fit.rows in
      (one.each c within).each x y (omega (arith, h, wide)) (omega (arith, k, high))
      ∙ same_pixel_put t n x y (pixel now x y) (patched_pixel t x y n (pixel old x y)) c (so_far.each c x y lt h k)
      (λ i. let right = i.right in let bottom = i.bottom in so_far.each alpha x y below (omega (arith, right, columns)) (omega (arith, bottom, rows)))
      ∙ more (pixel old x y) x y c

  pub place_more : ArePlacesPut t (n + 1) old new
  place_more = record {
    count = one.count ∙ so_far.count;
    width = λ c lt. (one.each c (omega (arith, lt, so_far.count))).width ∙ so_far.width c lt;
    height = λ c lt. (one.each c (omega (arith, lt, so_far.count))).height ∙ so_far.height c lt;
    each = each;
  }

pub all_put : (image : Image) (frames : List (List (Grid ℤ))) (colours : ℕ) (patches : Patches) (old new : List (Grid ℤ)) → ArePlacesPut (patching image frames colours patches old) (length patches.places) old new →
    ArePatched image frames colours patches old new
all_put image frames colours patches old new a = record { count = a.count; width = a.width; height = a.height; each = a.each }
