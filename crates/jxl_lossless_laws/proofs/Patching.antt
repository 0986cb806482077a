-- Frames that hold the same samples give the same patches.
use Rattle.std.proofs.Common.{◌≡◌, inl, inr, ℕ, zero, suc, ◌+◌, ◌-◌, ◌<◌, ◌≤◌, ℤ, List, [], ◌∷◌, length, get_or, Option, Some, None, refl, sym, ap, ◌∙◌, subst, arith}
use Rattle.std.specs.List.{AllZip}
use Rattle.std.specs.Prelude.{set}
use Rattle.jxlm_base.specs.Grid.{Grid, grid}
use Rattle.jxl_image_header.specs.Images.{Image}
use Rattle.jxl_image_header.specs.declared.size.Size.{Size}
use Rattle.jxl_patches.specs.Dictionaries.{place_at}
use Rattle.jxl_patches.specs.Patched.{ArePatched, Fits, Patching, alpha_of, channel_of, mode_at, patched_pixel, patching, pixel, pixel_put, sample_laid}
use Rattle.jxl_patches.specs.Patches.{Patches}
use Rattle.jxl_patches.specs.Slots.{ArePut, Saved, Slots, frames_of, no_slots, saved_in, sizes_of}
use Rattle.jxl_patches.specs.declared.dictionary.PatchMode.{PatchMode}
use Rattle.jxl_patches.specs.declared.dictionary.Place.{Place}
use Rattle.jxl_patches.proofs.Channels.{alpha_below}
use Rattle.jxl_patches.proofs.MixedCells.{same_mixed}
use Rattle.jxl_patches.proofs.Putting.{IsInside, covers_inside, covers_outside, in_or_out}
use Rattle.jxl_lossless_laws.specs.Same.{AreSameChannels, IsSameChannel}

-- ---- the same channels

pub same_itself : (g : Grid ℤ) → IsSameChannel g g
same_itself g = record { width = refl; height = refl; samples = λ x y lx ly. refl }

pub all_themselves : (gs : List (Grid ℤ)) → AreSameChannels gs gs
all_themselves [] = tt
all_themselves (g ∷ gs) = (same_itself g, all_themselves gs)

pub all_same : (gs hs : List (Grid ℤ)) → gs ≡ hs → AreSameChannels gs hs
all_same gs hs e = subst (AreSameChannels gs) e (all_themselves gs)

channel_same : (gs hs : List (Grid ℤ)) (c : ℕ) → AreSameChannels gs hs → IsSameChannel (get_or gs c (grid 0 0 [])) (get_or hs c (grid 0 0 []))
channel_same [] [] c z = same_itself (grid 0 0 [])
channel_same [] (h ∷ hs) c z = absurd z
channel_same (g ∷ gs) [] c z = absurd z
channel_same (g ∷ gs) (h ∷ hs) zero z = z.0
channel_same (g ∷ gs) (h ∷ hs) (suc c) z = channel_same gs hs c z.1

from_each : (gs hs : List (Grid ℤ)) → length gs ≡ length hs → ((c : ℕ) → c < length gs → IsSameChannel (get_or gs c (grid 0 0 [])) (get_or hs c (grid 0 0 []))) → AreSameChannels gs hs
from_each [] [] long each = tt
from_each [] (h ∷ hs) long each = absurd (omega (arith, long))
from_each (g ∷ gs) [] long each = absurd (omega (arith, long))
from_each (g ∷ gs) (h ∷ hs) long each = (each 0 (omega arith), from_each gs hs (omega (arith, long)) (λ c lt. each (suc c) (omega (arith, lt))))

-- ---- slots that hold the same

-- two slots hold none, or frames of one size with the same channels
abbrev pub HoldSame : Option Saved → Option Saved → Type 0
HoldSame None None = Unit {0}
HoldSame (Some f) (Some g) = (f.size ≡ g.size) × AreSameChannels f.channels g.channels
HoldSame one other = ⊥

abbrev pub SameSlots : Slots → Slots → Type 0
SameSlots some others = AllZip HoldSame some others

pub same_none : SameSlots no_slots no_slots
same_none = (tt, (tt, (tt, (tt, tt))))

same_set : (some others : Slots) (k : ℕ) (f g : Saved) → SameSlots some others → (f.size ≡ g.size) × AreSameChannels f.channels g.channels → SameSlots (set some k (Some f)) (set others k (Some g))
same_set [] [] k f g z h = tt
same_set [] (o ∷ os) k f g z h = absurd z
same_set (s ∷ ss) [] k f g z h = absurd z
same_set (s ∷ ss) (o ∷ os) zero f g z h = (h, z.1)
same_set (s ∷ ss) (o ∷ os) (suc k) f g z h = (z.0, same_set ss os k f g z.1 h)

-- a frame with the same channels is saved in both
pub same_saved : (some others : Slots) (k : ℕ) (size : Size) (gs hs : List (Grid ℤ)) → SameSlots some others → AreSameChannels gs hs → SameSlots (saved_in some k size gs) (saved_in others k size hs)
same_saved some others k size gs hs z h = same_set some others k (record { size = size; channels = gs; singles = None }) (record { size = size; channels = hs; singles = None }) z (refl, h)

pub same_sizes : (some others : Slots) → SameSlots some others → sizes_of some ≡ sizes_of others
same_sizes [] [] z = refl
same_sizes [] (o ∷ os) z = absurd z
same_sizes (s ∷ ss) [] z = absurd z
same_sizes (None ∷ ss) (None ∷ os) z = ap (λ (xs : List (Option Size)). None ∷ xs) (same_sizes ss os z.1)
same_sizes (None ∷ ss) (Some g ∷ os) z = absurd z.0
same_sizes (Some f ∷ ss) (None ∷ os) z = absurd z.0
same_sizes (Some f ∷ ss) (Some g ∷ os) z = ap (λ (x : Size). Some x ∷ sizes_of ss) z.0.0 ∙ ap (λ (xs : List (Option Size)). Some g.size ∷ xs) (same_sizes ss os z.1)

frame_same : (some others : Slots) (k : ℕ) → SameSlots some others → AreSameChannels (get_or (frames_of some) k []) (get_or (frames_of others) k [])
frame_same [] [] k z = tt
frame_same [] (o ∷ os) k z = absurd z
frame_same (s ∷ ss) [] k z = absurd z
frame_same (None ∷ ss) (None ∷ os) zero z = tt
frame_same (None ∷ ss) (Some g ∷ os) zero z = absurd z.0
frame_same (Some f ∷ ss) (None ∷ os) zero z = absurd z.0
frame_same (Some f ∷ ss) (Some g ∷ os) zero z = z.0.1
frame_same (s ∷ ss) (o ∷ os) (suc k) z = frame_same ss os k z.1

-- ---- patches of them

module _ (some others : Slots) (same : SameSlots some others) where
  source_same : (slot channel : ℕ) → IsSameChannel (channel_of (frames_of some) slot channel) (channel_of (frames_of others) slot channel)
  source_same slot channel = channel_same (get_or (frames_of some) slot []) (get_or (frames_of others) slot []) channel (frame_same some others slot same)

  module _ (image : Image) (colours : ℕ) (patches : Patches) (old : List (Grid ℤ)) (fits : Fits (frames_of some) colours patches old) (x y : ℕ) where
    abbrev one : Patching
    one = patching image (frames_of some) colours patches old

    abbrev other : Patching
    other = patching image (frames_of others) colours patches old

    -- the sample of either that lies on a pixel
    laid_same : (n k : ℕ) → n < length patches.places → k < length old → IsInside (place_at patches n) x y →
        sample_laid (channel_of (frames_of some) (place_at patches n).source.slot k) (place_at patches n) x y ≡ sample_laid (channel_of (frames_of others) (place_at patches n).source.slot k) (place_at patches n) x y
    laid_same n k lt within inside =
        let p : Place = place_at patches n in
        let fit = fits.places n k lt within in
        let wide = fit.source_columns in
        let high = fit.source_rows in
        let left = inside.left in
        let right = inside.right in
        let top = inside.top in
        let bottom = inside.bottom in
        (source_same p.source.slot k).samples (p.source.x0 + (x - p.x)) (p.source.y0 + (y - p.y)) (omega (arith, wide, left, right)) (omega (arith, high, top, bottom))

    put_same : (n : ℕ) → n < length patches.places → (f g : ℕ → ℤ) → ((k : ℕ) → k < length old → f k ≡ g k) → (c : ℕ) → c < length old → pixel_put one n x y f c ≡ pixel_put other n x y g c
    put_same n lt f g same c within =
        let mode : PatchMode = mode_at patches colours (length old) n c in
        let alpha : ℕ = alpha_of colours (length old) mode c in
        let below : alpha < length old = alpha_below colours (length old) mode c within in
        elim (in_or_out (place_at patches n) x y) [
          | inl inside ↦ rw (covers_inside (place_at patches n) x y inside)
              (same_mixed image colours mode c _ _ _ _ _ _ _ _ (laid_same n c lt within inside) (laid_same n alpha lt below inside) (same c within) (same alpha below))
          | inr out ↦ rw (covers_outside (place_at patches n) x y out) (same c within)
        ]

    patched_same : (samples : ℕ → ℤ) (n : ℕ) → n ≤ length patches.places → (c : ℕ) → c < length old → patched_pixel one x y n samples c ≡ patched_pixel other x y n samples c
    unfolding patched_pixel
    patched_same samples zero le c within = refl
    patched_same samples (suc n) le c within = put_same n (omega (arith, le)) _ _ (patched_same samples n (omega (arith, le))) c within

  -- channels that are patched by either
  pub same_patched : (image : Image) (colours : ℕ) (patches : Patches) (old gs hs : List (Grid ℤ)) → Fits (frames_of some) colours patches old → ArePatched image (frames_of some) colours patches old gs →
      ArePatched image (frames_of others) colours patches old hs → AreSameChannels gs hs
  same_patched image colours patches old gs hs fits a b =
      from_each gs hs (a.count ∙ sym b.count) (λ c lt.
      let within : c < length old = subst (λ n. c < n) a.count lt in
      record {
        width = a.width c within ∙ sym (b.width c within);
        height = a.height c within ∙ sym (b.height c within);
        samples = λ x y lx ly.
            let wide : x < (get_or old c (grid 0 0 [])).width = subst (λ n. x < n) (a.width c within) lx in
            let high : y < (get_or old c (grid 0 0 [])).height = subst (λ n. y < n) (a.height c within) ly in
            a.each c x y within wide high ∙ patched_same image colours patches old fits x y (pixel old x y) (length patches.places) (omega arith) c within ∙ sym (b.each c x y within wide high);
      })

  -- patches are put, if there are any
  pub same_put : (image : Image) (colours : ℕ) (patches : Option Patches) (old gs hs : List (Grid ℤ)) → ((p : Patches) → patches ≡ Some p → Fits (frames_of some) colours p old) →
      ArePut image some colours patches old gs → ArePut image others colours patches old hs → AreSameChannels gs hs
  same_put image colours None old gs hs fits a b = all_same gs hs (a ∙ sym b)
  same_put image colours (Some p) old gs hs fits a b = same_patched image colours p old gs hs (fits p refl) a b
