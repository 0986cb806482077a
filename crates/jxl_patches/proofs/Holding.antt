-- Slots in which frames are saved, and patches of them.
use Rattle.std.proofs.Common.{◌≡◌, ◌≢◌, ℕ, zero, suc, ◌+◌, ◌<◌, ◌≤◌, ℤ, List, [], length, get_or, Option, Some, None, refl, sym, ap, ◌∙◌, arith, subst, ◌⊎◌, inl, inr}
use Rattle.std.specs.Option.{option_map, option_map_or}
use Rattle.std.proofs.Math.ListN.{get_or-map}
use Rattle.std.proofs.lemmas.List.{get_or_default, get_or_past, length-map}
use Rattle.jxlm_base.specs.Grid.{Grid, grid}
use Rattle.jxl_image_header.specs.Images.{Image}
use Rattle.jxl_image_header.specs.declared.size.Size.{Size}
use Rattle.jxl_patches.specs.Dictionaries.{AreWithin}
use Rattle.jxl_patches.specs.Patches.{Patches}
use Rattle.jxl_patches.specs.Patched.{ArePatched, AreSaved, Fits, channel_of}
use Rattle.jxl_patches.specs.SavedParts.{frames_in, saved_of, slots_of}
use Rattle.jxl_patches.specs.declared.slots.SavedFrame.{SavedFrame}
use Rattle.jxl_patches.specs.declared.slots.SavedFrames.{SavedFrames}
use Rattle.jxl_patches.proofs.PatchedLaws.{read_patches_fit}
use Rattle.jxl_patches.specs.Slots.{AreOfSize, HoldFrames, Saved, Slots, frames_of, no_slots, sizes_of}

-- no slot of none holds a frame
pub none_held : (k : ℕ) (f : Saved) → get_or no_slots k None ≢ Some f
none_held zero f e = cc
none_held (suc zero) f e = cc
none_held (suc (suc zero)) f e = cc
none_held (suc (suc (suc zero))) f e = cc
none_held (suc (suc (suc (suc k)))) f e = cc

pub same_or_other : (j k : ℕ) → (j ≡ k) ⊎ (j ≢ k)
same_or_other zero zero = inl refl
same_or_other zero (suc k) = inr (λ e. cc)
same_or_other (suc j) zero = inr (λ e. cc)
same_or_other (suc j) (suc k) = by (same_or_other j k) where
  by : (j ≡ k) ⊎ (j ≢ k) → (suc j ≡ suc k) ⊎ (suc j ≢ suc k)
  by (inl e) = inl (ap suc e)
  by (inr ne) = inr (λ e. ne (omega (arith, e)))

pub within_or_not : (j n : ℕ) → (j < n) ⊎ (n ≤ j)
within_or_not j zero = inr (omega arith)
within_or_not zero (suc n) = inl (omega arith)
within_or_not (suc j) (suc n) = by (within_or_not j n) where
  by : (j < n) ⊎ (n ≤ j) → (suc j < suc n) ⊎ (suc n ≤ suc j)
  by (inl lt) = inl (omega (arith, lt))
  by (inr le) = inr (omega (arith, le))

-- how large the frame is that a slot holds, and its channels
pub size_at : (slots : Slots) (k : ℕ) → get_or (sizes_of slots) k None ≡ option_map (λ (f : Saved). f.size) (get_or slots k None)
size_at slots k = get_or-map (option_map (λ (f : Saved). f.size)) slots k None

pub frame_at : (slots : Slots) (k : ℕ) → get_or (frames_of slots) k [] ≡ option_map_or (λ (f : Saved). f.channels) (get_or slots k None) []
frame_at slots k = get_or-map (λ (held : Option Saved). option_map_or (λ (f : Saved). f.channels) held []) slots k None

-- a channel of the frame that a slot in memory holds
pub channel_at : (s : SavedFrames) (slot channel : ℕ) (o : Option SavedFrame) (f : SavedFrame) (g : Grid ℤ) → slot < length (frames_in s) → get_or s.slots slot o ≡ Some f →
    channel < length (get_or (frames_in s) slot []) → g ≡ get_or f.channels.items channel g → g ≡ channel_of (frames_in s) slot channel
channel_at s slot channel o f g lt some within at =
    let frames = length-map (slots_of s) (λ (held : Option Saved). option_map_or (λ (f : Saved). f.channels) held []) in
    let below : slot < length s.slots = omega (arith, lt, frames, length-map s.slots (option_map saved_of)) in
    let held : get_or (slots_of s) slot None ≡ Some (saved_of f) =
    get_or-map (option_map saved_of) s.slots slot None ∙ ap (option_map saved_of) (sym (get_or_default s.slots slot o None below) ∙ some) in
    let grids : get_or (frames_in s) slot [] ≡ f.channels.items = frame_at (slots_of s) slot ∙ ap (λ (h : Option Saved). option_map_or (λ (k : Saved). k.channels) h []) held in
    let inside : channel < length f.channels.items = subst (λ (gs : List (Grid ℤ)). channel < length gs) grids within in
    at ∙ get_or_default f.channels.items channel g (grid 0 0 []) inside ∙ ap (λ (gs : List (Grid ℤ)). get_or gs channel (grid 0 0 [])) (sym grids)

module _ (n : ℕ) (slots : Slots) (held : HoldFrames n slots) where
  -- where a slot has a size, it holds a frame of that size, with its channels
  frame_of : (k : ℕ) (size : Size) → get_or (sizes_of slots) k None ≡ Some size → (k < length (frames_of slots)) × AreOfSize n size (get_or (frames_of slots) k [])
  frame_of k size e = by (get_or slots k None) refl (sym (size_at slots k) ∙ e) where
    within : (f : Saved) → get_or slots k None ≡ Some f → (k < length slots) ⊎ (length slots ≤ k) → k < length (frames_of slots)
    within f is (inl lt) = omega (arith, lt, length-map slots (λ (held : Option Saved). option_map_or (λ (f : Saved). f.channels) held []))
    within f is (inr past) = let none = get_or_past slots k None past in cc

    by : (o : Option Saved) → get_or slots k None ≡ o → option_map (λ (f : Saved). f.size) o ≡ Some size → (k < length (frames_of slots)) × AreOfSize n size (get_or (frames_of slots) k [])
    by None is e = cc
    by (Some f) is e =
        let same : f.size ≡ size = cc in
        let grids : get_or (frames_of slots) k [] ≡ f.channels = frame_at slots k ∙ ap (λ (o : Option Saved). option_map_or (λ (f : Saved). f.channels) o []) is in (
          within f is (within_or_not k (length slots)),
          subst (λ (gs : List (Grid ℤ)). AreOfSize n size gs) (sym grids) (subst (λ (z : Size). AreOfSize n z f.channels) same (held k f is)),
        )

  pub are_saved : AreSaved (sizes_of slots) n (frames_of slots)
  are_saved = record {
    slot = λ k size e. (frame_of k size e).0;
    count = λ k size e. let is = (frame_of k size e).1.count in omega (arith, is);
    width = λ k c size e lt. let is = (frame_of k size e).1 in let count = is.count in is.sides.width c (omega (arith, lt, count));
    height = λ k c size e lt. let is = (frame_of k size e).1 in let count = is.count in is.sides.height c (omega (arith, lt, count));
  }

-- what was read for a frame may be applied to its channels
pub fits : (colours extra : ℕ) (size : Size) (slots : Slots) (patches : Patches) (channels : List (Grid ℤ)) → AreWithin size extra (sizes_of slots) patches → HoldFrames (colours + extra) slots →
    AreOfSize (colours + extra) size channels → Fits (frames_of slots) colours patches channels
fits colours extra size slots patches channels within held are =
    let saved : AreSaved (sizes_of slots) (length channels) (frames_of slots) = subst (λ m. AreSaved (sizes_of slots) m (frames_of slots)) (sym are.count) (are_saved (colours + extra) slots held) in
    read_patches_fit size extra (sizes_of slots) patches (frames_of slots) colours channels within saved are.sides are.count

-- patched channels keep their sizes
pub sizes_stay : (image : Image) (n colours : ℕ) (size : Size) (slots : Slots) (patches : Patches) (old changed : List (Grid ℤ)) → ArePatched image (frames_of slots) colours patches old changed → AreOfSize n size old →
    AreOfSize n size changed
sizes_stay image n colours size slots patches old changed put are = record {
  count = put.count ∙ are.count;
  sides = record {
    width = λ c lt. let in_old : c < length old = omega (arith, lt, put.count) in put.width c in_old ∙ are.sides.width c in_old;
    height = λ c lt. let in_old : c < length old = omega (arith, lt, put.count) in put.height c in_old ∙ are.sides.height c in_old;
  };
}
