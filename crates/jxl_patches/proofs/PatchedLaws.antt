-- What patches leave of a sample.
use Rattle.std.proofs.Common.{◌≡◌, ℕ, ℤ, zero, suc, ◌+◌, ◌*◌, ◌<◌, true, false, List, [], length, get_or, Option, ◌⊎◌, inl, inr, refl, ap, ◌∙◌, arith}
use Rattle.jxl_image_header.specs.declared.size.Size.{Size}
use Rattle.jxlm_base.specs.Grid.{Grid, grid}
use Rattle.jxlm_bits.proofs.Cases.{less_or_same}
use Rattle.jxl_patches.specs.Dictionaries.{IsWithin, place_at}
use Rattle.jxl_patches.specs.Patched.{Patching, covers, sample_laid, channel_of, kinds_of, mode_at, patched_pixel, PlaceFits, AreSaved, HaveSides, ReadPatchesFit}
use Rattle.jxl_patches.specs.declared.dictionary.Place.{Place}
use Rattle.jxl_patches.specs.declared.dictionary.PatchMode.TheVariants.{Replace}

module _ (t : Patching) (x y : ℕ) (samples : ℕ → ℤ) (c : ℕ) where
  abbrev so_far : ℕ → ℤ
  so_far n = patched_pixel t x y n samples c

  -- a place that does not cover the pixel leaves it
  passed : (n : ℕ) → covers (place_at t.patches n) x y ≡ false → so_far (suc n) ≡ so_far n
  unfolding patched_pixel
  passed n h = rw h refl

  -- and one that replaces its samples leaves its own
  placed : (n : ℕ) → covers (place_at t.patches n) x y ≡ true → mode_at t.patches t.colours t.channels n c ≡ Replace →
      so_far (suc n) ≡ sample_laid (channel_of t.frames (place_at t.patches n).source.slot c) (place_at t.patches n) x y
  unfolding patched_pixel
  placed n h r = rw (h, r) refl

  pub uncovered : (k : ℕ) → ((n : ℕ) → n < k → covers (place_at t.patches n) x y ≡ false) → so_far k ≡ samples c
  unfolding patched_pixel
  uncovered zero h = refl
  uncovered (suc k) h = passed k (h k (omega arith)) ∙ uncovered k (λ n lt. h n (omega (arith, lt)))

  pub replaced : (k n : ℕ) → n < k → covers (place_at t.patches n) x y ≡ true → mode_at t.patches t.colours t.channels n c ≡ Replace → ((m : ℕ) → n < m → m < k → covers (place_at t.patches m) x y ≡ false) →
      so_far k ≡ sample_laid (channel_of t.frames (place_at t.patches n).source.slot c) (place_at t.patches n) x y
  replaced zero n lt h r after = absurd (omega (arith, lt))
  replaced (suc k) n lt h r after = last (λ before. replaced k n before h r (λ m a b. after m a (omega (arith, b)))) (less_or_same n k lt)
    where
      last : (n < k → so_far k ≡ sample_laid (channel_of t.frames (place_at t.patches n).source.slot c) (place_at t.patches n) x y) → (n < k) ⊎ (n ≡ k) →
          so_far (suc k) ≡ sample_laid (channel_of t.frames (place_at t.patches n).source.slot c) (place_at t.patches n) x y
      last earlier (inl before) = passed k (after k before (omega arith)) ∙ earlier before
      last earlier (inr same) = rw (← same) (placed n h r)

-- ---- what was read fits

within_fits : (size : Size) (slots : List (Option Size)) (frames : List (List (Grid ℤ))) (channels : List (Grid ℤ)) (c : ℕ) (p : Place) → IsWithin size slots p → AreSaved slots (length channels) frames →
    HaveSides size channels → c < length channels → PlaceFits p (channel_of frames p.source.slot c) (get_or channels c (grid 0 0 []))
within_fits size slots frames channels c p w saved sides h =
    let a = sides.width c h in
    let b = sides.height c h in
    let x = saved.width p.source.slot c w.frame w.held h in
    let y = saved.height p.source.slot c w.frame w.held h in
    let i = w.columns in
    let j = w.rows in
    let k = w.source_columns in
    let l = w.source_rows in
    record { columns = omega (arith, a, i); rows = omega (arith, b, j); source_columns = omega (arith, x, k); source_rows = omega (arith, y, l) }

pub read_patches_fit : ReadPatchesFit
read_patches_fit size extra slots patches frames colours channels within saved sides count =
    let kinds : 1 + extra ≡ kinds_of colours (length channels) = omega (arith, count) in
    record {
      modes = within.modes ∙ ap (λ (n : ℕ). length patches.places * n) kinds;
      slots = λ n h. let w = within.each n h in saved.slot (place_at patches n).source.slot w.frame w.held;
      held = λ n c h k. let w = within.each n h in let most = saved.count (place_at patches n).source.slot w.frame w.held in omega (arith, most, k);
      places = λ n c h k. within_fits size slots frames channels c (place_at patches n) (within.each n h) saved sides k;
    }
