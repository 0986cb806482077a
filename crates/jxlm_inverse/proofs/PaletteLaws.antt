-- A table and an index channel have one list of finished channels.
use Rattle.std.proofs.Common.{◌≡◌, inl, inr, ℕ, suc, zero, ◌+◌, ◌*◌, ◌/◌, ◌%◌, ◌<◌, ◌≤◌, List, [], ◌∷◌, ◌++◌, length, ℤ, pos, sym, refl, ap, ◌∙◌, arith, subst}
use Rattle.std.specs.Prelude.{get_or, take}
use Rattle.std.specs.Int.{Width}
use Rattle.std.proofs.lemmas.Bool.{cases_lt}
use Rattle.std.proofs.lemmas.List.{length-append, take_more, take_all, take-append-le, get_or_append_left, get_or_push, get_or_default}
use Rattle.std.proofs.lemmas.List.FromFn.{fill_by_all, length-map-range_with_len, get_or-map-range_with_len}
use Rattle.std.proofs.lemmas.Nat.{div-add-mod', div_below, mod_below, mul-add-lt}
use Rattle.jxlm_base.specs.Grid.{Grid, grid, at, place, below}
use Rattle.jxlm_transform.specs.declared.transform.Palette.{Palette}
use Rattle.jxlm_transform.specs.Channels.{HasSides}
use Rattle.jxlm_inverse.specs.Palette.{IsPaletteOf, finished_sample, finished_samples, finished_channel, finished_channels, PaletteHasOneImage}

positive : (w h n : ℕ) → n < w * h → 0 < w
positive zero h n p = absurd (omega arith)
positive (suc w) h n p = omega arith

module _ (w : Width) (depth : ℕ) (t : Palette) (table index : Grid ℤ) (c : ℕ) where
  -- sample k after the ones before
  abbrev next : ℕ → List ℤ → ℤ
  next k before = finished_sample w depth t table (get_or index.cells k (pos 0)) c before index.width

  abbrev up_to : ℕ → List ℤ
  up_to n = finished_samples w depth t table index c n

  -- the samples of the channel with these cells are what the indices stand for
  AreSamples : List ℤ → Type 0
  AreSamples cs = (x y : ℕ) → x < index.width → y < index.height → get_or cs (y * index.width + x) (pos 0) ≡ next (y * index.width + x) (take (y * index.width + x) cs)

  front : (cs : List ℤ) (n : ℕ) → length cs ≡ index.width * index.height → AreSamples cs → n ≤ length cs → take n cs ≡ up_to n
  unfolding AreSamples
  front cs zero long samples below = refl
  front cs (suc n) long samples below =
      let some : 0 < index.width = positive index.width index.height n (omega arith) in
      let x : ℕ = n % index.width in
      let y : ℕ = n / index.width in
      let is : y * index.width + x ≡ n = div-add-mod' n index.width in
      let row : y < index.height = div_below n index.width index.height some (omega arith) in
      let sample : get_or cs n (pos 0) ≡ next n (take n cs) =
      subst (λ k. get_or cs k (pos 0) ≡ next k (take k cs)) is (samples x y (mod_below n index.width some) row) in
      let before : take n cs ≡ up_to n = front cs n long samples (omega arith) in
      let more : suc n ≡ n + 1 = omega arith in
      ap (λ k. take k cs) more ∙ take_more cs n (pos 0) (omega arith)
      ∙ ap (λ v. take n cs ++ v ∷ []) sample ∙ ap (λ xs. xs ++ next n xs ∷ []) before

  pub length-samples : (n : ℕ) → length (up_to n) ≡ n
  length-samples zero = refl
  length-samples (suc n) = length-append (up_to n) (next n (up_to n) ∷ []) ∙ (let ih = length-samples n in omega arith)

  take-samples : (n m : ℕ) → n ≤ m → take n (up_to m) ≡ up_to n
  take-samples zero zero l = refl
  take-samples (suc n) zero l = absurd (omega arith)
  take-samples n (suc m) l =
      let ih = length-samples m in
      let s : List ℤ = next m (up_to m) ∷ [] in
      elim (cases_lt m n) [
        | inl lt ↦ (let same : n ≡ suc m = omega arith in take_all n (up_to m ++ s) (let k = length-samples (suc m) in omega arith) ∙ ap up_to (sym same))
        | inr le ↦ take-append-le n (up_to m) s (omega arith) ∙ take-samples n m le
      ]

  sample_at : (k m : ℕ) → k < m → get_or (up_to m) k (pos 0) ≡ next k (up_to k)
  sample_at k zero l = absurd (omega arith)
  sample_at k (suc m) l =
      let ih = length-samples m in
      let s : ℤ = next m (up_to m) in
      elim (cases_lt k m) [
        | inl lt ↦ get_or_append_left (up_to m) (s ∷ []) (pos 0) k (omega arith) ∙ sample_at k m lt
        | inr le ↦ (let same : m ≡ k = omega arith in get_or_push (up_to m) s (pos 0) k (omega arith) ∙ ap (λ j. next j (up_to j)) same)
      ]

  -- a grid whose samples are those is the finished channel
  pub is_finished : (g : Grid ℤ) → HasSides index.width index.height g → take (index.width * index.height) g.cells ≡ up_to (index.width * index.height) → g ≡ finished_channel w depth t table index c
  is_finished g of same =
      let full : length g.cells ≡ index.width * index.height = of.full ∙ ap (λ n. n * g.height) of.same_width ∙ ap (λ n. index.width * n) of.same_height in
      let all : take (index.width * index.height) g.cells ≡ g.cells = take_all (index.width * index.height) g.cells (omega arith) in
      ap (λ n. grid n g.height g.cells) of.same_width ∙ ap (λ n. grid index.width n g.cells) of.same_height ∙ ap (grid index.width index.height) (sym all ∙ same)

  one_channel : (g : Grid ℤ) → HasSides index.width index.height g →
      ((x y : ℕ) → x < index.width → y < index.height → at g x y ≡ finished_sample w depth t table (at index x y) c (take (place g x y) g.cells) index.width) → g ≡ finished_channel w depth t table index c
  unfolding AreSamples
  one_channel g of samples =
      let full : length g.cells ≡ index.width * index.height = of.full ∙ ap (λ n. n * g.height) of.same_width ∙ ap (λ n. index.width * n) of.same_height in
      is_finished g of (front g.cells (index.width * index.height) full
      (λ x y p q. subst (λ n. get_or g.cells (y * n + x) (pos 0) ≡ next (y * index.width + x) (take (y * n + x) g.cells)) of.same_width (samples x y p q)) (omega arith))

module _ (w : Width) (depth : ℕ) (t : Palette) (table index : Grid ℤ) where
  abbrev none : Grid ℤ
  none = grid 0 0 []

  only : (finished : List (Grid ℤ)) → IsPaletteOf w depth t table index finished → finished ≡ finished_channels w depth t table index
  only finished is =
      fill_by_all (finished_channel w depth t table index) finished t.num_c none is.count
      (λ c l. one_channel w depth t table index c (get_or finished c none) (is.sides c none (let n = is.count in omega arith)) (λ x y p q. is.samples c x y l p q))

  -- such channels are the finished ones
  pub has_image : (finished : List (Grid ℤ)) → length finished ≡ t.num_c → ((c : ℕ) → c < t.num_c → get_or finished c none ≡ finished_channel w depth t table index c) → IsPaletteOf w depth t table index finished
  has_image finished count each =
      record {
        count = count;
        sides = λ c d h.
            let l : c < t.num_c = omega (arith, count, h) in
            let same : get_or finished c d ≡ finished_channel w depth t table index c = get_or_default finished c d none h ∙ each c l in
            subst (HasSides index.width index.height) (sym same) (record { same_width = refl; same_height = refl; full = length-samples w depth t table index c (index.width * index.height) });
        samples = λ c x y p q r.
            let k : ℕ = y * index.width + x in
            let inside : k < index.width * index.height = mul-add-lt y index.width x index.height r q in
            subst (λ (h : Grid ℤ). at h x y ≡ finished_sample w depth t table (at index x y) c (take (place h x y) h.cells) index.width) (sym (each c p))
            (sample_at w depth t table index c k (index.width * index.height) inside ∙ ap (λ b. next w depth t table index c k b) (sym (take-samples w depth t table index c k (index.width * index.height) (omega arith))));
      }

  is : IsPaletteOf w depth t table index (finished_channels w depth t table index)
  is = has_image (finished_channels w depth t table index) (length-map-range_with_len (finished_channel w depth t table index) 0 t.num_c)
      (λ c p. get_or-map-range_with_len (finished_channel w depth t table index) 0 t.num_c c c none p (omega arith))

pub palette_has_one_image : PaletteHasOneImage
palette_has_one_image = record { is = is; only = only }
