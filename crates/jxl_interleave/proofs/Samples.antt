-- The bytes of one more sample, and of a pixel.
use Rattle.std.proofs.Common.{◌≡◌, ℕ, ◌+◌, ◌<◌, ◌≤◌, ℤ, List, ◌++◌, length, get_or, take, map, Some, sym, ap, ◌∙◌, append_assoc}
use Rattle.std.specs.List.{flat_map}
use Rattle.std.proofs.lemmas.List.{take_all}
use Rattle.std.proofs.lemmas.List.Concat.{flat_map-append}
use Rattle.std.proofs.lemmas.List.Folds.{flat_map-map}
use Rattle.jxlm_base.specs.Grid.{Grid, cell}
use Rattle.jxlm_base.proofs.GridLaws.{at_from_cell}
use Rattle.jxl_netpbm.specs.Rasters.{Layer, level, rescaled_sample}
use Rattle.jxl_netpbm.proofs.Growing.{take_piece}
use Rattle.jxl_interleave.specs.Pixels.{maximum, number_bytes, pixel_bytes, sample_bytes}
use Rattle.jxl_interleave.specs.Inner.Layers.{samples_in, with_own}
use Rattle.jxl_interleave.specs.declared.depth.Depth.{Depth}

module _ (depth : Depth) (x y own : ℕ) where
  abbrev one : Grid ℤ → List ℕ
  one g = sample_bytes depth x y (with_own own g)

  pub sample_piece : (channels : List (Grid ℤ)) (i : ℕ) (item : Grid ℤ) (v : ℤ) → i < length channels → item ≡ get_or channels i item → cell item x y ≡ Some v →
      samples_in depth x y own (take (i + 1) channels) ≡ samples_in depth x y own (take i channels) ++ number_bytes depth (rescaled_sample own (maximum depth) (level own v))
  sample_piece channels i item v within is here =
      let same : one (get_or channels i item) ≡ one item = sym (ap one is) in
      let bytes : one item ≡ number_bytes depth (rescaled_sample own (maximum depth) (level own v)) = ap (λ (n : ℤ). number_bytes depth (rescaled_sample own (maximum depth) (level own n))) (at_from_cell item x y v here) in
      take_piece one channels i item within ∙ ap (λ (t : List ℕ). flat_map one (take i channels) ++ t) (same ∙ bytes)

  pub all_samples : (channels : List (Grid ℤ)) (i : ℕ) (before after : List ℕ) → length channels ≤ i → after ≡ before ++ samples_in depth x y own (take i channels) → after ≡ before ++ samples_in depth x y own channels
  all_samples channels i before after all e = e ∙ ap (λ (cs : List (Grid ℤ)). before ++ samples_in depth x y own cs) (take_all i channels all)

  -- the colours of a pixel and its alpha are the pixel
  pub pixel_joined : (channels : List (Grid ℤ)) (alpha : List Layer) (before mid after : List ℕ) → mid ≡ before ++ samples_in depth x y own channels → after ≡ mid ++ flat_map (sample_bytes depth x y) alpha →
      after ≡ before ++ pixel_bytes depth (map (with_own own) channels ++ alpha) y x
  pixel_joined channels alpha before mid after e f =
      f ∙ ap (λ (t : List ℕ). t ++ flat_map (sample_bytes depth x y) alpha) e ∙ append_assoc before (samples_in depth x y own channels) (flat_map (sample_bytes depth x y) alpha)
      ∙ ap (λ (t : List ℕ). before ++ (t ++ flat_map (sample_bytes depth x y) alpha)) (sym (flat_map-map (sample_bytes depth x y) (with_own own) channels))
      ∙ ap (λ (t : List ℕ). before ++ t) (sym (flat_map-append (sample_bytes depth x y) (map (with_own own) channels) alpha))
