-- Samples of whole numbers, read where they were written.
use Rattle.std.proofs.Common.{◌≡◌, ℕ, ◌+◌, ◌-◌, ◌*◌, ◌/◌, ◌%◌, ◌^◌, ◌<◌, ◌≤◌, ℤ, pos, List, [], ◌∷◌, length, get_or, Bool, Some, refl, sym, ap, ◌∙◌, subst, arith, length-drop}
use Rattle.std.specs.Prelude.{slice_get, slice_index}
use Rattle.std.proofs.lemmas.List.{get_or-drop}
use Rattle.jxlm_base.specs.Grid.{Grid, cell}
use Rattle.jxl_netpbm.specs.Rasters.{maximum, number_text, raster_text}
use Rattle.jxl_netpbm_read.specs.Parts.{channel_count}
use Rattle.jxl_netpbm_read.specs.Samples.{HasSamples, HoldsChannel, number_at, number_in, sample_size}
use Rattle.jxl_netpbm_read.specs.declared.header.Header.{Header}
use Rattle.jxl_netpbm_read.specs.declared.header.Storage.TheVariants.{Numbers}
use Rattle.jxl_netpbm_roundtrip.specs.RoundTrip.{IsChannel}
use Rattle.jxl_netpbm_roundtrip.proofs.PlainReading.{holds_to}
use Rattle.jxl_netpbm_roundtrip.proofs.RasterReading.{layers_by, length-raster, raster_byte, sample_text-within}
use Rattle.jxl_netpbm_roundtrip.proofs.WordReading.{At}

-- a number has the bytes of a sample
abbrev NumberSize : ℕ → Type 0
NumberSize n = (v : ℕ) → length (number_text (2 ^ n - 1) v) ≡ sample_size (Numbers n)

pub number_size : (bits : ℕ) → 1 ≤ bits → bits ≤ 16 → NumberSize bits
number_size bits low high =
    holds_to NumberSize 16 bits
    (λ v. refl, (λ v. refl, (λ v. refl, (λ v. refl, (λ v. refl, (λ v. refl, (λ v. refl, (λ v. refl, (λ v. refl, (λ v. refl, (λ v. refl, (λ v. refl, (λ v. refl, (λ v. refl, (λ v. refl, (λ v. refl, tt))))))))))))))))
    low high

-- these bytes are those of a number
abbrev AreBytes : List ℕ → ℕ → ℕ → ℕ → Type 0
AreBytes bytes p n v = (j : ℕ) → j < sample_size (Numbers n) → slice_index bytes (p + j) ≡ get_or (number_text (2 ^ n - 1) v) j 0

abbrev NumberBack : ℕ → Type 0
NumberBack n = (bytes : List ℕ) (p v : ℕ) → AreBytes bytes p n v → number_at (Numbers n) bytes p ≡ v

one_byte : (bytes : List ℕ) (p v : ℕ) → ((j : ℕ) → j < 1 → slice_index bytes (p + j) ≡ get_or (v ∷ []) j 0) → slice_index bytes p ≡ v
one_byte bytes p v are = let e : p ≡ p + 0 = omega arith in ap (slice_index bytes) e ∙ are 0 (omega arith)

two_bytes : (bytes : List ℕ) (p v : ℕ) → ((j : ℕ) → j < 2 → slice_index bytes (p + j) ≡ get_or (v / 256 ∷ v % 256 ∷ []) j 0) → slice_index bytes p * 256 + slice_index bytes (p + 1) ≡ v
two_bytes bytes p v are =
    let e : p ≡ p + 0 = omega arith in
    let first : slice_index bytes p ≡ v / 256 = ap (slice_index bytes) e ∙ are 0 (omega arith) in
    let second : slice_index bytes (p + 1) ≡ v % 256 = are 1 (omega arith) in
    omega (arith, first, second)

pub number_back : (bits : ℕ) → 1 ≤ bits → bits ≤ 16 → NumberBack bits
number_back bits low high =
    holds_to NumberBack 16 bits
    (two_bytes, (two_bytes, (two_bytes, (two_bytes, (two_bytes, (two_bytes, (two_bytes, (two_bytes, (one_byte, (one_byte, (one_byte, (one_byte, (one_byte, (one_byte, (one_byte, (one_byte, tt))))))))))))))))
    low high

-- the header of a file of whole numbers
abbrev pub numbers_header : ℕ → ℕ → Bool → Bool → ℕ → ℕ → Header
numbers_header w h is_grey has_alpha bits start = record { width = w; height = h; grey = is_grey; alpha = has_alpha; storage = Numbers bits; start = start }

module _ (text : List ℕ) (w h bits start other : ℕ) (is_grey has_alpha : Bool) (gs : List (Grid ℤ)) (low : 1 ≤ bits) (high : bits ≤ 16)
    (placed : At text start (raster_text (maximum bits) (layers_by (maximum bits) gs) w h)) (count : length gs ≡ channel_count is_grey has_alpha) where
  abbrev size : ℕ
  size = sample_size (Numbers bits)

  abbrev the_header : Header
  the_header = numbers_header w h is_grey has_alpha bits start

  pub numbers_long : HasSamples the_header text
  numbers_long =
      let all : length text - start ≡ h * (w * (length gs * size)) = sym (length-drop start text) ∙ ap length placed.is ∙ length-raster (maximum bits) size (number_size bits low high) gs w h in
      let n : length text - start ≡ h * (w * (channel_count is_grey has_alpha * size)) = all ∙ ap (λ n. h * (w * (n * size))) count in
      omega (arith, n, placed.inside)

  number_placed : (x y k v : ℕ) (g : Grid ℤ) → slice_get gs k ≡ Some g → x < w → y < h → cell g x y ≡ Some (pos v) → v < 2 ^ bits → number_in the_header text k x y ≡ v
  number_placed x y k v g is inside below value small =
      let index = (y * w + x) * channel_count is_grey has_alpha + k in
      let most : v ≤ maximum bits = omega (arith, small) in
      number_back bits low high text (start + index * size) v (λ j within.
      let place : start + index * size + j ≡ start + (index * size + j) = omega arith in
      ap (slice_index text) place ∙ sym (get_or-drop start text (index * size + j) 0) ∙ ap (λ (bs : List ℕ). get_or bs (index * size + j) 0) placed.is
      ∙ ap (λ n. get_or (raster_text (maximum bits) (layers_by (maximum bits) gs) w h) (((y * w + x) * n + k) * size + j) 0) (sym count)
      ∙ raster_byte (maximum bits) size (number_size bits low high) gs w h x y k j g is inside below within
      ∙ ap (λ (bs : List ℕ). get_or bs j 0) (sample_text-within (maximum bits) x y v g value most))

  pub numbers_held : ((k : ℕ) (g : Grid ℤ) → slice_get gs k ≡ Some g → IsChannel (numbers_header w h is_grey has_alpha bits other) g) →
      (k : ℕ) (g : Grid ℤ) → slice_get gs k ≡ Some g → HoldsChannel the_header text k g
  numbers_held own k g is =
      let channel = own k g is in
      record {
        wide = channel.wide;
        high = channel.high;
        full = channel.full;
        within = λ x y p q.
            let s = channel.samples x y p q in
            let number = number_placed x y k s.0 g is p q s.3 s.2 in
            subst (λ n. n < 2 ^ bits) (sym number) s.2;
        cells = λ x y p q.
            let s = channel.samples x y p q in
            let number = number_placed x y k s.0 g is p q s.3 s.2 in
            s.3 ∙ ap (λ n. Some (pos n)) (sym number);
      }
