-- PFM files, read as they were written.
use Rattle.std.proofs.Common.{◌≡◌, ℕ, ◌+◌, ◌-◌, ◌*◌, ◌^◌, ◌<◌, ℤ, pos, List, [], ◌∷◌, ◌++◌, length, get_or, Bool, true, false, Some, Ok, Err, refl, sym, ap, ◌∙◌, arith, length-drop}
use Rattle.std.specs.Prelude.{slice_get, slice_index, slice_range, Result, ◌==◌, if◌then◌else◌}
use Rattle.std.specs.Fmt.{decimal}
use Rattle.std.specs.Int.{w32, cast_signed, cast_unsigned, from_le_bytes, to_le_bytes}
use Rattle.std.specs.List.{flat_map}
use Rattle.std.proofs.lemmas.Int.{of_z-to_z}
use Rattle.std.proofs.lemmas.List.{get_or-drop}
use Rattle.std.proofs.lemmas.Nat.{from_le_bytes-to_le_bytes_4}
use Rattle.std.proofs.lemmas.Option.{get_or_from_slice_get, slice_get_within}
use Rattle.jxlm_base.specs.Grid.{Grid, at, cell}
use Rattle.jxl_picture.specs.Floats.{single, single_bits}
use Rattle.jxl_picture.proofs.Singles.{single_is}
use Rattle.jxl_netpbm.specs.Rasters.{float_pixels, float_rows, float_text}
use Rattle.jxl_netpbm_read.specs.Files.{IsNetpbmOf, image_by}
use Rattle.jxl_netpbm_read.specs.Headers.{float_from, header_after, is_decimal, magic_of, scale_from}
use Rattle.jxl_netpbm_read.specs.Parts.{colour_count, is_side, side_from}
use Rattle.jxl_netpbm_read.specs.Samples.{HasSamples, HoldsChannel, little_32, number_in}
use Rattle.jxl_netpbm_read.specs.Words.{and_then}
use Rattle.jxl_netpbm_read.specs.declared.error.NetpbmError.{NetpbmError}
use Rattle.jxl_netpbm_read.specs.declared.error.NetpbmError.TheVariants.{InvalidHeader}
use Rattle.jxl_netpbm_read.specs.declared.header.Header.{Header}
use Rattle.jxl_netpbm_read.specs.declared.header.Scale.{Scale}
use Rattle.jxl_netpbm_read.specs.declared.header.Storage.TheVariants.{Floats}
use Rattle.jxl_netpbm_read.specs.declared.words.Number.{Number}
use Rattle.jxl_netpbm_read.specs.declared.words.Word.{Word}
use Rattle.jxl_netpbm_roundtrip.specs.RoundTrip.{IsChannel}
use Rattle.jxl_netpbm_roundtrip.proofs.PlainReading.{IsReadAs, after_line, after_word, side_read}
use Rattle.jxl_netpbm_roundtrip.proofs.PnmFiles.{header_by_magic, shape}
use Rattle.jxl_netpbm_roundtrip.proofs.RasterReading.{length-numbers, length-pieces, number_byte, piece_byte, piece_place, place_split}
use Rattle.jxl_netpbm_roundtrip.proofs.WordReading.{At, IsWordAt, at_more, word_read}

-- ---- the header

abbrev scale_word : List ℕ
scale_word = 45 ∷ 49 ∷ 46 ∷ 48 ∷ []

-- the scale that a word writes
abbrev scale_of : List ℕ → Word → Result Scale NetpbmError
scale_of bytes w = if is_decimal (slice_range bytes w.start w.end) then Ok (record { little_endian = (slice_index bytes w.start == 45); after = w.end }) else Err InvalidHeader

-- the header with this scale
abbrev float_header : ℕ → ℕ → Bool → Scale → Result Header NetpbmError
float_header w h is_grey s = Ok (record { width = w; height = h; grey = is_grey; alpha = false; storage = Floats s.little_endian; start = s.after + 1 })

scale_read : (bytes : List ℕ) (p : ℕ) (rest : List ℕ) → At bytes p (10 ∷ (scale_word ++ 10 ∷ rest)) → IsReadAs bytes (λ q. scale_from bytes p) (λ q. record { little_endian = true; after = q }) (10 ∷ rest)
unfolding scale_from
scale_read bytes p rest at =
    let word : IsWordAt bytes p scale_word (10 ∷ rest) = word_read bytes p 10 10 scale_word rest at refl refl in
    let second : At bytes (p + 1) (scale_word ++ 10 ∷ rest) = at_more bytes p (10 ∷ []) (scale_word ++ 10 ∷ rest) at in
    let none : p + 1 ≡ p + 1 + 0 = omega arith in
    let first : slice_index bytes (p + 1) ≡ 45 = ap (slice_index bytes) none ∙ sym (get_or-drop (p + 1) bytes 0 0) ∙ ap (λ (bs : List ℕ). get_or bs 0 0) second.is in
    let end = p + 1 + 4 in
    let bad : Result Scale NetpbmError = Err InvalidHeader in
    let good : ℕ → Result Scale NetpbmError = λ b. Ok (record { little_endian = (b == 45); after = end }) in
    record {
      after = end;
      read = ap (λ (r : Result Word NetpbmError). and_then r (λ w. scale_of bytes w)) word.read
          ∙ ap (λ (bs : List ℕ). if is_decimal bs then good (slice_index bytes (p + 1)) else bad) word.text ∙ ap good first;
      next_at = word.next_at;
    }

float_read : (bytes : List ℕ) (p : ℕ) (is_grey : Bool) (w h : ℕ) (raster : List ℕ) →
    At bytes p (10 ∷ (decimal w ++ 32 ∷ (decimal h ++ 10 ∷ (scale_word ++ 10 ∷ raster)))) → is_side w ≡ true → is_side h ≡ true →
    IsReadAs bytes (λ q. float_from bytes is_grey p) (λ q. record { width = w; height = h; grey = is_grey; alpha = false; storage = Floats true; start = q }) raster
unfolding float_from
float_read bytes p is_grey w h raster at wide high =
    let width = side_read bytes p 10 32 w (decimal h ++ 10 ∷ (scale_word ++ 10 ∷ raster)) at after_line wide in
    let height = side_read bytes width.after 32 10 h (scale_word ++ 10 ∷ raster) width.next_at after_word high in
    let scale = scale_read bytes height.after raster height.next_at in
    record {
      after = scale.after + 1;
      read = ap (λ (r : Result Number NetpbmError). and_then r (λ a. and_then (side_from bytes a.after) (λ b. and_then (scale_from bytes b.after) (λ s. float_header a.value b.value is_grey s)))) width.read
          ∙ ap (λ (r : Result Number NetpbmError). and_then r (λ b. and_then (scale_from bytes b.after) (λ s. float_header w b.value is_grey s))) height.read
          ∙ ap (λ (r : Result Scale NetpbmError). and_then r (λ s. float_header w h is_grey s)) scale.read;
      next_at = at_more bytes scale.after (10 ∷ []) raster scale.next_at;
    }

-- ---- the samples

module _ (gs : List (Grid ℤ)) (w h : ℕ) where
  pixel : (y x : ℕ) → length (flat_map (float_text single x y) gs) ≡ length gs * 4
  pixel y x = length-pieces (float_text single x y) 4 (λ g. refl) gs

  row : (y : ℕ) → length (float_pixels single gs y w) ≡ w * (length gs * 4)
  row y = length-numbers (λ x. flat_map (float_text single x y) gs) (length gs * 4) w (pixel y)

  length-floats : length (float_rows single gs w h h) ≡ h * (w * (length gs * 4))
  length-floats = length-numbers (λ r. float_pixels single gs (h - 1 - r) w) (w * (length gs * 4)) h (λ r. row (h - 1 - r))

  float_byte : (x y k j : ℕ) (g : Grid ℤ) → slice_get gs k ≡ Some g → x < w → y < h → j < 4 →
      get_or (float_rows single gs w h h) ((((h - 1 - y) * w + x) * length gs + k) * 4 + j) 0 ≡ get_or (float_text single x y g) j 0
  float_byte x y k j g is inside under within =
      let n = length gs in
      let r = h - 1 - y in
      let channel : k < n = slice_get_within gs k g is in
      let third : k * 4 + j < n * 4 = piece_place k n 4 j channel within in
      let second : x * (n * 4) + (k * 4 + j) < w * (n * 4) = piece_place x w (n * 4) (k * 4 + j) inside third in
      let below : r < h = omega (arith, under) in
      let back : h - 1 - r ≡ y = omega (arith, under) in
      ap (λ i. get_or (float_rows single gs w h h) i 0) (place_split r w x n k 4 j)
      ∙ number_byte (λ i. float_pixels single gs (h - 1 - i) w) (w * (n * 4)) h r (x * (n * 4) + (k * 4 + j)) (λ i. row (h - 1 - i)) below second
      ∙ ap (λ i. get_or (float_pixels single gs i w) (x * (n * 4) + (k * 4 + j)) 0) back
      ∙ number_byte (λ i. flat_map (float_text single i y) gs) (n * 4) w x (k * 4 + j) (pixel y) inside third
      ∙ piece_byte (float_text single x y) 4 (λ v. refl) gs k j g is within

-- four bytes are those of a number
four_bytes : (bytes : List ℕ) (p n : ℕ) → n < 2 ^ 32 → ((j : ℕ) → j < 4 → slice_index bytes (p + j) ≡ get_or (to_le_bytes w32 n) j 0) → little_32 bytes p ≡ n
four_bytes bytes p n small are =
    let none : p ≡ p + 0 = omega arith in
    let third : p + 2 + 1 ≡ p + 3 = omega arith in
    let a : slice_index bytes p ≡ get_or (to_le_bytes w32 n) 0 0 = ap (slice_index bytes) none ∙ are 0 (omega arith) in
    let b : slice_index bytes (p + 1) ≡ get_or (to_le_bytes w32 n) 1 0 = are 1 (omega arith) in
    let c : slice_index bytes (p + 2) ≡ get_or (to_le_bytes w32 n) 2 0 = are 2 (omega arith) in
    let d : slice_index bytes (p + 2 + 1) ≡ get_or (to_le_bytes w32 n) 3 0 = ap (slice_index bytes) third ∙ are 3 (omega arith) in
    let all : from_le_bytes w32 (to_le_bytes w32 n) ≡ n = from_le_bytes-to_le_bytes_4 n small in
    omega (arith, a, b, c, d, all)

abbrev pub floats_header : ℕ → ℕ → Bool → Bool → ℕ → Header
floats_header w h is_grey little start = record { width = w; height = h; grey = is_grey; alpha = false; storage = Floats little; start = start }

module _ (text : List ℕ) (w h start other : ℕ) (is_grey little : Bool) (gs : List (Grid ℤ)) (placed : At text start (float_rows single gs w h h)) (count : length gs ≡ colour_count is_grey) where
  abbrev the_header : Header
  the_header = floats_header w h is_grey true start

  floats_long : HasSamples the_header text
  floats_long =
      let all : length text - start ≡ h * (w * (length gs * 4)) = sym (length-drop start text) ∙ ap length placed.is ∙ length-floats gs w h in
      let n : length text - start ≡ h * (w * (colour_count is_grey * 4)) = all ∙ ap (λ n. h * (w * (n * 4))) count in
      omega (arith, n, placed.inside)

  float_placed : (x y k n : ℕ) (g : Grid ℤ) → slice_get gs k ≡ Some g → x < w → y < h → cell g x y ≡ Some (cast_signed w32 n) → n < 2 ^ 32 → number_in the_header text k x y ≡ n
  float_placed x y k n g is inside below value small =
      let index = ((h - 1 - y) * w + x) * colour_count is_grey + k in
      let here : at g x y ≡ cast_signed w32 n = get_or_from_slice_get g.cells (y * g.width + x) (cast_signed w32 n) (pos 0) value in
      let bits : single_bits single (cast_unsigned w32 (at g x y)) ≡ n = ap (λ v. single_bits single (cast_unsigned w32 v)) here ∙ ap (single_bits single) (of_z-to_z w32 n small) ∙ single_is n small in
      four_bytes text (start + index * 4) n small (λ j within.
      let place : start + index * 4 + j ≡ start + (index * 4 + j) = omega arith in
      ap (slice_index text) place ∙ sym (get_or-drop start text (index * 4 + j) 0) ∙ ap (λ (bs : List ℕ). get_or bs (index * 4 + j) 0) placed.is
      ∙ ap (λ m. get_or (float_rows single gs w h h) ((((h - 1 - y) * w + x) * m + k) * 4 + j) 0) (sym count)
      ∙ float_byte gs w h x y k j g is inside below within
      ∙ ap (λ m. get_or (to_le_bytes w32 m) j 0) bits)

  floats_held : ((k : ℕ) (g : Grid ℤ) → slice_get gs k ≡ Some g → IsChannel (floats_header w h is_grey little other) g) →
      (k : ℕ) (g : Grid ℤ) → slice_get gs k ≡ Some g → HoldsChannel the_header text k g
  floats_held own k g is =
      let channel = own k g is in
      record {
        wide = channel.wide;
        high = channel.high;
        full = channel.full;
        within = λ x y p q. tt;
        cells = λ x y p q.
            let s = channel.samples x y p q in
            s.3 ∙ ap (λ n. Some (cast_signed w32 n)) (sym (float_placed x y k s.0 g is p q s.3 s.1));
      }

pub pfm_file : (m w h start : ℕ) (is_grey little : Bool) (gs : List (Grid ℤ)) → ((bytes : List ℕ) → header_after bytes (magic_of m) ≡ float_from bytes is_grey 2) →
    is_side w ≡ true → is_side h ≡ true → length gs ≡ colour_count is_grey →
    ((k : ℕ) (g : Grid ℤ) → slice_get gs k ≡ Some g → IsChannel (floats_header w h is_grey little start) g) →
    IsNetpbmOf (80 ∷ m ∷ 10 ∷ (((((decimal w ++ 32 ∷ []) ++ decimal h) ++ 10 ∷ []) ++ (scale_word ++ 10 ∷ [])) ++ float_rows single gs w h h))
    (image_by (floats_header w h is_grey little start)) gs
pfm_file m w h start is_grey little gs magic wide high count own =
    let raster = float_rows single gs w h h in
    let rest = ((((decimal w ++ 32 ∷ []) ++ decimal h) ++ 10 ∷ []) ++ (scale_word ++ 10 ∷ [])) ++ raster in
    let text = 80 ∷ m ∷ 10 ∷ rest in
    let at : At text 2 (10 ∷ (decimal w ++ 32 ∷ (decimal h ++ 10 ∷ (scale_word ++ 10 ∷ raster)))) =
    record { is = ap (λ (bs : List ℕ). 10 ∷ bs) (shape (decimal w) (decimal h) scale_word raster); inside = omega arith } in
    let read = float_read text 2 is_grey w h raster at wide high in
    record {
      header = floats_header w h is_grey true read.after;
      is_header = header_by_magic m 10 rest ∙ magic text ∙ read.read;
      image_is = refl;
      long = floats_long text w h read.after start is_grey little gs read.next_at count;
      count = count;
      samples = floats_held text w h read.after start is_grey little gs read.next_at count own;
    }
