-- Rows, channels and images, line by line.
use Rattle.std.proofs.Common.{◌≡◌, ◌≢◌, ◌⊎◌, inl, inr, ℕ, zero, suc, ◌+◌, ◌-◌, ◌*◌, ◌^◌, ◌<◌, ◌≤◌, ℤ, List, [], ◌∷◌, ◌++◌, length, take, drop, map, refl, sym, ap, ◌∙◌, subst, arith}
use Rattle.std.specs.Prelude.{FitsSigned, slice_range}
use Rattle.std.specs.Int.{Width}
use Rattle.std.specs.List.{All}
use Rattle.std.proofs.Math.Nat.{mul_comm, mul-le-mul_right}
use Rattle.std.proofs.lemmas.List.{append_assoc, append-nil, length-append, length-map, drop-append-le, drop_at, take-append-le, take_all, map-append, length-drop}
use Rattle.std.proofs.lemmas.List.Elements.{All-append, All-map, All-push, All-nil}
use Rattle.std.proofs.lemmas.List.Sums.{sum_by-append}
use Rattle.jxlm_base.specs.Grid.{Grid, grid, row, meanings, IsFull}
use Rattle.jxl_text.specs.Printing.{line, heading, name, row_text, rows_text, channel_text, image_text}
use Rattle.jxl_text.specs.Reading.{AreNumbers, AreRowsWrong, HasNoName, HasNoRow, IsFirstWrong, IsImage, IsLineWrong, IsNamed, IsRowWrong, IsTextOf, TextFails, line_count}
use Rattle.jxl_text.specs.Inner.Cuts.{Lacks, IsCut}
use Rattle.jxl_text.specs.Inner.Words.{NamesNone, Names}
use Rattle.jxl_text.specs.Inner.Rows.{AreRows, ChannelFails, IsChannel, IsNoRow, IsRow, RowsFail}
use Rattle.jxl_text.specs.declared.reading.TextError.{TextError}
use Rattle.jxl_text.specs.declared.reading.TextError.TheVariants.{Line, OutOfMemory}
use Rattle.jxl_text.proofs.Cuts.{SameCut, cut_is, no_cut}
use Rattle.jxl_text.proofs.RowWords.{Fits32, row_lacks}
use Rattle.jxl_text.proofs.TextLemmas.{rows_text-more, image_text-push}

-- a line, its end, and what comes after
line_parts : (xs ys : List ℕ) → line xs ++ ys ≡ xs ++ 10 ∷ ys
line_parts xs ys = append_assoc xs (10 ∷ []) ys

module _ {S : Type 0} (to_int : S → ℤ) (w : Width) where
  -- a row above is the same where more cells come after it
  row_kept : (width height y : ℕ) (cells more : List S) → y * width + width ≤ length cells → row (grid width height (cells ++ more)) y ≡ row (grid width height cells) y
  row_kept width height y cells more within =
      let d : drop (y * width) (cells ++ more) ≡ drop (y * width) cells ++ more = drop-append-le (y * width) cells more (omega arith) in
      let e : y * width + width - y * width ≡ width = omega arith in
      let n = length-drop (y * width) cells in
      ap (λ (xs : List S). take (y * width + width - y * width) xs) d ∙ take-append-le (y * width + width - y * width) (drop (y * width) cells) more (omega arith)

  rows_kept : (width height y : ℕ) (cells more : List S) → y * width ≤ length cells → rows_text (meanings to_int (grid width height (cells ++ more))) y ≡ rows_text (meanings to_int (grid width height cells)) y
  rows_kept width height zero cells more within = refl
  rows_kept width height (suc y) cells more within =
      let low : y * width + width ≤ length cells = omega arith in
      let above = rows_kept width height y cells more (omega arith) in
      let same = row_kept width height y cells more low in
      let next : y + 1 ≡ suc y = omega arith in
      subst (λ (n : ℕ). rows_text (meanings to_int (grid width height (cells ++ more))) n ≡ rows_text (meanings to_int (grid width height cells)) n) next
      (rows_text-more to_int (grid width height (cells ++ more)) y
      ∙ ap (λ xs. xs ++ line (row_text (map to_int (row (grid width height (cells ++ more)) y)))) above
      ∙ ap (λ (r : List S). rows_text (meanings to_int (grid width height cells)) y ++ line (row_text (map to_int r))) same
      ∙ sym (rows_text-more to_int (grid width height cells) y))

  -- the row that comes last
  row_last : (width height y : ℕ) (cells more : List S) → length cells ≡ y * width → length more ≡ width → row (grid width height (cells ++ more)) y ≡ more
  row_last width height y cells more count own =
      let e : y * width + width - y * width ≡ width = omega arith in
      ap (λ (xs : List S). take (y * width + width - y * width) xs) (drop_at cells more (y * width) count) ∙ take_all (y * width + width - y * width) more (omega (arith, own))

  pub no_rows : (width : ℕ) (text : List ℕ) → AreRows to_int w width 0 text text []
  no_rows width text = record { count = omega arith; fit = All-nil (λ (s : S). FitsSigned w (to_int s)); begun = refl }

  pub row_more : (width y : ℕ) (text rest read after : List ℕ) (cells now more : List S) → AreRows to_int w width y text rest cells → IsCut 10 rest read after → now ≡ cells ++ more → IsRow to_int w width read more → AreRows to_int w width (y + 1) text after now
  row_more width y text rest read after cells now more rows cut is row =
      let flat = mul_comm width y in
      let numbers = λ (cs : List S). meanings to_int (grid width y cs) in
      let printed : rows_text (numbers (cells ++ more)) (y + 1) ≡ rows_text (numbers cells) y ++ line read =
      rows_text-more to_int (grid width y (cells ++ more)) y
      ∙ ap (λ xs. xs ++ line (row_text (map to_int (Rattle.jxlm_base.specs.Grid.row (grid width y (cells ++ more)) y)))) (rows_kept width y y cells more (omega (arith, rows.count)))
      ∙ ap (λ (r : List S). rows_text (numbers cells) y ++ line (row_text (map to_int r))) (row_last width y y cells more (omega (arith, rows.count)) row.count)
      ∙ ap (λ xs. rows_text (numbers cells) y ++ line xs) (sym row.printed) in
      let all : text ≡ rows_text (numbers (cells ++ more)) (y + 1) ++ after =
      rows.begun ∙ ap (λ xs. rows_text (numbers cells) y ++ xs) (cut.is ∙ sym (line_parts read after)) ∙ sym (append_assoc (rows_text (numbers cells) y) (line read) after)
      ∙ ap (λ xs. xs ++ after) (sym printed) in
      let made : AreRows to_int w width (y + 1) text after (cells ++ more) = record {
        count = let n = length-append cells more in let m = mul_comm width (y + 1) in omega (arith, rows.count, row.count);
        fit = All-append (λ (s : S). FitsSigned w (to_int s)) cells more rows.fit row.fit;
        begun = all;
      } in
      subst (AreRows to_int w width (y + 1) text after) (sym is) made

  -- the numbers of rows
  pub are_numbers : (width height : ℕ) (text rest : List ℕ) (cells : List S) → AreRows to_int w width height text rest cells → AreNumbers w (meanings to_int (grid width height cells))
  are_numbers width height text rest cells rows = record { full = length-map cells to_int ∙ rows.count; fit = All-map (FitsSigned w) to_int cells rows.fit }

  rows_wrong : (width y : ℕ) (text rest : List ℕ) (cells : List S) → AreRows to_int w width y text rest cells → HasNoRow w width rest → AreRowsWrong w width text (meanings to_int (grid width y cells))
  rows_wrong width y text rest cells rows none = record { wide = refl; numbers = are_numbers width y text rest cells rows; rest = rest; begun = rows.begun; wrong = none }

  pub row_missing : (narrow : Fits32 w) (width height y taken n : ℕ) (text rest : List ℕ) (cells : List S) → AreRows to_int w width y text rest cells → y < height → n ≡ taken + y + 1 → Lacks 10 rest → RowsFail w width height text taken (Line n)
  row_missing narrow width height y taken n text rest cells rows below number lacks = (
    meanings to_int (grid width y cells),
    number,
    below,
    rows_wrong width y text rest cells rows (λ numbers after count fit is. no_cut 10 rest (row_text numbers) after lacks (is ∙ line_parts (row_text numbers) after)),
  )

  pub row_wrong : (narrow : Fits32 w) (width height y taken n : ℕ) (text rest read after : List ℕ) (cells : List S) → AreRows to_int w width y text rest cells → y < height → n ≡ taken + y + 1 → IsCut 10 rest read after → IsNoRow w width read → RowsFail w width height text taken (Line n)
  row_wrong narrow width height y taken n text rest read after cells rows below number cut none = (
    meanings to_int (grid width y cells),
    number,
    below,
    rows_wrong width y text rest cells rows (λ numbers other count fit is.
        none numbers count fit (cut_is 10 rest read after (row_text numbers) other cut (is ∙ line_parts (row_text numbers) other) (row_lacks w narrow numbers fit)).before),
  )

-- ---- a channel

record RowFails (w : Width) (width height : ℕ) (text : List ℕ) (taken n : ℕ) (rows : Grid ℤ) : Type 0 where
  number : n ≡ taken + rows.height + 1
  below : rows.height < height
  wrong : AreRowsWrong w width text rows

module _ (w : Width) (number : ℕ) (text : List ℕ) where
  named_line : (read rest : List ℕ) (width height : ℕ) → IsCut 10 text read rest → read ≡ name number width height → text ≡ heading number width height ++ rest
  named_line read rest width height cut names = cut.is ∙ ap (λ xs. xs ++ 10 ∷ rest) names ∙ sym (line_parts (name number width height) rest)

  pub name_missing : (taken n : ℕ) (lacks : Lacks 10 text) → n ≡ taken + 1 → ChannelFails w number text taken (Line n)
  name_missing taken n lacks is = (
    1,
    is,
    inl (refl, λ width height after named begun. no_cut 10 text (name number width height) after lacks (begun ∙ line_parts (name number width height) after)),
  )

  -- no line ends within a name
  pub name_wrong : (lacks : (width height : ℕ) → IsNamed number width height → Lacks 10 (name number width height)) (taken n : ℕ) (read rest : List ℕ) → IsCut 10 text read rest → NamesNone number read → n ≡ taken + 1 → ChannelFails w number text taken (Line n)
  name_wrong lacks taken n read rest cut none is = (
    1,
    is,
    inl (
      refl,
      λ width height after named begun.
          none width height named (cut_is 10 text read rest (name number width height) after cut (begun ∙ line_parts (name number width height) after) (lacks width height named)).before,
    ),
  )

  pub rows_fail : (taken : ℕ) (e : TextError) (read rest : List ℕ) (width height : ℕ) → IsCut 10 text read rest → Names number read width height → RowsFail w width height rest (taken + 1) e → ChannelFails w number text taken e
  rows_fail taken (Line n) read rest width height cut names fails =
      let rows : Grid ℤ = fails.0 in
      let within : RowFails w width height rest (taken + 1) n rows = record { number = fails.1; below = fails.2; wrong = fails.3 } in (
        rows.height + 2,
        omega (arith, within.number),
        inr (
          rows.height,
          refl,
          record {
            width = width;
            height = height;
            after = rest;
            named = names.named;
            begun = named_line read rest width height cut names.is;
            rows = rows;
            above = refl;
            within = within.below;
            wrong = within.wrong;
          },
        ),
      )
  rows_fail taken OutOfMemory read rest width height cut names fails = tt

  module _ {S : Type 0} (to_int : S → ℤ) where
    pub channel_read : (read middle rest : List ℕ) (g : Grid S) (cells : List S) (width height : ℕ) → IsCut 10 text read middle → Names number read width height → AreRows to_int w width height middle rest cells → g ≡ grid width height cells → IsChannel to_int w number text rest g
    channel_read read middle rest g cells width height cut names rows is =
        let made : IsChannel to_int w number text rest (grid width height cells) = record {
          named = names.named;
          numbers = are_numbers to_int w width height middle rest cells rows;
          begun = named_line read middle width height cut names.is ∙ ap (λ xs. heading number width height ++ xs) rows.begun ∙ sym (append_assoc (heading number width height) (rows_text (meanings to_int (grid width height cells)) height) rest);
        } in
        subst (IsChannel to_int w number text rest) (sym is) made

-- ---- an image

-- the channels that were read so far, and what is left of the text
pub record ImageBegun (w : Width) (text rest : List ℕ) (channels : List (Grid ℤ)) (taken : ℕ) : Type 0 where
  pub image : IsImage w channels
  pub begun : text ≡ image_text channels ++ rest
  pub lines : taken ≡ line_count channels

module _ (w : Width) (text : List ℕ) where
  pub no_channels : ImageBegun w text text [] 0
  no_channels = record {
    image = record { count = omega arith; sides = All-nil (λ (g : Grid ℤ). (g.width ≤ 2 ^ 30) × (g.height ≤ 2 ^ 30)); numbers = All-nil (AreNumbers w) };
    begun = refl;
    lines = refl;
  }

  pub channel_more : {S : Type 0} (to_int : S → ℤ) (rest after : List ℕ) (channels now : List (Grid S)) (taken next number : ℕ) (g : Grid S) → ImageBegun w text rest (map (meanings to_int) channels) taken → number ≡ length channels → IsChannel to_int w number rest after g → next ≡ taken + (g.height + 1) → now ≡ channels ++ g ∷ [] → ImageBegun w text after (map (meanings to_int) now) next
  channel_more to_int rest after channels now taken next number g begun count channel lines pushed =
      let gs : List (Grid ℤ) = map (meanings to_int) channels in
      let h : Grid ℤ = meanings to_int g in
      let same : map (meanings to_int) now ≡ gs ++ h ∷ [] = ap (λ (xs : List (Grid _)). map (meanings to_int) xs) pushed ∙ map-append (meanings to_int) channels (g ∷ []) in
      let n : length gs ≡ number = length-map channels (meanings to_int) ∙ sym count in
      let made : ImageBegun w text after (gs ++ h ∷ []) next = record {
        image = record {
          count = let m = length-append gs (h ∷ []) in omega (arith, channel.named.count);
          sides = All-push (λ (k : Grid ℤ). (k.width ≤ 2 ^ 30) × (k.height ≤ 2 ^ 30)) gs h begun.image.sides (channel.named.wide, channel.named.high);
          numbers = All-push (AreNumbers w) gs h begun.image.numbers channel.numbers;
        };
        begun =
            begun.begun ∙ ap (λ xs. image_text gs ++ xs) channel.begun ∙ sym (append_assoc (image_text gs) (channel_text number h) after)
            ∙ ap (λ xs. xs ++ after) (sym (image_text-push gs number h n));
        lines = let s = sum_by-append (λ (k : Grid ℤ). k.height + 1) gs (h ∷ []) in omega (arith, lines, begun.lines);
      } in
      subst (λ (ks : List (Grid ℤ)). ImageBegun w text after ks next) (sym same) made

  pub image_read : (rest : List ℕ) (channels : List (Grid ℤ)) (taken : ℕ) → ImageBegun w text rest channels taken → rest ≡ [] → IsTextOf w text channels
  image_read rest channels taken begun none = record { image = begun.image; printed = begun.begun ∙ ap (λ xs. image_text channels ++ xs) none ∙ append-nil (image_text channels) }

  pub image_fails : (rest : List ℕ) (channels : List (Grid ℤ)) (taken number : ℕ) (e : TextError) → ImageBegun w text rest channels taken → number ≡ length channels → rest ≢ [] → ChannelFails w number rest taken e → TextFails w text e
  image_fails rest channels taken number (Line n) begun count some fails = record {
    channels = channels;
    rest = rest;
    image = begun.image;
    begun = begun.begun;
    more = some;
    line = fails.0;
    number = fails.1 ∙ ap (λ k. k + fails.0) begun.lines;
    wrong = subst (λ (k : ℕ). IsLineWrong w k rest fails.0) count fails.2;
  }
  image_fails rest channels taken number OutOfMemory begun count some fails = tt

-- something is read of each channel
pub channel_shorter : {S : Type 0} (to_int : S → ℤ) (w : Width) (number : ℕ) (text rest : List ℕ) (g : Grid S) → IsChannel to_int w number text rest g → length rest < length text
channel_shorter to_int w number text rest g channel =
    let h : Grid ℤ = meanings to_int g in
    let n : length text ≡ length (channel_text number h ++ rest) = ap length channel.begun in
    let a = length-append (channel_text number h) rest in
    let b = length-append (heading number h.width h.height) (rows_text h h.height) in
    let c = length-append (name number h.width h.height) (10 ∷ []) in
    omega arith
