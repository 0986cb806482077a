-- Rectangles with their places, one after another.
use Rattle.std.proofs.Common.{◌≡◌, ℕ, suc, ◌+◌, ◌-◌, ◌*◌, ◌<◌, ◌≤◌, List, [], ◌∷◌, ◌++◌, length, get_or, drop, take, replicate, false, Option, Some, None, Ok, Err, refl, sym, ap, ◌∙◌, subst, arith}
use Rattle.std.specs.Prelude.{◌&&◌, nat_le, nat_lt, codes, if◌then◌else◌, is_some}
use Rattle.std.specs.List.{sum_by}
use Rattle.std.specs.Option.{option_map_or}
use Rattle.std.proofs.lemmas.Bool.{le-leb, lt-ltb}
use Rattle.std.proofs.lemmas.List.{get_or-append-add, get_or_append_left, length-append, replicate-append-replicate, take-append-drop}
use Rattle.std.proofs.lemmas.List.Sums.{sum_by-append, sum_by-cons}
use Rattle.std.proofs.Math.Seq.{take-add}
use Rattle.jxlm_bits.specs.ErrorKind.{BadEnum, BadProfile}
use Rattle.jxlm_bits.specs.Grammar.{from_result, give}
use Rattle.jxlm_bits.specs.Tokens.{Tokens, token}
use Rattle.jxlm_bits.specs.Turns.{chain}
use Rattle.jxlm_bit_writer.specs.declared.token.Token.{Token}
use Rattle.jxl_coding.specs.Parse.{decoder_at}
use Rattle.jxl_coding.specs.Tokens.{Entropy, entropy}
use Rattle.jxl_image_header.specs.Fields.{number_meant}
use Rattle.jxl_image_header.specs.declared.size.Size.{Size}
use Rattle.jxl_patches.specs.Dictionaries.{IsWithin, area}
use Rattle.jxl_patches.specs.Patches.{Patches, most_rectangles, nowhere, one_place, one_rectangle, source}
use Rattle.jxl_patches.specs.declared.dictionary.Place.{Place}
use Rattle.jxl_patches.specs.declared.dictionary.PatchMode.{PatchMode}
use Rattle.jxl_patches.specs.declared.dictionary.PatchMode.TheVariants.{Add}
use Rattle.jxl_patches.specs.declared.dictionary.Rectangle.{Rectangle}
use Rattle.jxl_patches_write.specs.Written.{HaveRoom}
use Rattle.jxl_patches_write.specs.Inner.Given.{HaveSource, LieIn, Give, GivePlaces, GiveRectangle, GiveRectangles, GiveSteps, no_patches, sums, with_places}
use Rattle.jxl_patches_write.specs.Inner.Tokens.{source_tokens, token_in}
use Rattle.jxl_patches_write.proofs.Chains.{steps_all, steps_more, steps_none}
use Rattle.jxl_patches_write.proofs.TokenParts.{tells_both, tells_token}

module _ (slots : List (Option Size)) (r : Rectangle) (frame : Size) (held : get_or slots r.slot None ≡ Some frame) (columns : 0 < r.width) (rows : 0 < r.height)
    (source_columns : r.x0 + r.width ≤ frame.width) (source_rows : r.y0 + r.height ≤ frame.height) where
  slot_meant : (bytes : List ℕ) (p : ℕ) → (number_meant (codes "slot of a patch") (is_some (get_or slots r.slot None)) r.slot).read bytes p ≡ Ok (record { value = r.slot; position = p })
  slot_meant bytes p = rw held refl

  sides_meant : (w h : ℕ) → w ≡ r.width - 1 → h ≡ r.height - 1 → (bytes : List ℕ) (p : ℕ) →
      (from_result (if option_map_or (λ (f : Size). nat_lt (r.x0 + w) f.width && nat_lt (r.y0 + h) f.height) (get_or slots r.slot None) false
      then Ok (record { slot = r.slot; x0 = r.x0; y0 = r.y0; width = w + 1; height = h + 1 }) else Err (BadEnum (codes "rectangle of a patch") r.slot))).read bytes p
      ≡ Ok (record { value = r; position = p })
  sides_meant w h is_w is_h bytes p =
      let wide = lt-ltb (r.x0 + w) frame.width (omega (arith, is_w, columns, source_columns)) in
      let high = lt-ltb (r.y0 + h) frame.height (omega (arith, is_h, rows, source_rows)) in
      let width : w + 1 ≡ r.width = omega (arith, is_w, columns) in
      let height : h + 1 ≡ r.height = omega (arith, is_h, rows) in
      rw (held, wide, high, width, height) refl

  pub tells_source : Give (source (entropy decoder_at) slots) (source_tokens r) r
  tells_source =
      tells_both (token (entropy decoder_at) 1 (λ (v : ℕ). number_meant (codes "slot of a patch") (is_some (get_or slots v None)) v)) _ (_ ∷ []) (_ ∷ _ ∷ _ ∷ _ ∷ []) r.slot r
      (tells_token 1 1 r.slot _ r.slot (omega arith) refl slot_meant)
      (tells_both (token (entropy decoder_at) 3 give) _ (_ ∷ []) (_ ∷ _ ∷ _ ∷ []) r.x0 r (tells_token 3 3 r.x0 give r.x0 (omega arith) refl (λ bytes p. refl))
      (tells_both (token (entropy decoder_at) 3 give) _ (_ ∷ []) (_ ∷ _ ∷ []) r.y0 r (tells_token 3 3 r.y0 give r.y0 (omega arith) refl (λ bytes p. refl))
      (tells_both (token (entropy decoder_at) 2 give) _ (_ ∷ []) (_ ∷ []) (r.width - 1) r (tells_token 2 2 (r.width - 1) give (r.width - 1) (omega arith) refl (λ bytes p. refl))
      (tells_token 2 2 (r.height - 1) _ r (omega arith) refl (sides_meant (r.width - 1) (r.height - 1) refl refl)))))

-- places of one rectangle put as many cells as it has, each
same_cells : (run : List Place) (r : Rectangle) → ((k : ℕ) → k < length run → (get_or run k nowhere).source ≡ r) → sum_by area run ≡ r.width * r.height * length run
same_cells [] r same = omega arith
same_cells (p ∷ run) r same =
    let one : area p ≡ r.width * r.height = ap (λ (s : Rectangle). s.width * s.height) (same 0 (omega arith)) in
    let others = same_cells run r (λ k lt. same (suc k) (omega (arith, lt))) in
    let next : r.width * r.height + r.width * r.height * length run ≡ r.width * r.height * suc (length run) = cells_next (r.width * r.height) (length run) in
    sum_by-cons area p run ∙ ap (λ (n : ℕ). n + sum_by area run) one ∙ ap (λ (n : ℕ). r.width * r.height + n) others ∙ next
  where
    cells_next : (c n : ℕ) → c + c * n ≡ c * suc n
    cells_next c n = omega arith

module _ (extra : ℕ) (size : Size) (slots : List (Option Size)) (limit : ℕ) (before run others : List Place) (kinds : ℕ) (is_kinds : kinds ≡ 1 + extra) (same : HaveSource run) (some : 0 < length run)
    (room : HaveRoom size extra slots limit (sums kinds (before ++ (run ++ others)))) where
  abbrev r : Rectangle
  r = (get_or run 0 nowhere).source

  abbrev all : List Place
  all = before ++ (run ++ others)

  many : length all ≡ length before + (length run + length others)
  many = length-append before (run ++ others) ∙ ap (λ (n : ℕ). length before + n) (length-append run others)

  -- a place of the run lies in its frames
  lies : (k : ℕ) → k < length run → IsWithin size slots (get_or run k nowhere)
  lies k lt =
      let there : get_or all (length before + k) nowhere ≡ get_or run k nowhere = get_or-append-add before (run ++ others) k nowhere ∙ get_or_append_left run others nowhere k lt in
      subst (λ (p : Place). IsWithin size slots p) there (room.within.each (length before + k) (omega (arith, many, lt)))

  lie : LieIn size run
  lie k lt = let l = lies k lt in (l.columns, l.rows)

  abbrev most : ℕ
  most = most_rectangles size

  few : length before + (length run - 1 + 1) ≤ 4 * most
  few = let all_few = room.few in omega (arith, many, all_few, some)

  put : sum_by area before + r.width * r.height * (length run - 1 + 1) ≤ limit
  put =
      let c = room.cells in
      let one = sum_by-append area before (run ++ others) in
      let two = sum_by-append area run others in
      let three = same_cells run r same in
      let back : r.width * r.height * (length run - 1 + 1) ≡ r.width * r.height * length run = ap (λ (n : ℕ). r.width * r.height * n) (omega (arith, some)) in
      omega (arith, c, one, two, three, back)

  count_meant : (bytes : List ℕ) (p : ℕ) → (from_result (if nat_le (length before + (length run - 1 + 1)) (4 * most) then (
      if nat_le (sum_by (λ (p : Place). p.source.width * p.source.height) before + r.width * r.height * (length run - 1 + 1)) limit then Ok (length run - 1 + 1)
      else Err (BadProfile (codes "patches of too many cells"))) else Err (BadEnum (codes "places of a patch") (length run - 1)))).read bytes p ≡ Ok (record { value = length run; position = p })
  count_meant bytes p =
      let one = le-leb (length before + (length run - 1 + 1)) (4 * most) few in
      let two = le-leb (sum_by area before + r.width * r.height * (length run - 1 + 1)) limit put in
      let three : length run - 1 + 1 ≡ length run = omega (arith, some) in
      rw (one, two, three) refl

  after_is : with_places kinds (sums kinds before) run ≡ sums kinds (before ++ run)
  after_is =
      let count : length before * kinds + length run * kinds ≡ length (before ++ run) * kinds = mul_both (length before) (length run) ∙ ap (λ (n : ℕ). n * kinds) (sym (length-append before run)) in
      ap (λ (ms : List PatchMode). record { places = before ++ run; modes = ms })
      (replicate-append-replicate (length before * kinds) (length run * kinds) Add ∙ ap (λ (n : ℕ). replicate n Add) count)
    where
      mul_both : (a b : ℕ) → a * kinds + b * kinds ≡ (a + b) * kinds
      mul_both a b = omega arith

  pub tells_rectangle : (frame : Size) → get_or slots r.slot None ≡ Some frame → r.x0 + r.width ≤ frame.width → r.y0 + r.height ≤ frame.height → 0 < r.width → 0 < r.height → (places : List Token) →
      GivePlaces kinds r (length run) run places →
      Give (one_rectangle (entropy decoder_at) size kinds slots limit (sums kinds before)) (source_tokens r ++ (token_in 0 (length run - 1) ∷ places)) (sums kinds (before ++ run))
  tells_rectangle frame held wide high columns rows places read_as =
      let step : Patches → Tokens Entropy Patches = one_place (entropy decoder_at) size kinds (length before) r in
      let all_places = steps_all step (length run) (sums kinds before) (with_places kinds (sums kinds before) run) places (read_as size (sums kinds before) lie) in
      tells_both (source (entropy decoder_at) slots) _ (source_tokens r) (token_in 0 (length run - 1) ∷ places) r (sums kinds (before ++ run)) (tells_source slots r frame held columns rows wide high)
      (tells_both _ _ (_ ∷ []) places (length run) (sums kinds (before ++ run)) (tells_token 7 0 (length run - 1) _ (length run) (omega arith) refl count_meant)
      (subst (λ (b : Patches). Give (chain step (length run) (sums kinds before)) places b) after_is all_places))

-- the tokens of a rectangle and of its places
pub rectangle_read : (run : List Place) (kinds : ℕ) (tokens places : List Token) → HaveSource run → 0 < length run → 0 < (get_or run 0 nowhere).source.width → 0 < (get_or run 0 nowhere).source.height →
    GivePlaces kinds (get_or run 0 nowhere).source (length run) run places → tokens ≡ source_tokens (get_or run 0 nowhere).source ++ (token_in 0 (length run - 1) ∷ places) → GiveRectangle kinds run tokens
rectangle_read run kinds tokens places same some columns rows read_as are extra size slots limit before others is_kinds room =
    let w = lies extra size slots limit before run others kinds is_kinds same some room 0 some in
    subst (λ (ts : List Token). Give (one_rectangle (entropy decoder_at) size kinds slots limit (sums kinds before)) ts (sums kinds (before ++ run))) (sym are)
    (tells_rectangle extra size slots limit before run others kinds is_kinds same some room w.frame w.held w.source_columns w.source_rows columns rows places read_as)

-- no rectangle, and one more
pub rectangles_none : (places : List Place) (kinds : ℕ) → GiveRectangles kinds 0 (take 0 places) places []
rectangles_none places kinds extra size slots limit is_kinds room =
    let none : 0 ≡ length (take 0 places) * kinds = omega arith in
    subst (λ (b : Patches). GiveSteps (one_rectangle (entropy decoder_at) size kinds slots limit) 0 no_patches [] b) (ap (λ (n : ℕ). record { places = take 0 places; modes = replicate n Add }) none)
    (steps_none (one_rectangle (entropy decoder_at) size kinds slots limit) no_patches)

pub rectangles_more : (places : List Place) (start n count kinds : ℕ) (more tokens : List Token) → start + n ≤ length places → GiveRectangles kinds count (take start places) places more →
    GiveRectangle kinds (take n (drop start places)) tokens → GiveRectangles kinds (count + 1) (take (start + n) places) places (more ++ tokens)
rectangles_more places start n count kinds more tokens inside before read_as extra size slots limit is_kinds room =
    let all : take start places ++ (take n (drop start places) ++ drop n (drop start places)) ≡ places =
    ap (λ (ps : List Place). take start places ++ ps) (take-append-drop n (drop start places)) ∙ take-append-drop start places in
    let here = read_as extra size slots limit (take start places) (drop n (drop start places)) is_kinds (subst (λ (ps : List Place). HaveRoom size extra slots limit (sums kinds ps)) (sym all) room) in
    let joined : take start places ++ take n (drop start places) ≡ take (start + n) places = take_both in
    steps_more (one_rectangle (entropy decoder_at) size kinds slots limit) count no_patches (sums kinds (take start places)) (sums kinds (take (start + n) places)) more tokens
    (before extra size slots limit is_kinds room)
    (subst (λ (ps : List Place). Give (one_rectangle (entropy decoder_at) size kinds slots limit (sums kinds (take start places))) tokens (sums kinds ps)) joined here)
  where
    take_both : take start places ++ take n (drop start places) ≡ take (start + n) places
    take_both = sym (take-add start n places)
