-- What each section left still is there when all have had their turn: where no samples are missing, all is decoded.
use Rattle.std.proofs.Common.{◌≡◌, ◌≢◌, ℕ, suc, Bool, true, false, nat_lt, ◌+◌, ◌*◌, inl, inr, List, [], ◌∷◌, map, get_or, Result, Ok, ℤ, refl, sym, ap, ◌∙◌, subst, arith}
use Rattle.std.specs.List.{All, AllPairs, AllZip}
use Rattle.std.specs.Prelude.{MatchBool, Option}
use Rattle.std.specs.Int.{Width}
use Rattle.std.proofs.lemmas.Bool.{lt-ltb}
use Rattle.std.proofs.lemmas.List.{get_or-map}
use Rattle.std.proofs.lemmas.List.Elements.{All-head, All-tail}
use Rattle.jxlm_bits.specs.Bits.{bytes_of, position_of}
use Rattle.jxlm_bits.specs.Decoding.{Meaning}
use Rattle.jxlm_base.specs.Grid.{Grid, at, grid}
use Rattle.jxlm_base.specs.Outside.{KeepsOutside}
use Rattle.jxlm_base.specs.Regions.{AllLie, LieApart, buffer_of, grid_of, grids_in, store_meanings}
use Rattle.jxlm_base.specs.declared.subgrid.Region.{Region}
use Rattle.jxlm_bits.specs.declared.decoder.DecoderError.{DecoderError}
use Rattle.jxlm_bits.specs.declared.decoder.DecoderError.TheVariants.{UnexpectedEof}
use Rattle.jxlm_base.proofs.GridLaws.{grid_by_same}
use Rattle.jxlm_base.proofs.Outside.{all_lie_still}
use Rattle.jxlm_base.proofs.Regions.{at-grid_of}
use Rattle.jxlm_transform.specs.Layout.{no_region}
use Rattle.jxlm_transform.specs.Channels.{AreRegionsOf}
use Rattle.jxlm_groups.specs.Pieces.{in_store, within}
use Rattle.jxlm_groups.specs.declared.part.SectionPart.{SectionPart}
use Rattle.jxlm_groups.specs.declared.pass.Pass.{Pass}
use Rattle.jxlm_groups.proofs.Apart.{IsInside, part_kept}
use Rattle.jxlm_groups.proofs.PieceFacts.{each_inside, pieces_lie}
use Rattle.jxlm_samples.specs.Decode.{DecodeGives, Fails, Standing}
use Rattle.jxlm_samples.specs.Decode as decode
use Rattle.jxlm_samples.specs.Part.{Part, cell_count}
use Rattle.jxlm_samples.proofs.Loops.{fits_in}
use Rattle.jxl_modular.specs.Groups.{held_in, part_in, pieces_of}
use Rattle.jxl_modular.specs.Image.{Image, coded_list}
use Rattle.jxl_modular.specs.Inner.Laid.{IsLaidOut}
use Rattle.jxl_modular.specs.Inner.Turns.{PlainTurn}
use Rattle.jxlm_nested.specs.Nested.{NestedDone, PartTurn, nested_regions}
use Rattle.jxlm_tree.specs.Tree.{Config, depth}
use Rattle.jxl_modular.specs.Sections.{AllTurn, AreDecoded, CodesNested, CodesPart, CodesWhole, Section, SectionTurn, SectionsFit, SectionsLeave, Turn, list_in, most}
use Rattle.jxl_modular.proofs.Laid.{coded_apart, coded_lie, coded_sizes}

-- ---- a piece of coded grids is the grid of its region in the store

grid_of-within : (store : List (Grid ℤ)) (rs : List Region) (p : Region) → IsInside rs p → grid_of (grids_in rs store) p ≡ grid_of store (within (get_or rs p.buffer no_region) p)
grid_of-within store rs p is =
    let r : Region = get_or rs p.buffer no_region in
    let wide = is.wide in
    let high = is.high in
    let one : buffer_of (grids_in rs store) p ≡ grid_of store r = get_or-map (grid_of store) rs p.buffer no_region (grid 0 0 []) is.there in
    grid_by_same p.width p.height (λ i j. at (buffer_of (grids_in rs store) p) (p.x + i) (p.y + j)) (λ i j. at (buffer_of store r) (r.x + p.x + i) (r.y + p.y + j)) (λ i j a b.
    let left : r.x + (p.x + i) ≡ r.x + p.x + i = omega arith in
    let top : r.y + (p.y + j) ≡ r.y + p.y + j = omega arith in
    ap (λ g. at g (p.x + i) (p.y + j)) one ∙ at-grid_of store r (p.x + i) (p.y + j) (omega (arith, wide, a)) (omega (arith, high, b))
    ∙ ap (λ k. at (buffer_of store r) k (r.y + (p.y + j))) left ∙ ap (λ k. at (buffer_of store r) (r.x + p.x + i) k) top)

-- ---- a decode after which nothing is missing was whole

module _ {D : Type 0} (d : Meaning D) (w : Width) (part : Part) (bytes : List ℕ) (decoder : D) (old new : Standing) where
  same_partial : (e : DecoderError) (tried : ℕ) → Fails d w part bytes decoder old new e tried → new.partial ≡ old.partial
  same_partial e tried (some, inl begins) = ap (λ (s : Standing). s.partial) begins.unchanged
  same_partial e tried (some, inr later) = later.as_partial

  never_same : (b : Bool) → b ≡ false → b ≡ true → ⊥
  never_same b f t = cc

  whole_of : (partly : Bool) (tried : ℕ) → old.partial ≡ nat_lt 0 (cell_count part.channels) → new.partial ≡ false →
      DecodeGives d w part bytes decoder old new partly (Ok tt) tried → decode.IsWhole d w part bytes decoder old new tried
  whole_of partly tried begins not_missing (inl whole) = whole
  whole_of partly tried begins not_missing (inr fails) =
      let more : old.partial ≡ true = begins ∙ lt-ltb 0 (cell_count part.channels) fails.1.0 in
      absurd (never_same new.partial not_missing (same_partial UnexpectedEof tried fails.1 ∙ more))

-- ---- all sections

zip_weaker : {X Y : Type 0} (R S : X → Y → Type 0) → ((x : X) (y : Y) → R x y → S x y) → (xs : List X) (ys : List Y) → AllZip R xs ys → AllZip S xs ys
zip_weaker R S f [] [] h = tt
zip_weaker R S f [] (y ∷ ys) h = absurd h
zip_weaker R S f (x ∷ xs) [] h = absurd h
zip_weaker R S f (x ∷ xs) (y ∷ ys) h = (f x y h.0, zip_weaker R S f xs ys h.1)

module _ {S D : Type 0} (d : Meaning D) (w : Width) (to_int : S → ℤ) (zero : S) (x : Image S D) (passes : List Pass) (global : Option (Config D))
    (sides : AreRegionsOf x.channels x.coded) (apart : LieApart x.coded) where
  abbrev Left : Bool → List Section → List Turn → List (Grid S) → List (Grid S) → Type 0
  Left = AllTurn d w to_int zero x passes global

  abbrev Codes : Section → List (Grid ℤ) → ℕ → Type 0
  Codes = CodesPart d w to_int zero x passes global

  -- what is in a part, by the store and by the coded grids
  abbrev stand : SectionPart → List (Grid S) → List (Grid ℤ)
  stand part store = grids_in (held_in x passes part) (store_meanings to_int store)

  abbrev stand_coded : SectionPart → List (Grid S) → List (Grid ℤ)
  stand_coded part store = map (grid_of (grids_in x.coded (store_meanings to_int store))) (pieces_of x passes part)

  inside_of : (part : SectionPart) → All (IsInside x.coded) (pieces_of x passes part)
  inside_of part = each_inside x.group_dim passes (coded_list x) x.coded sides part

  still_lie : (part : SectionPart) (old new : List (Grid S)) → KeepsOutside (held_in x passes part) old new → AllLie x.coded old → AllLie x.coded new
  still_lie part old new keeps lie = all_lie_still (held_in x passes part) x.coded old new keeps lie

  -- A turn of one part keeps what is in another.
  other_stands : (one other : SectionPart) (old new : List (Grid S)) → (one ≡ other → ⊥) → AllLie x.coded old → KeepsOutside (held_in x passes one) old new → stand other new ≡ stand other old
  other_stands one other old new unlike lie keeps =
      part_kept x.group_dim passes (coded_list x) x.coded apart inside_of one other unlike to_int old new
      (pieces_lie old x.coded (pieces_of x passes other) lie (inside_of other)) keeps

  match_either : {P Q R : Type 0} (b : Bool) → (P → R) → (Q → R) → MatchBool b P Q → R
  match_either true f g h = f h
  match_either false f g h = g h

  match_both : {P Q R T : Type 0} (b : Bool) → (P → R) → (Q → T) → MatchBool b P Q → MatchBool b R T
  match_both true f g h = f h
  match_both false f g h = g h

  -- either kind of turn keeps the cells of other parts
  abbrev Nested : Bool → Section → Turn → List (Grid S) → List (Grid S) → Type 0
  Nested partly s t old new = NestedDone d w to_int zero x.bit_depth global (bytes_of s.bits) (position_of s.bits) (list_in x passes s.part) (held_in x passes s.part) s.stream_index partly t old new

  turned_outside : (partly : Bool) (s : Section) (t : Turn) (old new : List (Grid S)) → SectionTurn d w to_int zero x passes global partly s (Ok tt) t old new → KeepsOutside (held_in x passes s.part) old new
  turned_outside partly s t old new h = match_either {P = Nested partly s t old new} {Q = PlainTurn d w to_int x passes partly s (Ok tt) t old new} s.nested (λ n. n.outside) (λ p. p.outside) h

  later_keep : (partly : Bool) (part : SectionPart) (ss : List Section) (ts : List Turn) (old new : List (Grid S)) → AllLie x.coded old → All (λ s. s.part ≡ part → ⊥) ss → Left partly ss ts old new → stand part new ≡ stand part old
  later_keep partly part [] [] old new lie none left = ap (stand part) left
  later_keep partly part [] (t ∷ ts) old new lie none left = absurd left
  later_keep partly part (s ∷ ss) [] old new lie none left = absurd left
  later_keep partly part (s ∷ ss) (t ∷ ts) old new lie none left =
      let (between, turn, rest) = left in
      later_keep partly part ss ts between new (still_lie s.part old between (turned_outside partly s t old between turn) lie) (All-tail (λ (s : Section). s.part ≡ part → ⊥) s ss none) rest
      ∙ other_stands s.part part old between (All-head (λ (s : Section). s.part ≡ part → ⊥) s ss none) lie (turned_outside partly s t old between turn)

  -- a part that has no samples missing is coded whole, for this number of nodes
  part_whole : (part : Part) (bytes : List ℕ) (decoder : D) (p : ℕ) (regions : List Region) (partly : Bool) (t : Turn) (old new : List (Grid S)) → t.partial ≡ false →
      PartTurn d w to_int part bytes decoder p regions partly (Ok tt) t old new → CodesWhole d w part bytes decoder p (grids_in regions (store_meanings to_int new)) (most t)
  part_whole part bytes decoder p regions partly t old new none h =
      let whole = whole_of d w _ bytes decoder _ _ partly t.tried refl none h.answers in
      record {
        end = t.position;
        coded = whole.coded;
        sizes = whole.fits;
        costs = ap (λ n. n * (depth t.tree + 1)) whole.tries ∙ ap (λ tree. cell_count part.channels * (depth tree + 1)) h.tree;
      }

  whole_nested : (partly : Bool) (s : Section) (t : Turn) (old new : List (Grid S)) → t.partial ≡ false → Nested partly s t old new →
      CodesNested d w to_int zero x passes global s (stand s.part new) (most t)
  whole_nested partly s t old new none h = record {
    start = h.start;
    samples = grids_in (nested_regions (held_in x passes s.part) h.start.head.coded.steps old) (store_meanings to_int h.now);
    coded = part_whole _ _ _ _ _ partly t _ h.now none h.decoded;
    only = h.only;
  }

  whole_turn : (partly : Bool) (s : Section) (t : Turn) (old new : List (Grid S)) → t.partial ≡ false → SectionTurn d w to_int zero x passes global partly s (Ok tt) t old new → Codes s (stand s.part new) (most t)
  whole_turn partly s t old new none h =
      match_both s.nested (whole_nested partly s t old new none)
      (part_whole (part_in x passes s.part s.stream_index) (bytes_of s.bits) x.config.decoder (position_of s.bits) (held_in x passes s.part) partly t old new none) h

  each_whole : (partly : Bool) (ss : List Section) (ts : List Turn) (old new : List (Grid S)) → AllLie x.coded old → AllPairs (λ s t. s.part ≢ t.part) ss → All (λ t. t.partial ≡ false) ts → Left partly ss ts old new →
      AllZip (λ s n. Codes s (stand s.part new) n) ss (map most ts)
  each_whole partly [] [] old new lie unlike whole left = tt
  each_whole partly [] (t ∷ ts) old new lie unlike whole left = absurd left
  each_whole partly (s ∷ ss) [] old new lie unlike whole left = absurd left
  each_whole partly (s ∷ ss) (t ∷ ts) old new lie unlike whole left =
      let (between, turn, rest) = left in
      let next = still_lie s.part old between (turned_outside partly s t old between turn) lie in
      let here = whole_turn partly s t old between (All-head (λ (t : Turn). t.partial ≡ false) t ts whole) turn in (
        subst (λ gs. Codes s gs (most t)) (sym (later_keep partly s.part ss ts between new next (λ k e l same. unlike 0 (suc k) e (omega arith) (omega (arith, l)) (sym same)) rest)) here,
        each_whole partly ss ts between new next (λ j k e lt l. unlike (suc j) (suc k) e (omega (arith, lt)) (omega (arith, l))) (All-tail (λ (t : Turn). t.partial ≡ false) t ts whole) rest,
      )

  -- what is in a part of the store is what is in it of the coded grids
  stand_within : (part : SectionPart) (store : List (Grid S)) → stand part store ≡ stand_coded part store
  stand_within part store = sym (pieces_same (pieces_of x passes part) (inside_of part)) where
    pieces_same : (ps : List Region) → All (IsInside x.coded) ps → map (grid_of (grids_in x.coded (store_meanings to_int store))) ps ≡ grids_in (in_store x.coded ps) (store_meanings to_int store)
    pieces_same [] all = refl
    pieces_same (p ∷ ps) all =
        ap (λ (g : Grid ℤ). g ∷ map (grid_of (grids_in x.coded (store_meanings to_int store))) ps) (grid_of-within (store_meanings to_int store) x.coded p (All-head (IsInside x.coded) p ps all))
        ∙ ap (λ (gs : List (Grid ℤ)). grid_of (store_meanings to_int store) (within (get_or x.coded p.buffer no_region) p) ∷ gs) (pieces_same ps (All-tail (IsInside x.coded) p ps all))

  -- Where the answer is true, there is one list of coded grids that all sections code.
  are_decoded : (partly : Bool) (ss : List Section) (old : List (Grid S)) (image : List (Grid ℤ)) (before after : ℕ) → AllLie x.coded old → AllPairs (λ s t. s.part ≢ t.part) ss →
      SectionsLeave d w to_int zero x passes global partly ss true old image before after → AreDecoded d w to_int zero x passes global ss image before after
  are_decoded partly ss old image before after lie unlike leave =
      let (whole, complete) = leave.says.0 refl in
      record {
        coded = grids_in x.coded (store_meanings to_int leave.between);
        sizes = fits_in x.channels x.coded (store_meanings to_int leave.between) sides;
        complete = complete;
        costs = map most leave.turns;
        parts = zip_weaker (λ s n. Codes s (stand s.part leave.between) n) (λ s n. Codes s (stand_coded s.part leave.between) n)
            (λ s n h. subst (λ gs. Codes s gs n) (stand_within s.part leave.between) h)
            ss (map most leave.turns) (each_whole partly ss leave.turns old leave.between lie unlike whole leave.left);
        only = leave.only;
        counted = leave.counted;
      }

-- The headline, of an image that is laid out and sections that fit.
pub decoded_if_true : {S D : Type 0} (d : Meaning D) (w : Width) (to_int : S → ℤ) (zero : S) (x : Image S D) (passes : List Pass) (global : Option (Config D)) (partly : Bool) (ss : List Section) (image : List (Grid ℤ)) (before after : ℕ) →
    IsLaidOut x → SectionsFit x passes ss → SectionsLeave d w to_int zero x passes global partly ss true x.store image before after → AreDecoded d w to_int zero x passes global ss image before after
decoded_if_true d w to_int zero x passes global partly ss image before after laid fit leave =
    are_decoded d w to_int zero x passes global (coded_sizes x laid) (coded_apart x laid) partly ss x.store image before after (coded_lie x laid) fit.unlike leave

pub decoded_if_so : {S D : Type 0} {E : Type 0} (d : Meaning D) (w : Width) (to_int : S → ℤ) (zero : S) (x : Image S D) (passes : List Pass) (global : Option (Config D)) (partly : Bool) (ss : List Section) (image : List (Grid ℤ)) (before after : ℕ) (answer : Bool) →
    IsLaidOut x → SectionsFit x passes ss → SectionsLeave d w to_int zero x passes global partly ss answer x.store image before after → ◌≡◌ {A = Result Bool E} (Ok answer) (Ok true) → AreDecoded d w to_int zero x passes global ss image before after
decoded_if_so d w to_int zero x passes global partly ss image before after answer laid fit leave is =
    let so : answer ≡ true = cc in
    decoded_if_true d w to_int zero x passes global partly ss image before after laid fit
    (subst (λ b. SectionsLeave d w to_int zero x passes global partly ss b x.store image before after) so leave)
