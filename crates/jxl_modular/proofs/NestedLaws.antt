-- A part with a header of its own: its coded channels lie in its regions, and in tables after the store's buffers; once
-- they are decoded and its transforms undone, the part has their only image, and no cell outside it changed.
use Rattle.std.proofs.Common.{◌≡◌, ℕ, Bool, not, ◌+◌, ◌<◌, ◌≤◌, inl, inr, List, [], ◌++◌, take, length, get_or, Ok, Err, Result, Option, Some, ℤ, sym, ap, ◌∙◌, subst, arith}
use Rattle.std.specs.List.{All}
use Rattle.std.specs.Int.{Width}
use Rattle.std.proofs.lemmas.Bool.{cases_lt}
use Rattle.std.proofs.lemmas.List.{get_or-take, get_or_append_left, get_or_past, length-append, length-take}
use Rattle.std.proofs.Math.Seq.{drop-append_seam}
use Rattle.jxlm_bits.specs.Decoding.{Meaning}
use Rattle.jxlm_bits.specs.ErrorKind.{kind_of}
use Rattle.jxlm_base.specs.Grid.{Grid, IsFull, at, cell, grid, grid_by, meanings}
use Rattle.jxlm_base.specs.Outside.{KeepsOutside, buffer_at}
use Rattle.jxlm_base.specs.Regions.{AllLie, HasCell, LieApart, Lies, buffer_of, grid_of, grids_in, store_meanings}
use Rattle.jxlm_bits.specs.declared.error.Error.{Error}
use Rattle.jxlm_base.specs.declared.subgrid.Region.{Region}
use Rattle.jxlm_base.proofs.Regions.{buffer_of-meanings}
use Rattle.jxlm_chain.specs.Chain.{Chain}
use Rattle.jxlm_chain.specs.Lying.{HasTables, LieIn}
use Rattle.jxlm_transform.specs.Lists.{list_of}
use Rattle.jxlm_transform.specs.Layout.{HasBuffers, Layout, layout_after_all}
use Rattle.jxlm_chain.specs.Shape.{SameShape}
use Rattle.jxlm_chain.specs.Steps.{CanUndoAll, IsNarrowStore}
use Rattle.jxlm_chain.specs.Undo.{Undo, UndoesAll, undo_of_all}
use Rattle.jxlm_chain.specs.Undoings.{SuitsWeights}
use Rattle.jxlm_chain.proofs.CanUndo.{can_undo_all}
use Rattle.jxlm_chain.proofs.LayoutLaws.{lie_after_all, tables_there}
use Rattle.jxlm_chain.proofs.OneImage.{no_two_images}
use Rattle.jxlm_chain.proofs.ShapeLaws.{lie_in_kept, shape_all_undone, shape_both, shape_kept, tables_kept}
use Rattle.jxlm_chain.proofs.Undone.{chain_of}
use Rattle.jxlm_groups.specs.Parts.{HaveCell}
use Rattle.jxlm_groups.proofs.Apart.{map_same}
use Rattle.jxlm_groups.proofs.Outside.{all_inside, finish_outside, never_has, none_has}
use Rattle.jxlm_transform.specs.Channels.{AreRegionsOf, ChannelList}
use Rattle.jxlm_transform.specs.ChannelSteps.{Step}
use Rattle.jxlm_transform.specs.Steps.{Sides, tables_of}
use Rattle.jxlm_tree.specs.Tree.{Config}
use Rattle.jxlm_nested.specs.Zeros.{zeros}
use Rattle.jxlm_nested.specs.NestedParts.{CanFill, Decodes, FillsIn, IsNested, head_of, nested_channels, nested_places, regions_in, with_own_tables}
use Rattle.jxlm_nested.specs.Opened.{steps_of_header}
use Rattle.jxlm_nested.specs.Nested.{NestedDecodes, NestedDone, NestedStops, NestedTurn, PartTurn, Turn, nested_regions, with_tables}
use Rattle.jxlm_nested.specs.Starts.{Start, coded_part}
use Rattle.jxlm_nested.specs.declared.nested.NestedPart.{NestedPart}
use Rattle.jxl_modular.proofs.FreshLaws.{zeros_fit}
use Rattle.jxl_modular.proofs.PictureLaws.{no_memory}
use Rattle.jxl_modular.proofs.Suits.{steps_suit}

-- ---- buffers after the store's own, and buffers cut off

module _ {S : Type 0} where
  more_same : (store more : List (Grid S)) (b : ℕ) → b < length store → buffer_at (store ++ more) b ≡ buffer_at store b
  more_same store more b lt = get_or_append_left store more (grid 0 0 []) b lt

  pub lies_more : (store more : List (Grid S)) (r : Region) → Lies r store → Lies r (store ++ more)
  lies_more store more r h =
      let there = h.there in
      let long = length-append store more in
      let same : buffer_of (store ++ more) r ≡ buffer_of store r = more_same store more r.buffer there in
      record {
        there = omega (arith, there, long);
        full = subst IsFull (sym same) h.full;
        columns = subst (λ (g : Grid S). r.x + r.width ≤ g.width) (sym same) h.columns;
        rows = subst (λ (g : Grid S). r.y + r.height ≤ g.height) (sym same) h.rows;
      }

  -- the tables are there
  pub tables_behind : (zero : S) (steps : List Step) (store : List (Grid S)) → HasTables steps (length store) (with_tables zero steps store)
  tables_behind zero steps store =
      let long = length-append store (zeros zero (tables_of steps)) in
      tables_there steps (length store) (with_tables zero steps store) (omega (arith, long))
      (subst (HasBuffers (tables_of steps)) (sym (drop-append_seam store (zeros zero (tables_of steps)))) (zeros_fit zero (tables_of steps)))

  -- a store without the buffers after the first n has the same grids in regions of these
  pub grids_front : (f : S → ℤ) (n : ℕ) (store : List (Grid S)) (rs : List Region) → All (λ r. r.buffer < n) rs → grids_in rs (store_meanings f (take n store)) ≡ grids_in rs (store_meanings f store)
  grids_front f n store rs all =
      map_same (grid_of (store_meanings f (take n store))) (grid_of (store_meanings f store)) rs (λ k d lt.
      let r : Region = get_or rs k d in
      let same : buffer_of (store_meanings f (take n store)) r ≡ buffer_of (store_meanings f store) r =
      buffer_of-meanings f (take n store) r ∙ ap (meanings f) (get_or-take n store r.buffer (grid 0 0 []) (all k d lt)) ∙ sym (buffer_of-meanings f store r) in
      ap (λ g. grid_by r.width r.height (λ x y. at g (r.x + x) (r.y + y))) same)

  -- what changed in a store with more buffers, cut back, is what changed in the store
  pub cut_back : (regions : List Region) (store more now : List (Grid S)) → SameShape (store ++ more) now →
      ((b x y : ℕ) → b < length store → x < (buffer_at store b).width → y < (buffer_at store b).height → All (λ r. HasCell r b x y → ⊥) regions → cell (buffer_at now b) x y ≡ cell (buffer_at store b) x y) →
      KeepsOutside regions store (take (length store) now)
  cut_back regions store more now shape same =
      let n : ℕ = length store in
      let long = length-append store more in
      let count = shape.count in
      let cut = length-take n now in
      let short : length (take n now) ≡ n = omega (arith, long, count, cut) in
      record {
        count = short;
        width = λ b. elim (cases_lt b n) [
          | inl lt ↦ ap (λ (g : Grid S). g.width) (front b lt) ∙ shape.width b ∙ ap (λ (g : Grid S). g.width) (more_same store more b lt)
          | inr ge ↦ ap (λ (g : Grid S). g.width) (past b ge short)
        ];
        height = λ b. elim (cases_lt b n) [
          | inl lt ↦ ap (λ (g : Grid S). g.height) (front b lt) ∙ shape.height b ∙ ap (λ (g : Grid S). g.height) (more_same store more b lt)
          | inr ge ↦ ap (λ (g : Grid S). g.height) (past b ge short)
        ];
        full = λ b h. elim (cases_lt b n) [
          | inl lt ↦ subst IsFull (sym (front b lt)) (shape.full b (subst IsFull (sym (more_same store more b lt)) h))
          | inr ge ↦ subst IsFull (sym (past b ge short)) h
        ];
        cells = λ b x y lx ly o. elim (cases_lt b n) [
          | inl lt ↦ ap (λ (g : Grid S). cell g x y) (front b lt) ∙ same b x y lt lx ly o
          | inr ge ↦ ap (λ (g : Grid S). cell g x y) (past b ge short)
        ];
      } where
        front : (b : ℕ) → b < length store → buffer_at (take (length store) now) b ≡ buffer_at now b
        front b lt = get_or-take (length store) now b (grid 0 0 []) lt

        past : (b : ℕ) → length store ≤ b → length (take (length store) now) ≡ length store → buffer_at (take (length store) now) b ≡ buffer_at store b
        past b ge short = get_or_past (take (length store) now) b (grid 0 0 []) (omega (arith, ge, short)) ∙ sym (get_or_past store b (grid 0 0 []) ge)

-- ---- an error in the middle

module _ {S D : Type 0} (d : Meaning D) (w : Width) (to_int : S → ℤ) (zero : S) (bit_depth : ℕ) (global : Option (Config D)) (bytes : List ℕ) (p : ℕ) (list : ChannelList) (held : List Region) (stream : ℕ)
    (old : List (Grid S)) where
  -- it changes the part alone
  pub stops_outside : (partly : Bool) (e : Error) (t : Turn) (new : List (Grid S)) (h : NestedStops d w to_int zero bit_depth global bytes p list held stream partly e t old new) → KeepsOutside held old new
  stops_outside partly e t new h =
      let its = h.start.head.coded.steps in
      let there : Layout = nested_places held (length old) in
      let from : List (Grid S) = with_tables zero its old in
      let shape = shape_kept (nested_regions held its old) from h.now h.decoded.outside in
      subst (KeepsOutside held old) (sym h.cut)
      (cut_back held old (zeros zero (tables_of its)) h.now shape (λ b i j lt li lj none.
      let first : buffer_at from b ≡ buffer_at old b = get_or_append_left old (zeros zero (tables_of its)) (grid 0 0 []) b lt in
      let never : HaveCell held b i j → ⊥ = never_has b i j held none in
      h.decoded.outside.cells b i j (subst (λ (g : Grid S). i < g.width) (sym first) li) (subst (λ (g : Grid S). j < g.height) (sym first) lj)
      (none_has b i j (nested_regions held its old) (λ k. never (all_inside b i j its there lt k)))
      ∙ ap (λ (g : Grid S). cell g i j) first))

-- ---- a part by its own header, whose channels lie in these regions of the store

module _ {S D : Type 0} (d : Meaning D) (w : Width) (to_int : S → ℤ) (zero : S) (bit_depth : ℕ) (global : Option (Config D)) (bytes : List ℕ) (p : ℕ) (list : ChannelList) (held : List Region) (stream : ℕ)
    (old : List (Grid S)) (sizes : AreRegionsOf list.channels held) (lie : AllLie held old) (apart : LieApart held)
    (n : NestedPart D) (q : ℕ) (is : IsNested d global bytes list (nested_places held (length old)) p n q) where
  abbrev steps : List Step
  steps = steps_of_header n.header

  abbrev places : Layout
  places = nested_places held (length old)

  abbrev begun : List (Grid S)
  begun = with_tables zero steps old

  abbrev start : Start d global bytes list p
  start = record { head = head_of n; config = n.config; samples_at = q; start = is.start }

  -- where its coded channels lie, by the steps
  regions_are : regions_in n ≡ nested_regions held steps old
  regions_are = ap (λ (l : Layout). l.regions) is.placed.layout

  tables_are : with_own_tables zero n old ≡ begun
  tables_are = ap (λ (ss : List Sides). old ++ zeros zero ss) is.placed.tables

  taken : All (λ r. r.buffer < length old) held
  taken = λ k e lt. (lie k e lt).there

  own_lie : LieIn list.channels places begun
  own_lie = record {
    sizes = sizes;
    lie = λ k e lt. lies_more old (zeros zero (tables_of steps)) (get_or held k e) (lie k e lt);
    taken = taken;
    apart = apart;
  }

  coded_lie : LieIn ((list_of n.placed.channels).channels) (layout_after_all steps places) begun
  coded_lie = (lie_after_all steps list _ places begun is.opened.leaves is.opened.steps own_lie (tables_behind zero steps old)).0

  -- it can be decoded, and undone, in the store with its tables
  pub can_fill : IsNarrowStore begun → CanFill n (with_own_tables zero n old)
  can_fill narrow_store = record {
    sizes = subst (AreRegionsOf (nested_channels n)) (sym regions_are) coded_lie.sizes;
    narrow = is.opened.narrow;
    few = is.opened.few;
    weights = is.opened.weights;
    lie = subst (λ (rs : List Region). AllLie rs (with_own_tables zero n old)) (sym regions_are) (subst (AllLie (nested_regions held steps old)) (sym tables_are) coded_lie.lie);
    apart = subst LieApart (sym regions_are) coded_lie.apart;
    undo = subst (CanUndoAll (with_own_tables zero n old)) (sym is.placed.undos)
        (subst (λ (store : List (Grid S)). CanUndoAll store (undo_of_all steps places)) (sym tables_are)
        (can_undo_all steps list _ places begun is.opened.leaves is.opened.steps own_lie (tables_behind zero steps old)));
    suits = subst (All (SuitsWeights (Some n.header.wp_params))) (sym is.placed.undos) (steps_suit n.header.wp_params steps places is.opened.palettes);
    narrow_store = subst (λ (store : List (Grid S)). IsNarrowStore store) (sym tables_are) narrow_store;
  }

  -- what decoding its samples returns, in these regions of a store
  decodes : (partly : Bool) (result : Result (Unit {0}) Error) (t : Turn) (now : List (Grid S)) → Decodes d w to_int bytes stream q n partly result t (with_own_tables zero n old) now →
      NestedDecodes d w to_int zero bit_depth global bytes p list held stream partly start result t old now
  decodes partly result t now h =
      let Turned : List Region → List (Grid S) → Type 0 = λ rs store. PartTurn d w to_int (coded_part stream (head_of n) n.config) bytes n.config.decoder q rs partly result t store now in
      subst (λ (rs : List Region). Turned rs begun) regions_are (subst (Turned (regions_in n)) tables_are h)

  -- Decoded and undone, the part has the only image of its samples.
  turned : (partly : Bool) (t : Turn) (now finished : List (Grid S)) → NestedDecodes d w to_int zero bit_depth global bytes p list held stream partly start (Ok tt) t old now →
      UndoesAll to_int w bit_depth (undo_of_all steps places) now finished →
      NestedDone d w to_int zero bit_depth global bytes p list held stream partly t old (take (length old) finished)
  turned partly t now finished decoded undone =
      let decoding = shape_kept (nested_regions held steps old) begun now decoded.outside in
      let undoing = shape_all_undone to_int w bit_depth (undo_of_all steps places) now finished undone in
      let lies = lie_in_kept begun now decoding list.channels places own_lie in
      let tables = tables_kept begun now decoding steps (length old) (tables_behind zero steps old) in
      let chain : Chain w bit_depth steps list (grids_in held (store_meanings to_int finished)) (grids_in (nested_regions held steps old) (store_meanings to_int now)) =
      chain_of to_int w bit_depth steps list _ places now finished is.opened.leaves is.opened.steps lies tables undone in
      let front = grids_front to_int (length old) finished held taken in
      let own : Chain w bit_depth steps list (grids_in held (store_meanings to_int (take (length old) finished))) (grids_in (nested_regions held steps old) (store_meanings to_int now)) =
      subst (λ gs. Chain w bit_depth steps list gs (grids_in (nested_regions held steps old) (store_meanings to_int now))) (sym front) chain in
      record {
        start = start;
        now = now;
        decoded = decoded;
        only = record { chain = own; only = λ other k. no_two_images w bit_depth steps list other (grids_in held (store_meanings to_int (take (length old) finished))) (grids_in (nested_regions held steps old) (store_meanings to_int now)) k own };
        outside = cut_back held old (zeros zero (tables_of steps)) finished (shape_both begun now finished decoding undoing) (λ b i j lt li lj none.
            let never : HaveCell held b i j → ⊥ = never_has b i j held none in
            let first : buffer_at begun b ≡ buffer_at old b = get_or_append_left old (zeros zero (tables_of steps)) (grid 0 0 []) b lt in
            let wide : i < (buffer_at begun b).width = subst (λ (g : Grid S). i < g.width) (sym first) li in
            let high : j < (buffer_at begun b).height = subst (λ (g : Grid S). j < g.height) (sym first) lj in
            finish_outside b i j to_int w bit_depth steps places now finished (subst (λ n. i < n) (sym (decoding.width b)) wide) (subst (λ n. j < n) (sym (decoding.height b)) high) undone lt never
            ∙ decoded.outside.cells b i j wide high (none_has b i j (nested_regions held steps old) (λ k. never (all_inside b i j steps places lt k)))
            ∙ ap (λ (g : Grid S). cell g i j) first);
      }

  -- what filling it returns is its turn, or its error
  pub turned_ok : (partly whole : Bool) (t : Turn) (new : List (Grid S)) → FillsIn d w to_int bytes stream q n partly zero bit_depth (Ok whole) t old new →
      NestedDone d w to_int zero bit_depth global bytes p list held stream partly t old new × (whole ≡ not t.partial)
  turned_ok partly whole t new (last, (now, decoded, undone, says), cut) = (
    subst (NestedDone d w to_int zero bit_depth global bytes p list held stream partly t old) (sym cut)
        (turned partly t now last (decodes partly (Ok tt) t now decoded) (subst (λ (us : List Undo). UndoesAll to_int w bit_depth us now last) is.placed.undos undone)),
    says,
  )

  pub turned_err : (partly : Bool) (e : Error) (t : Turn) (new : List (Grid S)) → FillsIn d w to_int bytes stream q n partly zero bit_depth (Err e) t old new →
      NestedTurn d w to_int zero bit_depth global bytes p list held stream partly (Err e) t old new
  turned_err partly e t new (inl (memory, unchanged, tries)) = inl (record { because = no_memory (kind_of e) _ memory; unchanged = unchanged; tries = tries })
  turned_err partly e t new (inr (last, (answer, decoded, cause), cut)) = inr (record {
    start = start;
    now = last;
    answer = answer;
    decoded = decodes partly answer t last decoded;
    cause = cause;
    cut = cut;
  })
