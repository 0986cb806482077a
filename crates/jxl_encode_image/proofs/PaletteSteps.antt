-- A palette of channels of a coded image that are whole buffers: its indices take the place of the first, and its table comes
-- after all buffers.
use Rattle.std.proofs.Common.{◌≡◌, ◌≢◌, inl, inr, ℕ, suc, ◌+◌, ◌<◌, ◌≤◌, ℤ, List, [], ◌∷◌, ◌++◌, length, Ok, refl, sym, ap, ◌∙◌, subst, arith, set}
use Rattle.std.specs.Prelude.{get_or, map}
use Rattle.std.specs.List.{All}
use Rattle.std.specs.Int.{Width}
use Rattle.std.proofs.lemmas.Bool.{cases_eq}
use Rattle.std.proofs.lemmas.List.{ext_get_or, get_or-map, get_or-set_other, get_or-set_same, get_or_append_left, length-append, length-map, length-set}
use Rattle.std.proofs.lemmas.List.Elements.{All-append, All-cons, All-nil, All-weaker}
use Rattle.std.proofs.Math.Seq.{get_or-append_seam}
use Rattle.jxlm_base.specs.Grid.{Grid, IsFull, at, cell, grid, grid_by, meanings}
use Rattle.jxlm_base.specs.Outside.{KeepsOutside, buffer_at}
use Rattle.jxlm_base.specs.Regions.{HasCell, IsWhole, Lies, buffer_of, grid_of, grids_in, region, store_meanings}
use Rattle.jxlm_base.specs.declared.subgrid.Region.{Region}
use Rattle.jxlm_base.proofs.Regions.{IsFull-meanings, buffer_of-meanings, grid_of_whole}
use Rattle.jxlm_chain.specs.Lying.{HasTables, LieIn}
use Rattle.jxlm_chain.specs.Shape.{SameShape}
use Rattle.jxlm_chain.specs.Undo.{UndoesAll, undo_of_all}
use Rattle.jxlm_chain.specs.declared.placed.PlacedChannels.{PlacedChannels}
use Rattle.jxlm_chain.proofs.ListLaws.{length-range}
use Rattle.jxlm_chain.proofs.PlacedSteps.{even_of}
use Rattle.jxlm_chain.proofs.ShapeLaws.{shape_kept}
use Rattle.jxlm_encode_transform.proofs.Squeezed.{keeps_back}
use Rattle.jxlm_inverse.specs.Palette.{IsPaletteOf}
use Rattle.jxlm_transform.specs.Channels.{ChannelList, HasSides}
use Rattle.jxlm_transform.specs.ChannelSteps.{PaletteStep, Step, list_after, range}
use Rattle.jxlm_transform.specs.Layout.{no_region}
use Rattle.jxlm_transform.specs.Lists.{layout_of, list_of}
use Rattle.jxlm_transform.specs.Transforms.{OfPalette}
use Rattle.jxlm_transform.specs.declared.channels.ModularChannels.{ModularChannels}
use Rattle.jxlm_transform.specs.declared.transform.Palette.{Palette}
use Rattle.jxlm_transform.proofs.Ranges.{range_at}
use Rattle.jxlm_transform.proofs.StepFacts.{PaletteApplies, first_step, palette_applies, same_ok}
use Rattle.jxl_encode_image.specs.Palettes.{plain_palette}
use Rattle.jxl_encode_image.specs.Preparations.{IsPlainPalette}
use Rattle.jxl_encode_image.specs.Images.{samples_in}
use Rattle.jxl_encode_image.specs.Inner.Placing.{GoesOnTo, IsPaletteAt, IsPlacedFor, LieAlone, LiesWhole, region_at}
use Rattle.jxl_encode_image.specs.declared.transform.ImageTransform.{ImageTransform}
use Rattle.jxl_encode_image.specs.declared.transform.ImageTransform.TheVariants as images
use Rattle.jxl_encode_image.proofs.Steps.{goes_next, lie_next, step_leaves}

module _ {S : Type 0} (to_int : S → ℤ) (w : Width) (old : ModularChannels) (store : List (Grid S)) (first count : ℕ) (t : Palette) (table index : Grid S) (is : IsPaletteAt to_int w old store first count t table index) where
  abbrev none : Grid S
  none = grid 0 0 []

  long : length (range first count store) ≡ count
  long = length-range first count store is.there

  num_is : t.num_c ≡ count
  num_is = ap (λ (u : Palette). u.num_c) is.made.is ∙ long

  colours_are : t.nb_colours ≡ table.width
  colours_are = ap (λ (u : Palette). u.nb_colours) is.made.is

  some : 1 ≤ count
  some = let n = is.made.some_channels in omega (arith, n, long)

  -- a header can spell the palette
  pub plain : IsPlainPalette t
  plain =
      let none : t.nb_deltas ≡ 0 = ap (λ (u : Palette). u.nb_deltas) is.made.is in
      let n = is.made.some_channels in
      let four = is.made.channels in
      let most = is.made.colours in
      record {
        is = is.made.is ∙ ap (λ k. plain_palette t.begin_c k table.width) (long ∙ sym num_is) ∙ ap (plain_palette t.begin_c t.num_c) (sym colours_are);
        ranges = record {
          begin = is.begin;
          some_channels = omega (arith, num_is, some);
          channels = omega (arith, num_is, four, long);
          colours = omega (arith, colours_are, most);
          deltas = omega (arith, none);
        };
        colours = omega (arith, colours_are, most);
      }

  pub first_within : first < length store
  first_within = let there = is.there in omega (arith, there, some)

  module _ (alone : LieAlone old store) (p : PlacedChannels) (placed : IsPlacedFor (OfPalette t ∷ []) old p) where
    abbrev u : ImageTransform
    u = images.Palette t

    abbrev ss : List Step
    ss = PaletteStep t ∷ []

    abbrev rs : List Region
    rs = (layout_of old).regions

    abbrev start : List (Grid S)
    start = store ++ table ∷ []

    abbrev next : List (Grid S)
    next = set start first index

    step_after : list_after (PaletteStep t) (list_of old) ≡ Ok (list_of p.channels)
    step_after =
        let (n, found, rest) = first_step (PaletteStep t) [] (list_of old) (list_of p.channels) (step_leaves u plain old p placed) in
        subst (λ (m : ChannelList). list_after (PaletteStep t) (list_of old) ≡ Ok m) (same_ok n (list_of p.channels) rest) found

    applies : PaletteApplies t (list_of old) (list_of p.channels)
    applies = palette_applies t (list_of old) (list_of p.channels) step_after

    range_there : t.begin_c + t.num_c ≤ length rs
    range_there = let there = applies.there in let even = even_of old in omega (arith, there, even)

    regions_long : length (range t.begin_c t.num_c rs) ≡ t.num_c
    regions_long = length-range t.begin_c t.num_c rs range_there

    start_long : length start ≡ suc (length store)
    start_long = let both = length-append store (table ∷ []) in omega (arith, both)

    -- ---- the store with the table

    same_buffer : (k : ℕ) → k < length store → buffer_at start k ≡ buffer_at store k
    same_buffer k lt = get_or_append_left store (table ∷ []) none k lt

    lies_more : (r : Region) → Lies r store → Lies r start
    lies_more r h =
        let same : buffer_of store r ≡ buffer_of start r = sym (same_buffer r.buffer h.there) in
        let lt = h.there in
        record {
          there = omega (arith, start_long, lt);
          full = subst IsFull same h.full;
          columns = subst (λ (g : Grid S). r.x + r.width ≤ g.width) same h.columns;
          rows = subst (λ (g : Grid S). r.y + r.height ≤ g.height) same h.rows;
        }

    first_there : LieIn (list_of old).channels (layout_of old) start
    first_there = record {
      sizes = alone.lie.lie.sizes;
      lie = All-weaker (λ r. Lies r store) (λ r. Lies r start) lies_more rs alone.lie.lie.lie;
      taken = alone.lie.lie.taken;
      apart = alone.lie.lie.apart;
    }

    seam : buffer_at start old.buffers ≡ table
    seam = ap (λ k. buffer_at start k) (sym alone.all) ∙ get_or-append_seam store table [] none

    table_own : HasSides t.nb_colours t.num_c table
    table_own = record { same_width = sym colours_are; same_height = is.made.table_sides.same_height ∙ long ∙ sym num_is; full = is.made.table_sides.full }

    tables_there : HasTables ss old.buffers start
    tables_there = (subst (λ (g : Grid S). HasSides t.nb_colours t.num_c g) (sym seam) table_own, start_long ∙ ap suc alone.all)

    full_start : All IsFull start
    full_start = All-append IsFull store (table ∷ []) alone.full (All-cons IsFull table [] is.made.table_sides.full (All-nil IsFull))

    -- ---- the store with the indices

    own : HasSides index.width index.height (buffer_at start first)
    own =
        let same : first + 0 ≡ first = omega arith in
        let at : get_or (range first count store) 0 none ≡ buffer_at start first =
        range_at first count store 0 none (omega (arith, some)) ∙ ap (λ k. buffer_at store k) same ∙ sym (same_buffer first first_within) in
        subst (HasSides index.width index.height) at (is.made.sides 0 none (omega (arith, some, long)))

    other_kept : (k : ℕ) → k ≢ first → buffer_at next k ≡ buffer_at start k
    other_kept k other = get_or-set_other start first k index none other

    first_is : buffer_at next first ≡ index
    first_is = get_or-set_same start first index none (let lt = first_within in omega (arith, lt, start_long))

    -- the first region is the first buffer
    abbrev r0 : Region
    r0 = region_at old t.begin_c

    whole_first : LiesWhole r0 first store
    whole_first =
        let a : t.begin_c + 0 ≡ t.begin_c = omega arith in
        let b : first + 0 ≡ first = omega arith in
        subst (λ k. LiesWhole (region_at old k) first store) a (subst (λ k. LiesWhole (region_at old (t.begin_c + 0)) k store) b (is.whole 0 (omega (arith, some))))

    is_whole : (r : Region) (k : ℕ) → LiesWhole r k store → IsWhole r store
    is_whole r k h = record {
      left = h.left;
      top = h.top;
      columns = h.wide ∙ ap (λ j. (buffer_at store j).width) (sym h.there);
      rows = h.high ∙ ap (λ j. (buffer_at store j).height) (sym h.there);
    }

    own_buffer : buffer_of store r0 ≡ buffer_at start first
    own_buffer = ap (λ k. buffer_at store k) whole_first.there ∙ sym (same_buffer first first_within)

    has_cell : (x y : ℕ) → x < (buffer_at start first).width → y < (buffer_at start first).height → HasCell r0 first x y
    has_cell x y left top =
        let wide : r0.width ≡ (buffer_at start first).width = (is_whole r0 first whole_first).columns ∙ ap (λ (g : Grid S). g.width) own_buffer in
        let high : r0.height ≡ (buffer_at start first).height = (is_whole r0 first whole_first).rows ∙ ap (λ (g : Grid S). g.height) own_buffer in
        let x0 = whole_first.left in
        let y0 = whole_first.top in
        record { buffer = whole_first.there; left = omega (arith, x0); right = omega (arith, x0, wide, left); top = omega (arith, y0); bottom = omega (arith, y0, high, top) }

    region_first : get_or (range t.begin_c t.num_c rs) 0 no_region ≡ r0
    region_first =
        let a : t.begin_c + 0 ≡ t.begin_c = omega arith in
        range_at t.begin_c t.num_c rs 0 no_region (omega (arith, num_is, some)) ∙ ap (λ k. get_or rs k no_region) a

    keeps : KeepsOutside (range t.begin_c t.num_c rs) start next
    keeps = record {
      count = length-set start first index;
      width = λ k. elim (cases_eq k first) [
        | inl same ↦ ap (λ j. (buffer_at next j).width) same ∙ ap (λ (g : Grid S). g.width) first_is ∙ sym own.same_width ∙ sym (ap (λ j. (buffer_at start j).width) same)
        | inr other ↦ ap (λ (g : Grid S). g.width) (other_kept k other)
      ];
      height = λ k. elim (cases_eq k first) [
        | inl same ↦ ap (λ j. (buffer_at next j).height) same ∙ ap (λ (g : Grid S). g.height) first_is ∙ sym own.same_height ∙ sym (ap (λ j. (buffer_at start j).height) same)
        | inr other ↦ ap (λ (g : Grid S). g.height) (other_kept k other)
      ];
      full = λ k full. elim (cases_eq k first) [
        | inl same ↦ subst (λ j. IsFull (buffer_at next j)) (sym same) (subst IsFull (sym first_is) is.made.index_sides.full)
        | inr other ↦ subst IsFull (sym (other_kept k other)) full
      ];
      cells = λ k x y left top out. elim (cases_eq k first) [
        | inl same ↦ absurd (out 0 no_region (omega (arith, regions_long, num_is, some))
            (subst (λ (r : Region). HasCell r k x y) (sym region_first) (subst (λ j. HasCell r0 j x y) (sym same)
            (has_cell x y (subst (λ j. x < (buffer_at start j).width) same left) (subst (λ j. y < (buffer_at start j).height) same top)))))
        | inr other ↦ ap (λ (g : Grid S). cell g x y) (other_kept k other)
      ];
    }

    pub palette_shape : SameShape start next
    palette_shape = shape_kept (range t.begin_c t.num_c rs) start next keeps

    pub palette_lies : LieAlone p.channels next
    palette_lies = lie_next u plain old p placed store start next alone first_there tables_there full_start palette_shape

    -- ---- what the palette makes of the table and the indices

    whole_grid : (gs : List (Grid S)) (r : Region) → IsWhole r gs → IsFull (buffer_of gs r) → grid_of (store_meanings to_int gs) r ≡ meanings to_int (buffer_of gs r)
    whole_grid gs r h full =
        let same = buffer_of-meanings to_int gs r in
        grid_of_whole (store_meanings to_int gs) r (record {
          left = h.left;
          top = h.top;
          columns = h.columns ∙ sym (ap (λ (g : Grid ℤ). g.width) same);
          rows = h.rows ∙ sym (ap (λ (g : Grid ℤ). g.height) same);
        }) (subst IsFull (sym same) (IsFull-meanings to_int (buffer_of gs r) full))
        ∙ same

    abbrev table_region : Region
    table_region = region old.buffers 0 0 t.nb_colours t.num_c

    table_buffer : buffer_of next table_region ≡ table
    table_buffer = let all = alone.all in let lt = first_within in other_kept old.buffers (λ e. absurd (omega (arith, e, all, lt))) ∙ seam

    table_is : grid_of (store_meanings to_int next) table_region ≡ meanings to_int table
    table_is =
        whole_grid next table_region (record {
          left = refl;
          top = refl;
          columns = sym table_own.same_width ∙ sym (ap (λ (g : Grid S). g.width) table_buffer);
          rows = sym table_own.same_height ∙ sym (ap (λ (g : Grid S). g.height) table_buffer);
        }) (subst IsFull (sym table_buffer) table_own.full)
        ∙ ap (meanings to_int) table_buffer

    index_buffer : buffer_of next r0 ≡ index
    index_buffer = ap (λ k. buffer_at next k) whole_first.there ∙ first_is

    index_is : grid_of (store_meanings to_int next) r0 ≡ meanings to_int index
    index_is =
        whole_grid next r0 (record {
          left = whole_first.left;
          top = whole_first.top;
          columns = (is_whole r0 first whole_first).columns ∙ ap (λ (g : Grid S). g.width) own_buffer ∙ own.same_width ∙ sym (ap (λ (g : Grid S). g.width) index_buffer);
          rows = (is_whole r0 first whole_first).rows ∙ ap (λ (g : Grid S). g.height) own_buffer ∙ own.same_height ∙ sym (ap (λ (g : Grid S). g.height) index_buffer);
        }) (subst IsFull (sym index_buffer) is.made.index_sides.full)
        ∙ ap (meanings to_int) index_buffer

    channel_is : (k : ℕ) → k < count → grid_of (store_meanings to_int start) (region_at old (t.begin_c + k)) ≡ meanings to_int (buffer_at store (first + k))
    channel_is k lt =
        let r : Region = region_at old (t.begin_c + k) in
        let h = is.whole k lt in
        let there = is.there in
        let inside : first + k < length store = omega (arith, there, lt) in
        let here : r.buffer < length store = subst (λ j. j < length store) (sym h.there) inside in
        let same : buffer_of store r ≡ buffer_of start r = sym (same_buffer r.buffer here) in
        whole_grid start r (record {
          left = h.left;
          top = h.top;
          columns = (is_whole r (first + k) h).columns ∙ ap (λ (g : Grid S). g.width) same;
          rows = (is_whole r (first + k) h).rows ∙ ap (λ (g : Grid S). g.height) same;
        }) (full_start r.buffer none (omega (arith, here, start_long)))
        ∙ ap (meanings to_int) (sym same ∙ ap (λ j. buffer_at store j) h.there)

    range_is : map (grid_of (store_meanings to_int start)) (range t.begin_c t.num_c rs) ≡ map (meanings to_int) (range first count store)
    range_is =
        let xs : List Region = range t.begin_c t.num_c rs in
        let ys : List (Grid S) = range first count store in
        let f : Region → Grid ℤ = grid_of (store_meanings to_int start) in
        let a = length-map xs f in
        let b = length-map ys (meanings to_int) in
        ext_get_or (grid 0 0 []) (map f xs) (map (meanings to_int) ys) (a ∙ regions_long ∙ num_is ∙ sym long ∙ sym b) (λ k lt.
        let few : k < count = omega (arith, lt, a, regions_long, num_is) in
        get_or-map f xs k no_region (grid 0 0 []) (omega (arith, lt, a))
        ∙ ap f (range_at t.begin_c t.num_c rs k no_region (omega (arith, few, num_is)))
        ∙ channel_is k few
        ∙ sym (get_or-map (meanings to_int) ys k none (grid 0 0 []) (omega (arith, few, long))
        ∙ ap (meanings to_int) (range_at first count store k none few)))

    undone : (depth : ℕ) → UndoesAll to_int w depth (undo_of_all ss (layout_of old)) next start
    undone depth =
        let image = is.made.image depth in
        let a = subst (λ (gs : List (Grid ℤ)). IsPaletteOf w depth t (meanings to_int table) (meanings to_int index) gs) (sym range_is) image in
        let b = subst (λ (g : Grid ℤ). IsPaletteOf w depth t (meanings to_int table) g (map (grid_of (store_meanings to_int start)) (range t.begin_c t.num_c rs))) (sym index_is) a in
        let c = subst (λ (g : Grid ℤ). IsPaletteOf w depth t g (grid_of (store_meanings to_int next) r0) (map (grid_of (store_meanings to_int start)) (range t.begin_c t.num_c rs))) (sym table_is) b in
        (next, refl, (c, keeps_back (range t.begin_c t.num_c rs) start next full_start keeps))

    same_samples : grids_in rs (store_meanings to_int start) ≡ samples_in to_int old store
    same_samples =
        let a = length-map rs (grid_of (store_meanings to_int start)) in
        let b = length-map rs (grid_of (store_meanings to_int store)) in
        ext_get_or (grid 0 0 []) (grids_in rs (store_meanings to_int start)) (grids_in rs (store_meanings to_int store)) (a ∙ sym b) (λ k lt.
        let few : k < length rs = omega (arith, lt, a) in
        let r : Region = get_or rs k no_region in
        let lies : Lies r store = alone.lie.lie.lie k no_region few in
        let same : buffer_of (store_meanings to_int start) r ≡ buffer_of (store_meanings to_int store) r =
        buffer_of-meanings to_int start r ∙ ap (meanings to_int) (same_buffer r.buffer lies.there) ∙ sym (buffer_of-meanings to_int store r) in
        get_or-map (grid_of (store_meanings to_int start)) rs k no_region (grid 0 0 []) few
        ∙ ap (λ (g : Grid ℤ). grid_by r.width r.height (λ x y. at g (r.x + x) (r.y + y))) same
        ∙ sym (get_or-map (grid_of (store_meanings to_int store)) rs k no_region (grid 0 0 []) few))

    pub palette_goes : (ts : List ImageTransform) → suc (length ts) ≤ 273 → GoesOnTo to_int w old store ts p.channels next (ts ++ u ∷ [])
    palette_goes ts few = goes_next u plain old p placed store start next alone first_there tables_there full_start palette_shape to_int w same_samples undone ts few
