-- A part's own header, held beside an image: its channels lie in the image's buffers and in its tables, where it can be
-- decoded and undone, and so they do in buffers of the same shape.
use Rattle.std.proofs.Common.{◌≡◌, ℕ, suc, ◌+◌, ◌-◌, ◌^◌, Some, ◌<◌, ◌≤◌, inl, inr, List, [], ◌∷◌, ◌++◌, take, length, ℤ, refl, sym, ap, ◌∙◌, subst, arith}
use Rattle.std.specs.List.{All}
use Rattle.std.specs.Int.{Width}
use Rattle.std.proofs.lemmas.Bool.{cases_lt}
use Rattle.std.proofs.lemmas.List.{get_or-append-add, get_or-append_right, get_or_append_left, get_or_past, length-append}
use Rattle.std.proofs.lemmas.List.Elements.{All-append}
use Rattle.std.proofs.Math.Seq.{take-append_seam}
use Rattle.jxlm_base.specs.Grid.{Grid, IsFull, cell, grid}
use Rattle.jxlm_base.specs.Outside.{KeepsOutside, buffer_at}
use Rattle.jxlm_base.specs.Regions.{AllLie, LieApart, grids_in, store_meanings}
use Rattle.jxlm_base.specs.declared.subgrid.Region.{Region}
use Rattle.jxlm_chain.specs.Chain.{Chain, IsOnlyImage}
use Rattle.jxlm_chain.specs.Lying.{HasTables, LieIn}
use Rattle.jxlm_transform.specs.Layout.{Layout, layout_after, layout_after_all}
use Rattle.jxlm_chain.specs.Shape.{SameShape}
use Rattle.jxlm_chain.specs.Steps.{CanUndoAll, IsNarrowStore}
use Rattle.jxlm_chain.specs.Undo.{Undo, UndoesAll, undo_of_all}
use Rattle.jxlm_chain.specs.Undoings.{SuitsWeights, undos_of}
use Rattle.jxlm_chain.proofs.CanUndo.{can_undo_all}
use Rattle.jxlm_chain.proofs.LayoutLaws.{lie_after_all}
use Rattle.jxlm_chain.proofs.OneImage.{no_two_images}
use Rattle.jxlm_chain.proofs.ShapeLaws.{all_lie_kept, narrow_kept, shape_all_undone, shape_kept, shape_same, tables_kept}
use Rattle.jxlm_chain.proofs.Undone.{chain_of}
use Rattle.jxlm_groups.specs.Parts.{HaveCell}
use Rattle.jxlm_transform.specs.declared.channels.PlacedChannel.{PlacedChannel}
use Rattle.jxlm_groups.proofs.Outside.{all_inside, finish_outside, never_has, none_has}
use Rattle.jxlm_transform.specs.Channels.{AreRegionsOf, ChannelList, HasSides, infos, regions}
use Rattle.jxlm_transform.specs.ChannelSteps.{Step, RctStep, PaletteStep, SqueezeStep}
use Rattle.jxlm_transform.specs.Steps.{tables_of}
use Rattle.jxl_modular.specs.Inner.LayerCode.{IsLayer}
use Rattle.jxlm_nested.specs.NestedParts.{CanFill, nested_channels, nested_list, nested_places, regions_in}
use Rattle.jxlm_nested.specs.Opened.{steps_of_header}
use Rattle.jxlm_nested.specs.declared.nested.NestedPart.{NestedPart}
use Rattle.jxl_modular.proofs.NestedLaws.{cut_back}
use Rattle.jxl_modular.proofs.Suits.{steps_suit}

-- ---- buffers and the buffers after them

module _ {S : Type 0} where
  abbrev Alike : Grid S → Grid S → Type 0
  Alike g h = (h.width ≡ g.width) × (h.height ≡ g.height) × (IsFull g → IsFull h)

  shape_by : (old new : List (Grid S)) → length new ≡ length old → ((k : ℕ) → Alike (buffer_at old k) (buffer_at new k)) → SameShape old new
  shape_by old new count alike = record { count = count; width = λ k. (alike k).0; height = λ k. (alike k).1; full = λ k. (alike k).2 }

  alike_of : (old new : List (Grid S)) → SameShape old new → (k : ℕ) → Alike (buffer_at old k) (buffer_at new k)
  alike_of old new same k = (same.width k, same.height k, same.full k)

  alike_by : (g g' h h' : Grid S) → g ≡ g' → h ≡ h' → Alike g h → Alike g' h'
  alike_by g g' h h' p q a = subst (λ (x : Grid S). Alike g' x) q (subst (λ (x : Grid S). Alike x h) p a)

  at_left : (a b : List (Grid S)) (k : ℕ) → k < length a → buffer_at (a ++ b) k ≡ buffer_at a k
  at_left a b k lt = get_or_append_left a b (grid 0 0 []) k lt

  at_right : (a b : List (Grid S)) (k : ℕ) → length a ≤ k → buffer_at (a ++ b) k ≡ buffer_at b (k - length a)
  at_right a b k ge = get_or-append_right a b (length a) k (grid 0 0 []) refl ge

  at_past : (a : List (Grid S)) (k : ℕ) → length a ≤ k → grid 0 0 [] ≡ buffer_at a k
  at_past a k ge = sym (get_or_past a k (grid 0 0 []) ge)

  alike_past : (a b : List (Grid S)) (k : ℕ) → length a ≤ k → length b ≤ k → Alike (buffer_at a k) (buffer_at b k)
  alike_past a b k p q = alike_by (grid 0 0 []) (buffer_at a k) (grid 0 0 []) (buffer_at b k) (at_past a k p) (at_past b k q) (refl, refl, λ h. h)

  -- as many first buffers as before have the same shape, and so have the others
  pub shape_left : (a b c d : List (Grid S)) → length c ≡ length a → SameShape (a ++ b) (c ++ d) → SameShape a c
  shape_left a b c d n same =
      shape_by a c n (λ k. elim (cases_lt k (length a)) [
        | inl lt ↦ alike_by (buffer_at (a ++ b) k) (buffer_at a k) (buffer_at (c ++ d) k) (buffer_at c k) (at_left a b k lt) (at_left c d k (omega (arith, n, lt))) (alike_of (a ++ b) (c ++ d) same k)
        | inr ge ↦ alike_past a c k ge (omega (arith, n, ge))
      ])

  pub shape_right : (a b c d : List (Grid S)) → length c ≡ length a → SameShape (a ++ b) (c ++ d) → SameShape b d
  shape_right a b c d n same =
      let count = same.count in
      let first = length-append a b in
      let second = length-append c d in
      shape_by b d (omega (arith, n, count, first, second)) (λ k.
      alike_by (buffer_at (a ++ b) (length a + k)) (buffer_at b k) (buffer_at (c ++ d) (length a + k)) (buffer_at d k) (get_or-append-add a b k (grid 0 0 []))
      (ap (λ m. buffer_at (c ++ d) (m + k)) (sym n) ∙ get_or-append-add c d k (grid 0 0 [])) (alike_of (a ++ b) (c ++ d) same (length a + k)))

  pub shape_joined : (a b c d : List (Grid S)) → SameShape a c → SameShape b d → SameShape (a ++ b) (c ++ d)
  shape_joined a b c d left right =
      let n = left.count in
      let m = right.count in
      let first = length-append a b in
      let second = length-append c d in
      shape_by (a ++ b) (c ++ d) (omega (arith, n, m, first, second)) (λ k. elim (cases_lt k (length a)) [
        | inl lt ↦ alike_by (buffer_at a k) (buffer_at (a ++ b) k) (buffer_at c k) (buffer_at (c ++ d) k) (sym (at_left a b k lt)) (sym (at_left c d k (omega (arith, n, lt)))) (alike_of a c left k)
        | inr ge ↦ alike_by (buffer_at b (k - length a)) (buffer_at (a ++ b) k) (buffer_at d (k - length a)) (buffer_at (c ++ d) k) (sym (at_right a b k ge))
            (ap (λ j. buffer_at d (k - j)) (sym n) ∙ sym (at_right c d k (omega (arith, n, ge)))) (alike_of b d right (k - length a))
      ])

  -- tables after more buffers
  pub tables_shifted : (ss : List Step) (b : ℕ) (store tables : List (Grid S)) → HasTables ss b tables → HasTables ss (length store + b) (store ++ tables)
  tables_shifted [] b store tables h = length-append store tables ∙ ap (λ n. length store + n) h
  tables_shifted (RctStep t ∷ ss) b store tables h = tables_shifted ss b store tables h
  tables_shifted (PaletteStep t ∷ ss) b store tables h =
      let next : length store + suc b ≡ suc (length store + b) = omega arith in (
        subst (λ (g : Grid S). HasSides t.nb_colours t.num_c g) (sym (get_or-append-add store tables b (grid 0 0 []))) h.0,
        subst (λ n. HasTables ss n (store ++ tables)) next (tables_shifted ss (suc b) store tables h.1),
      )
  tables_shifted (SqueezeStep t ∷ ss) b store tables h = tables_shifted ss b store tables h

  -- how many tables there are
  pub tables_count : (ss : List Step) (b : ℕ) (tables : List (Grid S)) → HasTables ss b tables → length tables ≡ b + length (tables_of ss)
  tables_count [] b tables h = h ∙ omega arith
  tables_count (RctStep t ∷ ss) b tables h = tables_count ss b tables h
  tables_count (PaletteStep t ∷ ss) b tables h = tables_count ss (suc b) tables h.1 ∙ omega arith
  tables_count (SqueezeStep t ∷ ss) b tables h = tables_count ss b tables h

-- how many buffers there are after the steps
pub layout_count : (ss : List Step) (l : Layout) → (layout_after_all ss l).buffers ≡ l.buffers + length (tables_of ss)
layout_count [] l = omega arith
layout_count (RctStep t ∷ ss) l = layout_count ss l
layout_count (PaletteStep t ∷ ss) l = layout_count ss (layout_after (PaletteStep t) l) ∙ omega arith
layout_count (SqueezeStep t ∷ ss) l = layout_count ss (layout_after (SqueezeStep t) l)

-- ---- a header that is held, beside these buffers

module _ {S D : Type 0} (n : NestedPart D) (given : List PlacedChannel) (tables : List (Grid S)) (is : IsLayer n given tables)
    (store : List (Grid S)) (lie : AllLie (regions given) (store ++ tables)) (count : n.placed.channels.buffers ≡ length store + length tables) where
  abbrev steps : List Step
  steps = steps_of_header n.header

  abbrev list : ChannelList
  list = nested_list (infos given)

  abbrev held : List Region
  held = (regions given)

  abbrev places : Layout
  places = nested_places held (is.base + is.outer)

  abbrev whole : List (Grid S)
  whole = store ++ tables

  pub base_is : is.base ≡ length store
  base_is = let c = is.count in omega (arith, c, count)

  own_lie : LieIn list.channels places whole
  own_lie = record { sizes = is.sizes; lie = lie; taken = is.taken; apart = is.apart }

  own_tables : HasTables steps (is.base + is.outer) whole
  own_tables = subst (λ k. HasTables steps (k + is.outer) whole) (sym base_is) (tables_shifted steps is.outer store tables is.own)

  pub coded_lie : LieIn (nested_channels n) (layout_after_all steps places) whole
  coded_lie = (lie_after_all steps list _ places whole is.opened.leaves is.opened.steps own_lie own_tables).0

  pub regions_are : regions_in n ≡ (layout_after_all steps places).regions
  regions_are = ap (λ (l : Layout). l.regions) is.placed.layout

  module _ (narrow : IsNarrowStore store) where
    pub held_fill : CanFill n whole
    held_fill = record {
      sizes = subst (λ (rs : List Region). AreRegionsOf (nested_channels n) rs) (sym regions_are) coded_lie.sizes;
      narrow = is.opened.narrow;
      few = is.opened.few;
      weights = is.opened.weights;
      lie = subst (λ (rs : List Region). AllLie rs whole) (sym regions_are) coded_lie.lie;
      apart = subst LieApart (sym regions_are) coded_lie.apart;
      undo = subst (λ (us : List Undo). CanUndoAll whole us) (sym is.placed.undos) (can_undo_all steps list _ places whole is.opened.leaves is.opened.steps own_lie own_tables);
      suits = subst (λ (us : List Undo). All (SuitsWeights (Some n.header.wp_params)) us) (sym is.placed.undos) (steps_suit n.header.wp_params steps places is.opened.palettes);
      narrow_store = All-append (λ (g : Grid S). (g.width ≤ 2 ^ 30) × (g.height ≤ 2 ^ 30)) store tables narrow is.narrow_tables;
    }

    -- Undone, the part has the only image of its samples.
    pub held_only : (to_int : S → ℤ) (w : Width) (bit_depth : ℕ) (last : List (Grid S)) → UndoesAll to_int w bit_depth (undos_of n.placed.undoings.items) whole last →
        IsOnlyImage w bit_depth steps list (grids_in held (store_meanings to_int last)) (grids_in (regions_in n) (store_meanings to_int whole))
    held_only to_int w bit_depth last undone =
        let chain : Chain w bit_depth steps list (grids_in held (store_meanings to_int last)) (grids_in (layout_after_all steps places).regions (store_meanings to_int whole)) =
        chain_of to_int w bit_depth steps list _ places whole last is.opened.leaves is.opened.steps own_lie own_tables (subst (λ (us : List Undo). UndoesAll to_int w bit_depth us whole last) is.placed.undos undone) in
        let own : Chain w bit_depth steps list (grids_in held (store_meanings to_int last)) (grids_in (regions_in n) (store_meanings to_int whole)) =
        subst (λ (rs : List Region). Chain w bit_depth steps list (grids_in held (store_meanings to_int last)) (grids_in rs (store_meanings to_int whole))) (sym regions_are) chain in
        record { chain = own; only = λ other k. no_two_images w bit_depth steps list other (grids_in held (store_meanings to_int last)) (grids_in (regions_in n) (store_meanings to_int whole)) k own }

    taken_before : (b : ℕ) → b < length store → b < is.base + is.outer
    taken_before b lt = let e = base_is in omega (arith, e, lt)

    -- no cell of the store outside the part changes
    pub undone_outside : (to_int : S → ℤ) (w : Width) (bit_depth : ℕ) (last : List (Grid S)) → UndoesAll to_int w bit_depth (undos_of n.placed.undoings.items) whole last → KeepsOutside held store (take (length store) last)
    undone_outside to_int w bit_depth last undone =
        let steps_undone : UndoesAll to_int w bit_depth (undo_of_all steps places) whole last = subst (λ (us : List Undo). UndoesAll to_int w bit_depth us whole last) is.placed.undos undone in
        cut_back held store tables last (shape_all_undone to_int w bit_depth (undo_of_all steps places) whole last steps_undone) (λ b i j lt li lj none.
        let first : buffer_at whole b ≡ buffer_at store b = at_left store tables b lt in
        finish_outside b i j to_int w bit_depth steps places whole last (subst (λ (g : Grid S). i < g.width) (sym first) li) (subst (λ (g : Grid S). j < g.height) (sym first) lj) steps_undone (taken_before b lt) (never_has b i j held none)
        ∙ ap (λ (g : Grid S). cell g i j) first)

    -- nor when samples are decoded
    module _ (left right : List (Grid S)) (even : length left ≡ length store) (keeps : KeepsOutside (regions_in n) whole (left ++ right)) where
      joined : SameShape whole (left ++ right)
      joined = shape_kept (regions_in n) whole (left ++ right) keeps

      pub decoded_left : SameShape store left
      decoded_left = shape_left store tables left right even joined

      pub decoded_right : SameShape tables right
      decoded_right = shape_right store tables left right even joined

      pub decoded_outside : KeepsOutside held store left
      decoded_outside =
          let cut : take (length store) (left ++ right) ≡ left = ap (λ k. take k (left ++ right)) (sym even) ∙ take-append_seam left right in
          subst (λ (s : List (Grid S)). KeepsOutside held store s) cut
          (cut_back held store tables (left ++ right) joined (λ b i j lt li lj none.
          let first : buffer_at whole b ≡ buffer_at store b = at_left store tables b lt in
          let never : HaveCell held b i j → ⊥ = never_has b i j held none in
          keeps.cells b i j (subst (λ (g : Grid S). i < g.width) (sym first) li) (subst (λ (g : Grid S). j < g.height) (sym first) lj)
          (none_has b i j (regions_in n) (λ k. never (all_inside b i j steps places (taken_before b lt) (subst (λ (rs : List Region). HaveCell rs b i j) regions_are k))))
          ∙ ap (λ (g : Grid S). cell g i j) first))

      -- the header suits its tables as before
      pub still_layer : IsLayer n given right
      still_layer = record {
        base = is.base;
        outer = is.outer;
        count = let c = is.count in let s = decoded_right.count in omega (arith, c, s);
        opened = is.opened;
        placed = is.placed;
        own = tables_kept tables right decoded_right (steps_of_header n.header) is.outer is.own;
        narrow_tables = narrow_kept tables right decoded_right is.narrow_tables;
        sizes = is.sizes;
        taken = is.taken;
        apart = is.apart;
      }

      pub still_lie : AllLie held (left ++ right)
      still_lie = all_lie_kept whole (left ++ right) joined held lie

      pub still_count : n.placed.channels.buffers ≡ length left + length right
      still_count = let s = decoded_right.count in omega (arith, count, even, s)

    -- a store of the same shape serves as well
    pub other_lie : (left : List (Grid S)) → SameShape store left → AllLie held (left ++ tables)
    other_lie left same = all_lie_kept whole (left ++ tables) (shape_joined store tables left tables same (shape_same tables)) held lie

    pub other_count : (left : List (Grid S)) → SameShape store left → n.placed.channels.buffers ≡ length left + length tables
    other_count left same = let s = same.count in omega (arith, count, s)
