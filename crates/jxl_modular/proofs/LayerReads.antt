-- A part's own header that was read: what is kept of it, and where its channels lie.
use Rattle.std.proofs.Common.{◌≡◌, ℕ, ◌+◌, ◌^◌, ◌<◌, ◌≤◌, List, [], ◌++◌, length, get_or, Option, sym, ap, ◌∙◌, subst, arith, append_assoc}
use Rattle.std.specs.List.{All}
use Rattle.std.proofs.lemmas.List.{length-append, length-map}
use Rattle.std.proofs.lemmas.List.Elements.{All-append, All-map}
use Rattle.jxlm_bits.specs.Decoding.{Meaning}
use Rattle.jxlm_base.specs.Grid.{Grid, filled, grid}
use Rattle.jxlm_base.specs.Regions.{AllLie, Lies}
use Rattle.jxlm_base.specs.declared.subgrid.Region.{Region}
use Rattle.jxlm_transform.specs.Ends.{HasEnds}
use Rattle.jxlm_chain.specs.Lying.{HasTables}
use Rattle.jxlm_transform.specs.Layout.{Layout, layout_after_all}
use Rattle.jxlm_chain.specs.Placed.{IsPlacedBy, sides_in}
use Rattle.jxlm_chain.specs.Steps.{IsNarrowStore}
use Rattle.jxlm_transform.specs.declared.channels.PlacedChannel.{PlacedChannel}
use Rattle.jxlm_transform.specs.Channels.{Channel, infos, regions}
use Rattle.jxlm_transform.specs.ChannelSteps.{Step}
use Rattle.jxlm_transform.specs.Steps.{Sides, tables_of}
use Rattle.jxlm_tree.specs.Tree.{Config}
use Rattle.jxlm_nested.specs.Zeros.{zeros}
use Rattle.jxl_modular.specs.Inner.LayerCode.{CanNest, IsLayer}
use Rattle.jxlm_nested.specs.NestedParts.{IsNested, nested_list, nested_places, regions_in}
use Rattle.jxlm_nested.specs.Opened.{IsOpened, steps_of_header}
use Rattle.jxlm_nested.specs.Nested.{nested_regions, with_tables}
use Rattle.jxlm_nested.specs.declared.nested.NestedPart.{NestedPart}
use Rattle.jxl_modular.proofs.LayerLaws.{layout_count}
use Rattle.jxl_modular.proofs.NestedLaws.{lies_more, tables_behind}

-- regions that lie in narrow buffers end within 64 bits
pub lie_ends : {S : Type 0} (rs : List Region) (store : List (Grid S)) → AllLie rs store → IsNarrowStore store → All HasEnds rs
lie_ends rs store lie narrow = λ k d lt.
    let r : Region = get_or rs k d in
    let lies = lie k d lt in
    let sides = narrow r.buffer (grid 0 0 []) lies.there in
    let wide = sides.0 in
    let high = sides.1 in
    let columns = lies.columns in
    let rows = lies.rows in
    record { column = omega (arith, wide, columns); row = omega (arith, high, rows) }

module _ {S D : Type 0} (d : Meaning D) (zero : S) (global : Option (Config D)) (bytes : List ℕ) (p q : ℕ) (n : NestedPart D) (pieces given : List PlacedChannel) (store outer tables : List (Grid S))
    (same_infos : infos given ≡ infos pieces) (same_regions : regions given ≡ regions pieces) (can : CanNest pieces store outer) (buffers : ℕ) (count : buffers ≡ length store + length outer)
    (is : IsNested d global bytes (nested_list (infos pieces)) (nested_places (regions pieces) buffers) p n q) (added : tables ≡ outer ++ zeros zero (sides_in n.placed.tables.items)) where
  abbrev steps : List Step
  steps = steps_of_header n.header

  pub read_tables : tables ≡ with_tables zero steps outer
  read_tables = added ∙ ap (λ (ss : List Sides). outer ++ zeros zero ss) is.placed.tables

  long : length tables ≡ length outer + length (tables_of steps)
  long = ap length read_tables ∙ length-append outer (zeros zero (tables_of steps)) ∙ ap (λ k. length outer + k) (length-map (tables_of steps) (λ (s : Sides). filled s.width s.height zero))

  pub read_count : n.placed.channels.buffers ≡ length store + length tables
  read_count =
      let here : n.placed.channels.buffers ≡ (layout_after_all steps (nested_places (regions pieces) buffers)).buffers = ap (λ (l : Layout). l.buffers) is.placed.layout in
      let more = layout_count steps (nested_places (regions pieces) buffers) in
      let all = long in
      omega (arith, here, more, all, count)

  pub read_layer_is : IsLayer n given tables
  read_layer_is = record {
    base = length store;
    outer = length outer;
    count = read_count;
    opened = subst (λ (cs : List Channel). IsOpened (nested_list cs) (n.header, n.placed)) (sym same_infos) is.opened;
    placed = subst (λ (rs : List Region). IsPlacedBy steps (nested_places rs (length store + length outer)) n.placed) (sym same_regions) (subst (λ k. IsPlacedBy steps (nested_places (regions pieces) k) n.placed) count is.placed);
    own = subst (λ (ts : List (Grid S)). HasTables steps (length outer) ts) (sym read_tables) (tables_behind zero steps outer);
    narrow_tables = subst (λ (ts : List (Grid S)). IsNarrowStore ts) (sym read_tables)
        (All-append (λ (g : Grid S). (g.width ≤ 2 ^ 30) × (g.height ≤ 2 ^ 30)) outer (zeros zero (tables_of steps)) can.narrow_tables
        (All-map (λ (g : Grid S). (g.width ≤ 2 ^ 30) × (g.height ≤ 2 ^ 30)) (λ (s : Sides). filled s.width s.height zero) (tables_of steps) is.opened.tables));
    sizes = rw (same_infos, same_regions) can.sizes;
    taken = subst (λ (rs : List Region). All (λ r. r.buffer < length store + length outer) rs) (sym same_regions) (λ k e lt.
        let there = (can.lie k e lt).there in
        let whole = length-append store outer in
        omega (arith, there, whole));
    apart = rw same_regions can.apart;
  }

  pub read_lie : AllLie (regions given) (store ++ tables)
  read_lie =
      let same : (store ++ outer) ++ zeros zero (tables_of steps) ≡ store ++ tables = append_assoc store outer (zeros zero (tables_of steps)) ∙ ap (λ (ts : List (Grid S)). store ++ ts) (sym read_tables) in
      subst (λ (rs : List Region). AllLie rs (store ++ tables)) (sym same_regions)
      (λ k e lt. subst (Lies (get_or (regions pieces) k e)) same (lies_more (store ++ outer) (zeros zero (tables_of steps)) (get_or (regions pieces) k e) (can.lie k e lt)))

  pub read_regions : regions_in n ≡ nested_regions (regions pieces) steps (store ++ outer)
  read_regions =
      let there : buffers ≡ length (store ++ outer) = count ∙ sym (length-append store outer) in
      ap (λ (l : Layout). l.regions) is.placed.layout ∙ ap (λ k. (layout_after_all steps (nested_places (regions pieces) k)).regions) there
