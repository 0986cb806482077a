-- Each step of a chain can be undone where the channels before it lie as they must.
use Rattle.std.proofs.Common.{◌≡◌, ℕ, suc, ◌+◌, ◌-◌, ◌<◌, ◌≤◌, inl, Bool, true, ◌==◌, ◌&&◌, List, [], ◌∷◌, length, drop, get_or, Ok, refl, sym, ap, ◌∙◌, subst, eqb-true, arith}
use Rattle.std.specs.List.{All, AllZip}
use Rattle.std.proofs.lemmas.List.{get_or_default, get_or-take, get_or-drop, length-take, length-drop}
use Rattle.std.proofs.lemmas.List.Elements.{All-nil, All-cons, All-head, All-tail, All-append, All-map, All-weaker}
use Rattle.std.proofs.lemmas.List.Sums.{AllPass-from_list_all}
use Rattle.jxlm_base.specs.Grid.{Grid}
use Rattle.jxlm_base.specs.Outside.{buffer_at}
use Rattle.jxlm_base.specs.Regions.{region, Lies, AreApart}
use Rattle.jxlm_base.specs.declared.subgrid.Region.{Region}
use Rattle.jxlm_base.proofs.Regions.{apart_by_buffer}
use Rattle.jxlm_transform.specs.Channels.{Channel, ChannelList, HasSides}
use Rattle.jxlm_transform.specs.ChannelSteps.{Step, RctStep, PaletteStep, SqueezeStep, list_after, list_after_all, one_size, range}
use Rattle.jxlm_inverse.specs.Palette.{PaletteLies}
use Rattle.jxlm_inverse.specs.Recoloured.{HaveOneSize}
use Rattle.jxlm_transform.specs.declared.transform.Palette.{Palette}
use Rattle.jxlm_transform.specs.declared.transform.Rct.{Rct}
use Rattle.jxlm_transform.specs.Layout.{Layout, layout_after, no_region}
use Rattle.jxlm_chain.specs.Lying.{HasTables, LieIn}
use Rattle.jxlm_chain.specs.Steps.{CanUndo, CanUndoAll}
use Rattle.jxlm_transform.specs.Steps.{HasChannels}
use Rattle.jxlm_chain.specs.Undo.{UndoRct, UndoPalette, UndoSqueeze, undo_of, undo_of_all}
use Rattle.jxlm_chain.proofs.LayoutLaws.{HasSize, lie_after, table_lies, tables_fit}
use Rattle.jxlm_chain.proofs.ListsApart.{zip_at, zip_length}
use Rattle.jxlm_transform.proofs.StepFacts.{both_of, PaletteApplies, RctApplies, first_step, palette_applies, rct_applies}
use Rattle.jxlm_transform.proofs.RangeParts.{all_range}
use Rattle.jxlm_chain.proofs.StepParts.{pairs_range, zip_range}

-- ---- a range

pub length_range : {X : Type 0} (begin n : ℕ) (xs : List X) → begin + n ≤ length xs → length (range begin n xs) ≡ n
length_range begin n xs le = let long = length-take (begin + n - begin) (drop begin xs) in let rest = length-drop begin xs in omega (arith, long, rest)

pub range_first : {X : Type 0} (begin n : ℕ) (xs : List X) (d e : X) → 1 ≤ n → begin < length xs → get_or (range begin n xs) 0 d ≡ get_or xs begin e
range_first begin n xs d e some lt =
    let same : begin + 0 ≡ begin = omega arith in
    get_or-take (begin + n - begin) (drop begin xs) 0 d (omega arith) ∙ get_or-drop begin xs 0 d ∙ ap (λ k. get_or xs k d) same ∙ get_or_default xs begin d e lt

-- ---- channels of one size

abbrev SizedAs : Region → Region → Type 0
SizedAs s r = (r.width ≡ s.width) × (r.height ≡ s.height)

-- the second channel has the sides of the first
abbrev has_size_of : Channel → Channel → Bool
has_size_of c d = d.width == c.width && d.height == c.height

same_size : (c d : Channel) → has_size_of c d ≡ true → (d.width ≡ c.width) × (d.height ≡ c.height)
same_size c d e = let (a, b) = both_of (d.width == c.width) (d.height == c.height) e in (eqb-true d.width c.width a, eqb-true d.height c.height b)

sized_as_first : (cs : List Channel) (rs : List Region) (d : Region) → AllZip HasSize cs rs → one_size cs ≡ true → All (SizedAs (get_or rs 0 d)) rs
sized_as_first [] [] d z e = All-nil (SizedAs d)
sized_as_first [] (r ∷ rs) d z e = absurd z
sized_as_first (c ∷ cs) [] d z e = absurd z
sized_as_first (c ∷ cs) (r ∷ rs) d z e =
    let long = zip_length HasSize cs rs z.1 in
    let pass = AllPass-from_list_all (has_size_of c) cs e in
    All-cons (SizedAs r) r rs (refl, refl) (λ k f l.
    let in' : k < length cs = omega (arith, long, l) in
    let size = zip_at HasSize cs rs k c f z.1 in' in
    let alike = same_size c (get_or cs k c) (pass k c in') in
    (size.0 ∙ alike.0 ∙ sym z.0.0, size.1 ∙ alike.1 ∙ sym z.0.1))

one_sized : (r : Region) (rs : List Region) → All (SizedAs r) rs → HaveOneSize rs
one_sized r rs all = λ i j d lt l. let a = all i d (omega arith) in let b = all j d l in (a.0 ∙ sym b.0, a.1 ∙ sym b.1)

-- ---- each step

module _ {S : Type 0} (store : List (Grid S)) where
  can_undo_rct : (t : Rct) (l m : ChannelList) (places : Layout) → RctApplies t l m → LieIn l.channels places store → CanUndo store (UndoRct t.rct_type (range t.begin_c 3 places.regions))
  can_undo_rct t l m places applies h =
      let rs : List Region = places.regions in
      let there = applies.there in
      let long = zip_length HasSize l.channels rs h.sizes in
      let sized = sized_as_first (range t.begin_c 3 l.channels) (range t.begin_c 3 rs) no_region (zip_range HasSize t.begin_c 3 l.channels rs h.sizes) applies.one_sized in (
        length_range t.begin_c 3 rs (omega (arith, there, long)),
        all_range (λ r. Lies r store) t.begin_c 3 rs h.lie,
        pairs_range AreApart t.begin_c 3 rs h.apart,
        one_sized (get_or (range t.begin_c 3 rs) 0 no_region) (range t.begin_c 3 rs) sized,
      )

  can_undo_palette : (t : Palette) (l m : ChannelList) (places : Layout) → PaletteApplies t l m → 1 ≤ t.num_c → LieIn l.channels places store →
      HasSides t.nb_colours t.num_c (buffer_at store places.buffers) → places.buffers < length store →
      PaletteLies t (region places.buffers 0 0 t.nb_colours t.num_c) (get_or places.regions t.begin_c no_region) (range t.begin_c t.num_c places.regions) store
  can_undo_palette t l m places applies some h sides lt =
      let rs : List Region = places.regions in
      let b : ℕ = places.buffers in
      let table : Region = region b 0 0 t.nb_colours t.num_c in
      let index : Region = get_or rs t.begin_c no_region in
      let finished : List Region = range t.begin_c t.num_c rs in
      let there = applies.there in
      let long = zip_length HasSize l.channels rs h.sizes in
      let within : t.begin_c < length rs = omega (arith, there, long, some) in
      let sized = sized_as_first (range t.begin_c t.num_c l.channels) finished index (zip_range HasSize t.begin_c t.num_c l.channels rs h.sizes) applies.one_sized in
      let first : get_or finished 0 index ≡ index = range_first t.begin_c t.num_c rs index no_region some within in
      record {
        table_lies = table_lies store t.nb_colours t.num_c b lt sides;
        index_lies = h.lie t.begin_c no_region within;
        finished_lie = all_range (λ r. Lies r store) t.begin_c t.num_c rs h.lie;
        count = length_range t.begin_c t.num_c rs (omega (arith, there, long));
        table_width = refl;
        table_height = refl;
        sizes = subst (λ s. All (SizedAs s) finished) first sized;
        apart = pairs_range AreApart t.begin_c t.num_c rs h.apart;
        table_apart = All-weaker (λ r. r.buffer < b) (λ r. AreApart r table) (λ r k. apart_by_buffer r table (λ e. let e' : r.buffer ≡ b = e in omega (arith, k, e'))) finished
            (all_range (λ r. r.buffer < b) t.begin_c t.num_c rs h.taken);
        index_apart = inl first;
      }

-- What undoes a step can be done.
pub can_undo : {S : Type 0} (s : Step) (l m : ChannelList) (places : Layout) (ss : List Step) (store : List (Grid S)) → list_after s l ≡ Ok m → HasChannels s → LieIn l.channels places store → HasTables (s ∷ ss) places.buffers store →
    CanUndoAll store (undo_of s places)
can_undo (RctStep t) l m places ss store e some h tables =
    All-cons (CanUndo store) (UndoRct t.rct_type (range t.begin_c 3 places.regions)) [] (can_undo_rct store t l m places (rct_applies t l m e) h) (All-nil (CanUndo store))
can_undo (PaletteStep t) l m places ss store e some h tables =
    All-cons (CanUndo store) (UndoPalette t (region places.buffers 0 0 t.nb_colours t.num_c) (get_or places.regions t.begin_c no_region) (range t.begin_c t.num_c places.regions)) []
    (can_undo_palette store t l m places (palette_applies t l m e) some h tables.0 (tables_fit ss (suc places.buffers) store tables.1)) (All-nil (CanUndo store))
can_undo (SqueezeStep t) l m places ss store e some h tables =
    All-map (CanUndo store) (UndoSqueeze t.horizontal) (range t.begin_c t.num_c places.regions) (all_range (λ r. Lies r store) t.begin_c t.num_c places.regions h.lie)

-- and what undoes all steps
pub can_undo_all : {S : Type 0} (ss : List Step) (l m : ChannelList) (places : Layout) (store : List (Grid S)) → list_after_all ss l ≡ Ok m → All HasChannels ss → LieIn l.channels places store → HasTables ss places.buffers store →
    CanUndoAll store (undo_of_all ss places)
can_undo_all [] l m places store e some h tables = All-nil (CanUndo store)
can_undo_all (s ∷ ss) l m places store e some h tables =
    let (n, first, rest) = first_step s ss l m e in
    let here = All-head HasChannels s ss some in
    let after_it = lie_after s l n places ss store first here h tables in
    All-append (CanUndo store) (undo_of s places) (undo_of_all ss (layout_after s places)) (can_undo s l n places ss store first here h tables)
    (can_undo_all ss n m (layout_after s places) store rest (All-tail HasChannels s ss some) after_it.0 after_it.1)
