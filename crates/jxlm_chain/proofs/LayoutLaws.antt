-- Where the channels of an image lie: before all steps, and after each.
use Rattle.std.proofs.Common.{◌≡◌, ℕ, zero, suc, ◌+◌, ◌/◌, ◌<◌, ◌≤◌, inl, inr, Bool, true, false, List, [], ◌∷◌, ◌++◌, length, take, drop, get_or, Ok, refl, sym, ap, ◌∙◌, subst, le_refl, arith}
use Rattle.std.specs.List.{All, AllZip}
use Rattle.std.proofs.lemmas.Bool.{cases_lt}
use Rattle.std.proofs.lemmas.List.{length-append, length-map, length-drop, drop_all}
use Rattle.std.proofs.Math.Seq.{drop-cons}
use Rattle.std.proofs.lemmas.List.Elements.{All-cons, All-head, All-tail, All-weaker}
use Rattle.jxlm_base.specs.Grid.{Grid, grid, IsFull}
use Rattle.jxlm_base.specs.Outside.{buffer_at}
use Rattle.jxlm_base.specs.Regions.{region, buffer_of, Lies, AllLie, AreApart, LieApart, HasCell}
use Rattle.jxlm_lanes.specs.Squeeze.{averages}
use Rattle.jxlm_base.specs.declared.subgrid.Region.{Region}
use Rattle.jxlm_base.proofs.Regions.{AreApart_sym, apart_by_buffer, apart_by_columns, apart_by_rows}
use Rattle.jxlm_transform.specs.Channels.{Channel, ChannelList, HasSides}
use Rattle.jxlm_transform.specs.ChannelSteps.{Step, RctStep, PaletteStep, SqueezeStep, list_after, list_after_all, average_channel, residual_channel}
use Rattle.jxlm_transform.specs.declared.transform.Palette.{Palette}
use Rattle.jxlm_transform.specs.declared.transform.SqueezeParams.{SqueezeParams}
use Rattle.jxlm_transform.specs.SqueezedRegions.{average_region, residual_region}
use Rattle.jxlm_transform.specs.Layout.{Layout, whole_regions, first_layout, layout_after, layout_after_all, no_region, sides_of, buffers_of, HasBuffers}
use Rattle.jxlm_chain.specs.Lying.{HasTables, LieIn}
use Rattle.jxlm_transform.specs.Steps.{Sides, tables_of, HasChannels}
use Rattle.jxlm_chain.proofs.ListsApart.{pairs_cons, zip_length, zip_parts}
use Rattle.jxlm_transform.proofs.StepFacts.{PaletteApplies, SqueezeApplies, rct_applies, palette_applies, squeeze_applies, same_ok, first_step}
use Rattle.jxlm_transform.proofs.RangeParts.{with_first, all_first, all_halves}
use Rattle.jxlm_chain.proofs.StepParts.{pairs_first, pairs_halves, zip_first, zip_halves}

-- a region of its channel's sides
abbrev pub HasSize : Channel → Region → Type 0
HasSize c r = (r.width ≡ c.width) × (r.height ≡ c.height)

-- ---- the tables of steps

module _ {S : Type 0} where
  -- a buffer of these sides
  abbrev IsBuffer : Sides → Grid S → Type 0
  IsBuffer s g = HasSides s.width s.height g

  -- buffers after the first b are those of the tables
  pub tables_there : (ss : List Step) (b : ℕ) (store : List (Grid S)) → b ≤ length store → AllZip IsBuffer (tables_of ss) (drop b store) → HasTables ss b store
  tables_there [] b store le z = let long = length-drop b store in let none = zip_length IsBuffer [] (drop b store) z in omega (arith, long, none)
  tables_there (RctStep t ∷ ss) b store le z = tables_there ss b store le z
  tables_there (PaletteStep t ∷ ss) b store le z =
      let s : Sides = record { width = t.nb_colours; height = t.num_c } in
      elim (cases_lt b (length store)) [
        | inl lt ↦
            let z' : AllZip IsBuffer (s ∷ tables_of ss) (buffer_at store b ∷ drop (suc b) store) = subst (AllZip IsBuffer (s ∷ tables_of ss)) (drop-cons store b (grid 0 0 []) lt) z in
            (z'.0, tables_there ss (suc b) store lt z'.1)
        | inr ge ↦ absurd (subst (AllZip IsBuffer (s ∷ tables_of ss)) (drop_all b store ge) z)
      ]
  tables_there (SqueezeStep t ∷ ss) b store le z = tables_there ss b store le z

  -- the store has the buffers that are taken
  pub tables_fit : (ss : List Step) (b : ℕ) (store : List (Grid S)) → HasTables ss b store → b ≤ length store
  tables_fit [] b store h = omega arith
  tables_fit (RctStep t ∷ ss) b store h = tables_fit ss b store h
  tables_fit (PaletteStep t ∷ ss) b store h = let le = tables_fit ss (suc b) store h.1 in omega arith
  tables_fit (SqueezeStep t ∷ ss) b store h = tables_fit ss b store h

-- ---- before all steps

pub whole_sizes : (cs : List Channel) (b : ℕ) → AllZip HasSize cs (whole_regions b cs)
whole_sizes [] b = tt
whole_sizes (c ∷ cs) b = ((refl, refl), whole_sizes cs (suc b))

-- region i is all of buffer i of these, which is buffer b + i of others
record IsLaid {S : Type 0} (b i : ℕ) (r : Region) (store : List (Grid S)) : Type 0 where
  pub buffer : r.buffer ≡ b + i
  pub left : r.x ≡ 0
  pub top : r.y ≡ 0
  pub there : i < length store
  pub full : IsFull (buffer_at store i)
  pub wide : r.width ≡ (buffer_at store i).width
  pub high : r.height ≡ (buffer_at store i).height

module _ {S : Type 0} where
  is_laid : (cs : List Channel) (more : List Sides) (store : List (Grid S)) (b i : ℕ) (d : Region) → HasBuffers (sides_of cs ++ more) store → i < length (whole_regions b cs) → IsLaid b i (get_or (whole_regions b cs) i d) store
  is_laid [] more store b i d has l = absurd (omega arith)
  is_laid (c ∷ cs) more [] b i d has l = absurd has
  is_laid (c ∷ cs) more (g ∷ gs) b zero d has l =
      record { buffer = omega arith; left = refl; top = refl; there = omega arith; full = has.0.full; wide = sym has.0.same_width; high = sym has.0.same_height }
  is_laid (c ∷ cs) more (g ∷ gs) b (suc i) d has l =
      let r = is_laid cs more gs (suc b) i d has.1 (omega arith) in
      let there = r.there in
      record { buffer = r.buffer ∙ omega arith; left = r.left; top = r.top; there = omega (arith, there); full = r.full; wide = r.wide; high = r.high }

  module _ (cs : List Channel) (more : List Sides) (store : List (Grid S)) (has : HasBuffers (sides_of cs ++ more) store) where
    first_lies : AllLie (whole_regions 0 cs) store
    first_lies = λ i d l.
        let s : Region = get_or (whole_regions 0 cs) i d in
        let r = is_laid cs more store 0 i d has l in
        let is : s.buffer ≡ i = r.buffer ∙ omega arith in
        let there = r.there in
        let wide = r.wide in
        let high = r.high in
        let left = r.left in
        let top = r.top in
        let same : buffer_of store s ≡ buffer_at store i = ap (buffer_at store) is in
        record {
          there = omega (arith, is, there);
          full = subst IsFull (sym same) r.full;
          columns = subst (λ (g : Grid S). s.x + s.width ≤ g.width) (sym same) (omega (arith, left, wide));
          rows = subst (λ (g : Grid S). s.y + s.height ≤ g.height) (sym same) (omega (arith, top, high));
        }

    first_taken : All (λ r. r.buffer < length cs) (whole_regions 0 cs)
    first_taken = λ i d l.
        let is = (is_laid cs more store 0 i d has l).buffer in
        let long = zip_length HasSize cs (whole_regions 0 cs) (whole_sizes cs 0) in
        omega (arith, is, long, l)

    first_apart : LieApart (whole_regions 0 cs)
    first_apart = λ i j d lt l.
        let a = (is_laid cs more store 0 i d has (omega arith)).buffer in
        let b = (is_laid cs more store 0 j d has l).buffer in
        apart_by_buffer (get_or (whole_regions 0 cs) i d) (get_or (whole_regions 0 cs) j d)
        (λ e. let e' : (get_or (whole_regions 0 cs) i d).buffer ≡ (get_or (whole_regions 0 cs) j d).buffer = e in omega (arith, a, b, e', lt))

    first_after : AllZip IsBuffer more (drop (length cs) store) × (length cs ≤ length store)
    first_after =
        let n = length-map cs (λ (c : Channel). record { width = c.width; height = c.height }) in
        let all = zip_length IsBuffer (sides_of cs ++ more) store has in
        let both = length-append (sides_of cs) more in
        (subst (λ k. AllZip IsBuffer more (drop k store)) n (zip_parts IsBuffer (sides_of cs) more store has), omega (arith, n, all, both))

-- In buffers of their own the channels lie as they must, and the tables' buffers follow.
pub lie_first : {S : Type 0} (cs : List Channel) (ss : List Step) (store : List (Grid S)) → HasBuffers (buffers_of cs ss) store → LieIn cs (first_layout cs) store × HasTables ss (length cs) store
lie_first cs ss store has = (
  record { sizes = whole_sizes cs 0; lie = first_lies cs (tables_of ss) store has; taken = first_taken cs (tables_of ss) store has; apart = first_apart cs (tables_of ss) store has },
  tables_there ss (length cs) store (first_after cs (tables_of ss) store has).1 (first_after cs (tables_of ss) store has).0,
)

-- ---- parts of a squeezed region

average_inside : (horizontal : Bool) (r : Region) (b x y : ℕ) → HasCell (average_region horizontal r) b x y → HasCell r b x y
average_inside true r b x y h = let right = h.right in record { buffer = h.buffer; left = h.left; right = omega arith; top = h.top; bottom = h.bottom }
average_inside false r b x y h = let bottom = h.bottom in record { buffer = h.buffer; left = h.left; right = h.right; top = h.top; bottom = omega arith }

residual_inside : (horizontal : Bool) (r : Region) (b x y : ℕ) → HasCell (residual_region horizontal r) b x y → HasCell r b x y
residual_inside true r b x y h = let left = h.left in let right = h.right in record { buffer = h.buffer; left = omega arith; right = omega arith; top = h.top; bottom = h.bottom }
residual_inside false r b x y h = let top = h.top in let bottom = h.bottom in record { buffer = h.buffer; left = h.left; right = h.right; top = omega arith; bottom = omega arith }

average_apart : (horizontal : Bool) (r s : Region) → AreApart r s → AreApart (average_region horizontal r) s
average_apart horizontal r s apart = λ b x y h k. apart b x y (average_inside horizontal r b x y h) k

residual_apart : (horizontal : Bool) (r s : Region) → AreApart r s → AreApart (residual_region horizontal r) s
residual_apart horizontal r s apart = λ b x y h k. apart b x y (residual_inside horizontal r b x y h) k

halves_apart : (horizontal : Bool) (r : Region) → AreApart (average_region horizontal r) (residual_region horizontal r)
halves_apart true r = apart_by_columns (average_region true r) (residual_region true r) (le_refl (r.x + averages r.width))
halves_apart false r = apart_by_rows (average_region false r) (residual_region false r) (le_refl (r.y + averages r.height))

module _ {S : Type 0} (store : List (Grid S)) where
  average_lies : (horizontal : Bool) (r : Region) → Lies r store → Lies (average_region horizontal r) store
  average_lies true r h = let columns = h.columns in record { there = h.there; full = h.full; columns = omega arith; rows = h.rows }
  average_lies false r h = let rows = h.rows in record { there = h.there; full = h.full; columns = h.columns; rows = omega arith }

  residual_lies : (horizontal : Bool) (r : Region) → Lies r store → Lies (residual_region horizontal r) store
  residual_lies true r h = let columns = h.columns in record { there = h.there; full = h.full; columns = omega arith; rows = h.rows }
  residual_lies false r h = let rows = h.rows in record { there = h.there; full = h.full; columns = h.columns; rows = omega arith }

  -- a table is a whole buffer
  pub table_lies : (colours channels b : ℕ) → b < length store → HasSides colours channels (buffer_at store b) → Lies (region b 0 0 colours channels) store
  table_lies colours channels b lt h = let wide = h.same_width in let high = h.same_height in record { there = lt; full = h.full; columns = omega arith; rows = omega arith }

average_taken : (n : ℕ) (horizontal : Bool) (r : Region) → r.buffer < n → (average_region horizontal r).buffer < n
average_taken n true r h = h
average_taken n false r h = h

residual_taken : (n : ℕ) (horizontal : Bool) (r : Region) → r.buffer < n → (residual_region horizontal r).buffer < n
residual_taken n true r h = h
residual_taken n false r h = h

average_size : (horizontal : Bool) (c : Channel) (r : Region) → HasSize c r → HasSize (average_channel horizontal c) (average_region horizontal r)
average_size true c r h = let h0 = h.0 in (omega arith, h.1)
average_size false c r h = let h1 = h.1 in (h.0, omega arith)

residual_size : (horizontal : Bool) (c : Channel) (r : Region) → HasSize c r → HasSize (residual_channel horizontal c) (residual_region horizontal r)
residual_size true c r h = let h0 = h.0 in (ap (λ n. n / 2) h0, h.1)
residual_size false c r h = let h1 = h.1 in (h.0, ap (λ n. n / 2) h1)

-- ---- after each step

module _ {S : Type 0} (store : List (Grid S)) where
  lie_after_palette : (t : Palette) (l m : ChannelList) (places : Layout) → PaletteApplies t l m → 1 ≤ t.num_c → LieIn l.channels places store →
      HasSides t.nb_colours t.num_c (buffer_at store places.buffers) → places.buffers < length store → LieIn m.channels (layout_after (PaletteStep t) places) store
  lie_after_palette t l m places applies some h sides lt =
      let rs : List Region = places.regions in
      let b : ℕ = places.buffers in
      let table : Region = region b 0 0 t.nb_colours t.num_c in
      let kept : List Region = take (t.begin_c + 1) rs ++ drop (t.begin_c + t.num_c) rs in
      let there = applies.there in
      let long = zip_length HasSize l.channels rs h.sizes in
      let taken : All (λ r. r.buffer < b) kept = all_first (λ r. r.buffer < b) t.begin_c t.num_c rs h.taken in
      let lie : LieIn m.channels (record { regions = table ∷ kept; buffers = suc b }) store = record {
        sizes = subst (λ cs. AllZip HasSize cs (table ∷ kept)) applies.after_it ((refl, refl), zip_first HasSize t.begin_c t.num_c l.channels rs h.sizes);
        lie = All-cons (λ r. Lies r store) table kept (table_lies store t.nb_colours t.num_c b lt sides) (all_first (λ r. Lies r store) t.begin_c t.num_c rs h.lie);
        taken = All-cons (λ r. r.buffer < suc b) table kept (omega arith) (All-weaker (λ r. r.buffer < b) (λ r. r.buffer < suc b) (λ r k. omega (arith, k)) kept taken);
        apart = pairs_cons AreApart table kept (All-weaker (λ r. r.buffer < b) (AreApart table) (λ r k. apart_by_buffer table r (λ e. let e' : b ≡ r.buffer = e in omega (arith, k, e'))) kept taken)
            (pairs_first AreApart t.begin_c t.num_c rs some h.apart);
      } in
      subst (λ ks. LieIn m.channels (record { regions = table ∷ ks; buffers = suc b }) store) (sym (with_first t.begin_c t.num_c rs no_region (omega (arith, there, long, some)))) lie

  lie_after_squeeze : (t : SqueezeParams) (l m : ChannelList) (places : Layout) → SqueezeApplies t l m → LieIn l.channels places store → LieIn m.channels (layout_after (SqueezeStep t) places) store
  lie_after_squeeze t l m places applies h =
      let rs : List Region = places.regions in
      let b : ℕ = places.buffers in
      let f : Region → Region = average_region t.horizontal in
      let g : Region → Region = residual_region t.horizontal in
      record {
        sizes = subst (λ cs. AllZip HasSize cs (layout_after (SqueezeStep t) places).regions) applies.after_it
            (zip_halves HasSize t (average_channel t.horizontal) (residual_channel t.horizontal) f g l.channels rs (average_size t.horizontal) (residual_size t.horizontal) h.sizes);
        lie = all_halves (λ r. Lies r store) t f g rs (average_lies store t.horizontal) (residual_lies store t.horizontal) h.lie;
        taken = all_halves (λ r. r.buffer < b) t f g rs (average_taken b t.horizontal) (residual_taken b t.horizontal) h.taken;
        apart = pairs_halves AreApart AreApart_sym t f g rs (average_apart t.horizontal) (residual_apart t.horizontal) (halves_apart t.horizontal) h.apart;
      }

-- After a step the channels lie as they must, and the tables of later steps follow.
pub lie_after : {S : Type 0} (s : Step) (l m : ChannelList) (places : Layout) (ss : List Step) (store : List (Grid S)) → list_after s l ≡ Ok m → HasChannels s → LieIn l.channels places store → HasTables (s ∷ ss) places.buffers store →
    LieIn m.channels (layout_after s places) store × HasTables ss (layout_after s places).buffers store
lie_after (RctStep t) l m places ss store e some h tables = (subst (λ cs. LieIn cs places store) (rct_applies t l m e).after_it h, tables)
lie_after (PaletteStep t) l m places ss store e some h tables =
    (lie_after_palette store t l m places (palette_applies t l m e) some h tables.0 (tables_fit ss (suc places.buffers) store tables.1), tables.1)
lie_after (SqueezeStep t) l m places ss store e some h tables = (lie_after_squeeze store t l m places (squeeze_applies t l m e) h, tables)

-- after all steps; the store has no further buffers
pub lie_after_all : {S : Type 0} (ss : List Step) (l m : ChannelList) (places : Layout) (store : List (Grid S)) → list_after_all ss l ≡ Ok m → All HasChannels ss → LieIn l.channels places store → HasTables ss places.buffers store →
    LieIn m.channels (layout_after_all ss places) store × HasTables [] (layout_after_all ss places).buffers store
lie_after_all [] l m places store e some h tables = (subst (λ (x : ChannelList). LieIn x.channels places store) (same_ok l m e) h, tables)
lie_after_all (s ∷ ss) l m places store e some h tables =
    let (n, first, rest) = first_step s ss l m e in
    let after_it = lie_after s l n places ss store first (All-head HasChannels s ss some) h tables in
    lie_after_all ss n m (layout_after s places) store rest (All-tail HasChannels s ss some) after_it.0 after_it.1

-- ---- how many regions there are

abbrev Beside : Channel → Region → Type 0
Beside c r = Unit {0}

beside_same : (cs : List Channel) (rs : List Region) → length rs ≡ length cs → AllZip Beside cs rs
beside_same [] [] e = tt
beside_same [] (r ∷ rs) e = absurd (omega arith)
beside_same (c ∷ cs) [] e = absurd (omega arith)
beside_same (c ∷ cs) (r ∷ rs) e = (tt, beside_same cs rs (omega arith))

beside_after : (s : Step) (l m : ChannelList) (places : Layout) → list_after s l ≡ Ok m → HasChannels s → AllZip Beside l.channels places.regions → AllZip Beside m.channels (layout_after s places).regions
beside_after (RctStep t) l m places e some z = subst (λ cs. AllZip Beside cs places.regions) (rct_applies t l m e).after_it z
beside_after (PaletteStep t) l m places e some z =
    let rs : List Region = places.regions in
    let applies = palette_applies t l m e in
    let there = applies.there in
    let long = zip_length Beside l.channels rs z in
    let table : Region = region places.buffers 0 0 t.nb_colours t.num_c in
    let after_it : AllZip Beside m.channels (table ∷ (take (t.begin_c + 1) rs ++ drop (t.begin_c + t.num_c) rs)) =
    subst (λ cs. AllZip Beside cs (table ∷ (take (t.begin_c + 1) rs ++ drop (t.begin_c + t.num_c) rs))) applies.after_it (tt, zip_first Beside t.begin_c t.num_c l.channels rs z) in
    subst (λ ks. AllZip Beside m.channels (table ∷ ks)) (sym (with_first t.begin_c t.num_c rs no_region (omega (arith, there, long, some)))) after_it
beside_after (SqueezeStep t) l m places e some z =
    subst (λ cs. AllZip Beside cs (layout_after (SqueezeStep t) places).regions) (squeeze_applies t l m e).after_it
    (zip_halves Beside t (average_channel t.horizontal) (residual_channel t.horizontal) (average_region t.horizontal) (residual_region t.horizontal) l.channels places.regions (λ c r h. tt) (λ c r h. tt) z)

-- a region for each channel, before all steps
pub length_first : (cs : List Channel) → length (first_layout cs).regions ≡ length cs
length_first cs = sym (zip_length HasSize cs (whole_regions 0 cs) (whole_sizes cs 0))

-- after a step
pub length_after : (s : Step) (l m : ChannelList) (places : Layout) → list_after s l ≡ Ok m → HasChannels s → length places.regions ≡ length l.channels → length (layout_after s places).regions ≡ length m.channels
length_after s l m places e some long = sym (zip_length Beside m.channels (layout_after s places).regions (beside_after s l m places e some (beside_same l.channels places.regions long)))

-- and after all steps
pub length_after_all : (ss : List Step) (l m : ChannelList) (places : Layout) → list_after_all ss l ≡ Ok m → All HasChannels ss → length places.regions ≡ length l.channels → length (layout_after_all ss places).regions ≡ length m.channels
length_after_all [] l m places e some long = subst (λ (x : ChannelList). length places.regions ≡ length x.channels) (same_ok l m e) long
length_after_all (s ∷ ss) l m places e some long =
    let (n, first, rest) = first_step s ss l m e in
    length_after_all ss n m (layout_after s places) rest (All-tail HasChannels s ss some) (length_after s l n places first (All-head HasChannels s ss some) long)
