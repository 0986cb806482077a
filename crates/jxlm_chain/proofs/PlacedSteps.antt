-- Channels that go on by steps, one after another.
use Rattle.std.proofs.Common.{◌≡◌, ℕ, ◌+◌, ◌<◌, List, [], ◌∷◌, ◌++◌, length, map, take, drop, get_or, Result, Ok, refl, sym, ap, ◌∙◌, subst, append_assoc, arith}
use Rattle.std.proofs.lemmas.List.{append-nil, take_more, drop_more, length-append, length-map}
use Rattle.jxlm_bits.specs.ErrorKind.{ErrorKind}
use Rattle.jxlm_transform.specs.Channels.{ChannelList, HasItsMeta}
use Rattle.jxlm_transform.specs.Lists.{IsAfter, list_of, layout_of}
use Rattle.jxlm_transform.specs.declared.channels.ModularChannels.{ModularChannels}
use Rattle.jxlm_transform.specs.ChannelSteps.{Step, RctStep, PaletteStep, SqueezeStep, list_after, list_after_all}
use Rattle.jxlm_transform.specs.declared.transform.SqueezeParams.{SqueezeParams}
use Rattle.jxlm_transform.specs.Layout.{Layout, layout_after, layout_after_all}
use Rattle.jxlm_transform.specs.Steps.{Sides, tables_of}
use Rattle.jxlm_chain.specs.Placed.{GoesOn, IsPlaced, IsPlacedBy, region_sides, sides_in}
use Rattle.jxlm_chain.specs.Undo.{Undo, undo_of, undo_of_all}
use Rattle.jxlm_chain.specs.Undoings.{undos_of}
use Rattle.jxlm_chain.specs.declared.placed.PlacedChannels.{PlacedChannels}

-- ---- two lists of steps

pub undos_both : (a b : List Step) (l : Layout) → undo_of_all (a ++ b) l ≡ undo_of_all a l ++ undo_of_all b (layout_after_all a l)
undos_both [] b l = refl
undos_both (s ∷ a) b l =
    ap (λ (us : List Undo). undo_of s l ++ us) (undos_both a b (layout_after s l)) ∙ sym (append_assoc (undo_of s l) (undo_of_all a (layout_after s l)) (undo_of_all b (layout_after_all (s ∷ a) l)))

pub layout_both : (a b : List Step) (l : Layout) → layout_after_all (a ++ b) l ≡ layout_after_all b (layout_after_all a l)
layout_both [] b l = refl
layout_both (s ∷ a) b l = layout_both a b (layout_after s l)

tables_both : (a b : List Step) → tables_of (a ++ b) ≡ tables_of a ++ tables_of b
tables_both [] b = refl
tables_both (RctStep t ∷ a) b = tables_both a b
tables_both (PaletteStep t ∷ a) b = ap (λ (ts : List Sides). record { width = t.nb_colours; height = t.num_c } ∷ ts) (tables_both a b)
tables_both (SqueezeStep t ∷ a) b = tables_both a b

pub goes_both : (a b : List Step) (p q r : PlacedChannels) → GoesOn a p q → GoesOn b q r → GoesOn (a ++ b) p r
goes_both a b p q r h k = record {
  placed = k.placed;
  undos =
      k.undos ∙ ap (λ (us : List Undo). us ++ undo_of_all b (layout_of q.channels)) h.undos ∙ append_assoc (undos_of p.undoings.items) (undo_of_all a (layout_of p.channels)) (undo_of_all b (layout_of q.channels))
      ∙ ap (λ (l : Layout). undos_of p.undoings.items ++ (undo_of_all a (layout_of p.channels) ++ undo_of_all b l)) h.layout
      ∙ ap (λ (us : List Undo). undos_of p.undoings.items ++ us) (sym (undos_both a b (layout_of p.channels)));
  layout = k.layout ∙ ap (layout_after_all b) h.layout ∙ sym (layout_both a b (layout_of p.channels));
  tables =
      k.tables ∙ ap (λ (ts : List Sides). ts ++ tables_of b) h.tables ∙ append_assoc (sides_in p.tables.items) (tables_of a) (tables_of b)
      ∙ ap (λ (ts : List Sides). sides_in p.tables.items ++ ts) (sym (tables_both a b));
}

pub goes_nowhere : (p : PlacedChannels) → IsPlaced p → GoesOn [] p p
goes_nowhere p h = record {
  placed = h;
  undos = sym (append-nil (undos_of p.undoings.items));
  layout = refl;
  tables = sym (append-nil (sides_in p.tables.items));
}

-- channels that go on from their start
pub placed_by : (ss : List Step) (l : Layout) (p q : PlacedChannels) → IsPlacedBy [] l p → GoesOn ss p q → IsPlacedBy ss l q
placed_by ss l p q start goes = record {
  undos = goes.undos ∙ ap (λ (us : List Undo). us ++ undo_of_all ss (layout_of p.channels)) start.undos ∙ ap (undo_of_all ss) start.layout;
  layout = goes.layout ∙ ap (layout_after_all ss) start.layout;
  tables = goes.tables ∙ ap (λ (ts : List Sides). ts ++ tables_of ss) start.tables;
}

-- ---- one step

buffers_after : (s : Step) (l : Layout) → (layout_after s l).buffers ≡ l.buffers + length (tables_of (s ∷ []))
buffers_after (RctStep t) l = omega arith
buffers_after (PaletteStep t) l = omega arith
buffers_after (SqueezeStep t) l = omega arith

-- a region for each channel
pub even_of : (l : ModularChannels) → length (layout_of l).regions ≡ length (list_of l).channels
even_of l = length-map l.placed.items (λ p. p.region) ∙ sym (length-map l.placed.items (λ p. p.info))

pub goes_one : (s : Step) (p q : PlacedChannels) → IsPlaced p → IsAfter s p.channels q.channels → HasItsMeta (list_of q.channels) →
    undos_of q.undoings.items ≡ undos_of p.undoings.items ++ undo_of s (layout_of p.channels) → sides_in q.tables.items ≡ sides_in p.tables.items ++ tables_of (s ∷ []) → GoesOn (s ∷ []) p q
goes_one s p q h is meta undos tables =
    let buffers : q.channels.buffers ≡ (layout_after s (layout_of p.channels)).buffers = ap (λ (l : Layout). l.buffers) is.layout in
    let more = buffers_after s (layout_of p.channels) in
    let count : length (sides_in q.tables.items) ≡ length (sides_in p.tables.items ++ tables_of (s ∷ [])) = ap length tables in
    let both = length-append (sides_in p.tables.items) (tables_of (s ∷ [])) in
    let new = length-map q.tables.items region_sides in
    let old = length-map p.tables.items region_sides in
    let room = h.room in
    record {
      placed = record {
        meta = meta;
        room = omega (arith, buffers, more, count, both, new, old, room);
      };
      undos = undos ∙ ap (λ (us : List Undo). undos_of p.undoings.items ++ us) (sym (append-nil (undo_of s (layout_of p.channels))));
      layout = is.layout;
      tables = tables;
    }

-- ---- the steps of a list's elements, one after another

module _ {X : Type 0} (steps : List X → List Step) (one : X → List Step) (none : steps [] ≡ []) (first : (x : X) (xs : List X) → steps (x ∷ xs) ≡ one x ++ steps xs) where
  steps_push : (xs : List X) (x : X) → steps (xs ++ x ∷ []) ≡ steps xs ++ one x
  steps_push [] x = first x [] ∙ ap (λ (ss : List Step). one x ++ ss) none ∙ append-nil (one x) ∙ ap (λ (ss : List Step). ss ++ one x) (sym none)
  steps_push (y ∷ ys) x =
      first y (ys ++ x ∷ []) ∙ ap (λ (ss : List Step). one y ++ ss) (steps_push ys x) ∙ sym (append_assoc (one y) (steps ys) (one x)) ∙ ap (λ (ss : List Step). ss ++ one x) (sym (first y ys))

  pub goes_next : (xs : List X) (i : ℕ) (d : X) (p q r : PlacedChannels) → i < length xs → GoesOn (steps (take i xs)) p q → GoesOn (one (get_or xs i d)) q r → GoesOn (steps (take (i + 1) xs)) p r
  goes_next xs i d p q r lt h k =
      let e : steps (take (i + 1) xs) ≡ steps (take i xs) ++ one (get_or xs i d) = ap steps (take_more xs i d lt) ∙ steps_push (take i xs) (get_or xs i d) in
      subst (λ (ss : List Step). GoesOn ss p r) (sym e) (goes_both (steps (take i xs)) (one (get_or xs i d)) p q r h k)

-- the next squeeze step was taken
pub rest_next : (xs : List SqueezeParams) (i : ℕ) (d : SqueezeParams) (l m : ChannelList) (total : Result ChannelList ErrorKind) → i < length xs → list_after (SqueezeStep (get_or xs i d)) l ≡ Ok m →
    list_after_all (map SqueezeStep (drop i xs)) l ≡ total → list_after_all (map SqueezeStep (drop (i + 1) xs)) m ≡ total
rest_next xs i d l m total lt one so_far =
    let cut = ap (λ (ys : List SqueezeParams). list_after_all (map SqueezeStep ys) l) (drop_more xs i d lt) in
    let next : list_after_all (SqueezeStep (get_or xs i d) ∷ map SqueezeStep (drop (i + 1) xs)) l ≡ list_after_all (map SqueezeStep (drop (i + 1) xs)) m = rw one refl in
    sym next ∙ sym cut ∙ so_far
