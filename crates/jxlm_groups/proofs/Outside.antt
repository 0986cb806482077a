-- Undoing the steps of a part changes no cell but those of its regions and of its own tables.
use Rattle.std.proofs.Common.{◌≡◌, ◌⊎◌, ℕ, zero, suc, ◌+◌, ◌-◌, ◌<◌, inl, inr, Bool, true, false, if◌then◌else◌, List, [], ◌∷◌, ◌++◌, map, take, drop, get_or, ℤ, ap, ◌∙◌, arith}
use Rattle.std.specs.Int.{Width}
use Rattle.std.specs.List.{All}
use Rattle.std.proofs.lemmas.List.Elements.{All-cons, All-head, All-tail}
use Rattle.jxlm_base.specs.Grid.{Grid, cell}
use Rattle.jxlm_base.specs.Outside.{buffer_at}
use Rattle.jxlm_base.specs.Regions.{HasCell}
use Rattle.jxlm_base.specs.declared.subgrid.Region.{Region}
use Rattle.jxlm_transform.specs.Layout.{Layout, layout_after, layout_after_all, no_region}
use Rattle.jxlm_chain.specs.Undo.{Undo, UndoRct, UndoPalette, UndoSqueeze, Undoes, UndoesAll, undo_of, undo_of_all}
use Rattle.jxlm_chain.proofs.ShapeLaws.{shape_all_undone}
use Rattle.jxlm_chain.proofs.Undone.{undone_split}
use Rattle.jxlm_transform.specs.ChannelSteps.{Step, RctStep, PaletteStep, SqueezeStep, range, with_range}
use Rattle.jxlm_transform.specs.SqueezedRegions.{average_region, residual_region}
use Rattle.jxlm_transform.specs.declared.transform.SqueezeParams.{SqueezeParams}
use Rattle.jxlm_groups.specs.Parts.{HaveCell}

module _ (b x y : ℕ) where
  abbrev H : List Region → Type 0
  H rs = HaveCell rs b x y

  have_append : (rs ss : List Region) → H (rs ++ ss) → H rs ⊎ H ss
  have_append [] ss h = inr h
  have_append (r ∷ rs) ss h = elim h [
    | inl a ↦ inl (inl a)
    | inr k ↦ elim (have_append rs ss k) [
      | inl c ↦ inl (inr c)
      | inr d ↦ inr d
    ]
  ]

  have_take : (n : ℕ) (rs : List Region) → H (take n rs) → H rs
  have_take zero rs h = absurd h
  have_take (suc n) [] h = absurd h
  have_take (suc n) (r ∷ rs) h = elim h [
    | inl a ↦ inl a
    | inr k ↦ inr (have_take n rs k)
  ]

  have_drop : (n : ℕ) (rs : List Region) → H (drop n rs) → H rs
  have_drop zero rs h = h
  have_drop (suc n) [] h = absurd h
  have_drop (suc n) (r ∷ rs) h = inr (have_drop n rs h)

  have_range : (begin n : ℕ) (rs : List Region) → H (range begin n rs) → H rs
  have_range begin n rs h = have_drop begin rs (have_take (begin + n - begin) (drop begin rs) h)

  have_map : (f : Region → Region) → ((r : Region) → HasCell (f r) b x y → HasCell r b x y) → (rs : List Region) → H (map f rs) → H rs
  have_map f inside [] h = absurd h
  have_map f inside (r ∷ rs) h = elim h [
    | inl a ↦ inl (inside r a)
    | inr k ↦ inr (have_map f inside rs k)
  ]

  have_get : (rs : List Region) (i : ℕ) → HasCell (get_or rs i no_region) b x y → H rs
  have_get [] i h = absurd (let l = h.left in let r = h.right in omega (arith, l, r))
  have_get (r ∷ rs) zero h = inl h
  have_get (r ∷ rs) (suc i) h = inr (have_get rs i h)

  average_inside : (horizontal : Bool) (r : Region) → HasCell (average_region horizontal r) b x y → HasCell r b x y
  average_inside true r h = let right = h.right in record { buffer = h.buffer; left = h.left; right = omega arith; top = h.top; bottom = h.bottom }
  average_inside false r h = let bottom = h.bottom in record { buffer = h.buffer; left = h.left; right = h.right; top = h.top; bottom = omega arith }

  residual_inside : (horizontal : Bool) (r : Region) → HasCell (residual_region horizontal r) b x y → HasCell r b x y
  residual_inside true r h = let left = h.left in let right = h.right in record { buffer = h.buffer; left = omega arith; right = omega arith; top = h.top; bottom = h.bottom }
  residual_inside false r h = let top = h.top in let bottom = h.bottom in record { buffer = h.buffer; left = h.left; right = h.right; top = omega arith; bottom = omega arith }

  either : (rs ss ts : List Region) → (H rs → H ts) → (H ss → H ts) → H (rs ++ ss) → H ts
  either rs ss ts f g h = elim (have_append rs ss h) [
    | inl a ↦ f a
    | inr c ↦ g c
  ]

  -- what a step puts in the place of regions lies in them, but for a table
  halves_inside : (t : SqueezeParams) (place : Bool) (rs : List Region) →
      H (if place then with_range t.begin_c t.num_c (map (average_region t.horizontal) (range t.begin_c t.num_c rs) ++ map (residual_region t.horizontal) (range t.begin_c t.num_c rs)) rs
      else with_range t.begin_c t.num_c (map (average_region t.horizontal) (range t.begin_c t.num_c rs)) rs ++ map (residual_region t.horizontal) (range t.begin_c t.num_c rs)) → H rs
  halves_inside t place rs = placed place where
    in_a : H (map (average_region t.horizontal) (range t.begin_c t.num_c rs)) → H rs
    in_a h = have_range t.begin_c t.num_c rs (have_map (average_region t.horizontal) (average_inside t.horizontal) (range t.begin_c t.num_c rs) h)

    in_b : H (map (residual_region t.horizontal) (range t.begin_c t.num_c rs)) → H rs
    in_b h = have_range t.begin_c t.num_c rs (have_map (residual_region t.horizontal) (residual_inside t.horizontal) (range t.begin_c t.num_c rs) h)

    placed : (place : Bool) →
        H (if place then with_range t.begin_c t.num_c (map (average_region t.horizontal) (range t.begin_c t.num_c rs) ++ map (residual_region t.horizontal) (range t.begin_c t.num_c rs)) rs
        else with_range t.begin_c t.num_c (map (average_region t.horizontal) (range t.begin_c t.num_c rs)) rs ++ map (residual_region t.horizontal) (range t.begin_c t.num_c rs)) → H rs
    placed true h = either (take t.begin_c rs ++ (map (average_region t.horizontal) (range t.begin_c t.num_c rs) ++ map (residual_region t.horizontal) (range t.begin_c t.num_c rs))) (drop (t.begin_c + t.num_c) rs) rs
        (either (take t.begin_c rs) (map (average_region t.horizontal) (range t.begin_c t.num_c rs) ++ map (residual_region t.horizontal) (range t.begin_c t.num_c rs)) rs (have_take t.begin_c rs)
        (either (map (average_region t.horizontal) (range t.begin_c t.num_c rs)) (map (residual_region t.horizontal) (range t.begin_c t.num_c rs)) rs in_a in_b)) (have_drop (t.begin_c + t.num_c) rs) h
    placed false h = either (take t.begin_c rs ++ map (average_region t.horizontal) (range t.begin_c t.num_c rs) ++ drop (t.begin_c + t.num_c) rs) (map (residual_region t.horizontal) (range t.begin_c t.num_c rs)) rs
        (either (take t.begin_c rs ++ map (average_region t.horizontal) (range t.begin_c t.num_c rs)) (drop (t.begin_c + t.num_c) rs) rs
        (either (take t.begin_c rs) (map (average_region t.horizontal) (range t.begin_c t.num_c rs)) rs (have_take t.begin_c rs) in_a) (have_drop (t.begin_c + t.num_c) rs)) in_b h

  step_inside : (s : Step) (l : Layout) → b < l.buffers → H (layout_after s l).regions → H l.regions
  step_inside (RctStep t) l lt h = h
  step_inside (PaletteStep t) l lt h = elim h [
    | inl table ↦ absurd (let is = table.buffer in omega (arith, is, lt))
    | inr kept ↦ either (take t.begin_c l.regions ++ get_or l.regions t.begin_c no_region ∷ []) (drop (t.begin_c + t.num_c) l.regions) l.regions
        (either (take t.begin_c l.regions) (get_or l.regions t.begin_c no_region ∷ []) l.regions (have_take t.begin_c l.regions) (λ k. elim k [
          | inl a ↦ have_get l.regions t.begin_c a
          | inr none ↦ absurd none
        ])) (have_drop (t.begin_c + t.num_c) l.regions) kept
  ]
  step_inside (SqueezeStep t) l lt h = halves_inside t t.in_place l.regions h

  step_taken : (s : Step) (l : Layout) → b < l.buffers → b < (layout_after s l).buffers
  step_taken (RctStep t) l lt = lt
  step_taken (PaletteStep t) l lt = omega (arith, lt)
  step_taken (SqueezeStep t) l lt = lt

  -- a cell of a buffer that is taken lies in the regions after all steps only where it lies in those before
  pub all_inside : (ss : List Step) (l : Layout) → b < l.buffers → H (layout_after_all ss l).regions → H l.regions
  all_inside [] l lt h = h
  all_inside (s ∷ ss) l lt h = step_inside s l lt (all_inside ss (layout_after s l) (step_taken s l lt) h)

  -- the other way round
  pub never_has : (rs : List Region) → All (λ r. HasCell r b x y → ⊥) rs → H rs → ⊥
  never_has [] all h = h
  never_has (r ∷ rs) all h = elim h [
    | inl a ↦ All-head (λ r. HasCell r b x y → ⊥) r rs all a
    | inr k ↦ never_has rs (All-tail (λ r. HasCell r b x y → ⊥) r rs all) k
  ]

  -- none of the regions has the cell
  pub none_has : (rs : List Region) → (H rs → ⊥) → All (λ r. HasCell r b x y → ⊥) rs
  none_has [] never = λ k d l. absurd (omega (arith, l))
  none_has (r ∷ rs) never = All-cons (λ r. HasCell r b x y → ⊥) r rs (λ h. never (inl h)) (none_has rs (λ h. never (inr h)))

  module _ {S : Type 0} (to_int : S → ℤ) (w : Width) (depth : ℕ) where
    -- the regions that an undoing changes
    abbrev changed : Undo → List Region
    changed (UndoRct kind regions) = regions
    changed (UndoPalette t table index regions) = regions
    changed (UndoSqueeze horizontal r) = r ∷ []

    one_outside : (u : Undo) (old new : List (Grid S)) → x < (buffer_at old b).width → y < (buffer_at old b).height → Undoes to_int w depth u old new → (H (changed u) → ⊥) → cell (buffer_at new b) x y ≡ cell (buffer_at old b) x y
    one_outside (UndoRct kind regions) old new lx ly h never = h.1.cells b x y lx ly (none_has regions never)
    one_outside (UndoPalette t table index regions) old new lx ly h never = h.1.cells b x y lx ly (none_has regions never)
    one_outside (UndoSqueeze horizontal r) old new lx ly h never = h.1.cells b x y lx ly (none_has (r ∷ []) never)

    -- none of the undoings changes the cell
    abbrev Spares : List Undo → Type 0
    Spares [] = Unit {0}
    Spares (u ∷ us) = (H (changed u) → ⊥) × Spares us

    all_outside : (us : List Undo) (old new : List (Grid S)) → x < (buffer_at old b).width → y < (buffer_at old b).height → UndoesAll to_int w depth us old new → Spares us → cell (buffer_at new b) x y ≡ cell (buffer_at old b) x y
    all_outside [] old new lx ly h spares = ap (λ (s : List (Grid S)). cell (buffer_at s b) x y) h
    all_outside (u ∷ us) old new lx ly h spares =
        let (between, others, one) = h in
        let shape = shape_all_undone to_int w depth us old between others in
        let wide = shape.width b in
        let high = shape.height b in
        one_outside u between new (omega (arith, lx, wide)) (omega (arith, ly, high)) one spares.0 ∙ all_outside us old between lx ly others spares.1

    spares_halves : (horizontal : Bool) (rs : List Region) → (H rs → ⊥) → Spares (map (UndoSqueeze horizontal) rs)
    spares_halves horizontal [] never = tt
    spares_halves horizontal (r ∷ rs) never = (
      λ h. elim h [
        | inl a ↦ never (inl a)
        | inr none ↦ none
      ],
      spares_halves horizontal rs (λ h. never (inr h)),
    )

    spares_step : (s : Step) (l : Layout) → (H l.regions → ⊥) → Spares (undo_of s l)
    spares_step (RctStep t) l never = (λ h. never (have_range t.begin_c 3 l.regions h), tt)
    spares_step (PaletteStep t) l never = (λ h. never (have_range t.begin_c t.num_c l.regions h), tt)
    spares_step (SqueezeStep t) l never = spares_halves t.horizontal (range t.begin_c t.num_c l.regions) (λ h. never (have_range t.begin_c t.num_c l.regions h))

    -- Undoing all steps of a part keeps each cell that isn't one of its regions', in each buffer that isn't one of its own tables'.
    pub finish_outside : (ss : List Step) (l : Layout) (old new : List (Grid S)) → x < (buffer_at old b).width → y < (buffer_at old b).height → UndoesAll to_int w depth (undo_of_all ss l) old new →
        b < l.buffers → (H l.regions → ⊥) → cell (buffer_at new b) x y ≡ cell (buffer_at old b) x y
    finish_outside [] l old new lx ly h lt never = all_outside [] old new lx ly h tt
    finish_outside (s ∷ ss) l old new lx ly h lt never =
        let (between, later, here) = undone_split to_int w depth (undo_of s l) (undo_of_all ss (layout_after s l)) old new h in
        let shape = shape_all_undone to_int w depth (undo_of_all ss (layout_after s l)) old between later in
        let wide = shape.width b in
        let high = shape.height b in
        all_outside (undo_of s l) between new (omega (arith, lx, wide)) (omega (arith, ly, high)) here (spares_step s l never)
        ∙ finish_outside ss (layout_after s l) old between lx ly later (step_taken s l lt) (λ k. never (step_inside s l lt k))
