-- Undoing in regions without cells: the store as it is.
use Rattle.std.proofs.Common.{◌≡◌, ℕ, zero, suc, ◌<◌, ◌⊎◌, inl, inr, List, [], ◌∷◌, length, Bool, true, false, ℤ, refl, sym, ap, ◌∙◌, arith, get_or, ltb, ◌&&◌}
use Rattle.std.specs.Int.{Width}
use Rattle.std.proofs.lemmas.Bool.Decides.{nat_tests}
use Rattle.std.proofs.lemmas.List.{length-map}
use Rattle.std.proofs.lemmas.List.Elements.{All-cons, All-nil, All-map}
use Rattle.jxlm_base.specs.Grid.{Grid, grid_by}
use Rattle.jxlm_base.specs.Regions.{grid_of, store_meanings}
use Rattle.jxlm_base.specs.SqueezedGrids.{AreGridSamples}
use Rattle.jxlm_base.specs.declared.subgrid.Region.{Region}
use Rattle.jxlm_base.proofs.Outside.{keeps_all}
use Rattle.jxlm_base.proofs.Regions.{IsFull-grid_of}
use Rattle.jxlm_transform.specs.Channels.{HasSides}
use Rattle.jxlm_inverse.specs.Recoloured.{HaveOneSize, UndoesColour}
use Rattle.jxlm_inverse.specs.UndoneSqueeze.{squeezed_grid}
use Rattle.jxlm_transform.specs.Layout.{no_region}
use Rattle.jxlm_chain.specs.Scratch.{have_cells}
use Rattle.jxlm_chain.specs.Steps.{CanUndo}
use Rattle.jxlm_chain.specs.Undo.{Undo, UndoRct, UndoPalette, UndoSqueeze, Undoes}

-- one of the sides is 0
abbrev pub AreNone : ℕ → ℕ → Type 0
AreNone width height = (width ≡ 0) ⊎ (height ≡ 0)

both_some : (a b : Bool) → a ≡ true → b ≡ true → (a && b) ≡ false → ⊥
both_some true true p q h = cc
both_some true false p q h = cc
both_some false b p q h = cc

sides_none : (width height : ℕ) → (ltb 0 width && ltb 0 height) ≡ false → AreNone width height
sides_none zero height h = inl refl
sides_none (suc w) zero h = inr refl
sides_none (suc w) (suc k) h = absurd (both_some (ltb 0 (suc w)) (ltb 0 (suc k)) (grind (arith, nat_tests)) (grind (arith, nat_tests)) h)

-- grids without cells are the same
same_none : {S : Type 0} (width height : ℕ) (f g : ℕ → ℕ → S) → AreNone width height → grid_by width height f ≡ grid_by width height g
same_none zero height f g none = refl
same_none (suc w) zero f g none = refl
same_none (suc w) (suc k) f g (inl none) = absurd (omega arith)
same_none (suc w) (suc k) f g (inr none) = absurd (omega arith)

same_sized : {S : Type 0} (width height other_width other_height : ℕ) (f g : ℕ → ℕ → S) → AreNone width height → width ≡ other_width → height ≡ other_height →
    grid_by width height f ≡ grid_by other_width other_height g
same_sized width height other_width other_height f g none wide high =
    same_none width height f g none ∙ ap (λ (n : ℕ). grid_by n height g) wide ∙ ap (λ (n : ℕ). grid_by other_width n g) high

three_same : {X : Type 0} (a b c x y z : X) → a ≡ x → b ≡ y → c ≡ z → a ∷ b ∷ c ∷ [] ≡ x ∷ y ∷ z ∷ []
three_same a b c x y z e f g = cc

none_too : (width height other_width other_height : ℕ) → AreNone width height → width ≡ other_width → height ≡ other_height → AreNone other_width other_height
none_too width height other_width other_height (inl none) wide high = inl (sym wide ∙ none)
none_too width height other_width other_height (inr none) wide high = inr (sym high ∙ none)

no_cell : (width height x y : ℕ) → AreNone width height → x < width → y < height → ⊥
no_cell width height x y (inl none) column row = omega arith
no_cell width height x y (inr none) column row = omega arith

module _ {S : Type 0} (to_int : S → ℤ) (w : Width) (depth : ℕ) (store : List (Grid S)) where
  abbrev numbers : List (Grid ℤ)
  numbers = store_meanings to_int store

  no_samples : (r : Region) → AreNone r.width r.height → AreGridSamples w (grid_of numbers r)
  no_samples r none = λ x y column row. absurd (no_cell r.width r.height x y none column row)

  squeeze_none : (horizontal : Bool) (r : Region) → AreNone r.width r.height → squeezed_grid w horizontal (grid_of numbers r) ≡ grid_of numbers r
  squeeze_none true r none = same_none r.width r.height _ _ none
  squeeze_none false r none = same_none r.width r.height _ _ none

  colour_none : (kind : ℕ) (regions : List Region) → length regions ≡ 3 → HaveOneSize regions → AreNone (get_or regions 0 no_region).width (get_or regions 0 no_region).height →
      UndoesColour w kind regions numbers numbers
  colour_none kind [] count sizes none = absurd (omega arith)
  colour_none kind (a ∷ []) count sizes none = absurd (omega arith)
  colour_none kind (a ∷ b ∷ []) count sizes none = absurd (omega arith)
  colour_none kind (a ∷ b ∷ c ∷ d ∷ rest) count sizes none = absurd (omega arith)
  colour_none kind (a ∷ b ∷ c ∷ []) count sizes none =
      let second : (a.width ≡ b.width) × (a.height ≡ b.height) = sizes 0 1 a (omega arith) (omega arith) in
      let third : (a.width ≡ c.width) × (a.height ≡ c.height) = sizes 0 2 a (omega arith) (omega arith) in
      record {
        colour = three_same _ _ _ _ _ _ (same_none a.width a.height _ _ none) (same_sized a.width a.height b.width b.height _ _ none second.0 second.1)
            (same_sized a.width a.height c.width c.height _ _ none third.0 third.1);
        samples = All-cons (AreGridSamples w) (grid_of numbers a) (grid_of numbers b ∷ grid_of numbers c ∷ []) (no_samples a none)
            (All-cons (AreGridSamples w) (grid_of numbers b) (grid_of numbers c ∷ []) (no_samples b (none_too a.width a.height b.width b.height none second.0 second.1))
            (All-cons (AreGridSamples w) (grid_of numbers c) [] (no_samples c (none_too a.width a.height c.width c.height none third.0 third.1)) (All-nil (AreGridSamples w))));
      }

  -- where the regions have no cells, the store is undone as it is
  pub nothing_undone : (u : Undo) → have_cells u ≡ false → CanUndo store u → Undoes to_int w depth u store store
  nothing_undone (UndoRct kind regions) none can = (colour_none kind regions can.0 can.3 (sides_none (get_or regions 0 no_region).width (get_or regions 0 no_region).height none), keeps_all regions store)
  nothing_undone (UndoPalette t table index regions) none can = (
    record {
      count = length-map regions (grid_of numbers) ∙ can.count;
      sides = All-map (HasSides index.width index.height) (grid_of numbers) regions
          (λ i d l. record { same_width = (can.sizes i d l).0; same_height = (can.sizes i d l).1; full = IsFull-grid_of numbers (get_or regions i d) });
      samples = λ c x y _ column row. absurd (no_cell index.width index.height x y (sides_none index.width index.height none) column row);
    },
    keeps_all regions store,
  )
  nothing_undone (UndoSqueeze horizontal r) none can = (
    record { squeezed = squeeze_none horizontal r (sides_none r.width r.height none); samples = no_samples r (sides_none r.width r.height none) },
    keeps_all (r ∷ []) store,
  )
