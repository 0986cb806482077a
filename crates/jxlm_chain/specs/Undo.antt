-- What undoes the steps of a chain in a store: each step becomes one undoing or more, which name the regions that
-- they change.
use Rattle.std.specs.Prelude.{◌≡◌, ℕ, List, [], ◌∷◌, ◌++◌, map, get_or, Bool, ℤ}
use Rattle.std.specs.Int.{Width}
use Rattle.jxlm_base.specs.Grid.{Grid}
use Rattle.jxlm_base.specs.Outside.{KeepsOutside}
use Rattle.jxlm_base.specs.Regions.{region, grid_of, store_meanings}
use Rattle.jxlm_base.specs.declared.subgrid.Region.{Region}
use Rattle.jxlm_transform.specs.ChannelSteps.{Step, RctStep, PaletteStep, SqueezeStep, range}
use Rattle.jxlm_inverse.specs.Palette.{IsPaletteOf}
use Rattle.jxlm_inverse.specs.Recoloured.{UndoesColour}
use Rattle.jxlm_inverse.specs.UndoneSqueeze.{UndoesSqueeze}
use Rattle.jxlm_transform.specs.declared.transform.Palette.{Palette}
use Rattle.jxlm_transform.specs.Layout.{Layout, layout_after, no_region}

-- a colour kind and its three regions; a palette, the regions of its table and its indices, and those of its
-- channels; or a way of squeezing and the region that was squeezed
pub data Undo : Type 0 where
  UndoRct : ℕ → List Region → Undo
  UndoPalette : Palette → Region → Region → List Region → Undo
  UndoSqueeze : Bool → Region → Undo

-- what undoes a step, with the regions before it
abbrev pub undo_of : Step → Layout → List Undo
undo_of (RctStep t) l = UndoRct t.rct_type (range t.begin_c 3 l.regions) ∷ []
undo_of (PaletteStep t) l = UndoPalette t (region l.buffers 0 0 t.nb_colours t.num_c) (get_or l.regions t.begin_c no_region) (range t.begin_c t.num_c l.regions) ∷ []
undo_of (SqueezeStep t) l = map (UndoSqueeze t.horizontal) (range t.begin_c t.num_c l.regions)

-- what undoes all steps, in their order
abbrev pub undo_of_all : List Step → Layout → List Undo
undo_of_all [] l = []
undo_of_all (s ∷ ss) l = undo_of s l ++ undo_of_all ss (layout_after s l)

module _ {S : Type 0} (to_int : S → ℤ) (w : Width) (depth : ℕ) where
  -- what one undoing leaves; cells outside its regions stay
  abbrev pub Undoes : Undo → List (Grid S) → List (Grid S) → Type 0
  Undoes (UndoRct kind regions) old new =
      UndoesColour w kind regions (store_meanings to_int old) (store_meanings to_int new) × KeepsOutside regions old new
  Undoes (UndoPalette t table index regions) old new =
      IsPaletteOf w depth t (grid_of (store_meanings to_int old) table) (grid_of (store_meanings to_int old) index) (map (grid_of (store_meanings to_int new)) regions) × KeepsOutside regions old new
  Undoes (UndoSqueeze horizontal r) old new =
      UndoesSqueeze w horizontal r (store_meanings to_int old) (store_meanings to_int new) × KeepsOutside (r ∷ []) old new

  -- all of them, from the last to the first
  abbrev pub UndoesAll : List Undo → List (Grid S) → List (Grid S) → Type 0
  UndoesAll [] old new = new ≡ old
  UndoesAll (u ∷ us) old new = (between : List (Grid S)) × UndoesAll us old between × Undoes u between new
