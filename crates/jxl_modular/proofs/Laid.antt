-- What an image that is laid out keeps: its coded channels lie in the store, apart, and of their sizes; so they do
-- where only cells change.
use Rattle.std.proofs.Common.{◌≡◌, List, length, refl, sym, ap, ◌∙◌, subst, ℤ}
use Rattle.std.specs.Int.{Width}
use Rattle.std.proofs.lemmas.List.{take-map}
use Rattle.jxlm_base.specs.Grid.{Grid, meanings}
use Rattle.jxlm_base.specs.Regions.{store_meanings, AllLie, LieApart}
use Rattle.jxlm_base.specs.declared.subgrid.Region.{Region}
use Rattle.jxlm_transform.specs.Layout.{Layout, first_layout, layout_after_all}
use Rattle.jxlm_transform.specs.Steps.{tables_of}
use Rattle.jxlm_chain.specs.Shape.{SameShape}
use Rattle.jxlm_chain.specs.Steps.{CanUndoAll}
use Rattle.jxlm_chain.specs.Undo.{UndoesAll, undo_of_all}
use Rattle.jxlm_chain.specs.Chain.{Chain}
use Rattle.jxlm_transform.specs.Channels.{AreGridsOf, AreRegionsOf, Channel}
use Rattle.jxl_modular.specs.Image.{Image, IsOnlyImage, coded_grids, given_list, image_grids, coded_list}
use Rattle.jxl_modular.specs.Inner.Laid.{IsLaidOut}
use Rattle.jxlm_samples.specs.Progress.{grids_in}
use Rattle.jxl_modular.specs.SameButCells.{SameButCells}
use Rattle.jxl_modular.proofs.Layouts.{buffers_meanings, given_grids}
use Rattle.jxlm_samples.proofs.Loops.{fits_in}
use Rattle.jxlm_chain.proofs.CanUndo.{can_undo_all}
use Rattle.jxlm_chain.proofs.LayoutLaws.{lie_first, lie_after_all}
use Rattle.jxlm_chain.proofs.OneImage.{no_two_images}
use Rattle.jxlm_chain.proofs.ShapeLaws.{buffers_kept, narrow_kept}
use Rattle.jxlm_chain.proofs.Undone.{chain_of}

module _ {S D : Type 0} (x : Image S D) (laid : IsLaidOut x) where
  -- where the image's own channels lie
  abbrev first : Layout
  first = first_layout (given_list x).channels

  abbrev after : List Region
  after = (layout_after_all x.steps first).regions

  coded_lies : AllLie after x.store × LieApart after × AreRegionsOf x.channels after
  coded_lies =
      let here = lie_first (given_list x).channels x.steps x.store laid.buffers in
      let there = (lie_after_all x.steps (given_list x) (coded_list x) first x.store laid.list laid.steps here.0 here.1).0 in
      (there.lie, there.apart, there.sizes)

  pub coded_lie : AllLie x.coded x.store
  coded_lie = subst (λ (rs : List Region). AllLie rs x.store) (sym laid.regions) coded_lies.0

  pub coded_apart : LieApart x.coded
  coded_apart = subst LieApart (sym laid.regions) coded_lies.1

  pub coded_sizes : AreRegionsOf x.channels x.coded
  coded_sizes = subst (AreRegionsOf x.channels) (sym laid.regions) coded_lies.2

  pub coded_fit : (f : S → ℤ) → AreGridsOf x.channels (coded_grids f x)
  coded_fit f = fits_in x.channels x.coded (store_meanings f x.store) coded_sizes

  -- what undoes its steps can be done
  pub can_undo : CanUndoAll x.store (undo_of_all x.steps first)
  can_undo =
      let here = lie_first (given_list x).channels x.steps x.store laid.buffers in
      can_undo_all x.steps (given_list x) (coded_list x) first x.store laid.list laid.steps here.0 here.1

  -- the grids of its own channels are those that lie first
  pub given_first : (f : S → ℤ) → grids_in first.regions (store_meanings f x.store) ≡ image_grids f x
  given_first f =
      given_grids (given_list x).channels (tables_of x.steps) (store_meanings f x.store) (buffers_meanings f _ x.store laid.buffers)
      ∙ take-map (meanings f) (length x.given) x.store

-- An image stays laid out where only cells change.
pub still_laid : {S D : Type 0} (x y : Image S D) → IsLaidOut x → SameButCells x y → IsLaidOut y
still_laid x y laid same = subst IsLaidOut (sym same.rest) (record {
  list = laid.list;
  regions = laid.regions;
  buffers = buffers_kept _ x.store y.store same.shape laid.buffers;
  narrow_store = narrow_kept x.store y.store same.shape laid.narrow_store;
  narrow = laid.narrow;
  few = laid.few;
  weights = laid.weights;
  steps = laid.steps;
  palettes = laid.palettes;
  deep = laid.deep;
  groups = laid.groups;
  asked = laid.asked;
})

-- the image with cells that were written in these regions
pub same_but_store : {S D : Type 0} (x : Image S D) (s : List (Grid S)) → SameShape x.store s → SameButCells x (record x { store = s })
same_but_store x s shape = record { rest = refl; shape = shape }

-- Where all steps of an image were undone, its channels are the only ones that become the coded grids as they were.
pub only_image : {S D : Type 0} (to_int : S → ℤ) (w : Width) (x y : Image S D) → IsLaidOut x → IsLaidOut y → SameButCells x y →
    UndoesAll to_int w x.bit_depth (undo_of_all x.steps (first_layout (given_list x).channels)) x.store y.store → IsOnlyImage w y (image_grids to_int y) (coded_grids to_int x)
only_image {S = S} {D = D} to_int w x y laid laid_y same undone =
    let here = lie_first (given_list x).channels x.steps x.store laid.buffers in
    let first = first_layout (given_list x).channels in
    let chain : Chain w x.bit_depth x.steps (given_list x) (grids_in first.regions (store_meanings to_int y.store)) (grids_in (layout_after_all x.steps first).regions (store_meanings to_int x.store)) =
    chain_of to_int w x.bit_depth x.steps (given_list x) (coded_list x) first x.store y.store laid.list laid.steps here.0 here.1 undone in
    let coded : grids_in (layout_after_all x.steps first).regions (store_meanings to_int x.store) ≡ coded_grids to_int x = ap (λ (rs : List Region). grids_in rs (store_meanings to_int x.store)) (sym laid.regions) in
    let own : grids_in first.regions (store_meanings to_int y.store) ≡ image_grids to_int y = ap (λ (cs : List Channel). grids_in (first_layout cs).regions (store_meanings to_int y.store)) (sym (ap (λ (z : Image S D). z.given) same.rest)) ∙ given_first y laid_y to_int in
    let own_chain : Chain w x.bit_depth x.steps (given_list x) (image_grids to_int y) (coded_grids to_int x) =
    subst (λ gs. Chain w x.bit_depth x.steps (given_list x) gs (coded_grids to_int x)) own
    (subst (λ gs. Chain w x.bit_depth x.steps (given_list x) (grids_in first.regions (store_meanings to_int y.store)) gs) coded chain) in
    let this : Chain w y.bit_depth y.steps (given_list y) (image_grids to_int y) (coded_grids to_int x) =
    subst (λ n. Chain w n y.steps (given_list y) (image_grids to_int y) (coded_grids to_int x)) (sym (ap (λ (z : Image S D). z.bit_depth) same.rest))
    (subst (λ ss. Chain w x.bit_depth ss (given_list y) (image_grids to_int y) (coded_grids to_int x)) (sym (ap (λ (z : Image S D). z.steps) same.rest))
    (subst (λ (cs : List Channel). Chain w x.bit_depth x.steps (record { channels = cs; nb_meta = 0 }) (image_grids to_int y) (coded_grids to_int x)) (sym (ap (λ (z : Image S D). z.given) same.rest)) own_chain)) in
    record {
      chain = this;
      only = λ other h. no_two_images w y.bit_depth y.steps (given_list y) other (image_grids to_int y) (coded_grids to_int x) h this;
    }
