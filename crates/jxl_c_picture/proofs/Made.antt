-- The channels of a picture that are made of its samples.
use Rattle.std.proofs.Common.{◌≡◌, ℕ, zero, suc, ◌+◌, ◌-◌, ◌<◌, ◌≤◌, ℤ, List, [], ◌∷◌, ◌++◌, length, map, take, drop, get_or, refl, sym, ap, ◌∙◌, subst, append_assoc, append-nil, arith}
use Rattle.std.specs.Prelude.{replicate}
use Rattle.std.specs.List.{AllZip, sum_by}
use Rattle.std.proofs.lemmas.Grind.{flat_map-append}
use Rattle.std.proofs.lemmas.List.{take_all, take_more, take-append-drop, length-drop}
use Rattle.jxlm_base.specs.Grid.{Grid, grid}
use Rattle.jxl_image_header.specs.Images.{Image}
use Rattle.jxl_image_header.specs.declared.channel.ExtraChannel.{ExtraChannel}
use Rattle.jxl_image_header.specs.declared.size.Size.{Size}
use Rattle.jxl_picture.specs.Pictures.{IsWhole, colour_count}
use Rattle.jxl_picture.proofs.Channels.{HasShift}
use Rattle.jxl_picture.proofs.Orienting.{one_more_oriented}
use Rattle.jxl_c_picture.specs.Cells.{cells_of_all}
use Rattle.jxl_c_picture.specs.Channels.{cell_count, colour_entry, entries_of, extra_entry}
use Rattle.jxl_c_picture.specs.declared.channels.CChannel.{CChannel}
use Rattle.jxl_c_picture.proofs.Counts.{HasEntry, sum_done, sum_next}

of_extra : (size : Size) (cs : List ExtraChannel) (gs : List (Grid ℤ)) → AllZip HasEntry (map (extra_entry size) cs) gs → AllZip (HasShift size) (map (λ (c : ExtraChannel). c.dim_shift) cs) gs
of_extra size [] [] all = tt
of_extra size [] (g ∷ gs) all = absurd all
of_extra size (c ∷ cs) [] all = absurd all
of_extra size (c ∷ cs) (g ∷ gs) all = (all.0, of_extra size cs gs all.1)

of_entries : (image : Image) (n : ℕ) (cs : List ExtraChannel) (gs : List (Grid ℤ)) → AllZip HasEntry (replicate n (colour_entry image) ++ map (extra_entry image.size) cs) gs →
    AllZip (HasShift image.size) (replicate n 0 ++ map (λ (c : ExtraChannel). c.dim_shift) cs) gs
of_entries image zero cs gs all = of_extra image.size cs gs all
of_entries image (suc n) cs [] all = absurd all
of_entries image (suc n) cs (g ∷ gs) all = (all.0, of_entries image n cs gs all.1)

no_items : (l : List ℤ) → length l ≡ 0 → l ≡ []
no_items [] e = refl
no_items (x ∷ xs) e = absurd (omega (arith, e))

-- The channels so far have the sides of their entries and the samples so far; those that are left belong to the others.
pub record AreMade (image : Image) (samples : List ℤ) (k : ℕ) (grids : List (Grid ℤ)) (left : List ℤ) : Type 0 where
  pub sides : AllZip HasEntry (take k (entries_of image)) grids
  pub rest : length left ≡ sum_by cell_count (drop k (entries_of image))
  pub cells : cells_of_all grids ++ left ≡ samples

module _ (image : Image) (samples : List ℤ) (k : ℕ) (grids : List (Grid ℤ)) (left : List ℤ) (so_far : AreMade image samples k grids left) where
  module _ (e : CChannel) (less : k < length (entries_of image)) (is : e ≡ get_or (entries_of image) k e) where
    pub cells_left : cell_count e ≤ length left
    cells_left = let next = sum_next cell_count (entries_of image) k e less is in omega (arith, so_far.rest, next)

    pub one_more_made : (cells after : List ℤ) (g : Grid ℤ) (after_grids : List (Grid ℤ)) → cells ≡ take (cell_count e) left → after ≡ drop (cell_count e) left → g ≡ grid e.width e.height cells →
        after_grids ≡ grids ++ g ∷ [] → AreMade image samples (k + 1) after_grids after
    one_more_made cells after g after_grids front back made pushed =
        let next = sum_next cell_count (entries_of image) k e less is in
        let long : length after ≡ length left - cell_count e = ap length back ∙ length-drop (cell_count e) left in
        let within = cells_left in
        let es = entries_of image in
        let more : take (k + 1) es ≡ take k es ++ e ∷ [] = take_more es k e less ∙ ap (λ (c : CChannel). take k es ++ c ∷ []) (sym is) in
        let has : HasEntry e g = (ap (λ (h : Grid ℤ). h.width) made, ap (λ (h : Grid ℤ). h.height) made) in
        let all : AllZip HasEntry (take k es ++ e ∷ []) (grids ++ g ∷ []) = one_more_oriented HasEntry (take k es) grids e g so_far.sides has in
        let moved : AllZip HasEntry (take (k + 1) es) (grids ++ g ∷ []) = subst (λ (l : List CChannel). AllZip HasEntry l (grids ++ g ∷ [])) (sym more) all in
        let halves : cells ++ after ≡ left = ap (λ (l : List ℤ). l ++ after) front ∙ ap (λ (l : List ℤ). take (cell_count e) left ++ l) back ∙ take-append-drop (cell_count e) left in
        record {
          sides = subst (λ (gs : List (Grid ℤ)). AllZip HasEntry (take (k + 1) es) gs) (sym pushed) moved;
          rest = omega (arith, long, next, within, so_far.rest);
          cells =
              ap (λ (gs : List (Grid ℤ)). cells_of_all gs ++ after) pushed ∙ ap (λ (l : List ℤ). l ++ after) (flat_map-append (λ (h : Grid ℤ). h.cells) grids (g ∷ []))
              ∙ ap (λ (l : List ℤ). (cells_of_all grids ++ l) ++ after) (append-nil g.cells ∙ ap (λ (h : Grid ℤ). h.cells) made)
              ∙ append_assoc (cells_of_all grids) cells after ∙ ap (λ (l : List ℤ). cells_of_all grids ++ l) halves ∙ so_far.cells;
        }

  module _ (le : length (entries_of image) ≤ k) where
    pub all_made : IsWhole image grids
    all_made =
        of_entries image (colour_count image) image.ec_info grids (subst (λ (l : List CChannel). AllZip HasEntry l grids) (take_all k (entries_of image) le) so_far.sides)

    pub all_cells : cells_of_all grids ≡ samples
    all_cells =
        let none : length left ≡ 0 = so_far.rest ∙ sum_done cell_count (entries_of image) k le in
        sym (append-nil (cells_of_all grids)) ∙ ap (λ (l : List ℤ). cells_of_all grids ++ l) (sym (no_items left none)) ∙ so_far.cells
