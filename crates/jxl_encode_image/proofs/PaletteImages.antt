-- The image of a palette whose indices are the numbers of the colours of pixels.
use Rattle.std.proofs.Common.{◌≡◌, ℕ, ◌<◌, ℤ, pos, List, [], length, sym, ap, ◌∙◌, subst, arith}
use Rattle.std.specs.Prelude.{get_or, map, take}
use Rattle.std.specs.Int.{Width, int_wrap}
use Rattle.std.specs.List.{All}
use Rattle.std.proofs.lemmas.Int.{int_wrap_fits}
use Rattle.std.proofs.lemmas.List.{length-map, get_or-map}
use Rattle.std.proofs.lemmas.List.Elements.{All-map, All-weaker}
use Rattle.jxlm_base.specs.Grid.{Grid, grid, at, place, meanings}
use Rattle.jxlm_base.proofs.Regions.{IsFull-meanings}
use Rattle.jxlm_transform.specs.Channels.{HasSides}
use Rattle.jxlm_transform.specs.declared.transform.Palette.{Palette}
use Rattle.jxlm_inverse.specs.Palette.{IsPaletteOf, finished_sample}
use Rattle.jxlm_inverse.proofs.PaletteSteps.{simple_sample}
use Rattle.jxl_encode_image.specs.Palettes.{plain_palette}
use Rattle.jxl_encode_image.specs.Inner.Names.{NamesAll, NamesPixel}

module _ {S : Type 0} (to_int : S → ℤ) (w : Width) (begin : ℕ) (grids : List (Grid S)) (table index : Grid S) where
  abbrev t : Palette
  t = plain_palette begin (length grids) table.width

  abbrev none : Grid S
  none = grid 0 0 []

  meant_sides : (g : Grid S) → HasSides index.width index.height g → HasSides index.width index.height (meanings to_int g)
  meant_sides g h = record { same_width = h.same_width; same_height = h.same_height; full = IsFull-meanings to_int g h.full }

  -- the finished sample of an index is the sample of the channel
  sample_is : (depth c x y width : ℕ) (before : List ℤ) → NamesPixel to_int w grids table index x y → c < length grids →
      at (meanings to_int (get_or grids c none)) x y ≡ finished_sample w depth t (meanings to_int table) (at (meanings to_int index) x y) c before width
  sample_is depth c x y width before named below =
      let sample = named.samples c below in
      let v : ℤ = at (meanings to_int (get_or grids c none)) x y in
      let simple : finished_sample w depth t (meanings to_int table) (pos named.number) c before width ≡ int_wrap w (at (meanings to_int table) named.number c) =
      simple_sample w depth t (meanings to_int table) (pos named.number) c before width (omega arith, named.within) in
      sym (ap (λ (i : ℤ). finished_sample w depth t (meanings to_int table) i c before width) named.is ∙ simple ∙ ap (int_wrap w) sample.same ∙ int_wrap_fits w v sample.fits)

  pub palette_image : All (HasSides index.width index.height) grids → NamesAll to_int w grids table index →
      (depth : ℕ) → IsPaletteOf w depth t (meanings to_int table) (meanings to_int index) (map (meanings to_int) grids)
  palette_image sides named depth = record {
    count = length-map grids (meanings to_int);
    sides = All-map (HasSides index.width index.height) (meanings to_int) grids (All-weaker (HasSides index.width index.height) (λ g. HasSides index.width index.height (meanings to_int g)) meant_sides grids sides);
    samples = λ c x y below left top.
        let same : get_or (map (meanings to_int) grids) c (grid 0 0 []) ≡ meanings to_int (get_or grids c none) = get_or-map (meanings to_int) grids c none (grid 0 0 []) below in
        subst (λ (g : Grid ℤ). at g x y ≡ finished_sample w depth t (meanings to_int table) (at (meanings to_int index) x y) c (take (place g x y) g.cells) index.width) (sym same)
        (sample_is depth c x y index.width (take (place (meanings to_int (get_or grids c none)) x y) (meanings to_int (get_or grids c none)).cells) (named x y left top) below);
  }
