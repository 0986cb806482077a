use Rattle.std.proofs.Common.{◌≡◌, ◌≤◌, ◌∙◌, ℕ, IsTrue, length, map, refl, sym, ap, subst, rules}
use Rattle.jxlm_base.specs.Grid.{meanings}
use Rattle.jxlm_transform.specs.declared.transform.Palette.{Palette}
use Rattle.jxlm_inverse.specs.Palette.{IsPaletteOf}
use Rattle.jxl_encode_image.specs.Palettes.{plain_palette}
use Rattle.jxl_encode_image.proofs.PaletteImages.{palette_image}
use Rattle.jxl_encode_image.proofs.palette.palette_by.Goals as goal

pub returns : goal.returns
returns g c =
    let grids = c.args.grids.now in
    let table = c.args.table in
    let index = c.args.index in
    let yes : IsTrue c.names_all.result = search rules in
    let is : c.plain_palette-palette.result ≡ plain_palette c.args.begin_c (length grids) table.width = c.plain_palette-palette.ensures ∙ ap (plain_palette c.args.begin_c (length grids)) c.width-colours.ensures.value in
    let some : 1 ≤ length grids = search rules in
    let few : length grids ≤ 4 = search rules in
    let colours : c.width-colours.result ≤ 70911 = search rules in
    let sides = c.names_all.ensures.sides yes in
    record {
      is = is;
      some_channels = some;
      channels = few;
      colours = subst (λ (n : ℕ). n ≤ 70911) c.width-colours.ensures.value colours;
      table_sides = record { same_width = refl; same_height = c.names_all.ensures.rows yes; full = c.width-colours.ensures.full };
      index_sides = record { same_width = refl; same_height = refl; full = c.width-columns.ensures.full };
      sides = sides;
      image = λ depth. subst (λ (p : Palette). IsPaletteOf g.S.Sealed.width depth p (meanings g.S.Sealed.to_int table) (meanings g.S.Sealed.to_int index) (map (meanings g.S.Sealed.to_int) grids)) (sym is)
          (palette_image g.S.Sealed.to_int g.S.Sealed.width c.args.begin_c grids table index sides (c.names_all.ensures.samples yes) depth);
    }
