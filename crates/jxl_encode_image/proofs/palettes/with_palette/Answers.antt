use Rattle.std.proofs.Common.{List, [], ◌∷◌, ◌++◌, ◌<◌, length, rules, sym, subst}
use Rattle.std.specs.Option.{IfSome}
use Rattle.jxlm_base.specs.Grid.{Grid}
use Rattle.jxl_encode_image.specs.Inner.Placing.{GoesOnTo, IsPaletteAt, LieAlone}
use Rattle.jxl_encode_image.specs.declared.transform.ImageTransform.{ImageTransform}
use Rattle.jxl_encode_image.specs.declared.transform.ImageTransform.TheVariants as images
use Rattle.jxl_encode_image.proofs.PaletteSteps.{first_within, palette_goes, palette_lies, plain}
use Rattle.jxl_encode_image.proofs.palettes.with_palette.Goals as goal

pub placed_after-requires-clause-spelled : goal.placed_after-requires-clause-spelled
placed_after-requires-clause-spelled g c =
    let p = c.in-Some.coding in
    let is = subst (λ o. IfSome o (λ p. IsPaletteAt g.S.Sealed.to_int g.S.Sealed.width c.args.image.channels c.args.image.store.items c.args.plan.first c.args.plan.count p.palette p.table p.index)) c.in-Some.is c.in_ok-found.ensures.is in
    plain g.S.Sealed.to_int g.S.Sealed.width c.args.image.channels c.args.image.store.items c.args.plan.first c.args.plan.count p.palette p.table p.index is

pub coded_store-requires : goal.coded_store-requires
coded_store-requires g c =
    let p = c.in-Some.coding in
    let is = subst (λ o. IfSome o (λ p. IsPaletteAt g.S.Sealed.to_int g.S.Sealed.width c.args.image.channels c.args.image.store.items c.args.plan.first c.args.plan.count p.palette p.table p.index)) c.in-Some.is c.in_ok-found.ensures.is in
    let lt : c.args.plan.first < length c.args.image.store.items = first_within g.S.Sealed.to_int g.S.Sealed.width c.args.image.channels c.args.image.store.items c.args.plan.first c.args.plan.count p.palette p.table p.index is in
    search (rules, lt)

pub returns-in_default-clause-goes : goal.returns-in_default-clause-goes
returns-in_default-clause-goes g c = λ given image h. h

pub returns : goal.returns
returns g c =
    let p = c.in-Some.coding in
    let is = subst (λ o. IfSome o (λ p. IsPaletteAt g.S.Sealed.to_int g.S.Sealed.width c.args.image.channels c.args.image.store.items c.args.plan.first c.args.plan.count p.palette p.table p.index)) c.in-Some.is c.in_ok-found.ensures.is in
    let few = subst (λ o. IfSome o (λ _. length c.args.image.transforms.items < 273)) c.in-Some.is c.in_ok-found.ensures.few in
    let lies = palette_lies g.S.Sealed.to_int g.S.Sealed.width c.args.image.channels c.args.image.store.items c.args.plan.first c.args.plan.count p.palette p.table p.index is c.requires c.in_ok-placed.placed c.in_ok-placed.ensures in
    let goes = palette_goes g.S.Sealed.to_int g.S.Sealed.width c.args.image.channels c.args.image.store.items c.args.plan.first c.args.plan.count p.palette p.table p.index is c.requires c.in_ok-placed.placed c.in_ok-placed.ensures
    c.args.image.transforms.items few in
    record {
      lie = subst (λ (gs : List (Grid g.row.S.Denot)). LieAlone c.in_ok-placed.placed.channels gs) (sym c.in_ok-grids.ensures) lies;
      goes = subst (λ (ts : List ImageTransform). GoesOnTo g.S.Sealed.to_int g.S.Sealed.width c.args.image.channels c.args.image.store.items c.args.image.transforms.items c.in_ok-placed.placed.channels c.in_ok-grids.grids.items ts) (sym c.in_ok-list.ensures)
          (subst (λ (gs : List (Grid g.row.S.Denot)). GoesOnTo g.S.Sealed.to_int g.S.Sealed.width c.args.image.channels c.args.image.store.items c.args.image.transforms.items c.in_ok-placed.placed.channels gs (c.args.image.transforms.items ++ images.Palette p.palette ∷ [])) (sym c.in_ok-grids.ensures) goes);
    }
