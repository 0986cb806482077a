use Rattle.std.proofs.Common.{◌≡◌, ◌∙◌, ℕ, IsTrue, sym, ap, subst}
use Rattle.jxlm_groups.specs.Areas.{AreOfPicture, picture_of}
use Rattle.jxlm_transform.specs.Lists.{list_of}
use Rattle.jxlm_groups.specs.Passes.{can_group, passes_of}
use Rattle.jxl_modular.proofs.PictureAreas.{of_image}
use Rattle.jxl_modular.proofs.image.ModularImageDestination.parts.Goals as goal

pub parts-requires-clause-pictured : goal.parts-requires-clause-pictured
parts-requires-clause-pictured g c =
    let x = c.self.inside in
    let passes = passes_of c.args.pass_shifts.now.entries in
    let can = subst (λ y. IsTrue (can_group passes y.given)) (sym c.self.view_is) c.requires.possible in
    let sides : c.picture_sides-width.result ≡ picture_of x.given.items = c.picture_sides-width.ensures ∙ ap picture_of c.deref.ensures.value in
    let alike = of_image _ passes c.self.invariant.laid can in
    subst (λ (p : ℕ × ℕ). AreOfPicture p.0 p.1 x.group_dim (list_of x.coded)) (sym sides) alike
