use Rattle.std.proofs.Common.{◌≡◌, arith, length, subst, take}
use Rattle.jxlm_transform.specs.Steps.{tables_of, steps_in}
use Rattle.jxlm_transform.specs.Channels.{AreGridsOf}
use Rattle.jxlm_header.specs.Header.{header_of}
use Rattle.jxl_modular.proofs.Layouts.{given_sizes}
use Rattle.jxl_modular.proofs.image.ModularImageDestination.into_image_channels.Goals as goal

pub returns-clause-sizes : goal.returns-clause-sizes
returns-clause-sizes g c =
    let given = c.self.inside.given.items in
    let sizes = given_sizes given (tables_of (steps_in (header_of c.self.inside.header).transform)) c.self.inside.store.items c.self.invariant.laid.buffers in
    let is = c.len.ensures in
    let there = c.self.inside.given.ok.0 in
    let count : length given ≡ c.len.result = omega (arith, is, there) in
    rw (← c.self.view_is, c.truncate.ensures.items) (subst (λ n. AreGridsOf given (take n c.self.inside.store.items)) count sizes)
