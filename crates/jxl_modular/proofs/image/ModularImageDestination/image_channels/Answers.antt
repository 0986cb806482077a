use Rattle.std.proofs.Common.{◌≡◌, arith, length, subst, sym, take}
use Rattle.std.proofs.lemmas.List.{length-take-le}
use Rattle.jxlm_transform.specs.Steps.{tables_of, steps_in}
use Rattle.jxlm_transform.specs.Channels.{AreGridsOf}
use Rattle.jxlm_header.specs.Header.{header_of}
use Rattle.jxl_modular.proofs.Layouts.{given_sizes, given_within}
use Rattle.jxl_modular.proofs.image.ModularImageDestination.image_channels.Goals as goal

pub slice_bounds-result-end : goal.slice_bounds-result-end
slice_bounds-result-end g c =
    let given = c.self.inside.given.items in
    let within = given_within given (tables_of (steps_in (header_of c.self.inside.header).transform)) c.self.inside.store.items c.self.invariant.laid.buffers in
    let is = c.len.ensures in
    let there = c.self.inside.given.ok.0 in
    rw c.deref.ensures.value (sym (length-take-le c.len.result c.self.inside.store.items (omega (arith, is, there, within))))

pub returns-clause-sizes : goal.returns-clause-sizes
returns-clause-sizes g c =
    let given = c.self.inside.given.items in
    let sizes = given_sizes given (tables_of (steps_in (header_of c.self.inside.header).transform)) c.self.inside.store.items c.self.invariant.laid.buffers in
    let is = c.len.ensures in
    let there = c.self.inside.given.ok.0 in
    let count : length given ≡ c.len.result = omega (arith, is, there) in
    rw (← c.self.view_is, c.deref.ensures.value) (subst (λ n. AreGridsOf given (take n c.self.inside.store.items)) count sizes)
