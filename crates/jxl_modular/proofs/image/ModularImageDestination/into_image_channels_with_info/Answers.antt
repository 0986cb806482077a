use Rattle.std.proofs.Common.{◌≡◌, ◌∙◌, ap, arith, length, sym, take}
use Rattle.std.proofs.lemmas.List.{length-take-le}
use Rattle.jxlm_transform.specs.Steps.{tables_of, steps_in}
use Rattle.jxlm_header.specs.Header.{header_of}
use Rattle.jxl_modular.proofs.Layouts.{given_within}
use Rattle.jxl_modular.proofs.Pairs.{pairs_count}
use Rattle.jxl_modular.proofs.image.ModularImageDestination.into_image_channels_with_info.Goals as goal

pub invariant_of-result : goal.invariant_of-result
invariant_of-result g c =
    let given = c.self.inside.given.items in
    let within = given_within given (tables_of (steps_in (header_of c.self.inside.header).transform)) c.self.inside.store.items c.self.invariant.laid.buffers in
    let is = c.len.ensures in
    let there = c.self.inside.given.ok.0 in
    let count : length given ≡ c.len.result = omega (arith, is, there) in
    let long : length (take c.len.result c.self.inside.store.items) ≡ c.len.result = length-take-le c.len.result c.self.inside.store.items (omega (arith, is, there, within)) in
    ap length c.into_iter-2.ensures.rest ∙ count ∙ sym long ∙ sym (ap length (c.into_iter.ensures.rest ∙ c.truncate.ensures.items))

pub returns-clause-each : goal.returns-clause-each
returns-clause-each g c =
    let given = c.self.inside.given.items in
    let within = given_within given (tables_of (steps_in (header_of c.self.inside.header).transform)) c.self.inside.store.items c.self.invariant.laid.buffers in
    let is = c.len.ensures in
    let there = c.self.inside.given.ok.0 in
    let count : length given ≡ c.len.result = omega (arith, is, there) in
    let long : length (take c.len.result c.self.inside.store.items) ≡ c.len.result = length-take-le c.len.result c.self.inside.store.items (omega (arith, is, there, within)) in
    let grids = ap length (c.into_iter.ensures.rest ∙ c.truncate.ensures.items) ∙ long in
    let infos = ap length c.into_iter-2.ensures.rest ∙ count in
    rw (← c.self.view_is) (pairs_count _ _ c.len.result grids infos ∙ sym count)
