use Rattle.std.proofs.Common.{length, arith}
use Rattle.std.proofs.lemmas.List.{length-map}
use Rattle.jxlm_transform.specs.Channels.{infos}
use Rattle.jxlm_samples.proofs.Starting.{walked_within}
use Rattle.jxlm_samples.proofs.part.PlacedPart.ready.Goals as goal

pub roomy_state-requires-clause-narrow : goal.roomy_state-requires-clause-narrow
roomy_state-requires-clause-narrow g c κs within =
    let is = c.walked_width-widest.ensures in
    let long = length-map c.args.self.now.channels.now (λ p. p.info) in
    let most = walked_within (infos c.args.self.now.channels.now) c.deref.result.now (length c.args.self.now.channels.now) (omega (arith, long)) in
    omega (arith, is, most, c.requires.widest)
