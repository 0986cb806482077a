use Rattle.std.proofs.Common.{sym, arith}
use Rattle.std.proofs.lemmas.List.{get_or-map, length-map}
use Rattle.jxlm_transform.specs.Layout.{no_region}
use Rattle.jxlm_samples.proofs.coding.PartCoding.region.Goals as goal

pub bounds-self-i : goal.bounds-self-i
bounds-self-i g c = let n = length-map c.args.self.now.channels.now (λ p. p.region) in omega (arith, n, c.requires)

pub returns : goal.returns
returns g c =
    let n = length-map c.args.self.now.channels.now (λ p. p.region) in
    sym (get_or-map (λ p. p.region) c.args.self.now.channels.now c.args.i _ no_region (omega (arith, n, c.requires)))
