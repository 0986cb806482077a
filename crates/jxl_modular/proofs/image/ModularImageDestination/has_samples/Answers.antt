use Rattle.std.proofs.lemmas.List.{take-map}
use Rattle.jxl_modular.proofs.image.ModularImageDestination.has_samples.Goals as goal

pub returns-clause-samples : goal.returns-clause-samples
returns-clause-samples g c =
    rw (← c.self.view_is)
    (rw (c.first_of.ensures, c.deref.ensures.value, ← take-map (λ p. p.info) c.args.count c.self.inside.coded.placed.items) at c.have_samples.ensures)
