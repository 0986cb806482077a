use Rattle.jxlm_samples.proofs.gradient.read_by_kind.Goals as goal

pub returns-in-One : goal.returns-in-One
returns-in-One g c = rw c.in-One.is c.read_one_gradient.ensures
