use Rattle.jxl_modular.proofs.groups.TransformedGlobalModular.read_header.Goals as goal

pub returns-clause-err : goal.returns-clause-err
returns-clause-err g c = rw (← c.deref.ensures.value, ← c.into.ensures) c.read_part.ensures.err
