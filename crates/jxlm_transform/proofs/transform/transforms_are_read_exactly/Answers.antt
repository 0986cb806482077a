use Rattle.jxlm_transform.proofs.TransformLaws.{exact-rct_by, exact-palette, exact-squeeze, exact-transform}
use Rattle.jxlm_transform.proofs.transform.transforms_are_read_exactly.Goals as goal

pub returns-clause-colour : goal.returns-clause-colour
returns-clause-colour c = exact-rct_by

pub returns-clause-palette : goal.returns-clause-palette
returns-clause-palette c = exact-palette

pub returns-clause-squeeze : goal.returns-clause-squeeze
returns-clause-squeeze c = exact-squeeze

pub returns-clause-all : goal.returns-clause-all
returns-clause-all c = exact-transform
