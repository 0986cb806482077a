use Rattle.std.proofs.Common.{◌∙◌, refl, rules, tests}
use Rattle.std.proofs.lemmas.List.{get_or_default}
use Rattle.jxlm_samples.proofs.above.sample_again.Goals as goal

pub returns-then-this-ne0 : goal.returns-then-this-ne0
returns-then-this-ne0 g c = λ e is. rw (c.requires.first (search (rules, tests))) refl

pub returns-else-this-ne0 : goal.returns-else-this-ne0
returns-else-this-ne0 g c = λ e is. is ∙ get_or_default c.args.above.now c.args.x e c.args.other (c.requires.inside (search (rules, tests)))
