use Rattle.jxl_encode.proofs.Codings.{if_err}
use Rattle.jxl_encode.proofs.PlainTrees.{memory_alone}
use Rattle.jxl_encode.proofs.frame.plain_sections.Goals as goal

pub returns-clause-err : goal.returns-clause-err
returns-clause-err c = if_err _ _ (λ e h. memory_alone _ e h) _ c.sections_by_tree.ensures.err
