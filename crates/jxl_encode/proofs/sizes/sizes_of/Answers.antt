use Rattle.std.proofs.Common.{List, ℕ, sym, subst, arith}
use Rattle.jxl_encode.specs.Errors.{IsLong}
use Rattle.jxl_encode.proofs.sizes.sizes_of.Goals as goal

pub returns-in_default-clause-long : goal.returns-in_default-clause-long
returns-in_default-clause-long c = λ none. (
  c.loop-section.section-index,
  c.section-item.result,
  omega (arith, c.loop-section-test.true, c.loop-section.auto.section-index-end),
  sym c.section-item.is,
  subst (λ (bytes : List ℕ). IsLong bytes) c.deref.ensures.value (c.size_of_section.ensures.long c.in_default.is),
)
