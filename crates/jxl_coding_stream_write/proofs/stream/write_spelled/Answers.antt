use Rattle.std.proofs.Common.{ℕ, List, ◌++◌, ◌∙◌, ap, sym}
use Rattle.jxlm_bit_writer.specs.Written.{digits}
use Rattle.jxl_coding_stream_write.proofs.OnlySymbols.{only_leads, slots_lead}
use Rattle.jxl_coding_stream_write.proofs.stream.write_spelled.Goals as goal

pub returns-then-is_some-clause-leads : goal.returns-then-is_some-clause-leads
returns-then-is_some-clause-leads c = (
  0,
  0,
  only_leads c.args.code.now.slots c.args.code.now.only c.args.symbol c.args.after.state c.args.code.now.is_only (sym c.is_some.ensures ∙ c.if-is_some.true) c.requires.occurs,
  c.in_ok-first.ensures,
)

pub returns-clause-leads : goal.returns-clause-leads
returns-clause-leads c =
    let m = c.in_ok-before.ensures in (
      m.0,
      m.1,
      slots_lead c.args.code.now.slots c.args.code.now.only c.args.symbol c.in_ok-before.before.state c.args.after.state m.0 m.1 (sym c.is_some.ensures ∙ c.if-is_some.false) m.2,
      m.3 ∙ ap (λ (xs : List ℕ). digits m.0 m.1 ++ xs) c.in_ok-first.ensures,
    )
