use Rattle.std.proofs.Common.{rules, ◌≡◌}
use Rattle.jxl_coding.specs.Inner.Seen.{codes_of}
use Rattle.jxl_coding.proofs.decoder.EntropyDecoderDecoder.try_clone.Goals as goal

pub returns-clause-ok : goal.returns-clause-ok
returns-clause-ok c =
    let e : c.in_ok-tables.tables.value ≡ c.self.inside.tables.value = search rules in
    rw (← c.self.view_is, e) (c.in_ok-state.ensures.ok (codes_of c.self.inside.tables.value))
