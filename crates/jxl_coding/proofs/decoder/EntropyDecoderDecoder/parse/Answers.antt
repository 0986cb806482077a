use Rattle.std.proofs.Common.{rules, ◌≡◌, refl}
use Rattle.jxl_coding.specs.Inner.Seen.{codes_of}
use Rattle.jxl_coding.specs.Parse.{decoder_at}
use Rattle.jxl_coding.proofs.decoder.EntropyDecoderDecoder.parse.Goals as goal

pub returns-in_err-tables-clause-gives : goal.returns-in_err-tables-clause-gives
unfolding decoder_at
returns-in_err-tables-clause-gives c = search rules

pub returns-clause-gives : goal.returns-clause-gives
unfolding decoder_at
returns-clause-gives c =
    let e : c.in_ok-tables-2.tables.value ≡ c.in_ok-tables.tables = search rules in
    rw (c.in_ok-tables.ensures.gives, e, c.in_ok-state.ensures.ok (codes_of c.in_ok-tables.tables)) refl
