use Rattle.std.proofs.Common.{ℕ, ◌%◌, ◌^◌, ◌<◌, ◌++◌, ◌∙◌, get_or, ap, refl, slice_index, sym, subst, arith}
use Rattle.jxlm_bit_writer.specs.Written.{digits}
use Rattle.jxl_coding_write.specs.HybridIntegers.{IsSpelled}
use Rattle.jxl_coding_stream_write.specs.Inner.Backward.{bits_back}
use Rattle.jxl_coding_stream_write.proofs.Rests.{coded_none, coded_split, short_rest, short_symbol, split_some}
use Rattle.jxl_coding_stream_write.proofs.TokensWritten.{occurs, only_rest_read, rest_read, spelled_read}
use Rattle.jxl_coding_stream_write.proofs.stream.StreamWriter.write_token.Goals as goal

pub write_symbol-requires-clause-occurs : goal.write_symbol-requires-clause-occurs
write_symbol-requires-clause-occurs c =
    let code = c.index-codes-token.result in
    let short = coded_split code c.args.token.value c.if-token-code.true in
    subst (λ (s : ℕ). 0 < slice_index code.slots.counts.items s) (short_symbol code.config c.args.token.value short)
    (occurs c.args.self.now c.args.token c.requires.slot code (c.index-codes-token.is ∙ ap (λ xs. get_or xs c.args.token.cluster code) c.requires.codes))

pub returns-then-token-code-clause-written : goal.returns-then-token-code-clause-written
returns-then-token-code-clause-written c =
    let code = c.index-codes-token.result in
    let short = coded_split code c.args.token.value c.if-token-code.true in
    let m = c.in_ok-before.ensures in
    rest_read c.args.self.now c.args.token c.requires.slot code (c.index-codes-token.is ∙ ap (λ xs. get_or xs c.args.token.cluster code) c.requires.codes)
    c.args.after.state (bits_back c.args.after.first c.args.words.now.items)
    0 0 (short_rest code.config c.args.token.value short) (bits_back c.args.after.first c.args.words.now.items) refl
    (coded_none code.only code.split code.coded c.args.token.value code.coded_none code.coded_some c.if-token-code.true)
    c.args.token.value c.in_ok-before.before.state m.0 m.1 (sym (short_symbol code.config c.args.token.value short)) m.2 (bits_back c.in_ok-before.before.first c.write_symbol.new.words.items) m.3

pub write_both-requires-clause-occurs : goal.write_both-requires-clause-occurs
write_both-requires-clause-occurs c =
    let code = c.index-codes-token.result in
    subst (λ (s : ℕ). 0 < slice_index code.slots.counts.items s) (sym c.upper_symbol-upper.ensures.symbol)
    (occurs c.args.self.now c.args.token c.requires.slot code (c.index-codes-token.is ∙ ap (λ xs. get_or xs c.args.token.cluster code) c.requires.codes))

pub returns-then-token-code-2-clause-written : goal.returns-then-token-code-2-clause-written
returns-then-token-code-2-clause-written c =
    let code = c.index-codes-token.result in
    let u = c.upper_symbol-upper.ensures in
    let width = c.upper_symbol-upper.result.width in
    let m = c.in_ok-both.ensures in
    rest_read c.args.self.now c.args.token c.requires.slot code (c.index-codes-token.is ∙ ap (λ xs. get_or xs c.args.token.cluster code) c.requires.codes)
    c.args.after.state (bits_back c.args.after.first c.args.words.now.items)
    width (c.args.token.value % 2 ^ width) u.read (digits width (c.args.token.value % 2 ^ width) ++ bits_back c.args.after.first c.args.words.now.items) refl
    u.several c.upper_symbol-upper.result.symbol c.in_ok-both.both.state m.0 m.1 u.symbol m.2 (bits_back c.in_ok-both.both.first c.write_both.new.words.items) m.3

pub returns-then-token-code-3-clause-written : goal.returns-then-token-code-3-clause-written
returns-then-token-code-3-clause-written c =
    let code = c.index-codes-token.result in
    let l = c.in_ok-first.ensures.bits in
    only_rest_read c.args.self.now c.args.token c.requires.slot code (c.index-codes-token.is ∙ ap (λ xs. get_or xs c.args.token.cluster code) c.requires.codes)
    c.args.after.state (bits_back c.args.after.first c.args.words.now.items)
    l.0 l.1 l.2 (bits_back c.in_ok-first.first c.write_upper_bits.new.words.items) l.3 c.in_ok-first.ensures.alone

pub returns-then-token-code-4-clause-written : goal.returns-then-token-code-4-clause-written
returns-then-token-code-4-clause-written c =
    let code = c.index-codes-token.result in
    let s = c.if-token-code-4.true in
    let e = code.split_is in
    only_rest_read c.args.self.now c.args.token c.requires.slot code (c.index-codes-token.is ∙ ap (λ xs. get_or xs c.args.token.cluster code) c.requires.codes)
    c.args.after.state (bits_back c.args.after.first c.args.words.now.items)
    0 0 (short_rest code.config c.args.token.value (omega (arith, e, s))) (bits_back c.args.after.first c.args.words.now.items) refl
    (split_some code.only code.split code.coded c.args.token.value code.coded_none code.coded_some c.if-token-code.false s)

pub spell-spelling-requires : goal.spell-spelling-requires
spell-spelling-requires c = c.index-codes-token.result.rule

pub write_spelled-requires-clause-occurs : goal.write_spelled-requires-clause-occurs
write_spelled-requires-clause-occurs c =
    let code = c.index-codes-token.result in
    subst (λ (s : ℕ). 0 < slice_index code.slots.counts.items s) (sym c.spell-spelling.ensures.symbol)
    (occurs c.args.self.now c.args.token c.requires.slot code (c.index-codes-token.is ∙ ap (λ xs. get_or xs c.args.token.cluster code) c.requires.codes))

pub returns-clause-written : goal.returns-clause-written
returns-clause-written c =
    let code = c.index-codes-token.result in
    let rest = c.spell-spelling.result.rest in
    let m = c.in_ok-spelled.ensures.leads in
    spelled_read c.args.self.now c.args.token c.requires.slot code (c.index-codes-token.is ∙ ap (λ xs. get_or xs c.args.token.cluster code) c.requires.codes)
    c.args.after.state (bits_back c.args.after.first c.args.words.now.items)
    rest.count rest.value (subst (λ (s : ℕ). IsSpelled code.config c.args.token.value s rest.count rest.value) c.spell-spelling.ensures.symbol c.spell-spelling.ensures.read)
    (digits rest.count rest.value ++ bits_back c.args.after.first c.args.words.now.items) refl
    c.spell-spelling.result.symbol c.in_ok-spelled.spelled.state m.0 m.1 c.spell-spelling.ensures.symbol m.2 (bits_back c.in_ok-spelled.spelled.first c.write_spelled.new.words.items) m.3
