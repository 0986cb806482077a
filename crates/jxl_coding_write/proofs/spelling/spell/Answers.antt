use Rattle.std.proofs.Common.{◌≡◌, ◌∙◌, ℕ, ap, true, false, cond, Bool, sym}
use Rattle.std.specs.Int.{w32, leading_zeros}
use Rattle.std.specs.Prelude.{nat_lt, ◌^◌, ◌-◌}
use Rattle.std.proofs.lemmas.Bool.{lt-ltb, le-ltb}
use Rattle.jxl_coding_write.specs.HybridIntegers.{long_symbol}
use Rattle.jxl_coding_write.proofs.Spellings.{read_short, not_longer_one}
use Rattle.jxl_coding_write.proofs.spelling.spell.Goals as goal

pub returns-then-token-power-clause-read : goal.returns-then-token-power-clause-read
returns-then-token-power-clause-read c = read_short c.args.config.now c.args.token (rw c.power.ensures at c.if-token-power.true)

pub returns-then-token-power-clause-symbol : goal.returns-then-token-power-clause-symbol
returns-then-token-power-clause-symbol c =
    let t : nat_lt c.args.token (2 ^ c.args.config.now.split_exponent) ≡ true = lt-ltb c.args.token (2 ^ c.args.config.now.split_exponent) (rw c.power.ensures at c.if-token-power.true) in
    sym (ap (λ (b : Bool). cond b c.args.token (long_symbol c.args.config.now (31 - leading_zeros w32 c.args.token) c.args.token)) t)

pub spell_long-requires-clause-long : goal.spell_long-requires-clause-long
spell_long-requires-clause-long c = not_longer_one c.args.config.now.split_exponent c.log_of.result c.args.token (rw c.power.ensures at c.if-token-power.false) c.log_of.ensures.most

pub returns-clause-symbol : goal.returns-clause-symbol
returns-clause-symbol c =
    let t : nat_lt c.args.token (2 ^ c.args.config.now.split_exponent) ≡ false = le-ltb c.args.token (2 ^ c.args.config.now.split_exponent) (rw c.power.ensures at c.if-token-power.false) in
    c.spell_long.ensures.symbol
    ∙ ap (λ (n : ℕ). long_symbol c.args.config.now n c.args.token) c.log_of.ensures.log
    ∙ sym (ap (λ (b : Bool). cond b c.args.token (long_symbol c.args.config.now (31 - leading_zeros w32 c.args.token) c.args.token)) t)
