use Rattle.std.proofs.Common.{arith, refl}
use Rattle.jxl_coding_write.proofs.Spellings.{leading, symbol_few, sum_small, times_low_small, symbol_small, spelled}
use Rattle.jxl_coding_write.proofs.spelling.spell_long.Goals as goal

pub overflow_sub-high_bits : goal.overflow_sub-high_bits
overflow_sub-high_bits c =
    rw (c.power-high.ensures, c.power-low.ensures, c.power-wide.ensures)
    (leading c.args.config.now c.requires.config c.args.n c.args.token c.requires.few c.requires.least c.requires.most c.requires.long)

pub overflow_add-result : goal.overflow_add-result
overflow_add-result c =
    let s = sum_small c.args.config.now c.requires.config c.args.n c.args.token c.requires.few c.requires.least c.requires.most c.requires.long in
    rw (c.power-base.ensures, c.power-high.ensures, c.power-low.ensures, c.power-wide.ensures) (omega (arith, s))

pub overflow_mul-result-2 : goal.overflow_mul-result-2
overflow_mul-result-2 c =
    let s = times_low_small c.args.config.now c.requires.config c.args.n c.args.token c.requires.few c.requires.least c.requires.most c.requires.long in
    rw (c.power-base.ensures, c.power-high.ensures, c.power-low.ensures, c.power-wide.ensures) (omega (arith, s))

pub overflow_add-result-2 : goal.overflow_add-result-2
overflow_add-result-2 c =
    let s = symbol_small c.args.config.now c.requires.config c.args.n c.args.token c.requires.few c.requires.least c.requires.most c.requires.long in
    rw (c.power-base.ensures, c.power-high.ensures, c.power-low.ensures, c.power-wide.ensures) (omega (arith, s))

pub returns-clause-symbol : goal.returns-clause-symbol
returns-clause-symbol c = rw (c.power-base.ensures, c.power-high.ensures, c.power-low.ensures, c.power-wide.ensures) refl

pub returns-clause-read : goal.returns-clause-read
returns-clause-read c =
    rw (c.power-base.ensures, c.power-high.ensures, c.power-low.ensures, c.power-wide.ensures)
    (spelled c.args.config.now c.requires.config c.args.n c.args.token c.requires.few c.requires.least c.requires.most c.requires.long c.requires.beyond c.ranges.token.fits)

pub returns-clause-few : goal.returns-clause-few
returns-clause-few c =
    rw (c.power-base.ensures, c.power-high.ensures, c.power-low.ensures, c.power-wide.ensures)
    (symbol_few c.args.config.now c.requires.config c.args.n c.args.token c.requires.few c.requires.least c.requires.most c.requires.long)
