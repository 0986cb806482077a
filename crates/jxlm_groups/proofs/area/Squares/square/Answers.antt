use Rattle.std.proofs.Common.{◌≡◌, ◌/◌, ◌%◌, ◌^◌, ◌<◌, arith, rules}
use Rattle.std.specs.Int.{div_ceil}
use Rattle.std.proofs.lemmas.Nat.{mod_below}
use Rattle.jxlm_groups.proofs.AreaLemmas.{begins_inside, some_columns}
use Rattle.jxlm_groups.proofs.Fitting.{row_below}
use Rattle.jxlm_groups.proofs.area.Squares.square.Goals as goal

pub overflow_mul-x : goal.overflow_mul-x
overflow_mul-x c =
    let w = c.args.self.width in
    let cols : c.from-columns.result ≡ div_ceil w c.args.side = search rules in
    let some = some_columns w c.args.self.height c.args.side c.args.k c.requires.inside in
    let column : c.args.k % c.from-columns.result < div_ceil w c.args.side = rw cols (mod_below c.args.k (div_ceil w c.args.side) some) in
    let inside = begins_inside w c.args.side (c.args.k % c.from-columns.result) c.requires.some column in
    let wide : w < 2 ^ 32 = search (rules, arith) in
    omega (arith, inside, wide)

pub overflow_mul-y : goal.overflow_mul-y
overflow_mul-y c =
    let w = c.args.self.width in
    let h = c.args.self.height in
    let cols : c.from-columns.result ≡ div_ceil w c.args.side = search rules in
    let line : c.args.k / c.from-columns.result < div_ceil h c.args.side = rw cols (row_below c.args.k (div_ceil w c.args.side) (div_ceil h c.args.side) c.requires.inside) in
    let inside = begins_inside h c.args.side (c.args.k / c.from-columns.result) c.requires.some line in
    let high : h < 2 ^ 32 = search (rules, arith) in
    omega (arith, inside, high)

pub overflow_sub-self : goal.overflow_sub-self
overflow_sub-self c =
    let w = c.args.self.width in
    let cols : c.from-columns.result ≡ div_ceil w c.args.side = search rules in
    let some = some_columns w c.args.self.height c.args.side c.args.k c.requires.inside in
    let column : c.args.k % c.from-columns.result < div_ceil w c.args.side = rw cols (mod_below c.args.k (div_ceil w c.args.side) some) in
    let inside = begins_inside w c.args.side (c.args.k % c.from-columns.result) c.requires.some column in
    omega (arith, inside)

pub overflow_sub-self-2 : goal.overflow_sub-self-2
overflow_sub-self-2 c =
    let w = c.args.self.width in
    let h = c.args.self.height in
    let cols : c.from-columns.result ≡ div_ceil w c.args.side = search rules in
    let line : c.args.k / c.from-columns.result < div_ceil h c.args.side = rw cols (row_below c.args.k (div_ceil w c.args.side) (div_ceil h c.args.side) c.requires.inside) in
    let inside = begins_inside h c.args.side (c.args.k / c.from-columns.result) c.requires.some line in
    omega (arith, inside)
