use Rattle.std.proofs.Common.{◌≡◌, ℕ, ◌+◌, ◌-◌, ◌<◌, ◌≤◌, length, get_or, true, false, sym, arith}
use Rattle.std.specs.Prelude.{nat_lt}
use Rattle.std.proofs.lemmas.Bool.Decides.{nat_tests}
use Rattle.jxl_frame_header_write.proofs.Pairs.{pairs_next, pairs_fail, pairs_all}
use Rattle.jxl_frame_header_write.proofs.passes.is_rising.Goals as goal

pub returns-then-values-place : goal.returns-then-values-place
returns-then-values-place c =
    let inside : c.loop-place.place < length c.args.values.now - 1 = search arith in
    let test : nat_lt (get_or c.args.values.now c.loop-place.place 0) (get_or c.args.values.now (c.loop-place.place + 1) 0) ≡ false = search (arith, nat_tests) in
    sym (pairs_fail (λ (e : ℕ × ℕ). nat_lt e.0 e.1) c.args.values.now c.loop-place.place inside test)

pub loop-place-preserved : goal.loop-place-preserved
loop-place-preserved c =
    let inside : c.loop-place.place < length c.args.values.now - 1 = search arith in
    let test : nat_lt (get_or c.args.values.now c.loop-place.place 0) (get_or c.args.values.now (c.loop-place.place + 1) 0) ≡ true = search (arith, nat_tests) in
    pairs_next (λ (e : ℕ × ℕ). nat_lt e.0 e.1) c.args.values.now c.loop-place.place inside c.loop-place.invariant test

pub returns : goal.returns
returns c =
    let most : length c.args.values.now - 1 ≤ c.loop-place.place = search arith in
    sym (pairs_all (λ (e : ℕ × ℕ). nat_lt e.0 e.1) c.args.values.now c.loop-place.place most c.loop-place.invariant)
