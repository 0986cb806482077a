use Rattle.std.proofs.Common.{◌≡◌, ◌+◌, ◌++◌, length}
use Rattle.std.specs.Prelude.{reverse, vec_capacity}
use Rattle.jxlm_nested.proofs.held.move_back.Given as goal

abbrev pub invariant-loop : goal.invariant-loop
invariant-loop g l =
    (l.store.items ++ reverse l.tables.items ≡ l.fn.store.items)
    × (l.counter ≡ l.own + length l.tables.items)
    × (vec_capacity l.tables ≡ vec_capacity l.fn.tables)
