use Rattle.std.proofs.Common.{◌≡◌, ℕ, ◌<◌, ◌≤◌, ◌⊎◌}
use Rattle.std.specs.Prelude.{◌&&◌, not, slice_index}
use Rattle.jxlm_tree.specs.SetTables.{has}
use Rattle.jxlm_tree.proofs.sets.take_out.Given as goal

abbrev pub invariant-loop-entry : goal.invariant-loop-entry
invariant-loop-entry l = record {
  begun : l.from ≤ l.entry;
  done : (e : ℕ) → l.from ≤ e → e < l.entry → (i : ℕ) → i < 64 → has (slice_index l.sets e) i ≡ (has (slice_index l.fn.sets e) i && not (has l.leaves i));
  rest : (e : ℕ) → (e < l.from) ⊎ (l.entry ≤ e) → slice_index l.sets e ≡ slice_index l.fn.sets e;
}
