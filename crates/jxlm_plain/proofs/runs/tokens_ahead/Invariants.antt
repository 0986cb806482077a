use Rattle.std.proofs.Common.{◌≡◌, ℕ, ◌+◌, ◌*◌, ◌-◌, ◌≤◌, ◌⊎◌, List, length}
use Rattle.jxlm_bits.specs.Bits.{bytes_of, position_of}
use Rattle.jxlm_bits.specs.Decoding.{TakesTokens}
use Rattle.jxlm_plain.specs.Plain.{code_of, plain_read}
use Rattle.jxlm_plain.specs.declared.plain.Code.{Code}
use Rattle.jxlm_plain.specs.declared.plain.Code.TheVariants.{Fixed}
use Rattle.jxlm_plain.specs.declared.plain.Mode.TheVariants.{Runs}
use Rattle.jxlm_plain.proofs.PlainGives.{state}
use Rattle.jxlm_plain.proofs.runs.tokens_ahead.Given as goal

abbrev pub invariant-loop-k : goal.invariant-loop-k
invariant-loop-k l = record {
  many : length l.tokens ≡ length l.fn.tokens;
  inside : l.k ≤ length l.tokens;
  near : l.now.at ≤ 33 * l.k;
  none : (l.now.left ≡ 0) ⊎ (l.k ≡ length l.tokens);
  tokens : (codes : List Code) (clusters : List ℕ) (c m : ℕ) → Fixed l.width ≡ code_of codes c →
      TakesTokens (λ u p. plain_read u (bytes_of l.bits) p c m) l.tokens (state (Runs l.fn.before.last l.fn.before.left) codes clusters) (position_of l.bits) l.k
      (state (Runs l.now.last l.now.left) codes clusters) (position_of l.bits + l.now.at);
}

abbrev pub decreases-loop-k : goal.decreases-loop-k
decreases-loop-k l = length l.initial.tokens - l.k
