-- Tokens one after another, each from the decoder's state after the one before.
use Rattle.std.specs.Prelude.{ℕ, zero, suc}
use Rattle.jxlm_bits.specs.Grammar as fields
use Rattle.jxlm_bits.specs.Grammar.{give}
use Rattle.jxlm_bits.specs.Tokens.{Tokens}

infixl 10 ◌>>=◌
abbrev pub ◌>>=◌ : {S X Y : Type 0} → Tokens S X → (X → Tokens S Y) → Tokens S Y
◌>>=◌ first next s = fields.◌>>=◌ (first s) (λ t. next t.value t.state)

-- n steps, each from what the one before gave
unfoldable pub chain : {S X : Type 0} → (X → Tokens S X) → ℕ → X → Tokens S X
chain step zero x s = give (record { value = x; state = s })
chain step (suc n) x s = fields.◌>>=◌ (step x s) (λ t. chain step n t.value t.state)
