use Rattle.std.proofs.Common.{ℕ, ◌-◌, ◌∙◌, ap, sym, arith}
use Rattle.std.specs.Prelude.{slice_index}
use Rattle.jxl_codestream.specs.Profiles.{context_after}
use Rattle.jxl_profile_write.proofs.TokenLists.{first_context, later_context}
use Rattle.jxl_profile_write.proofs.contexts.context_at.Goals as goal

pub returns-then-i-le128 : goal.returns-then-i-le128
returns-then-i-le128 c = sym (first_context c.args.bytes.now c.args.i c.requires c.if-i-le128.true)

pub returns : goal.returns
returns c =
    c.context_of.ensures.context ∙ ap (λ (b : ℕ). context_after c.args.i b c.from-2.result) c.from.ensures
    ∙ ap (λ (b : ℕ). context_after c.args.i (slice_index c.args.bytes.now (c.args.i - 1)) b) c.from-2.ensures ∙ later_context c.args.bytes.now c.args.i c.requires (omega arith)
