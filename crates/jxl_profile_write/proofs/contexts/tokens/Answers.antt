use Rattle.std.proofs.Common.{◌∙◌, sym, arith, rules}
use Rattle.jxl_profile_write.proofs.TokenLists.{no_tokens, tokens_next}
use Rattle.jxl_profile_write.proofs.contexts.tokens.Goals as goal

pub loop-i-init : goal.loop-i-init
loop-i-init c = c.new-tokens.ensures.items ∙ sym (no_tokens c.args.separate c.args.bytes.now)

pub loop-i-preserved : goal.loop-i-preserved
loop-i-preserved c =
    tokens_next c.args.separate c.args.bytes.now c.loop-i.i c.context_at-context.result c.cluster_of.result c.from.result c.loop-i.tokens.items c.push.new.self.items (omega arith) c.loop-i.invariant
    c.context_at-context.ensures c.cluster_of.ensures (search rules) c.in_ok-push.ensures.items
