use Rattle.std.proofs.Common.{[], ◌∷◌, ◌++◌, List, ap, sym, ◌∙◌, append_assoc}
use Rattle.std.proofs.lemmas.List.{append-nil, replicate_more}
use Rattle.jxlm_bit_writer.specs.declared.token.Token.{Token}
use Rattle.jxl_patches_write.specs.Inner.Tokens.{add_token}
use Rattle.jxl_patches_write.proofs.tokens.add_modes.Goals as goal

pub loop-init : goal.loop-init
loop-init c = sym (append-nil c.args.tokens.now.items)

pub loop-preserved : goal.loop-preserved
loop-preserved c =
    c.in_ok-push.ensures.items ∙ ap (λ (ts : List Token). ts ++ add_token ∷ []) c.loop.invariant ∙ append_assoc c.args.tokens.now.items _ (add_token ∷ [])
    ∙ ap (λ (ts : List Token). c.args.tokens.now.items ++ ts) (replicate_more c.loop.counter add_token)
