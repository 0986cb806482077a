use Rattle.std.proofs.Common.{◌∙◌, ◌<◌, List, sym, subst}
use Rattle.std.specs.List.{All}
use Rattle.std.proofs.lemmas.List.Elements.{All-append}
use Rattle.jxlm_bit_writer.specs.declared.token.Token.{Token}
use Rattle.jxl_coding_stream_write.specs.Tokens.{HasSlot}
use Rattle.jxl_encode_sections.specs.Inner.Parts.{all_tokens}
use Rattle.jxl_encode_sections.specs.declared.parts.PartTokens.{PartTokens}
use Rattle.jxl_encode_sections.proofs.Joined.{all_joined, back_of, each_joined, front_of}
use Rattle.jxl_encode_sections.proofs.codes.codes_for.Goals as goal

pub writer_for-requires-clause-tokens : goal.writer_for-requires-clause-tokens
writer_for-requires-clause-tokens c =
    subst (λ (ts : List Token). All (λ (t : Token). t.cluster < c.args.many) ts) (sym (c.deref.ensures.value ∙ c.in_ok-tokens.ensures))
    (All-append (λ (t : Token). t.cluster < c.args.many) c.args.first.now (all_tokens c.args.parts.now) c.requires.first
    (all_joined (λ (t : Token). t.cluster < c.args.many) (λ (p : PartTokens). p.tokens.items) c.args.parts.now c.requires.tokens))

pub returns-clause-first : goal.returns-clause-first
returns-clause-first c =
    front_of (HasSlot c.in_ok-codes.codes.codes.items) c.args.first.now (all_tokens c.args.parts.now)
    (subst (All (HasSlot c.in_ok-codes.codes.codes.items)) (c.deref.ensures.value ∙ c.in_ok-tokens.ensures) c.in_ok-codes.ensures.slots)

pub returns-clause-slots : goal.returns-clause-slots
returns-clause-slots c =
    each_joined (HasSlot c.in_ok-codes.codes.codes.items) (λ (p : PartTokens). p.tokens.items) c.args.parts.now
    (back_of (HasSlot c.in_ok-codes.codes.codes.items) c.args.first.now (all_tokens c.args.parts.now)
    (subst (All (HasSlot c.in_ok-codes.codes.codes.items)) (c.deref.ensures.value ∙ c.in_ok-tokens.ensures) c.in_ok-codes.ensures.slots))
