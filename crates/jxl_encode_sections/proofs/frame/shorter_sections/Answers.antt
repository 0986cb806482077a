use Rattle.std.proofs.Common.{◌≡◌, ◌∙◌, ◌<◌, List, Option, length, ap, sym, subst}
use Rattle.std.specs.List.{All}
use Rattle.std.specs.Option.{IfSome}
use Rattle.jxlm_bit_writer.specs.declared.token.Token.{Token}
use Rattle.jxl_coding_build.specs.AnyWriters.{HasHead, HaveSlots, codes_in}
use Rattle.jxl_coding_stream_write.specs.Codes.{codes_of}
use Rattle.jxl_coding_stream_write.specs.Tokens.{HasSlot}
use Rattle.jxl_encode_sections.specs.declared.copies.CopyCodes.{CopyCodes}
use Rattle.jxl_encode_sections.specs.declared.parts.PartTokens.{PartTokens}
use Rattle.jxl_encode_sections.proofs.frame.shorter_sections.Goals as goal

pub codes_for-requires-clause-first : goal.codes_for-requires-clause-first
codes_for-requires-clause-first c = subst (λ (ts : List Token). All (λ (t : Token). t.cluster < c.args.many) ts) (sym c.deref.ensures.value) c.requires.first

pub codes_for-requires-clause-tokens : goal.codes_for-requires-clause-tokens
codes_for-requires-clause-tokens c =
    subst (λ (ps : List PartTokens). All (λ (p : PartTokens). All (λ (t : Token). t.cluster < c.args.many) p.tokens.items) ps) (sym c.deref-2.ensures.value) c.requires.tokens

pub written-requires-clause-contexts : goal.written-requires-clause-contexts
written-requires-clause-contexts c = ap length c.in_ok-codes.ensures.clusters ∙ c.requires.contexts

pub written-requires-clause-first : goal.written-requires-clause-first
written-requires-clause-first c = subst (All (HasSlot c.in_ok-codes.codes.codes.items)) c.deref.ensures.value c.in_ok-codes.ensures.first

pub written-requires-clause-slots : goal.written-requires-clause-slots
written-requires-clause-slots c =
    subst (λ (ps : List PartTokens). All (λ (p : PartTokens). All (HasSlot c.in_ok-codes.codes.codes.items) p.tokens.items) ps) c.deref-2.ensures.value c.in_ok-codes.ensures.slots

pub written-requires-2-clause-head : goal.written-requires-2-clause-head
written-requires-2-clause-head c = subst (λ (o : Option CopyCodes). IfSome o (λ k. HasHead k.codes)) c.in-Some.is c.in_ok-with_copies.ensures.head

pub written-requires-2-clause-contexts : goal.written-requires-2-clause-contexts
written-requires-2-clause-contexts c =
    ap length (subst (λ (o : Option CopyCodes). IfSome o (λ k. (codes_in k.codes).clusters ≡ c.in_ok-codes.codes.clusters.items)) c.in-Some.is c.in_ok-with_copies.ensures.clusters) ∙ ap length c.in_ok-codes.ensures.clusters
    ∙ c.requires.contexts

pub written-requires-2-clause-first : goal.written-requires-2-clause-first
written-requires-2-clause-first c =
    subst (HaveSlots c.in-Some.copying.codes) c.deref-3.ensures.value (subst (λ (o : Option CopyCodes). IfSome o (λ k. HaveSlots k.codes c.deref-3.result.now)) c.in-Some.is c.in_ok-with_copies.ensures.first)

pub written-requires-2-clause-slots : goal.written-requires-2-clause-slots
written-requires-2-clause-slots c =
    subst (λ (ps : List PartTokens). All (λ (p : PartTokens). HaveSlots c.in-Some.copying.codes p.tokens.items) ps) c.deref-4.ensures.value
    (subst (λ (o : Option CopyCodes). IfSome o (λ k. All (λ (p : PartTokens). HaveSlots k.codes p.tokens.items) c.deref-4.result.now)) c.in-Some.is c.in_ok-with_copies.ensures.parts)

pub returns-in_default : goal.returns-in_default
returns-in_default c = (codes_of c.in_ok-codes.codes, c.in_ok-codes.ensures.clusters, c.in_ok-plain.ensures)

pub returns : goal.returns
returns c = (
  codes_in c.in-Some.copying.codes,
  subst (λ (o : Option CopyCodes). IfSome o (λ k. (codes_in k.codes).clusters ≡ c.in_ok-codes.codes.clusters.items)) c.in-Some.is c.in_ok-with_copies.ensures.clusters ∙ c.in_ok-codes.ensures.clusters,
  c.in_ok-copied.ensures,
)
