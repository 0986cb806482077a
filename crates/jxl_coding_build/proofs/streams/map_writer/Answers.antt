use Rattle.std.proofs.Common.{◌≡◌, ◌∙◌, ◌<◌, ℕ, List, Ok, ap, sym, subst, length, arith}
use Rattle.std.specs.List.{All}
use Rattle.std.proofs.lemmas.List.{length-map}
use Rattle.jxl_coding.specs.Clusters.{count_of}
use Rattle.jxl_coding_stream_write.specs.Heads.{map_token}
use Rattle.jxl_coding_stream_write.specs.Tokens.{HasSlot}
use Rattle.jxlm_bit_writer.specs.declared.token.Token.{Token}
use Rattle.jxl_coding_build.proofs.Maps.{one_used, zero_tokens}
use Rattle.jxl_coding_build.proofs.streams.map_writer.Goals as goal

pub writer_for-requires-clause-used : goal.writer_for-requires-clause-used
writer_for-requires-clause-used c = subst (λ (xs : List ℕ). count_of xs ≡ Ok 1) (sym c.in_ok-one.ensures) one_used

pub writer_for-requires-clause-tokens : goal.writer_for-requires-clause-tokens
writer_for-requires-clause-tokens c =
    subst (λ (xs : List Token). All (λ (t : Token). t.cluster < 1) xs) (sym (c.deref.ensures.value ∙ c.in_ok-tokens.ensures)) (zero_tokens c.args.clusters.now)

pub writer_for-requires-clause-fits : goal.writer_for-requires-clause-fits
writer_for-requires-clause-fits c =
    let e : length c.deref.result.now ≡ length c.args.clusters.now = ap length (c.deref.ensures.value ∙ c.in_ok-tokens.ensures) ∙ length-map c.args.clusters.now map_token in
    let r = c.requires in
    omega (arith, e, r)

pub returns-clause-slots : goal.returns-clause-slots
returns-clause-slots c =
    subst (λ (xs : List Token). All (HasSlot c.in_ok-own.own.codes.items) xs) (c.deref.ensures.value ∙ c.in_ok-tokens.ensures) c.in_ok-own.ensures.slots
