use Rattle.std.proofs.Common.{◌≡◌, ◌∙◌, ◌+◌, ap, sym, true}
use Rattle.std.specs.Prelude.{nat_le}
use Rattle.std.proofs.lemmas.List.{length-map}
use Rattle.jxlm_transform.specs.Channels.{infos}
use Rattle.jxlm_transform.specs.ChannelSteps.{has_range, one_size}
use Rattle.jxlm_transform.proofs.Ranges.{range_map}
use Rattle.jxlm_transform.proofs.transform.steps.has_one_size.Goals as goal

pub returns-then-has_range : goal.returns-then-has_range
returns-then-has_range c =
    let xs = c.args.channels.now in
    let there : has_range c.args.begin c.args.count (infos xs) ≡ true =
    ap (nat_le (c.args.begin + c.args.count)) (length-map xs (λ p. p.info)) ∙ sym c.has_range.ensures ∙ c.if-has_range.true in
    rw there (c.one_size.ensures ∙ ap one_size (sym (range_map (λ p. p.info) c.args.begin c.args.count xs)))
