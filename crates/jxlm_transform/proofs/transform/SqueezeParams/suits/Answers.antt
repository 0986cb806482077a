use Rattle.std.proofs.Common.{◌≡◌, ◌∙◌, sym, ap, true}
use Rattle.std.specs.Prelude.{◌&&◌}
use Rattle.std.specs.List.{list_all}
use Rattle.std.proofs.lemmas.List.Folds.{list_all-map}
use Rattle.jxlm_transform.specs.Channels.{infos}
use Rattle.jxlm_transform.specs.Lists.{list_of}
use Rattle.jxlm_transform.specs.ChannelSteps.{can_be_squeezed, range, squeeze_range}
use Rattle.jxlm_transform.proofs.Ranges.{range_map}
use Rattle.jxlm_transform.proofs.PlacedLists.{squeeze_suits}
use Rattle.jxlm_transform.proofs.transform.SqueezeParams.suits.Goals as goal

pub returns-then-has_its_range : goal.returns-then-has_its_range
returns-then-has_its_range c =
    let t = c.args.self.now in
    let l = list_of c.args.channels.now in
    let there : squeeze_range t l ≡ true = sym c.has_its_range.ensures ∙ c.if-has_its_range.true in
    let each = range t.begin_c t.num_c c.deref.result.now in
    c.can_all_be_squeezed.ensures ∙ sym (list_all-map can_be_squeezed (λ p. p.info) each)
    ∙ ap (list_all can_be_squeezed) (ap (λ xs. infos (range t.begin_c t.num_c xs)) c.deref.ensures.value ∙ sym (range_map (λ p. p.info) t.begin_c t.num_c c.args.channels.now.placed.items))
    ∙ sym (squeeze_suits t l ∙ ap (λ b. b && list_all can_be_squeezed (range t.begin_c t.num_c l.channels)) there)
