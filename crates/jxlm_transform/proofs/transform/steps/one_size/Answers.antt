use Rattle.std.proofs.Common.{◌≡◌, rules, ◌∷◌}
use Rattle.std.proofs.lemmas.List.Folds.{list_all-map}
use Rattle.std.specs.Prelude.{◌&&◌, ◌==◌}
use Rattle.jxlm_transform.specs.Channels.{Channel}
use Rattle.jxlm_transform.proofs.transform.steps.one_size.Goals as goal

pub returns-in-Some : goal.returns-in-Some
returns-in-Some c =
    let first = c.in-Some.first.now in
    let others = c.in-Some.others.now in
    let whole : c.args.channels.now ≡ first ∷ others = search rules in
    rw (whole, list_all-map (λ (d : Channel). d.width == first.info.width && d.height == first.info.height) (λ p. p.info) others) c.are_of_size.ensures
