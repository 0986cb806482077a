use Rattle.std.proofs.Common.{◌∙◌, take, sym, ap}
use Rattle.std.proofs.lemmas.List.{take-map}
use Rattle.jxlm_transform.specs.Channels.{infos, regions}
use Rattle.jxl_modular.proofs.LayerNests.{front_nests}
use Rattle.jxl_modular.proofs.image.ModularImageDestination.read_front.Goals as goal

pub read_layer-requires-after_bounds : goal.read_layer-requires-after_bounds
read_layer-requires-after_bounds g c κs within =
    let xs = c.self.inside.coded.placed.items in
    let first = c.in_ok-pieces.ensures.items ∙ c.first_of.ensures ∙ ap (λ ys. take c.args.count ys) c.deref.ensures.value in
    rw (c.new.ensures.items, ← c.self.view_is)
    (front_nests _ c.self.invariant.laid c.args.count c.in_ok-pieces.pieces.items (ap infos first ∙ sym (take-map (λ p. p.info) c.args.count xs)) (ap regions first ∙ sym (take-map (λ p. p.region) c.args.count xs)))

pub returns-clause-read : goal.returns-clause-read
returns-clause-read g c =
    let xs = c.self.inside.coded.placed.items in
    let first = c.in_ok-pieces.ensures.items ∙ c.first_of.ensures ∙ ap (λ ys. take c.args.count ys) c.deref.ensures.value in
    rw (← c.self.view_is)
    (rw (ap infos first ∙ sym (take-map (λ p. p.info) c.args.count xs), ap regions first ∙ sym (take-map (λ p. p.region) c.args.count xs), c.new.ensures.items, ← c.self.view_is) at c.read_layer.ensures.read)

pub returns-clause-err : goal.returns-clause-err
returns-clause-err g c =
    let xs = c.self.inside.coded.placed.items in
    let first = c.in_ok-pieces.ensures.items ∙ c.first_of.ensures ∙ ap (λ ys. take c.args.count ys) c.deref.ensures.value in
    rw (← c.self.view_is) (rw (ap infos first ∙ sym (take-map (λ p. p.info) c.args.count xs)) at c.read_layer.ensures.err)
