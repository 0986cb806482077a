use Rattle.std.proofs.Common.{ap}
use Rattle.jxlm_transform.specs.ChannelSteps.{average_channel, range, residual_channel}
use Rattle.jxlm_transform.specs.SqueezedRegions.{average_region, residual_region}
use Rattle.jxlm_transform.proofs.PlacedLists.{put_halves_by}
use Rattle.jxlm_transform.proofs.transform.SqueezeParams.halve.Goals as goal

pub returns-clause-infos : goal.returns-clause-infos
returns-clause-infos c =
    let t = c.args.self.now in
    put_halves_by (λ p. p.info) t (average_channel t.horizontal) (residual_channel t.horizontal) c.in_ok-averages.averages.items c.in_ok-residuals.residuals.items
    c.args.placed.now.items (range t.begin_c t.num_c c.deref.result.now) c.deref-2.result.now c.put_halves.new.list.items c.put_halves.result
    (ap (range t.begin_c t.num_c) c.deref.ensures.value) c.deref-2.ensures.value c.in_ok-averages.ensures.infos c.in_ok-residuals.ensures.infos c.put_halves.ensures.gives

pub returns-clause-regions : goal.returns-clause-regions
returns-clause-regions c =
    let t = c.args.self.now in
    put_halves_by (λ p. p.region) t (average_region t.horizontal) (residual_region t.horizontal) c.in_ok-averages.averages.items c.in_ok-residuals.residuals.items
    c.args.placed.now.items (range t.begin_c t.num_c c.deref.result.now) c.deref-2.result.now c.put_halves.new.list.items c.put_halves.result
    (ap (range t.begin_c t.num_c) c.deref.ensures.value) c.deref-2.ensures.value c.in_ok-averages.ensures.regions c.in_ok-residuals.ensures.regions c.put_halves.ensures.gives
