use Rattle.std.proofs.Common.{refl}
use Rattle.jxlm_chain.proofs.Fronts.{went}
use Rattle.jxlm_chain.proofs.placed.PlacedChannels.add_to_front.Goals as goal

pub returns-clause-goes : goal.returns-clause-goes
returns-clause-goes c =
    went c.args.step.now c.args.front.now _ c.settle.new.front c.args.self.now _ c.settle.new.self c.requires.front c.requires.within refl c.in_ok-add_halves.ensures.list c.in_ok-add_halves.ensures.goes
    (record { info = refl; meta = c.meta_after-self.ensures; places = refl; rest = record { undoings = refl; tables = refl } }) c.in_ok-settle.ensures.inside c.in_ok-settle.ensures.at_end
