use Rattle.jxlm_chain.proofs.Fronts.{front_back}
use Rattle.jxlm_chain.proofs.placed.PlacedChannels.add_in_front.Goals as goal

pub put_front-requires : goal.put_front-requires
put_front-requires c = c.in_ok-add_all_to_front.ensures.goes.stands

pub returns-clause-goes : goal.returns-clause-goes
returns-clause-goes c =
    front_back c.args.steps.now c.in_ok-front.front c.add_all_to_front.new.front c.args.self.now c.add_all_to_front.new.self c.put_front.new.self c.requires.placed c.in_ok-front.ensures.layout c.in_ok-front.ensures.undos
    c.in_ok-add_all_to_front.ensures.goes c.in_ok-put_front.ensures.list c.in_ok-put_front.ensures.layout c.in_ok-put_front.ensures.undos c.in_ok-put_front.ensures.tables
