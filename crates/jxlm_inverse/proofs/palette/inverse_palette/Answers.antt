use Rattle.jxlm_inverse.proofs.PaletteChannels.{all_done}
use Rattle.jxlm_inverse.proofs.palette.inverse_palette.Goals as goal

pub returns-then-is_simple-clause-finished : goal.returns-then-is_simple-clause-finished
returns-then-is_simple-clause-finished g c =
    all_done g.S.Sealed.to_int g.S.Sealed.width c.args.palette.now c.args.table c.args.index c.args.finished.now c.args.store.now c.requires.lies c.args.bit_depth c.look_up_all.new.store (c.look_up_all.ensures c.args.bit_depth)

pub returns-then-is_simple-clause-keeps : goal.returns-then-is_simple-clause-keeps
returns-then-is_simple-clause-keeps g c = (c.look_up_all.ensures c.args.bit_depth).keeps

pub returns-clause-finished : goal.returns-clause-finished
returns-clause-finished g c =
    all_done g.S.Sealed.to_int g.S.Sealed.width c.args.palette.now c.args.table c.args.index c.args.finished.now c.args.store.now c.requires.lies c.args.bit_depth c.predict_all.new.store c.predict_all.ensures.done

pub returns-clause-keeps : goal.returns-clause-keeps
returns-clause-keeps g c = c.predict_all.ensures.done.keeps
