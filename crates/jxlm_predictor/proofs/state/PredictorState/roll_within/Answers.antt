use Rattle.std.proofs.Common.{◌≡◌, ◌+◌, pos, FitsSigned, get_or, arith, rules}
use Rattle.std.specs.Int.{w32}
use Rattle.std.proofs.lemmas.Int.{to_z-of_z}
use Rattle.std.proofs.lemmas.List.{get_or_read_under}
use Rattle.jxlm_predictor.proofs.RollingSteps.{current_long, gradient_wraps}
use Rattle.jxlm_predictor.proofs.Rolling.{Rolls_row}
use Rattle.jxlm_predictor.proofs.state.PredictorState.roll_within.Goals as goal

pub returns-clause-rolls : goal.returns-clause-rolls
returns-clause-rolls g c = λ samples rolls.
    let s : FitsSigned w32 c.args.sample = c.ranges.sample in
    let w : FitsSigned w32 c.args.self.now.w = search rules in
    let n : FitsSigned w32 c.args.self.now.n = search rules in
    let nw : FitsSigned w32 c.args.self.now.nw = search rules in
    let len = current_long c.args.self.now in
    let p9 = gradient_wraps c.args.self.now.w c.args.self.now.n c.args.self.now.nw w n nw in
    let above : FitsSigned w32 c.index.result.now = search rules in
    let is : c.index.result.now ≡ get_or c.args.self.now.previous.items (c.args.self.now.x + 1) (pos 0) =
    get_or_read_under c.args.self.now.previous.items (c.args.self.now.x + 1) c.args.self.now.previous.len c.index.result.now (pos 0) c.index.ensures (omega (arith, c.args.self.now.previous_len, c.args.self.now.within_room)) c.args.self.now.previous.ok.0 in
    rw (to_z-of_z w32 c.args.sample s, to_z-of_z w32 c.args.self.now.n n, to_z-of_z w32 c.index.result.now above, is)
    (Rolls_row c.args.self.now.width c.args.self.now.x c.args.self.now.y _ _ _ _ c.args.sample _ c.args.self.now.previous.items c.args.self.now.current.items samples rolls len c.requires.in_row c.requires.below p9)
