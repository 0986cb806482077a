use Rattle.std.proofs.Common.{◌≡◌, ◌+◌, ◌<◌, pos, FitsSigned, get_or, set, ap, ◌∙◌, arith, rules}
use Rattle.std.specs.Int.{w32}
use Rattle.std.proofs.lemmas.Int.{to_z-of_z}
use Rattle.std.proofs.lemmas.List.{get_or_read_under}
use Rattle.jxlm_predictor.proofs.RollingSteps.{current_long, gradient_wraps}
use Rattle.jxlm_predictor.proofs.Rolling.{Rolls_first, Rolls_row, Rolls_end}
use Rattle.jxlm_predictor.proofs.state.PredictorState.roll.Goals as goal

pub returns-then-self-eq0-clause-rolls : goal.returns-then-self-eq0-clause-rolls
returns-then-self-eq0-clause-rolls g c = λ samples rolls.
    let s : FitsSigned w32 c.args.sample = c.ranges.sample in
    let w : FitsSigned w32 c.args.self.now.w = search rules in
    let n : FitsSigned w32 c.args.self.now.n = search rules in
    let nw : FitsSigned w32 c.args.self.now.nw = search rules in
    let len = current_long c.args.self.now in
    let p9 = gradient_wraps c.args.self.now.w c.args.self.now.n c.args.self.now.nw w n nw in
    rw (to_z-of_z w32 c.args.sample s) (Rolls_first c.args.self.now.width c.args.self.now.x c.args.self.now.y _ _ _ _ c.args.sample _ _ c.args.self.now.current.items samples rolls len (omega arith) c.if-self-eq0.true p9)

pub returns-else-self-eq0-clause-rolls : goal.returns-else-self-eq0-clause-rolls
returns-else-self-eq0-clause-rolls g c = λ samples rolls.
    let s : FitsSigned w32 c.args.sample = c.ranges.sample in
    let w : FitsSigned w32 c.args.self.now.w = search rules in
    let n : FitsSigned w32 c.args.self.now.n = search rules in
    let nw : FitsSigned w32 c.args.self.now.nw = search rules in
    let len = current_long c.args.self.now in
    let p9 = gradient_wraps c.args.self.now.w c.args.self.now.n c.args.self.now.nw w n nw in
    let above : FitsSigned w32 c.index.result.now = search rules in
    let is : c.index.result.now ≡ get_or c.args.self.now.previous.items (c.args.self.now.x + 1) (pos 0) =
    get_or_read_under c.args.self.now.previous.items (c.args.self.now.x + 1) c.args.self.now.previous.len c.index.result.now (pos 0) c.index.ensures (omega (arith, c.args.self.now.previous_len, c.args.self.now.within_room)) c.args.self.now.previous.ok.0 in
    rw (to_z-of_z w32 c.args.sample s, to_z-of_z w32 c.args.self.now.n n, to_z-of_z w32 c.index.result.now above, is)
    (Rolls_row c.args.self.now.width c.args.self.now.x c.args.self.now.y _ _ _ _ c.args.sample _ c.args.self.now.previous.items c.args.self.now.current.items samples rolls len (omega arith) (omega arith) p9)

pub returns-else-self-clause-rolls : goal.returns-else-self-clause-rolls
returns-else-self-clause-rolls g c = λ samples rolls.
    let s : FitsSigned w32 c.args.sample = c.ranges.sample in
    let len = current_long c.args.self.now in
    let above : FitsSigned w32 c.index-above.result.now = search rules in
    let current_is : c.swap.new.x.items ≡ set c.args.self.now.current.items c.args.self.now.x c.args.sample = ap (λ (v : _). v.items) c.swap.ensures.x_after ∙ ap (set c.args.self.now.current.items c.args.self.now.x) (to_z-of_z w32 c.args.sample s) in
    let long : c.swap.new.x.len ≡ c.args.self.now.current.len = ap (λ (v : _). v.len) c.swap.ensures.x_after in
    let some : 0 < c.swap.new.x.len = let len' = c.args.self.now.current_len in let r = c.args.self.now.within_room in omega arith in
    let previous_is : c.swap.new.y.items ≡ c.args.self.now.previous.items = ap (λ (v : _). v.items) c.swap.ensures.y_after in
    let is : c.index-above.result.now ≡ get_or (set c.args.self.now.current.items c.args.self.now.x c.args.sample) 0 (pos 0) =
    get_or_read_under c.swap.new.x.items 0 c.swap.new.x.len c.index-above.result.now (pos 0) c.index-above.ensures some c.swap.new.x.ok.0 ∙ ap (λ v. get_or v 0 (pos 0)) current_is in
    rw (to_z-of_z w32 c.index-above.result.now above, current_is, previous_is)
    (Rolls_end c.args.self.now.width c.args.self.now.x c.args.self.now.y _ _ _ _ c.args.sample c.args.self.now.previous.items c.args.self.now.current.items samples rolls len (omega arith) c.index-above.result.now is)
