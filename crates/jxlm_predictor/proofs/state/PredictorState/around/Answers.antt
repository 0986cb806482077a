use Rattle.std.proofs.Common.{FitsSigned, rules, refl}
use Rattle.std.specs.Int.{w32}
use Rattle.std.proofs.lemmas.Int.{to_z-of_z}
use Rattle.jxlm_predictor.proofs.Rolling.{column_is, row_is}
use Rattle.jxlm_predictor.proofs.state.PredictorState.around.Goals as goal

pub returns : goal.returns
returns g c = λ s samples stands.
    let state = c.args.self.now in
    let rolls = stands.rolls in
    let w : FitsSigned w32 c.args.self.now.w = search rules in
    let n : FitsSigned w32 c.args.self.now.n = search rules in
    let nw : FitsSigned w32 c.args.self.now.nw = search rules in
    let ne : FitsSigned w32 c.north_east.result = search rules in
    let nee : FitsSigned w32 c.north_east_east.result = search rules in
    let nn : FitsSigned w32 c.north_north.result = search rules in
    let ww : FitsSigned w32 c.west_west.result = search rules in
    let x = column_is s.width state.x state.y state.w state.n state.nw state.gradient state.previous.items state.current.items samples rolls in
    let y = row_is s.width state.x state.y state.w state.n state.nw state.gradient state.previous.items state.current.items samples rolls in
    rw (
      x,
      y,
      to_z-of_z w32 c.args.self.now.w w,
      to_z-of_z w32 c.args.self.now.n n,
      to_z-of_z w32 c.args.self.now.nw nw,
      to_z-of_z w32 c.north_east.result ne,
      to_z-of_z w32 c.north_east_east.result nee,
      to_z-of_z w32 c.north_north.result nn,
      to_z-of_z w32 c.west_west.result ww,
      rolls.west_is,
      rolls.north_is,
      rolls.north_west_is,
      c.north_east.ensures s samples stands,
      c.north_east_east.ensures s samples stands,
      c.north_north.ensures s samples stands,
      c.west_west.ensures s samples stands,
    ) refl
