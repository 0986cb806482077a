use Rattle.std.proofs.Common.{ℕ, [], ◌∷◌, ◌++◌, w32, ◌∙◌, sym, ap, subst, arith}
use Rattle.std.proofs.lemmas.Int.{to_z-of_z}
use Rattle.jxlm_predictor.specs.Rolling.{Rolls}
use Rattle.jxlm_predictor.proofs.StandingLaws.{corrects_next}
use Rattle.jxlm_predictor.proofs.state.PredictorState.advance.Goals as goal

pub returns-clause-stands : goal.returns-clause-stands
returns-clause-stands g c = λ s samples stands made.
    let old = c.args.self.now in
    let new = c.roll_by.new.self in
    let kept = c.roll_by.ensures.kept in
    let wide = stands.same_width in
    let rolls = rw (to_z-of_z w32 c.args.sample c.ranges.sample) at (c.roll_by.ensures.rolls samples (subst (λ (w : ℕ). Rolls w old.x old.y old.w old.n old.nw old.gradient old.previous.items old.current.items samples) (sym wide) stands.rolls)) in
    let after_it = rw (to_z-of_z w32 c.args.sample c.ranges.sample) at (c.record_where_made.ensures.corrects s.weights s.width old.y samples stands.corrects stands.rolls.place made) in
    record {
      same_width = kept.same_width ∙ wide;
      same_earlier = ap (λ (v : _). v.items) kept.same_earlier ∙ stands.same_earlier;
      rolls = subst (λ (w : ℕ). Rolls w new.x new.y new.w new.n new.nw new.gradient new.previous.items new.current.items (samples ++ c.args.sample ∷ [])) (kept.same_width ∙ wide) rolls;
      corrects = corrects_next c.record_where_made.new.corrector new.corrector s.weights s.width old.x old.y new.x new.y (samples ++ c.args.sample ∷ []) kept.same_corrector after_it (λ lt. c.roll_by.ensures.place.0 (omega arith)) (λ ge. c.roll_by.ensures.place.1 (omega arith));
    }

pub invariant_of-self : goal.invariant_of-self
invariant_of-self g c =
    let old = c.args.self.now in
    record {
      within_room = old.within_room;
      narrow = old.narrow;
      previous_len = old.previous_len;
      current_len = old.current_len;
      corrector_rows = c.record_where_made.ensures.rows old.room old.corrector_rows;
      resting_rows = old.resting_rows;
    }
