use Rattle.jxlm_predictor.proofs.state.PredictorState.begin.Goals as goal

pub invariant_of-self : goal.invariant_of-self
invariant_of-self g c =
    let old = c.args.self.now in
    record {
      within_room = c.requires.roomy;
      narrow = old.narrow;
      previous_len = old.previous_len;
      current_len = old.current_len;
      corrector_rows = c.restart_where_kept.ensures.rows old.room old.corrector_rows;
      resting_rows = old.resting_rows;
    }
