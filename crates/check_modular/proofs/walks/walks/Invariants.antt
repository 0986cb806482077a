use Rattle.std.proofs.Common.{◌≡◌}
use Rattle.check_modular.proofs.walks.walks.Given as goal

abbrev pub invariant-loop-walk : goal.invariant-loop-walk
invariant-loop-walk g l =
    let clusters = g.D.Decoder.meaning.cluster_map in
    (goal.iterator-loop-walk g).can_next l.walk-iterator ×
    (goal.iterator-loop-walk g).is_finite l.walk-iterator ×
    (clusters l.decoder ≡ clusters l.config.decoder)
