use Rattle.std.proofs.Common.{w32, [], ◌∷◌, ◌++◌}
use Rattle.std.proofs.lemmas.Int.{to_z-of_z}
use Rattle.jxlm_weighted.proofs.MadeBy.{recorded}
use Rattle.jxlm_weighted.proofs.self_correcting.Corrector.record_where_made.Goals as goal

pub returns-in-Some-made-clause-corrects : goal.returns-in-Some-made-clause-corrects
returns-in-Some-made-clause-corrects g c = λ weights width y samples corrects place made.
    recorded c.in-Some.corrector c.record.new.self c.in-Some-made.made weights width c.args.x y samples (samples ++ c.args.sample ∷ []) (rw c.in-Some.is at corrects) (rw c.in-Some-made.is at made)
    (λ header by makes. rw (to_z-of_z w32 c.args.sample c.ranges.sample) at (c.record.ensures.next header width y samples by place makes))

pub returns-in-Some-made-clause-rows : goal.returns-in-Some-made-clause-rows
returns-in-Some-made-clause-rows g c = λ room rows. c.record.ensures.rows room (rw c.in-Some.is at rows)
