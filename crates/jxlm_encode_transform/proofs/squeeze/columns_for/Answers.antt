use Rattle.std.proofs.Common.{arith}
use Rattle.jxlm_encode_transform.proofs.StripSteps.{room_of, some_room}
use Rattle.jxlm_encode_transform.proofs.squeeze.columns_for.Goals as goal

pub returns-clause-some : goal.returns-clause-some
returns-clause-some c =
    let some = some_room c.args.room c.args.height c.requires.some_rows c.requires.column in
    let least = c.min.ensures in
    omega (arith, some, least)

pub returns-clause-fits : goal.returns-clause-fits
returns-clause-fits c = let least = c.min.ensures in room_of c.args.room c.args.height c.min.result (omega (arith, least))
