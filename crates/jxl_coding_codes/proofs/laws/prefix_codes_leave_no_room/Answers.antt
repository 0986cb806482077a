use Rattle.jxl_coding_codes.proofs.AcceptedCodes.{all_leave_no_room, long_leave_no_room, none_refused}
use Rattle.jxl_coding_codes.proofs.laws.prefix_codes_leave_no_room.Goals as goal

pub returns : goal.returns
returns c = record { all = all_leave_no_room; long = long_leave_no_room; read = none_refused }
