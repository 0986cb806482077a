use Rattle.jxl_coding_codes.proofs.AcceptedCodes.{own_code, own_never_refused}
use Rattle.jxl_coding_codes.proofs.laws.code_length_codes_leave_no_room.Goals as goal

pub returns : goal.returns
returns c = record { full = own_code; read = own_never_refused }
