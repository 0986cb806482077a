use Rattle.jxl_coding_codes.proofs.AnsUndo.{fits, slot_is, undoes}
use Rattle.jxl_coding_codes.proofs.laws.reading_undoes_writing.Goals as goal

pub returns : goal.returns
returns c = record { slot = slot_is; state = fits; read = λ slot place state bytes p h. undoes slot place state h bytes p }
