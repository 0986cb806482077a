use Rattle.jxl_picture.proofs.Undoing.{undone}
use Rattle.jxl_picture.proofs.orientation.orientations_are_undone.Goals as goal

pub returns : goal.returns
returns c = λ o coded shown s. undone coded shown o s
