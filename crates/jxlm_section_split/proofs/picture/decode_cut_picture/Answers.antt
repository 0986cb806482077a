use Rattle.std.proofs.Common.{refl}
use Rattle.jxlm_section_split.proofs.picture.decode_cut_picture.Goals as goal

pub returns-in-Some-clause-counted : goal.returns-in-Some-clause-counted
returns-in-Some-clause-counted g c =
    (rw c.in-Some.is at c.in_ok-cut.ensures.picture) ((rw c.in-Some.is at c.in_ok-cut.ensures.whole) refl)
