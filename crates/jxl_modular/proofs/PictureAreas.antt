-- The coded channels of an image that are cut are of its picture.
use Rattle.std.proofs.Common.{List, IsTrue, sym, subst}
use Rattle.jxlm_transform.specs.Channels.{Channel}
use Rattle.jxlm_groups.proofs.AreaLemmas.{asked_picture}
use Rattle.jxlm_groups.specs.Areas.{AreOfPicture, picture_of}
use Rattle.jxlm_groups.specs.Passes.{can_group}
use Rattle.jxlm_groups.specs.declared.pass.Pass.{Pass}
use Rattle.jxl_modular.specs.Image.{Image, coded_list}
use Rattle.jxl_modular.specs.Inner.Laid.{IsLaidOut}

pub of_image : {S D : Type 0} (x : Image S D) (passes : List Pass) → IsLaidOut x → IsTrue (can_group passes x.given) →
    AreOfPicture (picture_of x.given).0 (picture_of x.given).1 x.group_dim (coded_list x)
of_image x passes laid can =
    subst (λ (cs : List Channel). AreOfPicture (picture_of cs).0 (picture_of cs).1 x.group_dim (coded_list x)) (sym laid.asked.are)
    (asked_picture x.group_dim passes laid.asked.params x.steps (coded_list x) laid.asked.valid laid.steps (rw (← laid.asked.are) can) (rw (← laid.asked.are) laid.list))
