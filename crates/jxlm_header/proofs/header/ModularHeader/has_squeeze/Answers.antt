use Rattle.std.proofs.Common.{◌∙◌, List, ap, map}
use Rattle.std.specs.List.{list_any}
use Rattle.jxlm_transform.specs.Kinds.{is_squeeze}
use Rattle.jxlm_transform.specs.Transforms.{transform_of}
use Rattle.jxlm_transform.specs.declared.transform.TransformInfo.{TransformInfo}
use Rattle.jxlm_header.proofs.SeenTransforms.{any_seen}
use Rattle.jxlm_header.proofs.header.ModularHeader.has_squeeze.Goals as goal

pub returns : goal.returns
returns c =
    c.some_squeeze.ensures ∙ any_seen is_squeeze (λ (t : TransformInfo). transform_of t) c.deref.result.now
    ∙ ap (λ (ts : List TransformInfo). list_any is_squeeze (map transform_of ts)) c.deref.ensures.value
