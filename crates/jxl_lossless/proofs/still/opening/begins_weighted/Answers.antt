use Rattle.std.proofs.Common.{ap, sym, ◌∙◌, List}
use Rattle.std.specs.List.{list_any}
use Rattle.jxlm_transform.specs.Transforms.{transform_of}
use Rattle.jxlm_transform.specs.declared.transform.TransformInfo.{TransformInfo}
use Rattle.jxl_lossless.specs.Inner.Weighted.{found_weighted, is_weighted}
use Rattle.jxl_lossless.proofs.Headers.{list_any-map}
use Rattle.jxl_lossless.proofs.still.opening.begins_weighted.Goals as goal

pub returns-in-Ok : goal.returns-in-Ok
returns-in-Ok c =
    let items = c.in-Ok.header.transform.items in
    c.some_weighted.ensures ∙ ap (λ (ts : List TransformInfo). list_any (λ t. is_weighted (transform_of t)) ts) c.deref.ensures.value ∙ sym (list_any-map is_weighted transform_of items) ∙ sym (ap found_weighted c.in-Ok.ensures.gives)
