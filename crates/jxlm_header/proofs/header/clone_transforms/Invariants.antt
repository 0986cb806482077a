use Rattle.std.proofs.Common.{◌≡◌, map, take}
use Rattle.jxlm_transform.specs.Transforms.{transform_of}
use Rattle.jxlm_header.proofs.header.clone_transforms.Given as goal

abbrev pub invariant-loop-transform : goal.invariant-loop-transform
invariant-loop-transform l = map transform_of l.clones.items ≡ map transform_of (take l.transform-index l.transforms)
