-- Transforms that an encoder writes.
use Rattle.std.proofs.Common.{List, arith}
use Rattle.std.specs.List.{All}
use Rattle.std.proofs.lemmas.List.Elements.{All-weaker}
use Rattle.jxlm_transform.specs.Transforms.{IsTransform, OfPalette, OfRct, OfSqueeze, Transform}
use Rattle.jxl_encode_image.specs.Preparations.{IsSpelled}

-- their fields are in the ranges that a header can have
is_transform : (t : Transform) → IsSpelled t → IsTransform t
is_transform (OfRct t) h = let low = h.kind in record { begin = h.begin; kind = omega (arith, low) }
is_transform (OfPalette t) h = h.ranges
is_transform (OfSqueeze steps) h = h

pub are_transforms : (ts : List Transform) → All IsSpelled ts → All IsTransform ts
are_transforms ts h = All-weaker IsSpelled IsTransform is_transform ts h
