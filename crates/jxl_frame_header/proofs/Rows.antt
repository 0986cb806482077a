-- Reasons in a row, of which the first counts.
use Rattle.std.proofs.Common.{◌≡◌, Bool, true, false, Option, Some, None, refl}
use Rattle.std.specs.Prelude.{if◌then◌else◌}
use Rattle.std.specs.Option.{option_or}

-- those of the parts of a frame, one part after another
pub row : {R : Type 0} (coding : Option R) (a b c d e f g h : Bool) (t u v w x y z last : R) →
    option_or (option_or (option_or (option_or (option_or coding (if a then Some t else None)) (if b then Some u else if c then Some v else None))
    (if d then Some w else if e then Some x else None)) (if f then Some y else if g then Some z else None)) (if h then Some last else None)
    ≡ option_or coding (if a then Some t else if b then Some u else if c then Some v else if d then Some w else if e then Some x else if f then Some y else if g then Some z else if h then Some last else None)
row (Some r) a b c d e f g h t u v w x y z last = refl
row None true b c d e f g h t u v w x y z last = refl
row None false true c d e f g h t u v w x y z last = refl
row None false false true d e f g h t u v w x y z last = refl
row None false false false true e f g h t u v w x y z last = refl
row None false false false false true f g h t u v w x y z last = refl
row None false false false false false true g h t u v w x y z last = refl
row None false false false false false false true h t u v w x y z last = refl
row None false false false false false false false h t u v w x y z last = refl
