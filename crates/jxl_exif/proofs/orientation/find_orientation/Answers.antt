use Rattle.std.proofs.Common.{◌≡◌, ◌∙◌, sym, arith}
use Rattle.jxl_exif.proofs.Places.{not_said}
use Rattle.jxl_exif.proofs.orientation.find_orientation.Goals.{else-value-ge1-via-then-value-ge1+else-value-le8, else-value-ge1-via-else-value-ge1}
use Rattle.jxl_exif.proofs.orientation.find_orientation.Goals as goal

pub returns-in_default-short_in-clause-none : goal.returns-in_default-short_in-clause-none
returns-in_default-short_in-clause-none c =
    let e = c.in-Some-first_entry.ensures.some in
    not_said c.in-Some.order c.args.exif.now c.u32_at-ifd.result e.0 c.in-Some-first_entry.entry c.in-Some.ensures.some c.u32_at-ifd.ensures e.1 e.2 (λ n s least most. c.in_default-short_in.ensures.none n s)

pub returns-else-value-ge1-clause-none : goal.returns-else-value-ge1-clause-none
returns-else-value-ge1-clause-none c =
    let e = c.in-Some-first_entry.ensures.some in
    not_said c.in-Some.order c.args.exif.now c.u32_at-ifd.result e.0 c.in-Some-first_entry.entry c.in-Some.ensures.some c.u32_at-ifd.ensures e.1 e.2
    (λ n s least most.
    let same : c.in-Some-short_in.value ≡ n = sym c.in-Some-short_in.ensures.some.value ∙ s.value in
    elim c.else-value-ge1.branch [
      | else-value-ge1-via-then-value-ge1+else-value-le8 w ↦ omega (arith, same, most)
      | else-value-ge1-via-else-value-ge1 w ↦ omega (arith, same, least)
    ])
