use Rattle.std.proofs.Common.{ℕ, inl}
use Rattle.jxl_exif.proofs.Settings.{one_set, says_one, stays}
use Rattle.jxl_exif.proofs.orientation.set_upright.Goals as goal

pub returns-in-Some-clause-said : goal.returns-in-Some-clause-said
returns-in-Some-clause-said c =
    let o = c.in-Some.field-0 in
    let a : ℕ = c.bytes_of_one-first.result.0 in
    let b : ℕ = c.bytes_of_one-first.result.1 in
    let set = one_set o.order c.args.exif.now o.at a b c.in-Some.ensures.within c.bytes_of_one-first.ensures in
    inl (o.order, o.at, says_one o.order o.at o.value c.args.exif.now _ c.in-Some.ensures.some set)

pub returns-in-Some-clause-same : goal.returns-in-Some-clause-same
returns-in-Some-clause-same c =
    let o = c.in-Some.field-0 in
    stays o.order c.args.exif.now o.at o.value c.bytes_of_one-first.result.0 c.bytes_of_one-first.result.1 c.in-Some.ensures.some c.bytes_of_one-first.ensures
