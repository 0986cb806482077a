use Rattle.std.proofs.Common.{◌≡◌, ◌∙◌, sym, ap, arith}
use Rattle.jxl_exif.specs.Tiff.{u16_at}
use Rattle.jxl_exif.specs.declared.tiff.ByteOrder.{ByteOrder}
use Rattle.jxl_exif.proofs.Places.{one_order}
use Rattle.jxl_exif.proofs.tiff.byte_order.Goals as goal

pub returns-then-u16_at-eq42-clause-some : goal.returns-then-u16_at-eq42-clause-some
returns-then-u16_at-eq42-clause-some c =
    record { long = omega arith; first = c.in-Some.ensures.some.0; second = c.in-Some.ensures.some.1; version = sym c.u16_at.ensures ∙ c.if-u16_at-eq42.true }

-- the first byte shows the byte order, in which the version is another number
pub returns-else-u16_at-eq42-clause-none : goal.returns-else-u16_at-eq42-clause-none
returns-else-u16_at-eq42-clause-none c = λ order t.
    let same : c.in-Some.order ≡ order = one_order c.in-Some.order order (sym c.in-Some.ensures.some.0 ∙ t.first) in
    c.if-u16_at-eq42.false (c.u16_at.ensures ∙ ap (λ (o : ByteOrder). u16_at o c.args.bytes.now 2) same ∙ t.version)
