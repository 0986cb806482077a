use Rattle.std.proofs.Common.{◌≡◌, Ok, false, rules, tests}
use Rattle.std.specs.Prelude.{◌==◌}
use Rattle.std.proofs.lemmas.Result.{err_from_is_err_and}
use Rattle.jxlm_bits.specs.Bits.{bytes_of, position_of}
use Rattle.jxlm_bits.specs.ErrorKind.{kind_of}
use Rattle.jxlm_bits.specs.Grammar.{IsErrorAt, number}
use Rattle.jxlm_transform.proofs.Failures.{squeeze_error, kind_error, unless_so}
use Rattle.jxlm_transform.specs.Transforms.{squeeze}
use Rattle.jxlm_transform.proofs.transform.TransformInfo.parse_by.Goals as goal

pub returns-in_err-parse-in-2-clause-gives : goal.returns-in_err-parse-in-2-clause-gives
returns-in_err-parse-in-2-clause-gives c =
    let p = err_from_is_err_and c.from_residual-in_err-parse-in-2.result c.from_residual-in_err-parse-in-2.ensures.1 in
    let e = c.in_err-parse-in-2.field-0.0 in
    let bytes = bytes_of c.args.bits.now in
    let m = position_of c.read_kind.new.bits in
    let q = position_of c.parse.new.bits in
    let kind : (number 2).read bytes (position_of c.args.bits.now) ≡ Ok (record { value = 2; position = m }) = rw c.in-2.is at c.in_ok-kind.ensures.gives in
    rw (p.1, p.2) (unless_so (kind_of e) (IsErrorAt (squeeze.read bytes m) (kind_of e) q) _ (squeeze_error c.args.tables c.args.wp_header.now bytes (position_of c.args.bits.now) m q (kind_of e) kind)
    (rw c.read_kind.ensures.bytes at c.in_err-parse-in-2.ensures.gives))

pub returns-in_default-clause-gives : goal.returns-in_default-clause-gives
returns-in_default-clause-gives c =
    let k = c.in_ok-kind.kind in
    let not0 : (k == 0) ≡ false = search (rules, tests) in
    let not1 : (k == 1) ≡ false = search (rules, tests) in
    let not2 : (k == 2) ≡ false = search (rules, tests) in
    kind_error c.args.tables c.args.wp_header.now (bytes_of c.args.bits.now) (position_of c.args.bits.now) (position_of c.read_kind.new.bits) k c.in_ok-kind.ensures.gives not0 not1 not2
