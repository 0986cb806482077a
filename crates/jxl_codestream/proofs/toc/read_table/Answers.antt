use Rattle.std.proofs.Common.{◌≡◌, ◌*◌, ◌∙◌, [], Ok}
use Rattle.std.proofs.lemmas.Result.{err_from_is_err_and}
use Rattle.jxlm_bits.specs.Bits.{bytes_of, position_of}
use Rattle.jxlm_bits.specs.ErrorKind.{kind_of, UnlessMemory}
use Rattle.jxlm_bits.specs.Grammar.{IsErrorAt, flag, Parses}
use Rattle.jxl_image_header.specs.Fields.{when}
use Rattle.jxl_codestream.specs.Orders.{lehmer_code}
use Rattle.jxl_codestream.specs.Tocs.{room}
use Rattle.jxl_codestream.specs.Inner.Entries.{sizes, table_of}
use Rattle.jxl_codestream.proofs.TableSteps.{code_fails, rest_is, decodes}
use Rattle.jxl_codestream.proofs.toc.read_table.Goals as goal

pub returns-in_err-code-clause-gives : goal.returns-in_err-code-clause-gives
returns-in_err-code-clause-gives g c =
    let p = err_from_is_err_and c.from_residual-in_err-code.result c.from_residual-in_err-code.ensures.1 in
    let d = g.D.Decoder.meaning in
    let n = c.args.count in
    let bytes = bytes_of c.args.bits.now in
    let at = position_of c.args.bits.now in
    let m = position_of c.read_bool.new.self in
    let q = position_of c.code_if.new.bits in
    let error = kind_of c.in_err-code.field-0.0 in
    let first : (room (12 * n)).read bytes at ≡ Ok (record { value = tt; position = at }) = c.in_ok-room.ensures in
    let second : flag.read bytes at ≡ Ok (record { value = c.in_ok-permuted.permuted; position = m }) = c.in_ok-permuted.ensures.gives in
    let third : UnlessMemory error (IsErrorAt ((when c.in_ok-permuted.permuted (lehmer_code d n) []).read bytes m) error q) = rw c.read_bool.ensures.bytes at c.in_err-code.ensures.gives in
    rw (p.1, p.2) (code_fails d n bytes at m q c.in_ok-permuted.permuted first second error third)

pub returns-clause-gives : goal.returns-clause-gives
returns-clause-gives g c =
    let d = g.D.Decoder.meaning in
    let n = c.args.count in
    let bytes = bytes_of c.args.bits.now in
    let at = position_of c.args.bits.now in
    let m = position_of c.read_bool.new.self in
    let q = position_of c.code_if.new.bits in
    let code = c.in_ok-code.code.items in
    let first : (room (12 * n)).read bytes at ≡ Ok (record { value = tt; position = at }) = c.in_ok-room.ensures in
    let second : flag.read bytes at ≡ Ok (record { value = c.in_ok-permuted.permuted; position = m }) = c.in_ok-permuted.ensures.gives in
    let third : (when c.in_ok-permuted.permuted (lehmer_code d n) []).read bytes m ≡ Ok (record { value = code; position = q }) = rw c.read_bool.ensures.bytes at c.in_ok-code.ensures.gives in
    let rest : Parses table_of c.sizes.result (position_of c.sizes.new.bits) ((sizes code n).read bytes q) = rw (c.code_if.ensures.bytes ∙ c.read_bool.ensures.bytes) at c.sizes.ensures.gives in
    rw (rest_is d n bytes at m q c.in_ok-permuted.permuted first second code third) (decodes table_of c.sizes.result (position_of c.sizes.new.bits) ((sizes code n).read bytes q) rest)
