use Rattle.std.proofs.Common.{◌≡◌, ℕ, ◌+◌, ◌<◌, List, [], ◌∷◌, ◌++◌, ◌∙◌, length, Ok, rules, ap, sym}
use Rattle.std.proofs.lemmas.Result.{err_from_is_err_and}
use Rattle.jxlm_bits.specs.Bits.{bytes_of, position_of}
use Rattle.jxlm_bits.specs.ErrorKind.{kind_of, UnlessMemory}
use Rattle.jxlm_bits.specs.Grammar.{IsErrorAt}
use Rattle.jxl_codestream.specs.Orders.{one_more}
use Rattle.jxlm_bits.proofs.Chains.{chain_step, chain_fails, chain_ends}
use Rattle.jxl_codestream.proofs.Bijections.{digits_more}
use Rattle.jxl_codestream.proofs.order.digits.Goals as goal

pub returns-in_err-value-clause-gives : goal.returns-in_err-value-clause-gives
returns-in_err-value-clause-gives g c =
    let p = err_from_is_err_and c.from_residual.result c.from_residual.ensures.1 in
    let d = g.D.Decoder.meaning in
    let error = kind_of c.in_err-value.field-0.0 in
    let bytes = bytes_of c.args.bits.now in
    let code = c.loop.code.items in
    let s = c.loop.decoder in
    let at = position_of c.loop.bits in
    let q = position_of c.digit.new.bits in
    let slice : c.deref.result.now ≡ code = search rules in
    let one : UnlessMemory error (IsErrorAt ((one_more d c.args.count code s).read bytes at) error q) = rw (slice, c.loop.invariant.same) at c.in_err-value.ensures.gives in
    let this = chain_fails (one_more d c.args.count) bytes c.args.told c.loop.counter at q code s error c.loop-test.true one in
    rw (p.1, p.2) (rw c.loop.invariant.read at this)

pub loop-preserved : goal.loop-preserved
loop-preserved g c =
    let d = g.D.Decoder.meaning in
    let bytes = bytes_of c.args.bits.now in
    let v = c.in_ok-value.value in
    let code = c.loop.code.items in
    let pushed : c.push.new.self.items ≡ code ++ v ∷ [] = search rules in
    let slice : c.deref.result.now ≡ code = search rules in
    let s = c.loop.decoder in
    let t = c.digit.new.decoder in
    let at = position_of c.loop.bits in
    let q = position_of c.digit.new.bits in
    let one : (one_more d c.args.count code s).read bytes at ≡ Ok (record { value = record { value = code ++ v ∷ []; state = t }; position = q }) =
    rw (slice, c.loop.invariant.same) at c.in_ok-value.ensures.gives in
    let below : v + length code < c.args.count = rw slice at c.in_ok-value.ensures.below in
    record {
      same = c.digit.ensures.bytes ∙ c.loop.invariant.same;
      clusters = ap (λ (xs : List ℕ). length xs) c.in_ok-value.ensures.clusters ∙ c.loop.invariant.clusters;
      valid = rw pushed (digits_more code c.args.count v c.loop.invariant.valid below);
      read = rw pushed (sym (chain_step (one_more d c.args.count) bytes c.args.told c.loop.counter at q code (code ++ v ∷ []) s t c.loop-test.true one) ∙ c.loop.invariant.read);
    }

pub returns-clause-gives : goal.returns-clause-gives
returns-clause-gives g c =
    let d = g.D.Decoder.meaning in
    let end = chain_ends (one_more d c.args.count) (bytes_of c.args.bits.now) c.args.told c.loop.counter (position_of c.loop.bits) c.loop.code.items c.loop.decoder c.loop-test.false in
    sym c.loop.invariant.read ∙ end
