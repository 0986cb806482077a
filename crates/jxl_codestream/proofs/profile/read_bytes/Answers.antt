use Rattle.std.proofs.Common.{◌≡◌, ℕ, List, [], ◌∷◌, ◌++◌, ◌%◌, ◌∙◌, length, Ok, refl, ap, sym, arith, rules}
use Rattle.std.proofs.lemmas.List.{reverse-append}
use Rattle.std.proofs.lemmas.Result.{err_from_is_err_and}
use Rattle.jxlm_bits.specs.Bits.{bytes_of, position_of}
use Rattle.jxlm_bits.specs.ErrorKind.{kind_of, UnlessMemory}
use Rattle.jxlm_bits.specs.Grammar.{IsErrorAt, give}
use Rattle.jxl_codestream.specs.Profiles.{context_of, one_byte}
use Rattle.jxlm_bits.specs.Tokens.{token_value}
use Rattle.jxlm_bits.proofs.Chains.{chain_step, chain_fails, chain_ends}
use Rattle.jxl_codestream.proofs.ProfileBytes.{byte_ok}
use Rattle.jxlm_bits.proofs.TokenFields.{token_refuses}
use Rattle.jxl_codestream.proofs.profile.read_bytes.Goals as goal

pub returns-in_err-value-clause-gives : goal.returns-in_err-value-clause-gives
returns-in_err-value-clause-gives g c =
    let p = err_from_is_err_and c.from_residual.result c.from_residual.ensures.1 in
    let d = g.D.Decoder.meaning in
    let error = kind_of c.in_err-value.field-0.0 in
    let bytes = bytes_of c.args.bits.now in
    let i = c.loop-i.invariant in
    let s = c.loop-i.decoder in
    let at = position_of c.loop-i.bits in
    let q = position_of c.token.new.bits in
    let context : context_of i.all ≡ c.context_of.result = rw (i.count, i.last, i.before) (sym c.context_of.ensures.context) in
    let one : UnlessMemory error (IsErrorAt ((token_value d (context_of i.all) s).read bytes at) error q) = rw context (rw i.same at c.in_err-value.ensures.gives) in
    let this = chain_fails (one_byte d) bytes c.args.count c.loop-i.i at q i.all s error c.loop-i-test.true
    (token_refuses d bytes at q s (context_of i.all) (λ v. give (v % 256 ∷ i.all)) error one) in
    rw (p.1, p.2) (rw i.read at this)

pub loop-i-preserved : goal.loop-i-preserved
loop-i-preserved g c =
    let d = g.D.Decoder.meaning in
    let bytes = bytes_of c.args.bits.now in
    let i = c.loop-i.invariant in
    let v = c.in_ok-value.value in
    let s = c.loop-i.decoder in
    let t = c.token.new.decoder in
    let at = position_of c.loop-i.bits in
    let q = position_of c.token.new.bits in
    let context : context_of i.all ≡ c.context_of.result = rw (i.count, i.last, i.before) (sym c.context_of.ensures.context) in
    let pushed : c.push.new.self.items ≡ c.loop-i.encoded.items ++ v % 256 ∷ [] = search rules in
    let one : (token_value d (context_of i.all) s).read bytes at ≡ Ok (record { value = record { value = v; state = t }; position = q }) = rw context (rw i.same at c.in_ok-value.ensures.gives) in
    record {
      same = c.token.ensures.bytes ∙ i.same;
      clusters = ap (λ (xs : List ℕ). length xs) c.in_ok-value.ensures.clusters ∙ i.clusters;
      all = v % 256 ∷ i.all;
      items = rw pushed (reverse-append c.loop-i.encoded.items (v % 256 ∷ []) ∙ ap (λ (xs : List ℕ). v % 256 ∷ xs) i.items);
      count = omega (arith, i.count);
      last = refl;
      before = i.last;
      read = sym (chain_step (one_byte d) bytes c.args.count c.loop-i.i at q i.all (v % 256 ∷ i.all) s t c.loop-i-test.true (byte_ok d bytes at q s i.all v t one)) ∙ i.read;
    }

pub returns-clause-gives : goal.returns-clause-gives
returns-clause-gives g c =
    let d = g.D.Decoder.meaning in
    let i = c.loop-i.invariant in
    let end = chain_ends (one_byte d) (bytes_of c.args.bits.now) c.args.count c.loop-i.i (position_of c.loop-i.bits) i.all c.loop-i.decoder c.loop-i-test.false in
    rw i.items (sym i.read ∙ end)
