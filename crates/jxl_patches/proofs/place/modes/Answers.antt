use Rattle.std.proofs.Common.{ℕ, List, length, ap, sym, ◌∙◌}
use Rattle.std.proofs.lemmas.Result.{err_from_is_err_and}
use Rattle.jxlm_bits.specs.Bits.{bytes_of, position_of}
use Rattle.jxlm_bits.specs.ErrorKind.{UnlessMemory}
use Rattle.jxlm_bits.specs.Grammar.{IsErrorAt}
use Rattle.jxlm_bits.proofs.Chains.{chain_step, chain_fails, chain_ends}
use Rattle.jxl_patches.specs.Errors.{patch_kind}
use Rattle.jxl_patches.specs.Patches.{one_mode}
use Rattle.jxl_patches.specs.Dictionaries.{patches_of}
use Rattle.jxl_patches.proofs.place.modes.Goals as goal

pub returns-in_err-mode-clause-gives : goal.returns-in_err-mode-clause-gives
returns-in_err-mode-clause-gives g c =
    let p = err_from_is_err_and c.from_residual.result c.from_residual.ensures.1 in
    let d = g.D.Decoder.meaning in
    let error = patch_kind c.in_err-mode.field-0.0 in
    let bytes = bytes_of c.args.bits.now in
    let x = patches_of c.loop.growing in
    let s = c.loop.decoder in
    let at = position_of c.loop.bits in
    let q = position_of c.mode.new.bits in
    let one : UnlessMemory error (IsErrorAt ((one_mode d c.args.kinds x s).read bytes at) error q) = rw c.loop.invariant.same at c.in_err-mode.ensures.gives in
    let this = chain_fails (one_mode d c.args.kinds) bytes c.args.kinds c.loop.counter at q x s error c.loop-test.true one in
    rw (p.1, p.2) (rw c.loop.invariant.read at this)

pub loop-preserved : goal.loop-preserved
loop-preserved g c =
    let d = g.D.Decoder.meaning in
    let bytes = bytes_of c.args.bits.now in
    let x = patches_of c.loop.growing in
    let s = c.loop.decoder in
    let y = patches_of c.mode.new.growing in
    let t = c.mode.new.decoder in
    let at = position_of c.loop.bits in
    let q = position_of c.mode.new.bits in
    let one = rw c.loop.invariant.same at c.in_ok-mode.ensures.gives in
    record {
      same = c.mode.ensures.bytes ∙ c.loop.invariant.same;
      clusters = ap (λ (xs : List ℕ). length xs) c.in_ok-mode.ensures.clusters ∙ c.loop.invariant.clusters;
      read = sym (chain_step (one_mode d c.args.kinds) bytes c.args.kinds c.loop.counter at q x y s t c.loop-test.true one) ∙ c.loop.invariant.read;
    }

pub returns-clause-gives : goal.returns-clause-gives
returns-clause-gives g c =
    let d = g.D.Decoder.meaning in
    let x = patches_of c.loop.growing in
    let s = c.loop.decoder in
    let end = chain_ends (one_mode d c.args.kinds) (bytes_of c.args.bits.now) c.args.kinds c.loop.counter (position_of c.loop.bits) x s c.loop-test.false in
    sym c.loop.invariant.read ∙ end
