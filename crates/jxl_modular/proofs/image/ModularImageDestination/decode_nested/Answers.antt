use Rattle.std.specs.Prelude.{pos}
use Rattle.std.specs.Option.{option_copied}
use Rattle.std.proofs.Common.{◌≡◌, ◌∙◌, length}
use Rattle.std.proofs.lemmas.Result.{err_from_is_err_and}
use Rattle.jxlm_bits.specs.Bits.{bytes_of, position_of}
use Rattle.jxlm_chain.proofs.ShapeLaws.{shape_kept}
use Rattle.jxl_modular.proofs.Laid.{coded_sizes, same_but_store, still_laid}
use Rattle.jxl_modular.proofs.NestedImage.{nested_ends, nested_fills, nested_gives, nested_narrow, nested_outside, not_begun}
use Rattle.jxl_modular.proofs.image.ModularImageDestination.decode_nested.Goals as goal

pub pieces-requires-clause-sides : goal.pieces-requires-clause-sides
pieces-requires-clause-sides g c = coded_sizes _ c.self.invariant.laid

pub returns-in_err-pieces-clause-gives : goal.returns-in_err-pieces-clause-gives
returns-in_err-pieces-clause-gives g c =
    let p = err_from_is_err_and c.from_residual.result c.from_residual.ensures.1 in
    rw (p.1, p.2, ← c.self.view_is)
    (not_begun _ c.self.invariant.laid c.args.passes.now c.args.part g.D.Decoder.meaning g.S.Sealed.width g.S.Sealed.to_int (g.S.Sealed.from_int (pos 0)) (option_copied c.args.global) (bytes_of c.args.bits.now) (position_of c.args.bits.now)
    c.args.stream.index c.args.stream.allow_partial _ (position_of c.args.bits.now) c.args.steps.now tt)

pub parse-requires-clause-narrow : goal.parse-requires-clause-narrow
parse-requires-clause-narrow g c =
    let are = c.in_ok-pieces.ensures in
    rw are.channels (nested_narrow _ c.self.invariant.laid c.args.passes.now c.args.part)

pub parse-requires-clause-ends : goal.parse-requires-clause-ends
parse-requires-clause-ends g c =
    let are = c.in_ok-pieces.ensures in
    rw are.regions (nested_ends _ c.self.invariant.laid c.args.passes.now c.args.part)

pub returns-in_err-nested-clause-gives : goal.returns-in_err-nested-clause-gives
returns-in_err-nested-clause-gives g c =
    let p = err_from_is_err_and c.from_residual-in_err-nested.result c.from_residual-in_err-nested.ensures.1 in
    let are = c.in_ok-pieces.ensures in
    rw (p.1, p.2, ← c.self.view_is)
    (not_begun _ c.self.invariant.laid c.args.passes.now c.args.part g.D.Decoder.meaning g.S.Sealed.width g.S.Sealed.to_int (g.S.Sealed.from_int (pos 0)) (option_copied c.args.global) (bytes_of c.args.bits.now) (position_of c.args.bits.now)
    c.args.stream.index c.args.stream.allow_partial _ (position_of c.parse.new.bits) c.args.steps.now (rw are.channels at c.in_err-nested.ensures.err))

pub decode-requires-clause-can : goal.decode-requires-clause-can
decode-requires-clause-can g c κs within =
    let are = c.in_ok-pieces.ensures in
    let buffers : c.len.result ≡ length c.self.inside.store.items = c.len.ensures ∙ c.self.inside.store.ok.0 in
    let is = rw (are.channels, are.regions, buffers) at c.in_ok-nested.ensures.ok in
    nested_fills _ c.self.invariant.laid c.args.passes.now c.args.part g.D.Decoder.meaning g.S.Sealed.width g.S.Sealed.to_int (g.S.Sealed.from_int (pos 0)) (option_copied c.args.global) (bytes_of c.args.bits.now) (position_of c.args.bits.now)
    c.args.stream.index c.args.stream.allow_partial c.in_ok-nested.nested (position_of c.parse.new.bits) is

pub invariant_of-self : goal.invariant_of-self
invariant_of-self g c =
    let are = c.in_ok-pieces.ensures in
    let buffers : c.len.result ≡ length c.self.inside.store.items = c.len.ensures ∙ c.self.inside.store.ok.0 in
    let is = rw (are.channels, are.regions, buffers) at c.in_ok-nested.ensures.ok in
    let gives = nested_gives _ c.self.invariant.laid c.args.passes.now c.args.part g.D.Decoder.meaning g.S.Sealed.width g.S.Sealed.to_int (g.S.Sealed.from_int (pos 0)) (option_copied c.args.global) (bytes_of c.args.bits.now) (position_of c.args.bits.now)
    c.args.stream.index c.args.stream.allow_partial c.in_ok-nested.nested (position_of c.parse.new.bits) is c.decode.result c.decode.new.store.items (position_of c.decode.new.bits) c.args.steps.now c.decode.new.steps (rw c.in_ok-nested.ensures.bytes at c.decode.ensures.gives) in
    let outside = nested_outside _ c.self.invariant.laid c.args.passes.now c.args.part g.D.Decoder.meaning g.S.Sealed.width g.S.Sealed.to_int (g.S.Sealed.from_int (pos 0)) (option_copied c.args.global) (bytes_of c.args.bits.now) (position_of c.args.bits.now)
    c.args.stream.index c.args.stream.allow_partial c.decode.result c.decode.new.store.items (position_of c.decode.new.bits) c.args.steps.now c.decode.new.steps gives in
    record {
      laid = still_laid _ _ c.self.invariant.laid (same_but_store _ _ (shape_kept _ c.self.inside.store.items c.decode.new.store.items outside));
      undos = c.self.invariant.undos;
    }

pub returns-clause-gives : goal.returns-clause-gives
returns-clause-gives g c =
    let are = c.in_ok-pieces.ensures in
    let buffers : c.len.result ≡ length c.self.inside.store.items = c.len.ensures ∙ c.self.inside.store.ok.0 in
    let is = rw (are.channels, are.regions, buffers) at c.in_ok-nested.ensures.ok in
    rw (← c.self.view_is)
    (nested_gives _ c.self.invariant.laid c.args.passes.now c.args.part g.D.Decoder.meaning g.S.Sealed.width g.S.Sealed.to_int (g.S.Sealed.from_int (pos 0)) (option_copied c.args.global) (bytes_of c.args.bits.now) (position_of c.args.bits.now)
    c.args.stream.index c.args.stream.allow_partial c.in_ok-nested.nested (position_of c.parse.new.bits) is c.decode.result c.decode.new.store.items (position_of c.decode.new.bits) c.args.steps.now c.decode.new.steps (rw c.in_ok-nested.ensures.bytes at c.decode.ensures.gives))

pub returns-clause-same : goal.returns-clause-same
returns-clause-same g c =
    let are = c.in_ok-pieces.ensures in
    let buffers : c.len.result ≡ length c.self.inside.store.items = c.len.ensures ∙ c.self.inside.store.ok.0 in
    let is = rw (are.channels, are.regions, buffers) at c.in_ok-nested.ensures.ok in
    let gives = nested_gives _ c.self.invariant.laid c.args.passes.now c.args.part g.D.Decoder.meaning g.S.Sealed.width g.S.Sealed.to_int (g.S.Sealed.from_int (pos 0)) (option_copied c.args.global) (bytes_of c.args.bits.now) (position_of c.args.bits.now)
    c.args.stream.index c.args.stream.allow_partial c.in_ok-nested.nested (position_of c.parse.new.bits) is c.decode.result c.decode.new.store.items (position_of c.decode.new.bits) c.args.steps.now c.decode.new.steps (rw c.in_ok-nested.ensures.bytes at c.decode.ensures.gives) in
    let outside = nested_outside _ c.self.invariant.laid c.args.passes.now c.args.part g.D.Decoder.meaning g.S.Sealed.width g.S.Sealed.to_int (g.S.Sealed.from_int (pos 0)) (option_copied c.args.global) (bytes_of c.args.bits.now) (position_of c.args.bits.now)
    c.args.stream.index c.args.stream.allow_partial c.decode.result c.decode.new.store.items (position_of c.decode.new.bits) c.args.steps.now c.decode.new.steps gives in
    rw (← c.self.view_is)
    (record {
      cells = same_but_store _ _ (shape_kept _ c.self.inside.store.items c.decode.new.store.items outside);
      outside = outside;
    })
