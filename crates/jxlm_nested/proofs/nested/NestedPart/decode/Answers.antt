use Rattle.std.proofs.Common.{◌≡◌, ◌∙◌, ◌++◌, ap, length, pos, refl, take}
use Rattle.std.proofs.lemmas.List.{with_items_is}
use Rattle.jxlm_bits.specs.Bits.{bytes_of, position_of}
use Rattle.jxlm_chain.specs.Placed.{sides_in}
use Rattle.jxlm_nested.specs.Zeros.{zeros}
use Rattle.jxlm_nested.specs.NestedParts.{with_own_tables}
use Rattle.jxlm_nested.proofs.NestedFills.{filled_in, no_tables}
use Rattle.jxlm_nested.proofs.nested.NestedPart.decode.Goals.{in-Ok, in-Err}
use Rattle.jxlm_nested.proofs.nested.NestedPart.decode.Goals as goal

pub returns-clause-gives : goal.returns-clause-gives
returns-clause-gives g c =
    let zero = g.S.Sealed.from_int (pos 0) in
    let old = c.args.store.now.items in
    let cut : c.truncate.new.self.items ≡ take (length old) c.match-add_tables.store.items =
    c.truncate.ensures.items ∙ ap (λ k. take k c.match-add_tables.store.items) (c.len-own.ensures ∙ c.args.store.now.ok.0) in
    elim c.match-add_tables.branch [
      | in-Ok b ↦
          let tables : b.deref_mut.result.now ≡ with_own_tables zero c.args.self.now old =
          b.deref_mut.ensures.value ∙ b.in-Ok.ensures.ok ∙ ap (λ rs. old ++ zeros zero (sides_in rs)) c.deref.ensures.value in
          let same : c.match-add_tables.store.items ≡ b.fill-result.new.store =
          rw b.store-is (with_items_is c.add_tables.new.store b.fill-result.new.store (b.fill-result.auto.store ∙ b.deref_mut.ensures.len)) in
          rw (b.result-is, b.steps-is, b.bits-is)
          (filled_in g.D.Decoder.meaning g.S.Sealed.width g.S.Sealed.to_int (bytes_of c.args.bits.now) c.args.stream.index (position_of c.args.bits.now) c.args.self.now c.args.stream.allow_partial (position_of b.fill-result.new.bits) c.args.steps.now
          b.fill-result.new.steps zero c.args.bit_depth old c.truncate.new.self.items b.fill-result.result b.deref_mut.result.now b.fill-result.new.store c.match-add_tables.store.items tables
          b.fill-result.ensures.gives same cut)
      | in-Err b ↦
          let same : c.match-add_tables.store.items ≡ c.add_tables.new.store.items = rw b.store-is refl in
          rw (b.result-is, b.steps-is, b.bits-is)
          (no_tables g.D.Decoder.meaning g.S.Sealed.width g.S.Sealed.to_int (bytes_of c.args.bits.now) c.args.stream.index (position_of c.args.bits.now) c.args.self.now c.args.stream.allow_partial (position_of c.args.bits.now) c.args.steps.now
          c.args.steps.now zero c.args.bit_depth old c.truncate.new.self.items b.in-Err.e b.in-Err.ensures.err (cut ∙ ap (λ gs. take (length old) gs) same ∙ c.add_tables.ensures.cut) refl)
    ]
