use Rattle.std.proofs.Common.{rules, ◌≡◌, ◌<◌, List, ◌++◌, take, drop, length, sym, ap, ◌∙◌, subst, arith}
use Rattle.std.proofs.lemmas.Grind.{common_steps}
use Rattle.jxlm_bits.specs.Bits.{bytes_of, position_of}
use Rattle.jxlm_samples.specs.Part.{cell_count}
use Rattle.jxlm_transform.specs.Channels.{infos}
use Rattle.jxlm_transform.specs.declared.channels.PlacedChannel.{PlacedChannel}
use Rattle.jxlm_samples.proofs.PartAnswers.{answers_empty}
use Rattle.jxlm_nested.specs.NestedParts.{head_of, regions_in}
use Rattle.jxlm_nested.specs.Starts.{coded_part}
use Rattle.jxlm_nested.proofs.PartFacts.{refilled}
use Rattle.jxlm_nested.proofs.nested.NestedPart.decode_with.Goals as goal

pub returns-then-not-have_samples-clause-answers : goal.returns-then-not-have_samples-clause-answers
returns-then-not-have_samples-clause-answers g c =
    answers_empty g.D.Decoder.meaning g.S.Sealed.width g.S.Sealed.to_int (bytes_of c.args.bits.now) (coded_part c.args.stream.index (head_of c.args.self.now) c.args.self.now.config) (regions_in c.args.self.now)
    c.args.self.now.config.decoder (c.args.store.now.items ++ c.args.tables.now.items) (position_of c.args.bits.now) c.args.partial.now c.args.stream.allow_partial c.args.steps.now c.requires.sizes
    (λ h. let t = c.if-not-have_samples.ensures.1 (subst (λ (ps : List PlacedChannel). 0 < cell_count (infos ps)) (sym c.deref.ensures.value) h) in cc)

pub returns-clause-answers : goal.returns-clause-answers
returns-clause-answers g c =
    let X = c.decode_placed-result.new.store in
    let count : length X ≡ length c.append.new.self.items = c.decode_placed-result.ensures.keeps.count ∙ ap length c.deref_mut.ensures.value in
    let whole : take c.append.new.self.len (X ++ drop (length X) c.append.new.self.items) ≡ X = refilled c.append.new.self.len X c.append.new.self.items c.append.new.self.ok.0 count in
    let joined : c.move_back.new.store.items ++ c.move_back.new.tables.items ≡ X = c.move_back.ensures.joined ∙ whole in
    let first : c.deref_mut.result.now ≡ c.args.store.now.items ++ c.args.tables.now.items = first_of (search rules, grind (arith, common_steps)) in
    rw joined (rw first at c.decode_placed-result.ensures.answers)
