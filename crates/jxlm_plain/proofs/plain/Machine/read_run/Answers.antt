use Rattle.std.proofs.Common.{◌≡◌, ◌<◌, length}
use Rattle.std.proofs.lemmas.List.Elements.{All-contains}
use Rattle.jxlm_bits.specs.Bits.{bytes_of, position_of}
use Rattle.jxlm_plain.specs.Plain.{code_of}
use Rattle.jxlm_plain.proofs.PlainGives.{run_given, code_read}
use Rattle.jxlm_plain.proofs.plain.Machine.read_run.Goals as goal

pub returns-clause-gives : goal.returns-clause-gives
returns-clause-gives c =
    let within : c.args.cluster < length c.self.inside.codes.items =
    All-contains (λ k. k < length c.self.inside.codes.items) c.self.inside.clusters.items c.args.cluster c.self.invariant.1 (rw (← c.self.view_is) at c.requires.cluster) in
    let code : c.index-code.result.now ≡ code_of c.self.inside.codes.items c.args.cluster = code_read _ _ _ c.index-code.ensures within in
    rw (← c.self.view_is)
    (run_given c.self.inside.mode _ c.self.inside.codes.items c.self.inside.clusters.items _ c.run_of.result (bytes_of c.args.bits.now) (position_of c.args.bits.now) _
    c.args.cluster code c.run_of.ensures.gives)
