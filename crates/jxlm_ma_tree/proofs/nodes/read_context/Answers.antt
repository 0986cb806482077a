use Rattle.std.proofs.Common.{◌∙◌, ℕ, List, Some, Err, ap, sym}
use Rattle.std.proofs.lemmas.List.Elements.{Contains-get_or}
use Rattle.jxlm_bits.specs.Bits.{position_of}
use Rattle.jxlm_bits.specs.ErrorKind.{OfDecoder}
use Rattle.jxlm_bits.specs.declared.error.Error.TheVariants.{Decoder}
use Rattle.jxlm_ma_tree.specs.TreeReading.{read_context, through}
use Rattle.jxlm_ma_tree.proofs.StepErrors.{no_value, step_fails}
use Rattle.jxlm_ma_tree.proofs.nodes.read_context.Goals as goal

pub returns-in_err-read_varint-clause-gives : goal.returns-in_err-read_varint-clause-gives
returns-in_err-read_varint-clause-gives g c =
    let e = c.in_err-read_varint.field-0.0 in
    let given = c.in_err-read_varint.ensures.gives in
    step_fails (λ (x : ℕ). x) c.from_residual.result (Decoder e) c.args.decoder.now c.read_varint.new.self c.args.bits.now c.read_varint.new.bits
    (λ (bytes : List ℕ). read_context g.D.Decoder.meaning bytes c.args.context) c.from_residual.ensures.0 c.from_residual.ensures.1
    (ap (through (Some (position_of c.args.bits.now))) given.0 ∙ ap (λ (p : ℕ). Err (record { error = OfDecoder e; position = Some p })) (sym given.2))

pub returns-in_err-read_varint-clause-clusters : goal.returns-in_err-read_varint-clause-clusters
returns-in_err-read_varint-clause-clusters g c = no_value c.from_residual.result _ c.from_residual.ensures.0

pub returns-clause-gives : goal.returns-clause-gives
returns-clause-gives g c = ap (through (Some (position_of c.args.bits.now))) c.in_ok-read_varint.ensures.gives

pub returns-clause-clusters : goal.returns-clause-clusters
returns-clause-clusters g c =
    let within = Contains-get_or (g.D.Decoder.meaning.cluster_map c.args.decoder.now) c.args.context 0 c.requires in
    let keeps = g.met.D.Decoder.lawful.read_keeps _ _ _ _ _ _ within c.in_ok-read_varint.ensures.gives in
    keeps.clusters
