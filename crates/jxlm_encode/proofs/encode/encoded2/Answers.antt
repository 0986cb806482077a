use Rattle.std.proofs.Common.{ℕ, ◌^◌, ◌<◌, List, map, ◌∙◌, subst}
use Rattle.std.specs.List.{All}
use Rattle.jxlm_base.specs.Regions.{store_meanings}
use Rattle.jxlm_encode_write.specs.Headers.{transform_of}
use Rattle.jxlm_encode.specs.Bytes.{AreWritten2}
use Rattle.jxlm_encode.proofs.Formats.{bytes_second}
use Rattle.jxlm_encode.proofs.encode.encoded2.Goals as goal

pub returns-clause-ok : goal.returns-clause-ok
returns-clause-ok g c =
    let ts = map transform_of c.args.transforms.now in
    let image = store_meanings g.S.Sealed.to_int c.args.channels.now in
    let tokens = c.in_ok-nodes.field-0.samples.items in
    let own_fits = subst (All (λ t. t < 2 ^ 32)) (c.deref.ensures.value ∙ c.in_ok-nodes.ensures.nodes) c.fit_32_bits.ensures in
    let fits = subst (All (λ t. t < 2 ^ 32)) c.deref-2.ensures.value c.fit_32_bits-2.ensures in
    let written = subst (λ (tokens : List ℕ). AreWritten2 ts c.args.tree.now tokens c.in_ok-written2.field-0.items) c.deref-4.ensures.value c.in_ok-written2.ensures in
    (bytes_second ts c.args.tree.now image g.S.Sealed.width tokens c.in_ok-written2.field-0.items c.in_ok-nodes.ensures.ok own_fits fits written).encoded

pub returns-clause-bytes : goal.returns-clause-bytes
returns-clause-bytes g c =
    let ts = map transform_of c.args.transforms.now in
    let image = store_meanings g.S.Sealed.to_int c.args.channels.now in
    let tokens = c.in_ok-nodes.field-0.samples.items in
    let own_fits = subst (All (λ t. t < 2 ^ 32)) (c.deref.ensures.value ∙ c.in_ok-nodes.ensures.nodes) c.fit_32_bits.ensures in
    let fits = subst (All (λ t. t < 2 ^ 32)) c.deref-2.ensures.value c.fit_32_bits-2.ensures in
    let written = subst (λ (tokens : List ℕ). AreWritten2 ts c.args.tree.now tokens c.in_ok-written2.field-0.items) c.deref-4.ensures.value c.in_ok-written2.ensures in
    bytes_second ts c.args.tree.now image g.S.Sealed.width tokens c.in_ok-written2.field-0.items c.in_ok-nodes.ensures.ok own_fits fits written
