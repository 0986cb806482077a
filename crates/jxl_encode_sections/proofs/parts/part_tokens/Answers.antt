use Rattle.std.proofs.Common.{List, sym, subst}
use Rattle.jxl_coding.specs.declared.decoder.EntropyDecoder.{EntropyDecoder}
use Rattle.jxlm_base.specs.Grid.{Grid}
use Rattle.jxlm_base.specs.Regions.{grids_in, store_meanings}
use Rattle.jxlm_encode_tokens.specs.Tokens.{AreClusteredTokensOf}
use Rattle.jxlm_samples.specs.Part.{cells_of}
use Rattle.jxlm_samples.specs.Placed.{PartLies, part_placed}
use Rattle.jxlm_samples.specs.declared.part.PlacedPart.{PlacedPart}
use Rattle.jxlm_transform.specs.Channels.{regions}
use Rattle.jxl_encode_sections.proofs.PartCells.{part_lies, tokens_in}
use Rattle.jxl_encode_sections.proofs.parts.part_tokens.Goals as goal

pub clustered_tokens-requires-clause-lies : goal.clustered_tokens-requires-clause-lies
clustered_tokens-requires-clause-lies g c κs within =
    let placed : PlacedPart EntropyDecoder = record { channels = c.deref.result; config = c.args.config; weights = c.default.result; stream_index = c.args.stream_index } in
    subst (λ (gs : List (Grid g.row.S.Denot)). PartLies placed gs) (sym c.deref-2.ensures.value)
    (part_lies {D = EntropyDecoder} g.S.Sealed.to_int c.args.group_dim c.args.passes.now c.args.coded.now.channels c.args.coded.now.store.items c.args.part placed c.in_ok-channels.channels.items c.deref.ensures.value
    c.in_ok-channels.ensures c.default.ensures)

pub returns : goal.returns
returns g c =
    let placed : PlacedPart EntropyDecoder = record { channels = c.deref.result; config = c.args.config; weights = c.default.result; stream_index = c.args.stream_index } in
    tokens_in {D = EntropyDecoder} g.S.Sealed.to_int c.args.group_dim c.args.passes.now c.args.coded.now.channels c.args.coded.now.store.items c.args.part placed c.in_ok-channels.channels.items c.deref.ensures.value
    c.in_ok-channels.ensures c.default.ensures g.S.Sealed.width c.in_ok-tokens.tokens.items
    (subst (λ (gs : List (Grid g.row.S.Denot)). AreClusteredTokensOf g.S.Sealed.width (part_placed placed) (cells_of (grids_in (regions placed.channels.now) (store_meanings g.S.Sealed.to_int gs))) c.in_ok-tokens.tokens.items)
    c.deref-2.ensures.value c.in_ok-tokens.ensures)
