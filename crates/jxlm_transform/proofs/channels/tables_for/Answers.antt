use Rattle.std.proofs.Common.{◌∙◌, sym, refl}
use Rattle.jxlm_transform.specs.Params.{has_deltas}
use Rattle.jxlm_transform.proofs.PlacedLists.{any_map}
use Rattle.jxlm_transform.proofs.channels.tables_for.Goals as goal

pub returns-then-ask_for_deltas : goal.returns-then-ask_for_deltas
returns-then-ask_for_deltas c = rw (any_map (λ c. has_deltas c.palette_tables) (λ p. p.info) c.args.channels.now ∙ sym c.ask_for_deltas.ensures ∙ c.if-ask_for_deltas.true) refl

pub returns-else-ask_for_deltas : goal.returns-else-ask_for_deltas
returns-else-ask_for_deltas c = rw (any_map (λ c. has_deltas c.palette_tables) (λ p. p.info) c.args.channels.now ∙ sym c.ask_for_deltas.ensures ∙ c.if-ask_for_deltas.false) refl
