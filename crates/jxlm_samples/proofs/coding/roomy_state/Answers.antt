use Rattle.std.proofs.Common.{rules, tests, arith, length, ◌≡◌, Bool, if◌then◌else◌, Some, None, sym, ap, ◌∙◌}
use Rattle.std.specs.Option.{option_copied}
use Rattle.std.proofs.lemmas.Grind.{common_steps}
use Rattle.std.proofs.lemmas.Iterator.{YieldsList-from_slice}
use Rattle.std.proofs.lemmas.Iterator.Search.{any_from_yields_List}
use Rattle.jxlm_samples.specs.Reading.{are_weighted}
use Rattle.jxlm_samples.specs.declared.coding.ChannelTree.{ChannelTree}
use Rattle.jxlm_samples.proofs.coding.roomy_state.Goals.{then-any, else-any}
use Rattle.jxlm_samples.proofs.coding.roomy_state.Goals as goal

pub returns-clause-ok : goal.returns-clause-ok
returns-clause-ok g c =
    let row_long : length c.in_ok-row.row.items ≡ c.args.samples = grind (arith, common_steps, c.in_ok-row.was, c.vec.ensures.len) in
    let any : c.any.result ≡ are_weighted c.args.flats.now = any_from_yields_List (λ (t : ChannelTree). t.weighted) _ _ c.any.result c.any.ensures.ran (YieldsList-from_slice c.args.flats.now cc) (λ x b q k. search (rules, tests)) in
    let used : option_copied c.if-any.used ≡ (if are_weighted c.args.flats.now then Some c.args.weights.now else None) =
    elim c.if-any.branch [
      | then-any w ↦ ap option_copied w.used-is ∙ ap (λ (b : Bool). if b then Some c.args.weights.now else None) (sym w.if-any.true ∙ any)
      | else-any w ↦ ap option_copied w.used-is ∙ ap (λ (b : Bool). if b then Some c.args.weights.now else None) (sym w.if-any.false ∙ any)
    ] in
    record {
      widest_is = c.in_ok-predictor.ensures.room;
      earlier_is = c.in_ok-predictor.ensures.earlier_room;
      weights_is = c.in_ok-predictor.ensures.weights ∙ used;
      row_is = row_long;
    }
