use Rattle.std.proofs.Common.{◌≡◌, ◌-◌, ◌/◌, ◌<◌, ◌≤◌, length, get_or, Some, FitsSigned, sym, ap, subst, ◌∙◌, refl, arith, rules}
use Rattle.std.specs.Prelude.{map}
use Rattle.std.specs.List.{slice_get}
use Rattle.std.specs.Option.{option_map}
use Rattle.std.specs.Int.{w32, int_wrap}
use Rattle.std.proofs.lemmas.Int.{to_z-of_z}
use Rattle.std.proofs.lemmas.List.{length-map}
use Rattle.std.proofs.lemmas.Option.{slice_get-map}
use Rattle.jxlm_base.specs.Regions.{grid_of, store_meanings}
use Rattle.jxlm_predictor.specs.Holding.{surroundings}
use Rattle.jxlm_predictor.proofs.EarlierLaws.{earlier_holds}
use Rattle.jxlm_predictor.proofs.PropertiesLaws.{earlier-none, earlier-some, zero_wraps}
use Rattle.jxlm_predictor.proofs.StandingLaws.{reversed_at, stands_column, stands_earlier, stands_row}
use Rattle.jxlm_predictor.proofs.properties.farther_property.Goals as goal

pub returns-then-nearer-len : goal.returns-then-nearer-len
returns-then-nearer-len g c = λ s samples stands.
    let store = store_meanings g.S.Sealed.to_int c.args.store.now in
    let state = c.args.state.now in
    let r = c.index-region.result.now in
    let k = c.args.number / 4 in
    let f : FitsSigned w32 c.property_in.result = search rules in
    let long = stands_earlier state s samples stands in
    let near : k < length s.earlier = omega (arith, long, c.if-nearer-len.true, c.len.ensures) in
    let there : slice_get s.earlier k ≡ Some r = reversed_at s.earlier state.earlier.items state.earlier.len k r stands.same_earlier long near (subst (λ n. r ≡ get_or state.earlier.items (n - 1 - k) r) c.len-then-nearer-len.ensures c.index-region.ensures) in
    let found : slice_get (map (grid_of store) s.earlier) k ≡ Some (grid_of store r) = slice_get-map (grid_of store) s.earlier k ∙ ap (option_map (grid_of store)) there in
    to_z-of_z w32 c.property_in.result f ∙ c.property_in.ensures
    ∙ ap (int_wrap w32) (sym (earlier-some (surroundings s store samples) c.args.number (grid_of store r) found ∙ rw (stands_column state s samples stands, stands_row state s samples stands) refl))

pub returns-else-nearer-len : goal.returns-else-nearer-len
returns-else-nearer-len g c = λ s samples stands.
    let state = c.args.state.now in
    let store = store_meanings g.S.Sealed.to_int c.args.store.now in
    let long = stands_earlier state s samples stands in
    let past : length s.earlier ≤ c.args.number / 4 = omega (arith, long, c.if-nearer-len.false, c.len.ensures) in
    sym (ap (int_wrap w32) (earlier-none (surroundings s store samples) c.args.number (omega (arith, length-map s.earlier (grid_of store), past))) ∙ zero_wraps)

pub property_in-requires-clause-lies : goal.property_in-requires-clause-lies
property_in-requires-clause-lies g c κs within =
    let state = c.args.state.now in
    let v = c.index-region.result.now in
    let read = subst (λ n. v ≡ get_or state.earlier.items (n - 1 - c.args.number / 4) v) c.len-then-nearer-len.ensures c.index-region.ensures in
    let near : c.args.number / 4 < state.earlier.len = omega (arith, c.if-nearer-len.true, c.len.ensures) in
    (earlier_holds state c.args.store.now (c.args.number / 4) v c.requires near read).0

pub property_in-requires-clause-in_rows : goal.property_in-requires-clause-in_rows
property_in-requires-clause-in_rows g c κs within =
    let state = c.args.state.now in
    let v = c.index-region.result.now in
    let read = subst (λ n. v ≡ get_or state.earlier.items (n - 1 - c.args.number / 4) v) c.len-then-nearer-len.ensures c.index-region.ensures in
    let near : c.args.number / 4 < state.earlier.len = omega (arith, c.if-nearer-len.true, c.len.ensures) in
    (earlier_holds state c.args.store.now (c.args.number / 4) v c.requires near read).1

pub property_in-requires-clause-column : goal.property_in-requires-clause-column
property_in-requires-clause-column g c κs within =
    let state = c.args.state.now in
    let v = c.index-region.result.now in
    let read = subst (λ n. v ≡ get_or state.earlier.items (n - 1 - c.args.number / 4) v) c.len-then-nearer-len.ensures c.index-region.ensures in
    let near : c.args.number / 4 < state.earlier.len = omega (arith, c.if-nearer-len.true, c.len.ensures) in
    (earlier_holds state c.args.store.now (c.args.number / 4) v c.requires near read).2
