use Rattle.std.proofs.Common.{◌≡◌, ◌/◌, ◌<◌, ℕ, length, get_or, Some, FitsSigned, sym, ap, ◌∙◌, refl, arith, rules}
use Rattle.std.specs.Prelude.{map}
use Rattle.std.specs.List.{slice_get}
use Rattle.std.specs.Option.{option_map}
use Rattle.std.specs.Int.{w32, int_wrap}
use Rattle.std.proofs.lemmas.Int.{to_z-of_z}
use Rattle.std.proofs.lemmas.Option.{slice_get-get_or, slice_get-map}
use Rattle.jxlm_base.specs.Regions.{grid_of, region, store_meanings}
use Rattle.jxlm_base.specs.declared.subgrid.Region.{Region}
use Rattle.jxlm_predictor.specs.EarlierRows.{IsRowOf}
use Rattle.jxlm_predictor.specs.Holding.{IsCurrent, rows_of, state_of, store_of, surroundings}
use Rattle.jxlm_predictor.specs.Standing.{column_of}
use Rattle.jxlm_predictor.specs.declared.earlier.EarlierRow.{EarlierRow}
use Rattle.jxlm_predictor.specs.declared.properties.Properties.{Properties}
use Rattle.jxlm_predictor.proofs.EarlierLaws.{has_column, of_setting}
use Rattle.jxlm_predictor.proofs.PropertiesLaws.{earlier-some}
use Rattle.jxlm_predictor.proofs.StandingLaws.{stands_column, stands_row}
use Rattle.jxlm_predictor.proofs.properties.Properties.of_earlier.Goals as goal

-- the row of the earlier channel of this number has the state's column, and so has the row above it
held_column : {S : Type 0} (p : Properties S) → IsCurrent p → (n : ℕ) (e : EarlierRow S) → n / 4 < length (rows_of p) →
    (column_of (state_of p) < length (get_or (rows_of p) (n / 4) e).row.now) × (column_of (state_of p) < length (get_or (rows_of p) (n / 4) e).above.now)
held_column p current n e lt = has_column (state_of p) (store_of p) (rows_of p) current.ready current.rows_are (n / 4) e lt

pub returns-then-nearer-self : goal.returns-then-nearer-self
returns-then-nearer-self g c = λ s samples stands.
    let grids = store_meanings g.S.Sealed.to_int c.args.self.now.store.now in
    let state = c.args.self.now.state.now in
    let rows = c.args.self.now.rows.now in
    let k = c.args.number / 4 in
    let none : Region = region 0 0 0 0 0 in
    let r : Region = get_or s.earlier k none in
    let f : FitsSigned w32 c.property.result = search rules in
    let are = of_setting state s samples stands c.args.self.now.store.now rows c.requires.rows_are in
    let few = are.few in
    let held : k < length rows = omega arith in
    let near : k < length s.earlier = omega (arith, few, held) in
    let is : IsRowOf r c.args.self.now.store.now state.y (get_or rows k c.index-self-nearer.result) = are.each k c.index-self-nearer.result none held in
    let found : slice_get (map (grid_of grids) s.earlier) k ≡ Some (grid_of grids r) = slice_get-map (grid_of grids) s.earlier k ∙ ap (option_map (grid_of grids)) (slice_get-get_or s.earlier k none near) in
    to_z-of_z w32 c.property.result f ∙ c.property.ensures r c.args.self.now.store.now is
    ∙ ap (int_wrap w32) (sym (earlier-some (surroundings s grids samples) c.args.number (grid_of grids r) found ∙ rw (stands_column state s samples stands, stands_row state s samples stands) refl))

pub property-requires-clause-column : goal.property-requires-clause-column
property-requires-clause-column g c κs within = (held_column c.args.self.now c.requires c.args.number c.index-self-nearer.result (omega arith)).0

pub property-requires-clause-above : goal.property-requires-clause-above
property-requires-clause-above g c κs within = (held_column c.args.self.now c.requires c.args.number c.index-self-nearer.result (omega arith)).1
