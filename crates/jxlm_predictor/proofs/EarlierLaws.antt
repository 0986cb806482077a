-- Rows of earlier channels.
use Rattle.std.proofs.Common.{◌≡◌, ℕ, zero, suc, ℤ, ◌-◌, ◌<◌, ◌≤◌, List, [], ◌∷◌, length, reverse, get_or, take, ap, sym, subst, ◌∙◌, arith, length-take-le, get_or-take}
use Rattle.std.proofs.lemmas.List.{length-reverse, reverse-reverse}
use Rattle.std.proofs.lemmas.Option.{get_or_from_slice_get}
use Rattle.jxlm_base.specs.Grid.{Grid}
use Rattle.jxlm_base.specs.Regions.{Lies, region}
use Rattle.jxlm_base.specs.declared.subgrid.Region.{Region}
use Rattle.jxlm_predictor.specs.EarlierRows.{AreRowsOf, HoldRows, IsRowOf}
use Rattle.jxlm_weighted.specs.Neighbours.{row}
use Rattle.jxlm_predictor.specs.Standing.{HoldsRow, IsReady, Setting, StandsAt, column_of, earlier_held, row_of}
use Rattle.jxlm_predictor.specs.declared.earlier.EarlierRow.{EarlierRow}
use Rattle.jxlm_predictor.specs.declared.state.PredictorState.{PredictorState}
use Rattle.jxlm_predictor.proofs.StandingLaws.{reversed_at, stands_earlier, stands_earlier_held, stands_in_row, stands_row}

-- earlier channel k of a state
pub earlier_at : {S : Type 0} (state : PredictorState S) (k : ℕ) (v r : Region) → k < state.earlier.len → v ≡ get_or state.earlier.items (state.earlier.len - 1 - k) v → get_or (earlier_held state) k r ≡ v
earlier_at state k v r near read =
    let xs = reverse state.earlier.items in
    let back = sym (reverse-reverse state.earlier.items) in
    let long = state.earlier.ok.0 ∙ sym (length-reverse state.earlier.items) in
    get_or_from_slice_get xs k v r (reversed_at xs state.earlier.items state.earlier.len k v back long (omega (arith, long, near)) read)

-- its region lies in the store and holds the state's cell
pub earlier_holds : {S : Type 0} (state : PredictorState S) (store : List (Grid S)) (k : ℕ) (v : Region) → IsReady state store → k < state.earlier.len → v ≡ get_or state.earlier.items (state.earlier.len - 1 - k) v →
    Lies v store × (row_of state < v.height) × (column_of state < v.width)
earlier_holds state store k v ready near read =
    let s = ready.where_set in
    let long = stands_earlier state s ready.before ready.stands in
    let there : k < length s.earlier = omega (arith, long, near) in
    let same : get_or s.earlier k v ≡ v = ap (λ l. get_or l k v) (sym (stands_earlier_held state s ready.before ready.stands)) ∙ earlier_at state k v v near read in
    let holds = subst (λ r. HoldsRow r store s.width (row ready.before s.width)) same (ready.earlier_hold k v there) in
    (holds.lies, subst (λ y. y < v.height) (stands_row state s ready.before ready.stands) holds.below, subst (λ w. column_of state < w) (sym holds.as_wide) (stands_in_row state s ready.before ready.stands))

module _ {S : Type 0} (earlier : List Region) (store : List (Grid S)) (y : ℕ) where
  -- what a row of channel k must be, where it is one of the first `count`
  abbrev IsAt : ℕ → ℕ → EarlierRow S → Type 0
  IsAt count k e = (r : Region) → k < count → IsRowOf (get_or earlier k r) store y e

  -- no row is held
  pub no_rows : AreRowsOf earlier store y []
  no_rows = record { few = omega arith; each = λ k e r lt. absurd (omega arith) }

  module _ (a b c d : EarlierRow S) (count : ℕ) (most : count ≤ 4) (pa : IsAt count 0 a) (pb : IsAt count 1 b) (pc : IsAt count 2 c) (pd : IsAt count 3 d) where
    at_each : (k : ℕ) (e : EarlierRow S) → IsAt count k (get_or (a ∷ b ∷ c ∷ d ∷ []) k e)
    at_each zero e r lt = pa r lt
    at_each (suc zero) e r lt = pb r lt
    at_each (suc (suc zero)) e r lt = pc r lt
    at_each (suc (suc (suc zero))) e r lt = pd r lt
    at_each (suc (suc (suc (suc k)))) e r lt = absurd (omega arith)

    -- the first of four rows
    pub first_rows : count ≤ length earlier → AreRowsOf earlier store y (take count (a ∷ b ∷ c ∷ d ∷ []))
    first_rows some =
        let rows = a ∷ b ∷ c ∷ d ∷ [] in
        let long : length (take count rows) ≡ count = length-take-le count rows most in
        record {
          few = omega (arith, long, some);
          each = λ k e r lt.
              let small : k < count = omega (arith, long, lt) in
              subst (IsRowOf (get_or earlier k r) store y) (sym (get_or-take count rows k e small)) (at_each k e r small);
        }

-- rows that a state holds are rows of the channels that it was set for
module _ {S : Type 0} (state : PredictorState S) (s : Setting) (samples : List ℤ) (stands : StandsAt state s samples) (store : List (Grid S)) (rows : List (EarlierRow S)) where
  pub of_setting : HoldRows state store rows → AreRowsOf s.earlier store (row_of state) rows
  of_setting h = subst (λ l. AreRowsOf l store (row_of state) rows) (stands_earlier_held state s samples stands) h

  pub in_state : AreRowsOf s.earlier store (row_of state) rows → HoldRows state store rows
  in_state h = subst (λ l. AreRowsOf l store (row_of state) rows) (sym (stands_earlier_held state s samples stands)) h

-- each row that is held has the state's column
pub has_column : {S : Type 0} (state : PredictorState S) (store : List (Grid S)) (rows : List (EarlierRow S)) → IsReady state store → HoldRows state store rows → (k : ℕ) (e : EarlierRow S) → k < length rows →
    (column_of state < length (get_or rows k e).row.now) × (column_of state < length (get_or rows k e).above.now)
has_column state store rows ready held k e lt =
    let s = ready.where_set in
    let none : Region = region 0 0 0 0 0 in
    let h = of_setting state s ready.before ready.stands store rows held in
    let few = h.few in
    let there : k < length s.earlier = omega (arith, few, lt) in
    let is = h.each k e none lt in
    let wide = (ready.earlier_hold k none there).as_wide in
    let inside = ready.stands.rolls.in_row in
    let long = is.row_long in
    let above = is.above_long in
    (omega (arith, wide, inside, long), omega (arith, wide, inside, above))
