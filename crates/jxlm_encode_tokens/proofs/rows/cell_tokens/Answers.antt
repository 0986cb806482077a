use Rattle.std.proofs.Common.{◌≡◌, ◌+◌, ◌*◌, ◌<◌, take, arith, refl, sym, ap, ◌∙◌, subst, ℕ, ℤ, List}
use Rattle.std.proofs.Math.ListN.{length-set}
use Rattle.jxlm_base.specs.Regions.{grid_of, store_meanings}
use Rattle.jxlm_tree.specs.FlatTree.{FlatTree}
use Rattle.jxlm_tree.specs.Paths.{Gives}
use Rattle.jxlm_tree.specs.Tree.{AllLeaves}
use Rattle.jxlm_predictor.specs.Standing.{StandsAt}
use Rattle.jxlm_samples.specs.ChannelSettings.{setting_of}
use Rattle.jxlm_samples.specs.Lines.{region_on}
use Rattle.jxlm_samples.specs.Part.{cells_before}
use Rattle.jxlm_samples.specs.Reading.{part_of}
use Rattle.jxlm_samples.proofs.CellLaws.{flat_at, flat_there, sums_at}
use Rattle.jxlm_encode_tokens.specs.Inner.Walks.{IsAtToken, all_cells}
use Rattle.jxlm_encode_tokens.specs.Tokens.{MultipliesByOne}
use Rattle.jxlm_encode_tokens.specs.Inner.Forms.{IsCellToken}
use Rattle.jxlm_encode_tokens.proofs.Cells.{is_inner, is_ready, own_more, rows_held, same_room_twice, token_is, value_is, within_at}
use Rattle.jxlm_encode_tokens.proofs.Lists.{written}
use Rattle.jxlm_encode_tokens.proofs.rows.cell_tokens.Goals as goal

pub bounds-line-line : goal.bounds-line-line
bounds-line-line g c = flat_there c.args.line.now.coding.now c.requires.line.line.here.walked.coding c.args.line.now.i c.requires.line.line.here.channel

pub next_token-requires-clause-ready : goal.next_token-requires-clause-ready
next_token-requires-clause-ready g c κs within =
    let l = c.args.line.now in
    let is = c.requires.line.line in
    is_ready l.coding.now is.here.walked.coding l.i is.here.channel g.S.Sealed.to_int l.store.now c.loop-x.x l.y
    (omega (arith, c.loop-x-test.true, c.requires.in_row)) is.below c.loop-x.walk.state c.loop-x.invariant.at.stands is.here.walked.lie

pub next_token-requires-clause-inner : goal.next_token-requires-clause-inner
next_token-requires-clause-inner g c κs within edge =
    let l = c.args.line.now in
    let is = c.requires.line.line in
    let away = c.requires.inner edge c.loop-x.x c.loop-x.invariant.from c.loop-x-test.true in
    is_inner l.coding.now is.here.walked.coding l.i is.here.channel g.S.Sealed.to_int l.store.now c.loop-x.x l.y
    (omega (arith, c.loop-x-test.true, c.requires.in_row)) is.below c.loop-x.walk.state c.loop-x.invariant.at.stands (away.rows_above, away.columns_left, away.columns_right)

pub next_token-requires-clause-rows : goal.next_token-requires-clause-rows
next_token-requires-clause-rows g c κs within =
    let l = c.args.line.now in
    let is = c.requires.line.line in
    rows_held l.coding.now is.here.walked.coding l.i is.here.channel g.S.Sealed.to_int l.store.now c.loop-x.x l.y
    (omega (arith, c.loop-x-test.true, c.requires.in_row)) is.below c.loop-x.walk.state c.loop-x.invariant.at.stands c.args.rows.now c.requires.line.are_rows

pub next_token-requires-clause-ones : goal.next_token-requires-clause-ones
next_token-requires-clause-ones g c κs within =
    let is = c.requires.line.line in
    subst (λ (t : FlatTree). AllLeaves MultipliesByOne t.tree) (sym (flat_at c.args.line.now.coding.now is.here.walked.coding c.args.line.now.i is.here.channel _)) is.here.walked.ones

pub next_token-requires-clause-gives : goal.next_token-requires-clause-gives
next_token-requires-clause-gives g c κs within =
    let is = c.requires.line.line in
    subst (λ t. Gives t c.args.line.now.path) (sym (flat_at c.args.line.now.coding.now is.here.walked.coding c.args.line.now.i is.here.channel _)) is.gives

pub next_token-requires-clause-sums : goal.next_token-requires-clause-sums
next_token-requires-clause-sums g c κs within = λ yes.
    let is = c.requires.line.line in
    sums_at c.args.line.now.coding.now is.here.walked.coding c.args.line.now.i is.here.channel _ (sym is.clamped ∙ yes)

pub loop-x-init : goal.loop-x-init
loop-x-init g c = record {
  from = omega arith;
  at = c.requires.at;
  room = record { same_room = refl; same_earlier_room = refl; same_weights = refl };
}

pub loop-x-preserved : goal.loop-x-preserved
loop-x-preserved g c =
    let to_int = g.S.Sealed.to_int in
    let w = g.S.Sealed.width in
    let form = g.T.TokenForm.form in
    let l = c.args.line.now in
    let is = c.requires.line.line in
    let coding = l.coding.now in
    let ok = is.here.walked.coding in
    let i = l.i in
    let li = is.here.channel in
    let store = l.store.now in
    let x = c.loop-x.x in
    let y = l.y in
    let wide = (region_on l).width in
    let px : x < wide = omega (arith, c.loop-x-test.true, c.requires.in_row) in
    let qy = is.below in
    let at = c.loop-x.invariant.at in
    let v = c.index-row-x.result in
    let value = ap to_int c.index-row-x.is ∙ value_is coding ok i li to_int store x y px qy c.args.row.now v c.requires.line.has_cells in
    let from = c.loop-x.invariant.from in
    let long = at.long in
    let j : ℕ = y * wide + x in
    let own : List ℤ = (grid_of (store_meanings to_int store) (region_on l)).cells in
    let next = c.next_token.ensures.token (setting_of coding i) (take j own) at.stands in
    let here = token_is coding ok i li to_int store j (within_at coding ok i li to_int store x y px qy) form w _ (to_int v) c.next_token.result
    (flat_at coding ok i li _) value (rw is.clamped at next) in
    record {
      from = omega (arith, from);
      at = record {
        long = length-set _ _ _ ∙ long;
        tokens = written (λ k t. IsCellToken form w (part_of coding) (all_cells coding w to_int store) (cells_before (part_of coding).channels i + (y * wide + k)) t)
            c.loop-x.out x c.next_token.result (omega (arith, long, px)) at.tokens here;
        stands = subst (StandsAt c.next_token.new.walk.state (setting_of coding i)) (own_more coding ok i li to_int store x y px qy (to_int v) value)
            (c.next_token.ensures.stands (setting_of coding i) (take j own) at.stands);
      };
      room = same_room_twice _ _ _ c.loop-x.invariant.room c.next_token.ensures.room;
    }

pub returns-clause-at : goal.returns-clause-at
returns-clause-at g c =
    let all : c.loop-x.x ≡ c.args.to = let end = c.loop-x.auto.x-end in omega (arith, end, c.requires.order, c.loop-x-test.false) in
    subst (λ n. IsAtToken c.args.line.now g.T.TokenForm.form g.S.Sealed.width g.S.Sealed.to_int n c.loop-x.out c.loop-x.walk.state) all c.loop-x.invariant.at
