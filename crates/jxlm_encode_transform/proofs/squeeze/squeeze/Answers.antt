use Rattle.std.proofs.Common.{[], ◌∷◌}
use Rattle.jxlm_encode_transform.proofs.Squeezed.{columns_undone, keeps_back, rows_undone}
use Rattle.jxlm_encode_transform.proofs.squeeze.squeeze.Goals as goal

pub returns-then-horizontal-clause-undone : goal.returns-then-horizontal-clause-undone
returns-then-horizontal-clause-undone g c = λ depth.
    rw c.if-horizontal.true (
      rows_undone g.S.Sealed.to_int g.S.Sealed.width c.args.region c.args.store.now c.squeeze_rows.new.store c.squeeze_rows.ensures,
      keeps_back (c.args.region ∷ []) c.args.store.now c.squeeze_rows.new.store c.requires.full c.squeeze_rows.ensures.keeps,
    )

pub returns-then-horizontal-clause-keeps : goal.returns-then-horizontal-clause-keeps
returns-then-horizontal-clause-keeps g c = c.squeeze_rows.ensures.keeps

pub returns-else-horizontal-clause-undone : goal.returns-else-horizontal-clause-undone
returns-else-horizontal-clause-undone g c = λ depth.
    rw c.if-horizontal.false (
      columns_undone g.S.Sealed.to_int g.S.Sealed.width c.args.region c.args.store.now c.squeeze_columns.new.store c.squeeze_columns.ensures,
      keeps_back (c.args.region ∷ []) c.args.store.now c.squeeze_columns.new.store c.requires.full c.squeeze_columns.ensures.keeps,
    )

pub returns-else-horizontal-clause-keeps : goal.returns-else-horizontal-clause-keeps
returns-else-horizontal-clause-keeps g c = c.squeeze_columns.ensures.keeps
