use Rattle.jxl_modular.proofs.Laid.{same_but_store, still_laid}
use Rattle.jxl_modular.proofs.LayerLaws.{held_fill, other_count, other_lie}
use Rattle.jxl_modular.proofs.LayerUndone.{finish_only, finish_same, finish_shape}
use Rattle.jxl_modular.proofs.image.ModularImageDestination.finish_layer.Goals as goal

pub undo_with-requires-clause-can : goal.undo_with-requires-clause-can
undo_with-requires-clause-can g c κs within =
    let stands = rw (← c.header.view_is, ← c.self.view_is) at c.requires in
    held_fill c.header.inside.part c.header.inside.given.items c.header.inside.tables.items c.header.invariant c.self.inside.store.items stands.lie stands.count c.self.invariant.laid.narrow_store

pub invariant_of-self : goal.invariant_of-self
invariant_of-self g c =
    let shape = finish_shape g.S.Sealed.to_int g.S.Sealed.width _ _ c.self.inside.store.items c.header.inside.tables.items c.undo_with.new.store.items c.undo_with.result c.undo_with.ensures.undoes c.undo_with.ensures.unchanged in
    record {
      laid = still_laid _ _ c.self.invariant.laid (same_but_store _ _ shape);
      undos = c.self.invariant.undos;
    }

pub returns-clause-only : goal.returns-clause-only
returns-clause-only g c =
    let stands = rw (← c.header.view_is, ← c.self.view_is) at c.requires in
    rw (← c.header.view_is, ← c.self.view_is)
    (finish_only c.header.inside.part c.header.inside.given.items c.header.inside.tables.items c.header.invariant _ _ stands c.self.invariant.laid.narrow_store g.S.Sealed.to_int g.S.Sealed.width
    c.undo_with.result c.undo_with.ensures.undoes)

pub returns-clause-same : goal.returns-clause-same
returns-clause-same g c =
    let stands = rw (← c.header.view_is, ← c.self.view_is) at c.requires in
    let shape = finish_shape g.S.Sealed.to_int g.S.Sealed.width _ _ c.self.inside.store.items c.header.inside.tables.items c.undo_with.new.store.items c.undo_with.result c.undo_with.ensures.undoes c.undo_with.ensures.unchanged in
    rw (← c.header.view_is, ← c.self.view_is)
    (finish_same c.header.inside.part c.header.inside.given.items c.header.inside.tables.items c.header.invariant _ _ stands c.self.invariant.laid.narrow_store g.S.Sealed.to_int g.S.Sealed.width
    c.undo_with.result (same_but_store _ _ shape) c.undo_with.ensures.undoes)

pub returns-clause-stands : goal.returns-clause-stands
returns-clause-stands g c =
    let stands = rw (← c.header.view_is, ← c.self.view_is) at c.requires in
    let shape = finish_shape g.S.Sealed.to_int g.S.Sealed.width _ _ c.self.inside.store.items c.header.inside.tables.items c.undo_with.new.store.items c.undo_with.result c.undo_with.ensures.undoes c.undo_with.ensures.unchanged in
    rw (← c.header.view_is)
    (record {
      lie = other_lie c.header.inside.part c.header.inside.given.items c.header.inside.tables.items c.header.invariant c.self.inside.store.items stands.lie stands.count c.self.invariant.laid.narrow_store
          c.undo_with.new.store.items shape;
      count = other_count c.header.inside.part c.header.inside.given.items c.header.inside.tables.items c.header.invariant c.self.inside.store.items stands.lie stands.count c.self.invariant.laid.narrow_store
          c.undo_with.new.store.items shape;
    })
