use Rattle.std.proofs.Common.{refl}
use Rattle.jxl_modular.proofs.Laid.{same_but_store, still_laid}
use Rattle.jxl_modular.proofs.LayerLaws.{decoded_left, decoded_outside, decoded_right, held_fill, other_count, other_lie, still_count, still_layer, still_lie}
use Rattle.jxl_modular.proofs.image.ModularImageDestination.decode_layer.Goals as goal

pub decode_with-requires-after_bounds : goal.decode_with-requires-after_bounds
decode_with-requires-after_bounds g c κs within =
    let stands = rw (← c.header.view_is, ← c.self.view_is) at c.requires in
    held_fill c.header.inside.part c.header.inside.given.items c.header.inside.tables.items c.header.invariant c.self.inside.store.items stands.lie stands.count c.self.invariant.laid.narrow_store

pub invariant_of-self : goal.invariant_of-self
invariant_of-self g c =
    let stands = rw (← c.header.view_is, ← c.self.view_is) at c.requires in
    let left = decoded_left c.header.inside.part c.header.inside.given.items c.header.inside.tables.items c.header.invariant c.self.inside.store.items stands.lie stands.count c.self.invariant.laid.narrow_store
    c.decode_with.new.store.items c.decode_with.new.tables.items c.decode_with.ensures.count c.decode_with.ensures.keeps in
    record {
      laid = still_laid _ _ c.self.invariant.laid (same_but_store _ _ left);
      undos = c.self.invariant.undos;
    }

pub invariant_of-header : goal.invariant_of-header
invariant_of-header g c =
    let stands = rw (← c.header.view_is, ← c.self.view_is) at c.requires in
    still_layer c.header.inside.part c.header.inside.given.items c.header.inside.tables.items c.header.invariant c.self.inside.store.items stands.lie stands.count c.self.invariant.laid.narrow_store
    c.decode_with.new.store.items c.decode_with.new.tables.items c.decode_with.ensures.count c.decode_with.ensures.keeps

pub returns-clause-gives : goal.returns-clause-gives
returns-clause-gives g c = rw (← c.header.view_is, ← c.self.view_is) c.decode_with.ensures.answers

pub returns-clause-same : goal.returns-clause-same
returns-clause-same g c =
    let stands = rw (← c.header.view_is, ← c.self.view_is) at c.requires in
    let left = decoded_left c.header.inside.part c.header.inside.given.items c.header.inside.tables.items c.header.invariant c.self.inside.store.items stands.lie stands.count c.self.invariant.laid.narrow_store
    c.decode_with.new.store.items c.decode_with.new.tables.items c.decode_with.ensures.count c.decode_with.ensures.keeps in
    rw (← c.header.view_is, ← c.self.view_is)
    (record {
      layer = record {
        head = refl;
        config = refl;
        given = refl;
        held = refl;
        coded = refl;
        buffers = refl;
        shape = decoded_right c.header.inside.part c.header.inside.given.items c.header.inside.tables.items c.header.invariant c.self.inside.store.items stands.lie stands.count c.self.invariant.laid.narrow_store
            c.decode_with.new.store.items c.decode_with.new.tables.items c.decode_with.ensures.count c.decode_with.ensures.keeps;
      };
      image = record {
        cells = same_but_store _ _ left;
        outside = decoded_outside c.header.inside.part c.header.inside.given.items c.header.inside.tables.items c.header.invariant c.self.inside.store.items stands.lie stands.count c.self.invariant.laid.narrow_store
            c.decode_with.new.store.items c.decode_with.new.tables.items c.decode_with.ensures.count c.decode_with.ensures.keeps;
      };
      outside = c.decode_with.ensures.keeps;
    })

pub returns-clause-stands : goal.returns-clause-stands
returns-clause-stands g c =
    let stands = rw (← c.header.view_is, ← c.self.view_is) at c.requires in
    record {
      lie = still_lie c.header.inside.part c.header.inside.given.items c.header.inside.tables.items c.header.invariant c.self.inside.store.items stands.lie stands.count c.self.invariant.laid.narrow_store
          c.decode_with.new.store.items c.decode_with.new.tables.items c.decode_with.ensures.count c.decode_with.ensures.keeps;
      count = still_count c.header.inside.part c.header.inside.given.items c.header.inside.tables.items c.header.invariant c.self.inside.store.items stands.lie stands.count c.self.invariant.laid.narrow_store
          c.decode_with.new.store.items c.decode_with.new.tables.items c.decode_with.ensures.count c.decode_with.ensures.keeps;
    }

pub returns-clause-between : goal.returns-clause-between
returns-clause-between g c =
    let stands = rw (← c.header.view_is, ← c.self.view_is) at c.requires in
    let left = decoded_left c.header.inside.part c.header.inside.given.items c.header.inside.tables.items c.header.invariant c.self.inside.store.items stands.lie stands.count c.self.invariant.laid.narrow_store
    c.decode_with.new.store.items c.decode_with.new.tables.items c.decode_with.ensures.count c.decode_with.ensures.keeps in
    rw (← c.header.view_is)
    (record {
      lie = other_lie c.header.inside.part c.header.inside.given.items c.header.inside.tables.items c.header.invariant c.self.inside.store.items stands.lie stands.count c.self.invariant.laid.narrow_store
          c.decode_with.new.store.items left;
      count = other_count c.header.inside.part c.header.inside.given.items c.header.inside.tables.items c.header.invariant c.self.inside.store.items stands.lie stands.count c.self.invariant.laid.narrow_store
          c.decode_with.new.store.items left;
    })
