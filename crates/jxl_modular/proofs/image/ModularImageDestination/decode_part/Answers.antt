use Rattle.std.proofs.Common.{◌≡◌, ◌++◌, length, take, drop, refl}
use Rattle.jxlm_chain.proofs.ShapeLaws.{shape_kept}
use Rattle.jxl_modular.proofs.Laid.{coded_sizes, same_but_store, still_laid}
use Rattle.jxlm_nested.proofs.PartFacts.{refilled}
use Rattle.jxl_modular.proofs.PieceLies.{held_lies}
use Rattle.jxl_modular.proofs.image.ModularImageDestination.decode_part.Goals as goal

pub pieces-requires-clause-sides : goal.pieces-requires-clause-sides
pieces-requires-clause-sides g c = coded_sizes _ c.self.invariant.laid

pub decode-requires-clause-lies : goal.decode-requires-clause-lies
decode-requires-clause-lies g c κs within =
    let are = c.in_ok-pieces.ensures in
    rw c.deref_mut.ensures.value
    (held_lies _ c.self.invariant.laid c.args.passes.now c.args.part _ (rw c.deref.ensures.value are.channels) (rw c.deref.ensures.value are.regions) refl)

pub invariant_of-self : goal.invariant_of-self
invariant_of-self g c =
    let are = c.in_ok-pieces.ensures in
    let keeps = rw (c.deref.ensures.value, are.regions, c.deref_mut.ensures.value) at c.decode.ensures.keeps in
    let whole : take c.self.inside.store.len (c.decode.new.store ++ drop (length c.decode.new.store) c.self.inside.store.items) ≡ c.decode.new.store =
    refilled c.self.inside.store.len c.decode.new.store c.self.inside.store.items c.self.inside.store.ok.0 keeps.count in
    record {
      laid = still_laid _ _ c.self.invariant.laid (same_but_store _ _ (rw whole (shape_kept _ c.self.inside.store.items c.decode.new.store keeps)));
      undos = c.self.invariant.undos;
    }

pub returns-clause-gives : goal.returns-clause-gives
returns-clause-gives g c =
    let are = c.in_ok-pieces.ensures in
    let keeps = rw (c.deref.ensures.value, are.regions, c.deref_mut.ensures.value) at c.decode.ensures.keeps in
    let whole : take c.self.inside.store.len (c.decode.new.store ++ drop (length c.decode.new.store) c.self.inside.store.items) ≡ c.decode.new.store =
    refilled c.self.inside.store.len c.decode.new.store c.self.inside.store.items c.self.inside.store.ok.0 keeps.count in
    rw (← c.self.view_is)
    (rw (← whole) at (rw (c.deref.ensures.value, are.channels, are.regions, c.deref_mut.ensures.value) at c.decode.ensures.answers))

pub returns-clause-same : goal.returns-clause-same
returns-clause-same g c =
    let are = c.in_ok-pieces.ensures in
    let keeps = rw (c.deref.ensures.value, are.regions, c.deref_mut.ensures.value) at c.decode.ensures.keeps in
    let whole : take c.self.inside.store.len (c.decode.new.store ++ drop (length c.decode.new.store) c.self.inside.store.items) ≡ c.decode.new.store =
    refilled c.self.inside.store.len c.decode.new.store c.self.inside.store.items c.self.inside.store.ok.0 keeps.count in
    rw (← c.self.view_is)
    (record {
      cells = same_but_store _ _ (rw whole (shape_kept _ c.self.inside.store.items c.decode.new.store keeps));
      outside = rw whole keeps;
    })
