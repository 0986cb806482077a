use Rattle.std.proofs.Common.{◌≡◌, ◌++◌, length, take, drop, refl, ap, sym, ◌∙◌}
use Rattle.std.proofs.lemmas.List.{take-map}
use Rattle.jxlm_transform.specs.Channels.{infos, regions}
use Rattle.jxlm_chain.proofs.ShapeLaws.{shape_kept}
use Rattle.jxl_modular.proofs.Laid.{same_but_store, still_laid}
use Rattle.jxl_modular.proofs.PartLaws.{front_lies}
use Rattle.jxlm_nested.proofs.PartFacts.{refilled}
use Rattle.jxl_modular.proofs.image.ModularImageDestination.decode_front.Goals as goal

pub decode-requires-clause-lies : goal.decode-requires-clause-lies
decode-requires-clause-lies g c κs within =
    rw c.deref_mut.ensures.value
    (let xs = c.self.inside.coded.placed.items in
    let first = c.first_of.ensures ∙ ap (λ ys. take c.args.count ys) c.deref.ensures.value in
    front_lies _ c.self.invariant.laid c.args.count _ (ap infos first ∙ sym (take-map (λ p. p.info) c.args.count xs)) (ap regions first ∙ sym (take-map (λ p. p.region) c.args.count xs)) refl)

pub invariant_of-self : goal.invariant_of-self
invariant_of-self g c =
    let keeps = rw (c.first_of.ensures, c.deref.ensures.value, ← take-map (λ p. p.region) c.args.count c.self.inside.coded.placed.items, c.deref_mut.ensures.value) at c.decode.ensures.keeps in
    let whole : take c.self.inside.store.len (c.decode.new.store ++ drop (length c.decode.new.store) c.self.inside.store.items) ≡ c.decode.new.store =
    refilled c.self.inside.store.len c.decode.new.store c.self.inside.store.items c.self.inside.store.ok.0 keeps.count in
    record {
      laid = still_laid _ _ c.self.invariant.laid (same_but_store _ _ (rw whole (shape_kept _ c.self.inside.store.items c.decode.new.store keeps)));
      undos = c.self.invariant.undos;
    }

pub returns-clause-gives : goal.returns-clause-gives
returns-clause-gives g c =
    let keeps = rw (c.first_of.ensures, c.deref.ensures.value, ← take-map (λ p. p.region) c.args.count c.self.inside.coded.placed.items, c.deref_mut.ensures.value) at c.decode.ensures.keeps in
    let whole : take c.self.inside.store.len (c.decode.new.store ++ drop (length c.decode.new.store) c.self.inside.store.items) ≡ c.decode.new.store =
    refilled c.self.inside.store.len c.decode.new.store c.self.inside.store.items c.self.inside.store.ok.0 keeps.count in
    rw (← c.self.view_is)
    (rw (← whole) at (rw (c.first_of.ensures, c.deref.ensures.value, ← take-map (λ p. p.info) c.args.count c.self.inside.coded.placed.items, ← take-map (λ p. p.region) c.args.count c.self.inside.coded.placed.items, c.deref_mut.ensures.value) at c.decode.ensures.answers))

pub returns-clause-same : goal.returns-clause-same
returns-clause-same g c =
    let keeps = rw (c.first_of.ensures, c.deref.ensures.value, ← take-map (λ p. p.region) c.args.count c.self.inside.coded.placed.items, c.deref_mut.ensures.value) at c.decode.ensures.keeps in
    let whole : take c.self.inside.store.len (c.decode.new.store ++ drop (length c.decode.new.store) c.self.inside.store.items) ≡ c.decode.new.store =
    refilled c.self.inside.store.len c.decode.new.store c.self.inside.store.items c.self.inside.store.ok.0 keeps.count in
    rw (← c.self.view_is)
    (record {
      cells = same_but_store _ _ (rw whole (shape_kept _ c.self.inside.store.items c.decode.new.store keeps));
      outside = rw whole keeps;
    })

pub returns-clause-empty : goal.returns-clause-empty
returns-clause-empty g c =
    rw (← c.self.view_is)
    (rw (c.first_of.ensures, c.deref.ensures.value, ← take-map (λ p. p.info) c.args.count c.self.inside.coded.placed.items) at c.decode.ensures.empty)
