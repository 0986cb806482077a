use Rattle.std.proofs.Common.{List, sym, subst}
use Rattle.jxlm_base.specs.Grid.{Grid}
use Rattle.jxlm_chain.specs.Shape.{SameShape}
use Rattle.jxlm_chain.specs.Undo.{UndoesAll}
use Rattle.jxlm_chain.specs.Undoings.{undos_of}
use Rattle.jxl_encode_image.proofs.Buffers.{store_back}
use Rattle.jxl_encode_image.proofs.image.run_in.Goals as goal

pub returns : goal.returns
returns g c =
    let shape = subst (λ (gs : List (Grid g.row.S.Denot)). SameShape gs c.redo_all.new.store) c.deref_mut.ensures.value c.in_ok-redo_all.ensures.shape in
    let back = sym (store_back c.args.store.len c.redo_all.new.store c.args.store.items c.args.store.ok.0 shape.count) in
    record {
      redone = λ depth. subst (λ (gs : List (Grid g.row.S.Denot)). UndoesAll g.S.Sealed.to_int g.S.Sealed.width depth (undos_of c.args.undoings.now) gs c.args.store.items) back
          (subst (λ (gs : List (Grid g.row.S.Denot)). UndoesAll g.S.Sealed.to_int g.S.Sealed.width depth (undos_of c.args.undoings.now) c.redo_all.new.store gs) c.deref_mut.ensures.value (c.in_ok-redo_all.ensures.redone depth));
      shape = subst (λ (gs : List (Grid g.row.S.Denot)). SameShape c.args.store.items gs) back shape;
    }
