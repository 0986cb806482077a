use Rattle.std.proofs.Common.{refl}
use Rattle.jxlm_nested.proofs.NestedFills.{nested_lies}
use Rattle.jxlm_nested.proofs.nested.NestedPart.decode_placed.Goals as goal

pub decode-requires-clause-lies : goal.decode-requires-clause-lies
decode-requires-clause-lies g c κs within = nested_lies c.args.self.now c.args.store.now _ c.requires c.deref.ensures.value refl
