use Rattle.std.proofs.Common.{◌≡◌, ◌<◌, ℕ, List, Ok, sym, subst, length}
use Rattle.jxl_coding.specs.Clusters.{count_of}
use Rattle.jxl_coding_build.proofs.Maps.{two_contexts}
use Rattle.jxl_coding_build.proofs.streams.write_any_head.Goals as goal

pub write_mapped_head-requires-clause-many : goal.write_mapped_head-requires-clause-many
write_mapped_head-requires-clause-many c =
    subst (λ (xs : List ℕ). 1 < length xs) c.deref.ensures.value
    (two_contexts c.deref.result.now (length c.args.writer.now.codes.items) c.is_plain.result
    (subst (λ (xs : List ℕ). count_of xs ≡ Ok (length c.args.writer.now.codes.items)) (sym c.deref.ensures.value) c.requires.head.used) c.is_plain.ensures.one c.if-is_plain.false)
