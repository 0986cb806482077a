-- Who hears how far sections have come, and one call more.
use Rattle.std.proofs.Common.{ℕ, ◌+◌, List, subst}
use Rattle.std.specs.Prelude.{replicate}
use Rattle.std.specs.List.{FoldsTo}
use Rattle.std.proofs.lemmas.Fn.{FoldsTo-push}
use Rattle.std.proofs.lemmas.List.{replicate_more}
use Rattle.jxl_modular.specs.Sections.{Heard}

pub heard_next : {P : Type 0} (gives : P → ℕ → P → Type 0) (n k : ℕ) (old now new : P) → Heard gives n k old now → gives now n new → Heard gives n (k + 1) old new
heard_next {P} gives n k old now new so_far next =
    subst (λ (ns : List ℕ). FoldsTo gives old ns new) (replicate_more k n)
    (FoldsTo-push gives old (replicate k n) now n new so_far next)
