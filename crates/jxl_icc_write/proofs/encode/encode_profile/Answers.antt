use Rattle.std.proofs.Common.{◌≡◌, List, ℕ, length, Ok, subst}
use Rattle.jxl_icc.specs.Profiles.{icc_of}
use Rattle.jxl_icc_write.proofs.Limits.{higher_limit}
use Rattle.jxl_icc_write.proofs.encode.encode_profile.Goals as goal

pub returns-then-branch-clause-gives : goal.returns-then-branch-clause-gives
returns-then-branch-clause-gives c max le =
    higher_limit (length c.args.icc.now) max c.in-Some.short.items c.args.icc.now le
    (subst (λ (xs : List ℕ). icc_of (length c.args.icc.now) xs ≡ Ok c.args.icc.now) c.deref.ensures.value (c.in_ok-gives.ensures c.if-branch.true))
