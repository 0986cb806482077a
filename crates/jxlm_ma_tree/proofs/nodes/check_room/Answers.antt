use Rattle.std.proofs.Common.{◌≡◌, ◌∙◌, ◌≤◌, ◌<◌, ◌^◌, ◌+◌, ℕ, codes, nat_lt, true, false, ap, arith}
use Rattle.std.proofs.lemmas.Bool.Decides.{nat_tests}
use Rattle.jxlm_bits.specs.ErrorKind.{BadProfile, BadTree, kind_of}
use Rattle.jxlm_ma_tree.specs.TreeReading.{limit_error, max_nodes}
use Rattle.jxlm_ma_tree.proofs.nodes.check_room.Goals as goal

-- as many nodes as a tree may have at all
all_read : (read node_limit : ℕ) → 67108864 ≤ read → read ≤ max_nodes node_limit → BadTree ≡ limit_error node_limit
all_read read node_limit many room =
    let no : nat_lt (node_limit + 1) (2 ^ 26) ≡ false = grind (arith, nat_tests) in
    rw no

-- as many as the limit lets pass, which are fewer
limit_read : (read node_limit : ℕ) → read < 67108864 → node_limit < read → read ≤ max_nodes node_limit → BadProfile (codes "MA tree limit exceeded") ≡ limit_error node_limit
limit_read read node_limit few beyond room =
    let yes : nat_lt (node_limit + 1) (2 ^ 26) ≡ true = grind (arith, nat_tests) in
    rw yes

pub returns-then-read-ge-MAX_NODES-clause-err : goal.returns-then-read-ge-MAX_NODES-clause-err
returns-then-read-ge-MAX_NODES-clause-err c = (omega arith, all_read c.args.read c.args.node_limit c.if-read-ge-MAX_NODES.true c.requires)

pub returns-then-read-node_limit-clause-err : goal.returns-then-read-node_limit-clause-err
returns-then-read-node_limit-clause-err c = (omega arith, ap kind_of c.into.ensures ∙ limit_read c.args.read c.args.node_limit c.if-read-ge-MAX_NODES.false c.if-read-node_limit.true c.requires)

pub returns : goal.returns
returns c = record { ok = omega arith; err = tt }
