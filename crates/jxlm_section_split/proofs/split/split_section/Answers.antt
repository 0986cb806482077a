use Rattle.std.proofs.Common.{ℕ, ◌≡◌, ◌+◌, ◌<◌, ◌^◌, get_or, length, take, drop, rules, arith}
use Rattle.std.specs.List.{IsSplitAt}
use Rattle.jxlm_section_split.proofs.SectionRows.{split_made}
use Rattle.jxlm_section_split.proofs.split.split_section.Goals as goal

pub returns-in-Some-split_at_checked : goal.returns-in-Some-split_at_checked
returns-in-Some-split_at_checked c =
    let bytes = c.args.bytes.now in
    let four = c.in-Some.length.now in
    let behind = c.in-Some.rest.now in
    let small : (i : ℕ) → get_or bytes i 0 < 256 = λ i. omega (arith, c.type_inv.bytes i) in
    let front : four ≡ take 4 bytes = search rules in
    let back : behind ≡ drop 4 bytes = search rules in
    let many : length behind + 4 ≡ length bytes = search rules in
    let below : c.from_le_bytes-length.result < 2 ^ 32 = omega (arith, c.from_le_bytes-length.type_inv) in
    let split : IsSplitAt behind c.from_le_bytes-length.result c.in-Some-split_at_checked.section.now c.in-Some-split_at_checked.rest.now = search rules in
    split_made bytes four behind c.in-Some-split_at_checked.section.now c.in-Some-split_at_checked.rest.now c.from_le_bytes-length.result small front back many
    c.from_le_bytes-length.ensures below split
