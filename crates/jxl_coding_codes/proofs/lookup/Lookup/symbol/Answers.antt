use Rattle.std.proofs.Common.{ℕ, ◌+◌, ap, ◌∙◌, rules}
use Rattle.jxlm_bits.specs.Bits.{bytes_of, position_of}
use Rattle.jxl_coding_codes.proofs.LookupEntries.{told}
use Rattle.jxl_coding_codes.proofs.lookup.Lookup.symbol.Goals as goal

pub returns-clause-some : goal.returns-clause-some
returns-clause-some c = λ counts symbols start of.
    rw c.from-2.ensures (told counts symbols start (bytes_of c.args.bits.now) (position_of c.args.bits.now) c.args.self.now.width (position_of c.skip.new.self) c.in_ok-entry.entry
    (c.in_ok-entry.ensures.tells counts symbols start of) (search rules) c.in_ok-entry.ensures.short c.in_ok-entry.ensures.room
    (c.skip.ensures.position ∙ ap (λ (n : ℕ). position_of c.args.bits.now + n) c.from.ensures))
