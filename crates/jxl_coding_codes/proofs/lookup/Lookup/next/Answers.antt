use Rattle.std.proofs.Common.{rules}
use Rattle.jxlm_bits.specs.Bits.{bytes_of, position_of}
use Rattle.jxl_coding_codes.proofs.LookupEntries.{next_tells, room_of}
use Rattle.jxl_coding_codes.proofs.lookup.Lookup.next.Goals as goal

pub returns-then-next-len-clause-tells : goal.returns-then-next-len-clause-tells
returns-then-next-len-clause-tells c = λ counts symbols start of.
    next_tells counts symbols start c.args.self.now.entries.items (bytes_of c.args.bits.now) (position_of c.args.bits.now) c.args.self.now.width
    c.in-Ok.next (position_of c.number.new.bits) c.index.result.now of c.in-Ok.ensures.gives (search rules) c.index.ensures

pub returns-then-next-len-clause-room : goal.returns-then-next-len-clause-room
returns-then-next-len-clause-room c =
    room_of (bytes_of c.args.bits.now) (position_of c.args.bits.now) c.args.self.now.width c.in-Ok.next (position_of c.number.new.bits) c.in-Ok.ensures.gives
