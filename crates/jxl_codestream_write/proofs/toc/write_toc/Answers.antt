use Rattle.std.proofs.Common.{rules, ◌≡◌, ◌++◌, List, [], ℕ, length, subst}
use Rattle.jxlm_bits.specs.Grammar.{repeated}
use Rattle.jxlm_bit_writer.specs.Writes.{Spells}
use Rattle.jxl_codestream_write.proofs.Sizes.{entry}
use Rattle.jxl_codestream_write.proofs.Tables.{table_completes}
use Rattle.jxl_codestream_write.proofs.toc.write_toc.Goals as goal

pub returns : goal.returns
returns g c =
    let begun : c.new-table.result ≡ [] = c.new-table.ensures in
    let sized : Spells [] c.write_sizes.new.bits (repeated (length c.args.sizes.now) entry) c.args.sizes.now =
    subst (λ (b : List ℕ). Spells b c.write_sizes.new.bits (repeated (length c.args.sizes.now) entry) c.args.sizes.now) begun c.in_ok-write_sizes.ensures in
    table_completes c.args.bits c.write_flag.new.bits c.in_ok-bytes.bytes.items c.write_sizes.new.bits c.in_ok-table.table.items c.args.sizes.now
    c.in_ok-write_flag.ensures c.in_ok-bytes.ensures sized c.in_ok-table.ensures g.D.Decoder.meaning c.extend_from_slice.new.self.items joined where
      joined : c.extend_from_slice.new.self.items ≡ c.in_ok-bytes.bytes.items ++ c.in_ok-table.table.items
      joined = search rules
