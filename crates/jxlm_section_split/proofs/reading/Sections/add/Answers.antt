use Rattle.std.proofs.Common.{◌≡◌, ◌%◌, ◌^◌, ◌++◌, ◌∷◌, [], true, ap, refl, rules, length}
use Rattle.jxl_modular.specs.GroupParts.{section_part}
use Rattle.jxl_modular.specs.declared.sections.Section.{Section}
use Rattle.jxlm_bits.specs.Bits.{bytes_of}
use Rattle.jxlm_section_split.specs.CutErrors.{IsSplit}
use Rattle.jxlm_section_split.specs.Splitting.{IsOfGroup}
use Rattle.jxlm_section_split.proofs.SectionRows.{one_added}
use Rattle.jxlm_section_split.proofs.reading.Sections.add.Goals as goal

pub returns-clause-ok : goal.returns-clause-ok
returns-clause-ok c =
    let before = c.args.self.now.list.items in
    let section : Section = record { part = c.into.result; bits = c.new.result; stream_index = c.len.result % 2 ^ 32; nested = true } in
    let named : section.part ≡ section_part c.args.part = search rules in
    let pushed : c.push.new.self.items ≡ before ++ section ∷ [] = search rules in
    let split : IsSplit c.args.self.now.rest.now (bytes_of c.new.result) c.in_ok-bytes.rest.now = rw c.new.ensures.bytes c.in_ok-bytes.ensures in
    let len : c.len.result ≡ length before = search rules in
    let group : IsOfGroup (length before) section = record { stream = ap (λ n. n % 2 ^ 32) len; begins = c.new.ensures.position; nested = refl } in
    one_added (section_part c.args.part) before c.push.new.self.items c.args.self.now.rest.now c.in_ok-bytes.rest.now section named pushed split group
