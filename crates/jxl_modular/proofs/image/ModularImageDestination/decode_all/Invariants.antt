use Rattle.std.specs.Prelude.{pos}
use Rattle.std.specs.Option.{option_copied}
use Rattle.std.proofs.Common.{length, take}
use Rattle.jxl_modular.specs.Inner.Turns.{HasTurned}
use Rattle.jxl_modular.specs.SameButCells.{SameButCells}
use Rattle.jxl_modular.specs.Sections.{Heard}
use Rattle.jxl_modular.proofs.image.ModularImageDestination.decode_all.Given as goal

abbrev pub invariant-loop-section : goal.invariant-loop-section
invariant-loop-section g l = record {
  turned : HasTurned g.D.Decoder.meaning g.S.Sealed.width g.S.Sealed.to_int (g.S.Sealed.from_int (pos 0)) l.fn.self l.passes (option_copied l.global) l.allow_partial (take l.section-index l.sections) l.whole l.fn.self.store l.self.store l.fn.steps l.steps;
  same : SameButCells l.fn.self l.self;
  told : Heard g.P.Progress.section_decoded_gives (length l.sections) l.section-index l.fn.progress l.progress;
}
