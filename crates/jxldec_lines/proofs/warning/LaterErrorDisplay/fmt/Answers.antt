use Rattle.std.proofs.Common.{◌≡◌, ℕ, List, ◌++◌, append_assoc, ap, codes, subst, sym, ◌∙◌}
use Rattle.std.specs.Fmt.{HasWritten}
use Rattle.jxl_command.specs.Shown.{shown_text}
use Rattle.jxldec_lines.specs.Warnings.{later_line}
use Rattle.jxldec_lines.proofs.warning.LaterErrorDisplay.fmt.Goals as goal

-- the line, piece by piece
pieces : (name text : List ℕ) → codes "jxldec: " ++ name ++ codes ": " ++ text ++ codes "\n" ≡ codes "jxldec: " ++ (name ++ (codes ": " ++ (text ++ codes "\n")))
pieces name text = ap (λ xs. codes "jxldec: " ++ xs) (append_assoc (name ++ codes ": ") text (codes "\n") ∙ append_assoc name (codes ": ") (text ++ codes "\n"))

pub returns-in_ok-writeln-clause-writes : goal.returns-in_ok-writeln-clause-writes
unfolding later_line
returns-in_ok-writeln-clause-writes g c = λ plain all.
    rw (c.in-Some.is, sym c.box_text-reason.ensures)
    (subst (λ (xs : List ℕ). HasWritten {W = g.row.W.Denot} g.W.Write.write_str_gives c.args.f.now xs c.writeln.new.self)
    (sym (pieces (shown_text c.args.self.now.name.now) (codes "ignored after the codestream: " ++ c.box_text-reason.result.now)))
    (c.in_ok-writeln.ensures.writes plain all))
