use Rattle.std.proofs.Common.{◌≡◌, ℕ, Bool, true, false, List, [], ◌++◌, append_assoc, ap, codes, refl, subst, sym, ◌∙◌}
use Rattle.std.specs.Prelude.{if◌then◌else◌}
use Rattle.std.specs.Fmt.{HasWritten, decimal}
use Rattle.jxl_command.specs.Shown.{shown_text}
use Rattle.jxldec_lines.specs.Failures.{line_about}
use Rattle.jxldec_lines.specs.Warnings.{frames_line, has_more, or_more}
use Rattle.jxldec_lines.proofs.warning.FramesLineDisplay.fmt.Goals as goal

if_true : (b : Bool) (xs : List ℕ) → b ≡ true → xs ≡ (if b then xs else [])
if_true true xs e = refl
if_true false xs e = let bad : ⊥ = cc in absurd bad

-- the line, piece by piece
pieces : (name count more : List ℕ) → codes "jxldec: " ++ name ++ codes ": " ++ (codes "frame 0 of " ++ count ++ more ++ codes "; --frame N writes another") ++ codes "\n"
    ≡ codes "jxldec: " ++ (name ++ (codes ": frame 0 of " ++ (count ++ (more ++ codes "; --frame N writes another\n"))))
pieces name count more =
    let end = codes "; --frame N writes another" in
    let text = codes "frame 0 of " ++ count ++ more ++ end in
    ap (λ xs. codes "jxldec: " ++ xs) (append_assoc (name ++ codes ": ") text (codes "\n") ∙ append_assoc name (codes ": ") (text ++ codes "\n"))
    ∙ ap (λ xs. codes "jxldec: " ++ (name ++ (codes ": frame 0 of " ++ xs))) (append_assoc (count ++ more) end (codes "\n") ∙ append_assoc count more (end ++ codes "\n"))

pub returns-in_ok-writeln-clause-writes : goal.returns-in_ok-writeln-clause-writes
unfolding frames_line
returns-in_ok-writeln-clause-writes g c = λ plain all.
    let name = shown_text c.args.self.now.name.now in
    let frames = c.args.self.now.frames in
    let more : has_more frames ≡ true = sym c.has_more.ensures ∙ c.if-has_more.true in
    let line = line_about c.args.self.now.name.now (codes "frame 0 of " ++ decimal frames.count ++ or_more frames.is_all ++ codes "; --frame N writes another") in
    subst (λ (xs : List ℕ). HasWritten {W = g.row.W.Denot} g.W.Write.write_str_gives c.args.f.now xs c.writeln.new.self)
    (ap (λ (m : List ℕ). codes "jxldec: " ++ (name ++ (codes ": frame 0 of " ++ (decimal frames.count ++ (m ++ codes "; --frame N writes another\n"))))) c.or_more-more.ensures
    ∙ sym (pieces name (decimal frames.count) (or_more frames.is_all)) ∙ if_true (has_more frames) line more)
    (c.in_ok-writeln.ensures.writes plain all)
