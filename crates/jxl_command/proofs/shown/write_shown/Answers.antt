use Rattle.std.proofs.Common.{◌≡◌, ℕ, List, map, [], ◌∷◌, ◌++◌, append-nil, ap, refl, subst, sym, ◌∙◌}
use Rattle.std.specs.Fmt.{HasWritten}
use Rattle.std.specs.List.{flat_map}
use Rattle.std.proofs.lemmas.Grind.{put_two, flat_map-append}
use Rattle.std.proofs.lemmas.Iterator.{YieldsList-from_chars}
use Rattle.std.proofs.lemmas.Iterator.Consumers.{YieldsList-end}
use Rattle.jxl_command.specs.Shown.{letter_text, shown_text}
use Rattle.jxl_command.proofs.shown.write_shown.Goals as goal

pub loop-c-init : goal.loop-c-init
loop-c-init g c = λ plain. record { wrote = record { parts = []; calls = refl; whole = refl }; plain = plain }

pub loop-c-preserved : goal.loop-c-preserved
loop-c-preserved g c = λ plain.
    let before = c.loop-c.invariant plain in
    put_two g.W.Write.write_str_gives c.args.f.now c.loop-c.f c.write.new.self (flat_map letter_text c.loop-c.yielded) (letter_text c.in-Some.c) (flat_map letter_text (c.loop-c.yielded ++ c.in-Some.c ∷ []))
    before (c.in_ok-write.ensures.writes before.plain refl)
    (sym (flat_map-append letter_text c.loop-c.yielded (c.in-Some.c ∷ []) ∙ ap (λ xs. flat_map letter_text c.loop-c.yielded ++ xs) (append-nil (letter_text c.in-Some.c))))

map_same : (xs : List ℕ) → map (λ x. x) xs ≡ xs
map_same [] = refl
map_same (x ∷ xs) = ap (λ ys. x ∷ ys) (map_same xs)

pub returns : goal.returns
unfolding shown_text
returns g c = λ plain ok.
    let all = YieldsList-end (YieldsList-from_chars c.args.name.now c.utf8.name cc) c.loop-c.yielded _ c.loop-c.yielded_by _ _ c.in-None.is c.next.ensures.steps in
    subst (λ (xs : List ℕ). HasWritten {W = g.row.W.Denot} g.W.Write.write_str_gives c.args.f.now (flat_map letter_text xs) c.loop-c.f) (sym (map_same c.loop-c.yielded) ∙ all.0) (c.loop-c.invariant plain)
