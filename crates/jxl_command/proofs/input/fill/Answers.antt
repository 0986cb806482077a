use Rattle.std.proofs.Common.{◌≡◌, ℕ, ◌+◌, ◌-◌, ◌≤◌, List, ◌++◌, rules, arith, length, take, slice_range, sym, ap, ◌∙◌, subst, le_refl, drop_at, length-take-le}
use Rattle.std.proofs.lemmas.Slice.{take-put_mid_below}
use Rattle.std.specs.Io.KnownBytes.{Consumes}
use Rattle.std.proofs.KnownBytes.{Consumes-trans, Consumes-kept}
use borrow.Rule.Slice.PartMut.{put_mid, post_of}
use lib.Seq.{take-add, take-append-le}
use Rattle.jxl_command.proofs.input.fill.Goals as goal
use Rattle.jxl_command.proofs.input.fill.Goals.{in-Ok, in-Err+else-ne}

take_split : (a b : ℕ) (old new : List ℕ) → a ≤ b → take a new ≡ take a old → take a old ++ slice_range new a b ≡ take b new
take_split a b old new h front =
    let same : a + (b - a) ≡ b = omega arith in
    ap (λ l. l ++ slice_range new a b) (sym front) ∙ sym (take-add a (b - a) new) ∙ ap (λ n. take n new) same

slice_range-put_mid : (a k n : ℕ) (xs ys : List ℕ) → a ≤ length xs → n ≤ length ys → slice_range (put_mid a k xs ys) a (a + n) ≡ take n ys
slice_range-put_mid a k n xs ys within fits =
    let same : (a + n) - a ≡ n = omega arith in
    let after = post_of a k xs in
    ap (take ((a + n) - a)) (drop_at (take a xs) (ys ++ after) a (length-take-le a xs within)) ∙ ap (λ m. take m (ys ++ after)) same ∙ take-append-le n ys after fits

pub loop-preserved : goal.loop-preserved
loop-preserved g c =
    let room = length c.loop.buf - c.loop.at in
    let front = take-put_mid_below c.loop.at room c.loop.buf c.read.new.buf c.loop.at (le_refl _) c.loop.invariant.within in
    elim c.match-read.branch [
      | in-Ok w ↦
          let part = slice_range-put_mid c.loop.at room w.in-Ok.count c.loop.buf c.read.new.buf c.loop.invariant.within w.in-Ok.ensures.bound.0 in
          let joined = take_split c.loop.at (c.loop.at + w.in-Ok.count) c.loop.buf (put_mid c.loop.at room c.loop.buf c.read.new.buf) (omega arith) front in
          record {
            same = search rules;
            within = search rules;
            read = subst (λ (n : ℕ). Consumes (g.R.Read.remaining c.args.input.now) (g.R.Read.remaining c.read.new.self) (take n (put_mid c.loop.at room c.loop.buf c.read.new.buf))) (sym w.at-is)
                (subst (Consumes (g.R.Read.remaining c.args.input.now) (g.R.Read.remaining c.read.new.self)) (ap (λ l. take c.loop.at c.loop.buf ++ l) (sym part) ∙ joined) (Consumes-trans _ _ _ _ _ c.loop.invariant.read w.in-Ok.ensures.bytes.0));
          }
      | in-Err+else-ne w ↦ record {
        same = search rules;
        within = search rules;
        read = subst (λ (n : ℕ). Consumes (g.R.Read.remaining c.args.input.now) (g.R.Read.remaining c.read.new.self) (take n (put_mid c.loop.at room c.loop.buf c.read.new.buf))) (sym w.at-is)
            (subst (Consumes (g.R.Read.remaining c.args.input.now) (g.R.Read.remaining c.read.new.self)) (sym front) (Consumes-kept _ _ _ _ c.loop.invariant.read w.in-Err.ensures.bytes));
      }
    ]
