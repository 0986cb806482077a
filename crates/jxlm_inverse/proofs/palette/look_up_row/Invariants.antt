use Rattle.std.proofs.Common.{◌≡◌, ℕ, ◌+◌, ◌-◌, ◌*◌, ◌≤◌, [], ◌∷◌, length}
use Rattle.jxlm_base.specs.Regions.{store_meanings}
use Rattle.jxlm_base.specs.Outside.{KeepsOutside}
use Rattle.jxlm_inverse.specs.Inner.PaletteSteps.{FillsOn, kept}
use Rattle.jxlm_inverse.proofs.palette.look_up_row.Given as goal

abbrev pub invariant-loop-x : goal.invariant-loop-x
invariant-loop-x g l =
    let width = l.channel.index.width in
    let old = store_meanings g.S.Sealed.to_int l.fn.store in
    let now = store_meanings g.S.Sealed.to_int l.store in
    record {
      within : l.x ≤ width;
      len : length l.line ≡ length l.fn.line;
      keeps : KeepsOutside (l.channel.target ∷ []) l.fn.store l.store;
      kept : kept l.channel (l.y * width + l.x) old now;
      fills : (depth : ℕ) → FillsOn g.S.Sealed.width depth l.palette l.channel (l.y * width) (l.y * width + l.x) old now;
    }

abbrev pub decreases-loop-x : goal.decreases-loop-x
decreases-loop-x g l = l.channel.index.width - l.x
