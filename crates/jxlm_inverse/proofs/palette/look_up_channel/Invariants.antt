use Rattle.std.proofs.Common.{◌≡◌, ℕ, ◌*◌, [], ◌∷◌, length}
use Rattle.jxlm_base.specs.Regions.{store_meanings}
use Rattle.jxlm_base.specs.Outside.{KeepsOutside}
use Rattle.jxlm_inverse.specs.Inner.PaletteSteps.{FillsOn}
use Rattle.jxlm_inverse.proofs.palette.look_up_channel.Given as goal

abbrev pub invariant-loop-y : goal.invariant-loop-y
invariant-loop-y g l =
    record {
      len : length l.line ≡ length l.fn.line;
      keeps : KeepsOutside (l.channel.target ∷ []) l.fn.store l.store;
      fills : (depth : ℕ) → FillsOn g.S.Sealed.width depth l.palette l.channel 0 (l.y * l.channel.index.width) (store_meanings g.S.Sealed.to_int l.fn.store) (store_meanings g.S.Sealed.to_int l.store);
    }
