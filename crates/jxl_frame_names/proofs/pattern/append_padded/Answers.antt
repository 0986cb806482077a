use Rattle.std.proofs.Common.{◌≡◌, ◌-◌, ◌++◌, ◌∙◌, ℕ, List, Result, Ok, Err, length, ap, append_assoc, arith, subst, string_bytes}
use Rattle.std.specs.Prelude.{OnOk, if◌then◌else◌, is_ok, replicate}
use Rattle.jxl_frame_names.proofs.pattern.append_padded.Goals as goal

added : {A : Type 0} {E : Type 0} (r : Result A E) (new name old zeros digits : List ℕ) → new ≡ (if is_ok r then name ++ digits else name) → name ≡ old ++ zeros → OnOk r (new ≡ old ++ (zeros ++ digits))
added (Ok x) new name old zeros digits e h = e ∙ ap (λ (n : List ℕ). n ++ digits) h ∙ append_assoc old zeros digits
added (Err x) new name old zeros digits e h = tt

pub returns : goal.returns
returns c =
    let digits = c.args.number.now in
    let same : c.loop-filled._filled - length digits ≡ c.args.width - length digits = let most = c.loop-filled.invariant.1 in omega (arith, most) in
    let before : string_bytes c.loop-filled.name ≡ string_bytes c.args.name.now ++ replicate (c.args.width - length digits) 48 =
    subst (λ (n : ℕ). string_bytes c.loop-filled.name ≡ string_bytes c.args.name.now ++ replicate n 48) same c.loop-filled.invariant.0 in
    added c.push_str.result (string_bytes c.push_str.new.self) (string_bytes c.loop-filled.name) (string_bytes c.args.name.now) (replicate (c.args.width - length digits) 48) digits c.push_str.ensures.bytes before
