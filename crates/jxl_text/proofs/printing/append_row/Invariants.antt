use Rattle.std.proofs.Common.{◌≡◌, ◌∷◌, ◌++◌, take, string_bytes}
use Rattle.std.specs.Fmt.{signed_decimal}
use Rattle.std.specs.List.{flat_map}
use Rattle.jxl_text.proofs.printing.append_row.Given as goal

abbrev pub invariant-loop-sample : goal.invariant-loop-sample
invariant-loop-sample g l =
    string_bytes l.text ≡ string_bytes l.initial.text ++ flat_map (λ v. 32 ∷ signed_decimal (g.S.Sealed.to_int v)) (take l.sample-index l.rest)
