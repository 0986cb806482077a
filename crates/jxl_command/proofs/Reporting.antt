-- Lines on standard error, piece by piece.
use Rattle.std.proofs.Common.{◌≡◌, ℕ, List, [], ◌++◌, Bool, true, false, Option, Some, None, refl, subst, sym, codes}
use Rattle.std.specs.Prelude.{IfSome, MatchBool, ⊤}
use Rattle.std.specs.Io.KnownBytes.{Appends}
use Rattle.std.proofs.KnownBytes.{Appends-nil, Appends-trans}
use Rattle.std.specs.declared.io.Error.{Error}
use Rattle.jxl_command.specs.Streams.{IsPut, IsReported, IsReportedLine}

-- of a writer that holds unknown bytes nothing is claimed
pub put_unknown : (r : Bool) (text holds : Option (List ℕ)) → MatchBool r (IsPut text None holds) ⊤
put_unknown false text holds = tt
put_unknown true (Some text) holds = tt
put_unknown true None holds = ([], tt)

-- a write of a piece failed
pub line_failed : (held holds : Option (List ℕ)) (Failed : Type 0) (cause : Option Error) (words : List ℕ) → Failed → IsReportedLine false held holds Failed cause words
line_failed held holds Failed None words failed = record { end = []; caused = refl; is = failed }
line_failed held holds Failed (Some error) words failed = record { end = codes ": " ++ []; caused = ([], refl); is = failed }

-- a text, and then the rest
pub then_reported : (r : Bool) (held now holds : Option (List ℕ)) (Failed : Type 0) (text rest : List ℕ) → Appends held now text → IsReported r now holds Failed rest → IsReported r held holds Failed (text ++ rest)
then_reported true held now holds Failed text rest first second = Appends-trans held now holds text rest first second
then_reported false held now holds Failed text rest first second = second

-- the end of a line without a cause
pub end_line : (r : Bool) (held holds : Option (List ℕ)) (Failed : Type 0) → IsReported r held holds Failed (codes "\n") → IsReportedLine r held holds Failed None []
end_line r held holds Failed end = record { end = []; caused = refl; is = end }

-- the end of a line with a cause
pub error_line : (r : Bool) (held a b holds : Option (List ℕ)) (Failed : Type 0) (error : Error) → Appends held a (codes ": ") → IsPut None a b → IsReported r b holds Failed (codes "\n") → IsReportedLine r held holds Failed (Some error) []
error_line r held a b holds Failed error colon said end =
    let first : Appends held b (codes ": " ++ said.0) = Appends-trans held a b (codes ": ") said.0 colon said.1 in
    record { end = codes ": " ++ said.0; caused = (said.0, refl); is = then_reported r held b holds Failed (codes ": " ++ said.0) (codes "\n") first end }

-- the same, by what the calls say that put its pieces
pub error_put : (p q r : Bool) (held a b holds : Option (List ℕ)) (Fa Fb Failed : Type 0) (error : Error) → p ≡ true → MatchBool p (Appends held a (codes ": ")) Fa → q ≡ true → MatchBool q (IsPut None a b) Fb →
    IsReported r b holds Failed (codes "\n") → IsReportedLine r held holds Failed (Some error) []
error_put true true r held a b holds Fa Fb Failed error ep colon eq said end = error_line r held a b holds Failed error colon said end
error_put true false r held a b holds Fa Fb Failed error ep colon eq said end = let bad : ⊥ = cc in absurd bad
error_put false q r held a b holds Fa Fb Failed error ep colon eq said end = let bad : ⊥ = cc in absurd bad

-- a piece is not put
pub not_put : (r : Bool) (held holds : Option (List ℕ)) (Put Failed : Type 0) (cause : Option Error) (words : List ℕ) → r ≡ false → MatchBool r Put Failed → IsReportedLine r held holds Failed cause words
not_put false held holds Put Failed cause words e failed = line_failed held holds Failed cause words failed
not_put true held holds Put Failed cause words e put = let bad : ⊥ = cc in absurd bad

-- words, and then the end of their line
pub words_line : (r : Bool) (held now holds : Option (List ℕ)) (Failed : Type 0) (cause : Option Error) (text : Option (List ℕ)) → IsPut text held now → IsReportedLine r now holds Failed cause [] → IfSome text (IsReportedLine r held holds Failed cause)
words_line r held now holds Failed cause None put line = tt
words_line r held now holds Failed cause (Some text) put line =
    record { end = line.end; caused = line.caused; is = then_reported r held now holds Failed text (line.end ++ codes "\n") put line.is }

-- the words are not put
pub words_not_put : (r : Bool) (held holds : Option (List ℕ)) (Failed : Type 0) (cause : Option Error) (text : Option (List ℕ)) → r ≡ false → MatchBool r (IsPut text held holds) Failed → IfSome text (IsReportedLine r held holds Failed cause)
words_not_put r held holds Failed cause None e put = tt
words_not_put r held holds Failed cause (Some text) e put = not_put r held holds (Appends held holds text) Failed cause text e put

-- where there is no text, nothing is written
pub nothing_reported : (held : Option (List ℕ)) (Failed : Type 0) (text : List ℕ) → text ≡ [] → IsReported true held held Failed text
nothing_reported held Failed text none = subst (λ (t : List ℕ). Appends held held t) (sym none) (Appends-nil held)
