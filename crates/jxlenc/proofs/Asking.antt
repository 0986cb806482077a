-- The effort that a command line names.
use Rattle.std.proofs.Common.{◌≡◌, ◌∙◌, ap, subst, inl, inr, sym, ℕ, List, Option, Some, None, Bor, unwrap_or}
use Rattle.std.specs.Prelude.{MatchOption}
use Rattle.std.specs.Option.{option_copied}
use Rattle.jxl_encode_ways.specs.declared.effort.Effort.{Effort}
use Rattle.jxl_encode_ways.specs.declared.effort.Effort.TheVariants.{Usual}
use Rattle.jxlenc.specs.Asked.{IsEffort}
use Rattle.jxlenc.specs.Options.{IsName, IsNoName}

pub effort_read : (o : Option (Bor (List ℕ))) (t : Option (List ℕ)) (f : Option Effort) (r : Effort) → option_copied o ≡ t
    → MatchOption o (f ≡ None) (λ x. MatchOption f (IsNoName x.now) (IsName x.now)) → r ≡ unwrap_or f Usual → IsEffort t r
effort_read None t f r h m e = subst (λ x. IsEffort x r) h (e ∙ ap (λ g. unwrap_or g Usual) m)
effort_read (Some s) t None r h m e = subst (λ x. IsEffort x r) h (inr (m, e))
effort_read (Some s) t (Some f) r h m e = subst (λ x. IsEffort x r) h (inl (subst (λ g. IsName s.now g) (sym e) m))
