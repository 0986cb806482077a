-- What a program finds on its command line, as its options have it.
use Rattle.std.proofs.Common.{◌≡◌, ◌≢◌, ◌∙◌, ap, sym, subst, inl, inr, ℕ, List, true, false, is_some, Option, Some, None, Bor, unwrap_or, option_map}
use Rattle.std.specs.Prelude.{codes}
use Rattle.std.specs.Option.{option_copied}
use Rattle.std.specs.Str.{bytes_eq}
use Rattle.std.proofs.lemmas.Slice.Eq.{bytes_eq-Decides}
use Rattle.jxl_command.specs.Asked.{IsOutput}

-- the value that unwrap_or gives of a borrowed text is that of the text
pub unwrap_text : (o : Option (Bor (List ℕ))) (d r : Bor (List ℕ)) (t : Option (List ℕ)) → option_map (λ s. s.now) o ≡ t → r ≡ unwrap_or o d
    → r.now ≡ unwrap_or t d.now
unwrap_text None d r t h e = ap (λ b. b.now) e ∙ ap (λ x. unwrap_or x d.now) h
unwrap_text (Some s) d r t h e = ap (λ b. b.now) e ∙ ap (λ x. unwrap_or x d.now) h

-- a text is there
pub some_text : (o : Option (Bor (List ℕ))) (t : Option (List ℕ)) → option_copied o ≡ t → is_some o ≡ is_some t
some_text None t h = ap is_some h
some_text (Some s) t h = ap is_some h

-- standard output, if the path is `-`, or there is none
pub no_output : (o : Option (Bor (List ℕ))) (t : Option (List ℕ)) (dash path : Bor (List ℕ)) (out : Option (Bor (List ℕ))) → option_copied o ≡ t
    → path ≡ unwrap_or o dash → true ≡ bytes_eq path.now (codes "-") → out ≡ None → IsOutput t (option_copied out)
no_output None t dash path out h e is none = subst (λ x. IsOutput t (option_copied x)) (sym none) (inl (sym h))
no_output (Some s) t dash path out h e is none =
    let same : path.now ≡ codes "-" = (bytes_eq-Decides path.now (codes "-")).0 (sym is) in
    subst (λ x. IsOutput t (option_copied x)) (sym none) (inr (sym h ∙ ap (λ b. Some b.now) (sym e) ∙ ap Some same))

-- the path, if it is another
pub an_output : (o : Option (Bor (List ℕ))) (t : Option (List ℕ)) (dash path : Bor (List ℕ)) (out : Option (Bor (List ℕ))) → option_copied o ≡ t
    → dash.now ≡ codes "-" → path ≡ unwrap_or o dash → false ≡ bytes_eq path.now (codes "-") → out ≡ Some path → IsOutput t (option_copied out)
an_output o t dash path out h d e is some =
    let other : path.now ≢ codes "-" = λ same. let bad : false ≡ true = is ∙ (bytes_eq-Decides path.now (codes "-")).1 same in let wrong : ⊥ = cc in absurd wrong in
    subst (λ x. IsOutput t (option_copied x)) (sym some) (given o t h e other)
  where
    given : (o : Option (Bor (List ℕ))) (t : Option (List ℕ)) → option_copied o ≡ t → path ≡ unwrap_or o dash → path.now ≢ codes "-"
        → IsOutput t (Some path.now)
    given None t h e other = absurd (other (ap (λ b. b.now) e ∙ d))
    given (Some s) t h e other = (sym h ∙ ap (λ b. Some b.now) (sym e), other)
