use Rattle.std.proofs.Common.{◌≡◌, ◌∙◌, ap, sym, refl, subst, ℕ, List, map, Bool, true, false, is_some, ◌||◌, Option, Some, None, Result, Bor, option_map}
use Rattle.std.specs.Prelude.{◌↔◌, IsTrue, MatchOption, codes, option_and_then}
use Rattle.std.specs.Char.{to_ascii_lowercase}
use Rattle.std.specs.Option.{option_copied, option_or}
use Rattle.std.specs.Path.{path_extension}
use Rattle.std.specs.Str.Parse.{ExplainsUnsignedError, HasUnsignedDigitsIfOk, ParsesUnsigned}
use Rattle.std.specs.declared.num.ParseIntError.{ParseIntError}
use Rattle.clap.specs.Matches.{ReadsOne}
use Rattle.jxldec_lines.specs.declared.format.OutputFormat.{OutputFormat}
use Rattle.jxldec_options.specs.Asked.{IsApng, IsFormat, IsNumber}
use Rattle.jxldec_options.specs.Options.{IsNoFormat, IsWordOf}

-- the text of one of two
pub or_text : (o p r : Option (Bor (List ℕ))) (t u : Option (List ℕ)) → option_map (λ s. s.now) o ≡ t → option_map (λ s. s.now) p ≡ u
    → r ≡ option_or o p → option_map (λ s. s.now) r ≡ option_or t u
or_text None p r t u h g e = ap (option_map (λ s. s.now)) e ∙ g ∙ ap (λ x. option_or x u) h
or_text (Some s) p r t u h g e = ap (option_map (λ s. s.now)) e ∙ ap (λ x. option_or x u) h

-- what `get_one` reads is the number that the text is
pub number_read : (bits : ℕ) (given : Option (List ℕ)) (r : Option ℕ) → (given ≡ None → r ≡ None)
    → ((t : List ℕ) → given ≡ Some t
    → ReadsOne (λ bs (x : Result ℕ ParseIntError). ParsesUnsigned bits 10 bs x × ExplainsUnsignedError 10 bs x × HasUnsignedDigitsIfOk bs x) t r)
    → IsNumber bits given r
number_read bits None r none value = none refl
number_read bits (Some t) (Some n) none value = let p = value t refl in (p.0.0, sym p.0.1)
number_read bits (Some t) None none value = let e = value t refl in e.1.0

-- the ending of a path, if there is one
pub ending_text : (o r : Option (Bor (List ℕ))) (t : Option (List ℕ)) → option_copied o ≡ t
    → MatchOption o (r ≡ None) (λ x. option_copied r ≡ path_extension x.now) → option_copied r ≡ option_and_then path_extension t
ending_text None r t h m = ap option_copied m ∙ ap (option_and_then path_extension) h
ending_text (Some s) r t h m = m ∙ ap (option_and_then path_extension) h

-- the word is `apng`, if there is one and it is
pub apng_read : (o : Option (Bor (List ℕ))) (t : Option (List ℕ)) (b : Bool) → option_copied o ≡ t
    → MatchOption o (b ≡ false) (λ x. IsTrue b ↔ (map to_ascii_lowercase x.now ≡ codes "apng")) → IsApng t b
apng_read None t b h m = subst (λ x. IsApng x b) h m
apng_read (Some s) t b h m = subst (λ x. IsApng x b) h m

-- the format that a word names, if there is one
pub format_read : (o : Option (Bor (List ℕ))) (t : Option (List ℕ)) (f : Option OutputFormat) → option_copied o ≡ t
    → MatchOption o (f ≡ None) (λ x. MatchOption f (IsNoFormat x.now) (IsWordOf x.now)) → IsFormat t f
format_read None t f h m = subst (λ x. IsFormat x f) h m
format_read (Some s) t f h m = subst (λ x. IsFormat x f) h m

-- one of three
pub same_or : {a b c x y z : Bool} → a ≡ x → b ≡ y → c ≡ z → (a || b || c) ≡ (x || y || z)
same_or {a} {b} {c} {x} {y} {z} h g e = ap (λ t. t || b || c) h ∙ ap (λ t. x || t || c) g ∙ ap (λ t. x || y || t) e
