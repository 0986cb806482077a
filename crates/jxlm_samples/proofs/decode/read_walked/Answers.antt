use Rattle.std.proofs.Common.{◌≡◌, Some, Ok, Err, ◌∙◌, subst, sym}
use Rattle.std.specs.Prelude.{IfSome, None, OnOk, Result}
use Rattle.jxlm_samples.specs.Inner.LeafRows.{IsLeafAlone}
use Rattle.jxlm_samples.specs.Reading.{tree_of}
use Rattle.jxlm_samples.proofs.decode.read_walked.Goals as goal

on_ok : {A E : Type 0} (r : Result A E) (P : Type 0) → P → OnOk r P
on_ok (Ok a) P p = p
on_ok (Err e) P p = tt

pub read_leaf-requires-clause-leads : goal.read_leaf-requires-clause-leads
read_leaf-requires-clause-leads g c κs within = subst (λ o. IfSome o (IsLeafAlone (tree_of c.args.line.now.coding.now c.args.line.now.i))) c.in-Some.is c.requires.at.leads

pub returns-in-Some-clause-state : goal.returns-in-Some-clause-state
returns-in-Some-clause-state g c =
    on_ok c.read_leaf.result _ (record {
      within = c.requires.at.within;
      stands = λ walked none. let no : Some c.in-Some.leaf ≡ None = sym c.in-Some.is ∙ none in absurd (cc);
      roomy = c.requires.at.ready.roomy;
    })
