use Rattle.std.proofs.Common.{◌≡◌, ◌∙◌, ℕ, List, Bool, true, Ok, sym, subst}
use Rattle.std.specs.Prelude.{MatchBool}
use Rattle.std.specs.Option.{option_map}
use Rattle.jxl_container.specs.Files.{HasCodestream}
use Rattle.jxl_container_write.specs.Containers.{HasBoxes, boxes_of}
use Rattle.jxl_container_write.specs.declared.container.Level.{Level}
use Rattle.jxl_encode.proofs.file.encode_with_progress.Goals as goal

pub returns-clause-picture : goal.returns-clause-picture
returns-clause-picture g c =
    c.in_ok-codestream.ensures.coded.file c.in_ok-file.file.items
    (subst (λ (bytes : List ℕ). HasCodestream c.in_ok-file.file.items (Ok bytes)) c.deref.ensures.value c.in_ok-file.ensures.codestream)

first_case : (b : Bool) (P Q : Type 0) → b ≡ true → P → MatchBool b P Q
first_case b P Q is h = subst (λ (v : Bool). MatchBool v P Q) (sym is) h

pub returns-clause-written : goal.returns-clause-written
returns-clause-written g c =
    let boxes = subst (λ (bytes : List ℕ). HasBoxes c.in_ok-file.file.items (boxes_of bytes c.level_of-level.result (option_map (λ s. s.now) c.args.exif) (option_map (λ s. s.now) c.args.xmp))) c.deref.ensures.value
    c.in_ok-file.ensures.boxes in
    let leveled = subst (λ (level : Level). HasBoxes c.in_ok-file.file.items (boxes_of c.in_ok-codestream.codestream.items level (option_map (λ s. s.now) c.args.exif) (option_map (λ s. s.now) c.args.xmp)))
    c.level_of-level.ensures boxes in
    (c.in_ok-codestream.codestream.items, c.in_ok-codestream.ensures.coded, first_case _ _ _ (sym c.is_boxed.ensures ∙ c.if-not-is_boxed.false) leveled)

pub returns-clause-shortest : goal.returns-clause-shortest
returns-clause-shortest g c = (
  c.in_ok-codestream.codestream.items,
  subst (λ (bytes : List ℕ). HasCodestream c.in_ok-file.file.items (Ok bytes)) c.deref.ensures.value c.in_ok-file.ensures.codestream,
  c.in_ok-codestream.ensures.shortest,
)
