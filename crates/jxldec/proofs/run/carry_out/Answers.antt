use Rattle.std.proofs.Common.{rules}
use Rattle.std.proofs.lemmas.Result.{err_from_is_err_and}
use Rattle.jxldec.proofs.Saving.{asked_fails, reading_fails, saving_fails, whole_begins}
use Rattle.jxldec.proofs.run.carry_out.Goals as goal

pub returns-clause-saved : goal.returns-clause-saved
returns-clause-saved g c = record {
  file = c.deref.result.now;
  read = search rules;
  ended = search rules;
  is = (
    record { found = _; looked = c.in_ok-made.ensures.metadata.0; kept = c.in_ok-save_all.ensures.profile },
    record { found = _; looked = c.in_ok-made.ensures.metadata.1; kept = c.in_ok-save_all.ensures.exif },
    record { found = _; looked = c.in_ok-made.ensures.metadata.2; kept = c.in_ok-save_all.ensures.xmp },
  );
}

pub returns-in_err-save_all-clause-failed : goal.returns-in_err-save_all-clause-failed
returns-in_err-save_all-clause-failed g c =
    let p = err_from_is_err_and c.from_residual-in_err-save_all.result c.from_residual-in_err-save_all.ensures.1 in
    rw (p.1, p.2) (saving_fails _ _ _ _ _ _ _ _ _ _ c.in_err-save_all.ensures.err (record {
      file = c.deref.result.now;
      read = search rules;
      ended = search rules;
      is = record {
        text = _;
        others = _;
        loss = _;
        frames = _;
        is = c.in_ok-made.ensures.ok;
        begun = whole_begins _ _ _ c.in_ok-pass_on.ensures.ok;
      };
    }))

pub returns-in_err-made-clause-failed : goal.returns-in_err-made-clause-failed
returns-in_err-made-clause-failed g c =
    let p = err_from_is_err_and c.from_residual-in_err-made.result c.from_residual-in_err-made.ensures.1 in
    rw (p.1, p.2) (asked_fails _ _ _ _ _ _ _ _ _ _ (record {
      file = c.deref.result.now;
      read = search rules;
      ended = search rules;
      is = c.in_err-made.ensures.err;
    }))

pub returns-in_err-file-clause-failed : goal.returns-in_err-file-clause-failed
returns-in_err-file-clause-failed g c =
    let p = err_from_is_err_and c.from_residual.result c.from_residual.ensures.1 in
    rw (p.1, p.2) (reading_fails _ _ _ _ _ _ _ _ _ _ c.in_err-file.ensures.err)
