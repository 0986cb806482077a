use Rattle.jxl_info.proofs.headers.Headers.read.Goals as goal

pub returns-in-Ok-clause-err : goal.returns-in-Ok-clause-err
returns-in-Ok-clause-err g c = record {
  bytes = c.bytes.result.now;
  codestream = rw c.bytes.ensures c.in-Ok.ensures.ok;
  fails = c.in-Err-read_codestream.ensures.err;
}
