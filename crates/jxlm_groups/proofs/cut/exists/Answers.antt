use Rattle.std.proofs.Common.{◌∙◌, ap, nat_lt, sym}
use Rattle.jxlm_transform.specs.Lists.{list_of}
use Rattle.jxlm_groups.proofs.PieceFacts.{lf_exists, pass_exists}
use Rattle.jxlm_groups.proofs.cut.exists.Goals as goal

pub returns-in-Lf : goal.returns-in-Lf
returns-in-Lf c =
    let l = list_of c.args.channels.now in
    rw c.in-Lf.is (ap (nat_lt c.in-Lf.k) c.group_count.ensures ∙ sym (lf_exists c.args.group_dim c.args.passes.now l c.in-Lf.k))

pub returns-in-Pass : goal.returns-in-Pass
returns-in-Pass c =
    let l = list_of c.args.channels.now in
    rw c.in-Pass.is (ap (nat_lt c.in-Pass.k) c.group_count-in-Pass.ensures ∙ sym (pass_exists c.args.group_dim c.args.passes.now l c.in-Pass.p c.in-Pass.k))
