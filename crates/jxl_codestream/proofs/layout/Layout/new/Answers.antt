use Rattle.std.proofs.Common.{◌≡◌, ◌*◌, ◌≤◌, rules, sym, ◌∙◌, arith}
use Rattle.std.proofs.lemmas.Bool.{leb-true}
use Rattle.jxl_codestream.specs.Layouts.{groups_of, section_count_of, max_sections}
use Rattle.jxl_codestream.proofs.Groups.{lf_most, few}
use Rattle.jxl_codestream.proofs.layout.Layout.new.Goals as goal

pub is_few-requires-clause-lf : goal.is_few-requires-clause-lf
is_few-requires-clause-lf c =
    let d1 : c.from.result ≡ c.args.group_dim = search rules in
    let d2 : c.from-2.result ≡ c.args.group_dim = search rules in
    let g : c.groups_of-groups.result ≡ groups_of c.args.size c.args.group_dim = rw d1 at c.groups_of-groups.ensures in
    let l : c.groups_of-lf_groups.result ≡ groups_of c.args.size (8 * c.args.group_dim) = rw d2 at c.groups_of-lf_groups.ensures in
    rw (g, l) (lf_most c.args.size c.args.group_dim c.requires.dim)

pub overflow_cast-result-then-is_few : goal.overflow_cast-result-then-is_few
overflow_cast-result-then-is_few c =
    let d1 : c.from.result ≡ c.args.group_dim = search rules in
    let d2 : c.from-2.result ≡ c.args.group_dim = search rules in
    let g : c.groups_of-groups.result ≡ groups_of c.args.size c.args.group_dim = rw d1 at c.groups_of-groups.ensures in
    let l : c.groups_of-lf_groups.result ≡ groups_of c.args.size (8 * c.args.group_dim) = rw d2 at c.groups_of-lf_groups.ensures in
    let lf : c.groups_of-lf_groups.result ≤ c.groups_of-groups.result = rw (g, l) (lf_most c.args.size c.args.group_dim c.requires.dim) in
    let sections : section_count_of (record { groups = c.groups_of-groups.result; lf_groups = c.groups_of-lf_groups.result; passes = c.args.passes }) ≤ max_sections =
    leb-true _ _ (sym c.is_few.ensures ∙ c.if-is_few.true) in
    let most = few (record { groups = c.groups_of-groups.result; lf_groups = c.groups_of-lf_groups.result; passes = c.args.passes }) c.requires.passes sections in
    omega (arith, lf, most)

pub invariant_of-result : goal.invariant_of-result
invariant_of-result c =
    let d1 : c.from.result ≡ c.args.group_dim = search rules in
    let d2 : c.from-2.result ≡ c.args.group_dim = search rules in
    let g : c.groups_of-groups.result ≡ groups_of c.args.size c.args.group_dim = rw d1 at c.groups_of-groups.ensures in
    let l : c.groups_of-lf_groups.result ≡ groups_of c.args.size (8 * c.args.group_dim) = rw d2 at c.groups_of-lf_groups.ensures in
    record {
      bounded = record {
        passes = c.requires.passes;
        lf = rw (g, l) (lf_most c.args.size c.args.group_dim c.requires.dim);
        sections = leb-true _ _ (sym c.is_few.ensures ∙ c.if-is_few.true);
      };
    }
