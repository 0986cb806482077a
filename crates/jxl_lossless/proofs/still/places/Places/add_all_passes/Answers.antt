use Rattle.std.proofs.Common.{◌<◌, rules}
use Rattle.jxl_modular.specs.GroupParts.{image_of, pass_count, passes_in}
use Rattle.jxl_lossless.specs.Parts.{parts_of_pass, parts_of_passes}
use Rattle.jxl_lossless.specs.Inner.Listing.{AddingFails}
use Rattle.jxl_lossless.proofs.Adding.{added_then, fails_wider, none_added}
use Rattle.jxl_lossless.proofs.Passes.{among_one, one_more}
use Rattle.jxl_lossless.proofs.still.places.Places.add_all_passes.Goals as goal

pub loop-pass-init : goal.loop-pass-init
loop-pass-init g c = none_added c.args.self.now c.args.list.now.items

pub loop-pass-preserved : goal.loop-pass-preserved
loop-pass-preserved g c =
    let x = image_of c.args.groups.now in
    let ps = passes_in c.args.groups.now in
    rw (one_more (parts_of_pass x ps) c.loop-pass.pass)
    (added_then c.args.self.now (parts_of_passes x ps c.loop-pass.pass) (parts_of_pass x ps c.loop-pass.pass) c.args.list.now.items
    c.loop-pass.list.items c.add_pass.new.list.items c.loop-pass.invariant c.in_ok-add_pass.ensures.ok)

pub returns-in_err-add_pass-clause-err : goal.returns-in_err-add_pass-clause-err
returns-in_err-add_pass-clause-err g c =
    let x = image_of c.args.groups.now in
    let ps = passes_in c.args.groups.now in
    let p = c.loop-pass.pass in
    let below : p < pass_count ps = search rules in
    let e = c.in_err-add_pass.field-0.0 in
    let fails : AddingFails c.args.self.now (parts_of_passes x ps (pass_count ps)) e =
    fails_wider c.args.self.now (parts_of_pass x ps p) (parts_of_passes x ps (pass_count ps)) (λ q h. among_one (parts_of_pass x ps) q (pass_count ps) p below h) e c.in_err-add_pass.ensures.err in
    search rules
