use Rattle.std.proofs.Common.{◌≡◌, ◌+◌, ◌-◌, rules, tests, ◌∙◌, ap, arith, refl, ◌∷◌, ◌++◌, take, drop}
use Rattle.std.specs.Prelude.{nat_lt, if◌then◌else◌}
use Rattle.jxlm_transform.specs.Channels.{regions}
use Rattle.jxlm_transform.proofs.Ends.{first_ends}
use Rattle.jxlm_transform.proofs.PlacedLists.{palette_after, table_first}
use Rattle.jxlm_transform.proofs.transform.Palette.transform_channel_info.Goals as goal
use Rattle.jxlm_transform.proofs.transform.Palette.transform_channel_info.Goals.{then-begin-nb_meta, else-begin-nb_meta}

pub invariant_of-channels-2 : goal.invariant_of-channels-2
invariant_of-channels-2 c =
    let t = c.args.self.now in
    let l = c.args.channels.now in
    record {
      ends = first_ends t.begin_c t.num_c t.nb_colours t.num_c l.buffers (regions l.placed.items) (regions c.put_table.new.list.items) l.ends (omega arith) (omega arith)
          (table_first (λ p. p.region) t c.table-table.result l.placed.items c.put_table.new.list.items c.in_ok-put_table.ensures.gives ∙ ap (λ r. r ∷ (take (t.begin_c + 1) (regions l.placed.items) ++ drop (t.begin_c + t.num_c) (regions l.placed.items))) c.table-table.ensures.region);
    }

pub returns-clause-ok : goal.returns-clause-ok
returns-clause-ok c =
    let t = c.args.self.now in
    let l = c.args.channels.now in
    let nb_meta : c.if-begin-nb_meta.channels ≡ (if nat_lt t.begin_c l.nb_meta_channels then l.nb_meta_channels + 2 - t.num_c else l.nb_meta_channels + 1) =
    elim c.if-begin-nb_meta.branch [ then-begin-nb_meta w ↦ search (rules, tests) | else-begin-nb_meta w ↦ search (rules, tests) ] in
    palette_after t l _ c.table-table.result c.requires.suits c.requires.some_channels c.table-table.ensures.info c.table-table.ensures.region c.in_ok-put_table.ensures.gives nb_meta refl
