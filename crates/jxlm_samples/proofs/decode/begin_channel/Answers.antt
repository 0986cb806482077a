use Rattle.std.proofs.Common.{◌≡◌, ◌≤◌, [], true, false, sym, subst, ◌∙◌}
use Rattle.jxlm_bits.specs.Decoding.{Meaning}
use Rattle.jxlm_tree.specs.FlatTree.{FlatTree}
use Rattle.jxlm_tree.specs.Paths.{Gives, IsNamed, steps_on}
use Rattle.jxlm_tree.specs.Steps.{most_steps}
use Rattle.jxlm_tree.specs.declared.paths.Path.{Path}
use Rattle.jxlm_tree.specs.declared.paths.Path.TheVariants as path
use Rattle.jxlm_samples.specs.Inner.Paths.{Allows}
use Rattle.jxlm_samples.specs.Reading.{tree_of}
use Rattle.jxlm_samples.proofs.CellLaws.{alone_is, clusters_at, flat_at}
use Rattle.jxlm_samples.proofs.Starting.{lone_at, not_walked}
use Rattle.jxlm_samples.proofs.decode.begin_channel.Goals as goal

-- what a path is named by says what it says of its leaves
allowed : {D : Type 0} (m : Meaning D) (decoder : D) (p : Path) → IsNamed m decoder p → Allows p
allowed m decoder (path.Constant l) named = named.0
allowed m decoder (path.Zero l) named = named.0
allowed m decoder (path.Gradient l) named = named.0
allowed m decoder (path.Runs l) named = named.0
allowed m decoder (path.Clusters t) named = tt
allowed m decoder (path.GradientClusters t) named = named
allowed m decoder path.Tree named = tt

pub returns-in-Some : goal.returns-in-Some
returns-in-Some g c =
    let lone = lone_at c.args.coding.now c.requires.next.coding c.args.i c.requires.next.channel c.index-coding-i.result c.in-Some.alone c.in-Some.is in
    let path = c.lone_path.ensures (tree_of c.args.coding.now c.args.i) lone in
    record {
      gives = path.gives;
      allows = path.allows;
      steps = path.steps;
      roomy = c.requires.next.roomy;
      within = λ walked. absurd (not_walked c.args.coding.now c.requires.next.coding c.args.i c.requires.next.channel c.index-coding-i.result c.in-Some.alone c.in-Some.is walked);
      stands = λ walked. let no : true ≡ false = sym walked ∙ path.alone in absurd (cc);
    }

pub start_channel-requires-clause-walked : goal.start_channel-requires-clause-walked
start_channel-requires-clause-walked g c κs within = alone_is c.args.coding.now c.requires.next.coding c.args.i c.requires.next.channel c.index-coding-i.result ∙ c.in_default.is

pub path_of-requires : goal.path_of-requires
path_of-requires g c = record { clusters = clusters_at c.args.coding.now c.requires.next.coding c.args.i c.requires.next.channel c.index-coding-i-2.result _ c.requires.clusters }

pub returns : goal.returns
returns g c =
    let same = flat_at c.args.coding.now c.requires.next.coding c.args.i c.requires.next.channel _ in
    record {
      gives = subst (λ t. Gives t c.path_of.result) same c.path_of.ensures.gives;
      allows = allowed g.D.Decoder.meaning c.args.decoder.now c.path_of.result c.path_of.ensures.named;
      steps = subst (λ (t : FlatTree). steps_on c.path_of.result t.tree ≤ most_steps t.tree) same c.path_of.ensures.steps;
      roomy = c.start_channel.ensures.roomy;
      within = λ walked. record { before = _; stands = c.start_channel.ensures.stands [] };
      stands = λ walked store. c.start_channel.ensures.stands store;
    }
