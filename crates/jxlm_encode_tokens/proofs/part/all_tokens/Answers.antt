use Rattle.std.proofs.Common.{length, refl, ap, arith}
use Rattle.jxlm_transform.specs.Channels.{infos}
use Rattle.jxlm_samples.specs.Reading.{HasFlats, IsRoomyFor, sampled_width}
use Rattle.jxlm_samples.specs.declared.coding.PartCoding.{PartCoding}
use Rattle.jxlm_samples.proofs.Starting.{narrow_widest}
use Rattle.jxlm_encode_tokens.proofs.Pass.{all_channels, placed_coding, placed_room, placed_walk}
use Rattle.jxlm_encode_tokens.proofs.part.all_tokens.Goals as goal

pub make_ready-requires-clause-widest : goal.make_ready-requires-clause-widest
make_ready-requires-clause-widest g c κs within = narrow_widest (infos c.args.part.now.channels.now) c.requires.lies.narrow

pub push_channels-requires-clause-walked : goal.push_channels-requires-clause-walked
push_channels-requires-clause-walked g c κs within =
    let coding : PartCoding g.row.D.Denot = record {
      channels = c.args.part.now.channels;
      config = c.args.part.now.config;
      flats = c.deref.result;
      weights = c.args.part.now.weights;
      stream_index = c.args.part.now.stream_index;
      widest = c.max_width.result;
    } in
    let flats : HasFlats c.args.part.now.config.now.tree c.args.part.now.stream_index (length c.args.part.now.channels.now) c.deref.result.now = rw c.deref.ensures.value c.in-Ok.ensures.flats in
    placed_walk c.args.part.now c.args.store.now c.requires.lies coding refl refl refl refl c.max_width.ensures flats c.requires.multipliers

pub push_channels-requires-clause-roomy : goal.push_channels-requires-clause-roomy
push_channels-requires-clause-roomy g c κs within =
    let coding : PartCoding g.row.D.Denot = record {
      channels = c.args.part.now.channels;
      config = c.args.part.now.config;
      flats = c.deref.result;
      weights = c.args.part.now.weights;
      stream_index = c.args.part.now.stream_index;
      widest = c.max_width.result;
    } in
    let flats : HasFlats c.args.part.now.config.now.tree c.args.part.now.stream_index (length c.args.part.now.channels.now) c.deref.result.now = rw c.deref.ensures.value c.in-Ok.ensures.flats in
    let room : IsRoomyFor (sampled_width (infos c.args.part.now.channels.now)) (sampled_width (infos c.args.part.now.channels.now)) c.args.part.now.weights c.deref.result.now c.in-Ok.field-0.state = rw c.deref.ensures.value c.in-Ok.ensures.room in
    placed_room c.args.part.now c.args.store.now c.requires.lies coding refl refl refl refl c.max_width.ensures flats c.in-Ok.field-0.state room

pub push_channels-requires-clause-room : goal.push_channels-requires-clause-room
push_channels-requires-clause-room g c κs within =
    let long = c.deref_mut.ensures.len in
    let made = c.in_ok-scratch.ensures.len in
    let wide = c.sampled_width.ensures in
    omega (arith, long, made, wide)

pub push_channels-requires-clause-before : goal.push_channels-requires-clause-before
push_channels-requires-clause-before g c κs within = (ap length c.in_ok-tokens.ensures.items, λ n d less. absurd (omega (arith, less)))

pub returns : goal.returns
returns g c =
    let coding : PartCoding g.row.D.Denot = record {
      channels = c.args.part.now.channels;
      config = c.args.part.now.config;
      flats = c.deref.result;
      weights = c.args.part.now.weights;
      stream_index = c.args.part.now.stream_index;
      widest = c.max_width.result;
    } in
    let flats : HasFlats c.args.part.now.config.now.tree c.args.part.now.stream_index (length c.args.part.now.channels.now) c.deref.result.now = rw c.deref.ensures.value c.in-Ok.ensures.flats in
    all_channels coding g.S.Sealed.width g.S.Sealed.to_int c.args.store.now g.T.TokenForm.form
    (placed_coding c.args.part.now c.args.store.now c.requires.lies coding refl refl refl refl c.max_width.ensures flats) c.push_channels.new.tokens.items c.in_ok-push_channels.ensures
