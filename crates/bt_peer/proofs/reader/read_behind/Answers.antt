use Rattle.std.proofs.Common.{arith, ap, length, take, ◌≡◌, ◌∙◌}
use Rattle.std.proofs.lemmas.Grind.{common_steps}
use Rattle.bt_peer.proofs.Reading.{cut_back, room_behind}
use Rattle.bt_peer.proofs.reader.read_behind.Goals as goal

pub returns-in-Ok-clause-bytes : goal.returns-in-Ok-clause-bytes
returns-in-Ok-clause-bytes g c =
    let room : length c.read.new.room ≡ c.args.room =
    c.read.auto.room ∙ room_behind c.as_mut_slice.result.now c.len-len.result
    ∙ omega (arith, ap length c.as_mut_slice.ensures.value, c.advance_mut.ensures.len, c.len-len.ensures.value) in
    record {
      read = take c.in-Ok.count c.read.new.room;
      consumed = c.in-Ok.ensures.bytes.0;
      behind = c.truncate.ensures.items
          ∙ cut_back c.advance_mut.new.self.items c.as_mut_slice.result.now _ c.read.new.room _ _ c.len-len.result c.in-Ok.count
          c.as_mut_slice.ensures.value c.advance_mut.ensures.front c.len-len.ensures.value
          (c.in-Ok.ensures.bound.0) (omega (arith, room, c.in-Ok.ensures.bound.0));
      count = (grind (arith, common_steps), omega (arith, room, c.in-Ok.ensures.bound.0, c.requires));
      at_end = grind (arith, common_steps);
    }
