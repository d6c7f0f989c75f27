use Rattle.std.proofs.Common.{◌<◌, arith}
use Rattle.bt_meta.proofs.Written.{partly_more, stays_sound, not_refused}
use Rattle.bt_meta.proofs.devices.write_all.Goals as goal

pub loop-rest-preserved : goal.loop-rest-preserved
loop-rest-preserved g c =
    let some : 0 < c.in_ok-count.count = omega arith in
    record {
      partly = rw c.split_at.ensures.back (partly_more _ _ _ _ _ c.in_ok-count.count c.loop-rest.invariant.partly c.in_ok-count.ensures.bytes);
      sound = stays_sound _ _ _ _ c.in_ok-count.ensures.failed
          (not_refused c.in_ok-count.count c.loop-rest.rest.now some) c.loop-rest.invariant.sound;
    }
