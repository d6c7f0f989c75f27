use Rattle.std.proofs.Common.{◌≡◌, ◌+◌, ◌*◌, ◌-◌, ◌≤◌, length}
use Rattle.bt_peer.specs.Reader.{most_reads, room_len}
use Rattle.bt_peer.proofs.Heard.{BytesRead}
use Rattle.bt_peer.proofs.reader.Heard.next.Given as goal

abbrev pub invariant-reads : goal.invariant-reads
invariant-reads g l = record {
  reading : BytesRead (g.R.Source.left l.fn.reader) (g.R.Source.left l.reader) l.fn.self.inbound l.self.inbound;
  few : length l.self.inbound.bytes + room_len * l.fn.self.reads ≤ length l.fn.self.inbound.bytes + room_len * l.self.reads;
  sound : g.R.Source.failed l.reader ≡ g.R.Source.failed l.fn.reader;
  counted : g.R.Source.reads l.fn.reader ≡ l.fn.self.reads → g.R.Source.reads l.reader ≡ l.self.reads;
}

abbrev pub decreases-reads : goal.decreases-reads
decreases-reads g l = most_reads - l.self.reads
