use Rattle.std.proofs.Common.{◌≡◌, ◌+◌, ◌*◌, ◌≤◌}
use Rattle.bt_peer.specs.Conduct.{Conducts, answers_of}
use Rattle.bt_peer.specs.Reader.{most_reads, room_len}
use Rattle.bt_peer.specs.Sessions.{to_hear, Running}
use Rattle.bt_peer.specs.Steps.{surroundings}
use Rattle.bt_peer.specs.SessionTerms.{terms_of}
use Rattle.bt_peer.proofs.whole.gated.Given as goal

abbrev pub invariant-turns : goal.invariant-turns
invariant-turns g l = record {
  running : Running (terms_of l.fn.torrent.value l.fn.depth) l.fn.worker
      (surroundings g.P.Place.past g.R.Source.left g.W.Sink.written l.fn.place l.fn.reader l.fn.writer) l.session
      (surroundings g.P.Place.past g.R.Source.left g.W.Sink.written l.place l.reader l.writer);
  counted : g.R.Source.reads l.fn.reader ≡ 0 → g.R.Source.reads l.reader ≡ l.session.reads;
  failed : g.R.Source.failed l.reader ≡ g.R.Source.failed l.fn.reader;
  writer_failed : g.W.Sink.failed l.writer ≡ g.W.Sink.failed l.fn.writer;
  conduct : Conducts g.P.Place.settles (answers_of l.fn.rng) (g.P.Place.past l.fn.place).calls (g.P.Place.past l.place).calls (answers_of l.rng);
  -- each turn that goes on uses up some of what there may be to hear
  turns : l.turn + to_hear l.session ≤ room_len * most_reads;
}

abbrev pub decreases-turns : goal.decreases-turns
decreases-turns g l = to_hear l.session
