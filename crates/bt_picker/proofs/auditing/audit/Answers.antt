use Rattle.bt_picker.proofs.Placing.{places_fresh}
use Rattle.bt_picker.proofs.auditing.audit.Goals as goal

pub judge-requires-clause-places : goal.judge-requires-clause-places
judge-requires-clause-places c = rw (c.in_ok-places.ensures, c.torrent.ensures) (places_fresh c.in_ok-tables.tables.setting)
