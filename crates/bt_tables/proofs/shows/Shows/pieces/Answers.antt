use Rattle.bt_tables.proofs.Spelled.{is_row}
use Rattle.bt_tables.proofs.shows.Shows.pieces.Goals as goal

pub returns : goal.returns
returns c worker lw = (is_row c.self.inside.pieces c.self.inside.stripes _ worker c.self.view_is c.self.invariant.payloads lw).long
